-- NO DEAD END: where f+1 sites run, no view number is near the last and logs have room, the sites can go on, without a
-- crash, until all work in one view with one log.
use Rattle.std.specs.Prelude.{◌≡◌, ℕ, ◌+◌, ◌*◌, ◌<◌, ◌≤◌, Bool, true, false, List, [], ◌∷◌, ◌++◌, length, slice_get, All, Contains, Some, count_by, IsSomeAnd, ⊤}
use Rattle.std.specs.Option.{option_map_or}
use Rattle.vr_types.specs.declared.event.EventOf.{EventOf}
use Rattle.vr_types.specs.declared.event.EventOf.TheVariants.{Deliver, Timer, Beat, Crash, Restart}
use Rattle.vr_types.specs.declared.event.Status.TheVariants.{Normal, Down}
use Rattle.vr_types.specs.declared.limits.TheConstants.{MAX_ROWS}
use Rattle.vr_types.specs.declared.row.RowOf.{RowOf}
use Rattle.vr_types.specs.Actors.{is_client}
use Rattle.vr_types.specs.Cell.{max_number}
use Rattle.vr_types.specs.Choice.{Choice}
use Rattle.vr_types.specs.Group.{sites, primary, actor_of}
use Rattle.vr_types.specs.Messages.{is_request}
use Rattle.vr_types.specs.Rows.{newest}
use Rattle.vr_types.specs.Site.{Site, is_running, executed_rows}
use Rattle.agreement.specs.Promises.{row_at, request_of, Begins}
use Rattle.agreement.specs.Worlds.{World, Happening, Ends, step_of, IsRun, IsLegal, LegalList}

-- it is no crash and no REQUEST: another message between sites that was sent, a timer, a beat, or a restart
abbrev pub IsGentle : {C R O : Type 0} → EventOf C R O → Type 0
IsGentle (Deliver envelope) = is_request envelope.msg ≡ false
IsGentle Timer = ⊤
IsGentle Beat = ⊤
IsGentle Crash = ⊥
IsGentle Restart = ⊤

-- such an event, which does not end in a fall
abbrev pub IsGentleTurn : {C R O : Type 0} → Happening C R O → Type 0
IsGentleTurn h = IsGentle h.event × (h.course ≡ Ends)

-- such events alone lead from the first world to the second
pub record GoesTo {C R O : Type 0} (choose : Choice C) (f : ℕ)
    (world after : World C R O) : Type 0 where
  pub events : List (Happening C R O)
  pub run : IsRun choose f world events after
  pub gentle : All IsGentleTurn events

-- site i of these runs: it is normal, or in a view change
abbrev pub runs_at : {C : Type 0} → List (Site C) → ℕ → Bool
runs_at all i = option_map_or (λ x. is_running x.status) (slice_get all i) false

-- f+1 of the 2f+1 sites run
abbrev pub MostRun : {C : Type 0} → ℕ → List (Site C) → Type 0
MostRun f all = f < count_by (runs_at all) (sites f)

-- each site that ran still runs
abbrev pub RunOn : {C : Type 0} → List (Site C) → List (Site C) → Type 0
RunOn before after = (i : ℕ) → runs_at before i ≡ true → runs_at after i ≡ true

-- f+1 sites run, and no site's view is near its end
pub record CanGoOn {C : Type 0} (f : ℕ) (all : List (Site C)) : Type 0 where
  pub many : MostRun f all
  pub room : (x : Site C) → Contains all x → x.view + 2 * (2 * f + 1) ≤ max_number

-- a site works in this view with this log, and has executed all of it
pub record WorksIn {C : Type 0} (view : ℕ) (log : List (RowOf C)) (x : Site C) : Type 0 where
  pub status : x.status ≡ Normal
  pub view_is : x.view ≡ view
  pub log_is : x.log ≡ log
  pub done : x.done ≡ length log

-- f+1 sites run, and all that run work in this view with this log, its primary among them
pub record AreWorking {C : Type 0} (f view : ℕ) (log : List (RowOf C))
    (all : List (Site C)) : Type 0 where
  pub many : MostRun f all
  pub leads : runs_at all (primary f view) ≡ true
  pub each : (x : Site C) → Contains all x → is_running x.status ≡ true → WorksIn view log x

-- it is not down for good: if it is down, its cell can still count a restart
abbrev pub CanRun : {C : Type 0} → Site C → Type 0
CanRun x = x.status ≡ Down → x.cell.boots < max_number

-- all sites that are not down for good come to work, in a view that is at most 2f+1 above the greatest
pub record ComeToWork {C : Type 0} (f view : ℕ) (log : List (RowOf C))
    (before after : List (Site C)) : Type 0 where
  pub working : AreWorking f view log after
  pub each : (i : ℕ) (x : Site C) → slice_get before i ≡ Some x → CanRun x
      → IsSomeAnd (slice_get after i) (WorksIn view log)
  pub near : (top : ℕ) → ((x : Site C) → Contains before x → x.view ≤ top)
      → view ≤ top + (2 * f + 1)

-- one of the sites had this log
abbrev pub HadLog : {C : Type 0} → List (RowOf C) → List (Site C) → Type 0
HadLog {C} log all = (x : Site C) × Contains all x × (x.log ≡ log)

-- a moment of a legal list: some of its first events lead to this world, and from there the others go on
pub record MomentOf {C R O : Type 0} {f : ℕ} (list : LegalList C R O f) : Type 0 where
  pub before : List (Happening C R O)
  pub after : List (Happening C R O)
  pub parts : before ++ after ≡ list.events
  pub then : World C R O
  pub legal : IsLegal list.choose f list.cells before then
  pub rest : IsRun list.choose f then after list.world

-- the log begins with what any site had executed at any moment of the list
abbrev pub KeepsExecuted : {C R O : Type 0} {f : ℕ}
    → LegalList C R O f → List (RowOf C) → Type 0
KeepsExecuted {C} list log =
    (moment : MomentOf list) (x : Site C) → Contains moment.then.sites x
    → Begins (executed_rows x) log

-- PROGRESS: the list can go on to a world in which all work in one view, with a log that one of them had, which begins
-- with all that was ever executed
pub record Progresses {C R O : Type 0} {f : ℕ} (list : LegalList C R O f) : Type 0 where
  pub after : World C R O
  pub goes : GoesTo list.choose f list.world after
  pub view : ℕ
  pub log : List (RowOf C)
  pub work : ComeToWork f view log list.world.sites after.sites
  pub had : HadLog log list.world.sites
  pub kept : KeepsExecuted list log

-- a REQUEST for this row comes to the primary of this view
abbrev pub IsAsked : {C R O : Type 0}
    → Choice C → ℕ → World C R O → ℕ → RowOf C → World C R O → Type 0
IsAsked choose f world view row asked =
    let first = primary f view in
    IsRun choose f world (step_of first (Deliver (request_of (actor_of first) row)) ∷ []) asked

-- A REQUEST that reaches the primary while the sites work so is executed by all that work, and answered.
pub record Serves {C R O : Type 0} (choose : Choice C) (f : ℕ) (world : World C R O)
    (view : ℕ) (log : List (RowOf C)) (row : RowOf C) : Type 0 where
  pub asked : World C R O
  pub asks : IsAsked choose f world view row asked
  pub served : World C R O
  pub goes : GoesTo choose f asked served
  pub sender : Site C
  pub answered : Contains served.replies
      (record { from = primary f view; sender = sender; place = length log + 1 })
  pub with_row : sender.log ≡ log ++ row ∷ []
  pub executed : sender.done ≡ length sender.log
  pub working : AreWorking f view (log ++ row ∷ []) served.sites
  pub runs : RunOn world.sites served.sites

-- it is a client's, its number is above the client's newest, and the log has room
pub record IsNew {C : Type 0} (log : List (RowOf C)) (row : RowOf C) : Type 0 where
  pub client : is_client row.client ≡ true
  pub above : newest log row.client < row.number
  pub room : length log < MAX_ROWS

-- A REQUEST of a number that is its client's newest in the log is answered again, for the row that has it.
pub record Repeats {C R O : Type 0} (choose : Choice C) (f : ℕ) (world : World C R O)
    (view : ℕ) (log : List (RowOf C)) (row : RowOf C) : Type 0 where
  pub asked : World C R O
  pub asks : IsAsked choose f world view row asked
  pub place : ℕ
  pub counted : 1 ≤ place
  pub old : RowOf C
  pub is_there : row_at log place ≡ Some old
  pub client : old.client ≡ row.client
  pub number : old.number ≡ row.number
  pub sender : Site C
  pub answered : Contains asked.replies
      (record { from = primary f view; sender = sender; place = place })
  pub log_is : sender.log ≡ log
  pub working : AreWorking f view log asked.sites
  pub runs : RunOn world.sites asked.sites

-- it is a client's, and its number is the client's newest
pub record IsNewest {C : Type 0} (log : List (RowOf C)) (row : RowOf C) : Type 0 where
  pub client : is_client row.client ≡ true
  pub some : 0 < row.number
  pub same : newest log row.client ≡ row.number
