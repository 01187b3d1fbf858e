-- What a world does with a step.
use Rattle.std.specs.Prelude.{◌≡◌, ◌≢◌, ℕ, ◌+◌, ◌==◌, Bool, true, false, nat_lt, if◌then◌else◌, List, [], ◌∷◌, ◌++◌, length, map, slice_get, slice_set, Option, Some, None, Result, Err, MatchResult}
use Rattle.pvp_types.specs.declared.setup.Setup.{Setup}
use Rattle.pvp_types.specs.declared.command.Cmd.{Cmd}
use Rattle.pvp_types.specs.declared.command.Reply.{Reply as Answer}
use Rattle.pvp_types.specs.declared.command.PayOrder.{PayOrder as PaymentOrder}
use Rattle.pvp_types.specs.declared.step.Step.{Step}
use Rattle.pvp_types.specs.declared.step.Step.TheVariants.{Crash}
use Rattle.pvp_types.specs.Setup.{faults}
use Rattle.vr_types.specs.declared.cell.Boot.{Boot}
use Rattle.vr_types.specs.declared.cell.BootCell.{Ghosts as Cell}
use Rattle.vr_types.specs.declared.event.EventOf.{EventOf}
use Rattle.vr_types.specs.declared.event.EventOf.TheVariants.{Beat}
use Rattle.vr_types.specs.declared.event.SiteFault.{SiteFault}
use Rattle.vr_types.specs.declared.event.SiteFault.TheVariants as site_fault
use Rattle.vr_types.specs.declared.event.Why.{Why}
use Rattle.vr_types.specs.Cell.{HasRisen}
use Rattle.vr_types.specs.Choice.{Choice}
use Rattle.vr_types.specs.Handling.{refusal, site_step, dropped_as}
use Rattle.vr_types.specs.Step.{Ending, Handled}
use Rattle.vr_site.specs.Replica.{ShownSite, site_shown}
use Rattle.rtgs_node.specs.Node.{Envelope}
use Rattle.rtgs_node.specs.declared.event.NodeEvent.TheVariants as node_event
use Rattle.rtgs_node.specs.declared.fault.NodeFault.{NodeFault}
use Rattle.rtgs_node.specs.Shown as node
use Rattle.rtgs_node.specs.Shown.{ShownNode}
use Rattle.headline.specs.declared.step.ClientEvent.TheVariants as client_event
use Rattle.headline.specs.declared.step.ClientFault.{ClientFault}
use Rattle.headline.specs.declared.step.ClientFault.TheVariants as client_fault
use Rattle.headline.specs.declared.step.Move.{Move}
use Rattle.headline.specs.declared.step.Move.TheVariants.{Takes, Falls}
use Rattle.headline.specs.declared.step.Turn.{Turn}
use Rattle.headline.specs.declared.step.Turn.TheVariants.{OfSite, OfNode, OfClient}
use Rattle.headline.specs.Bank.{Bank, turn_of, turn}
use Rattle.headline.specs.Legal.{Acts, FallsBy, Steps, Fails, Leads, LegalList}
use Rattle.pvp_world.specs.Client as client
use Rattle.pvp_world.specs.Client.{ShownClient}
use Rattle.pvp_world.specs.World.{ShownWorld, ShowsBank}
use Rattle.pvp_world.specs.declared.fault.WorldFault.{WorldFault}
use Rattle.pvp_world.specs.declared.fault.WorldFault.TheVariants.{NoSuchEnvelope, NoSuchActor, Outstanding, Site as OfSiteFault, Node as OfNodeFault, Spent, NoMemory}
use Rattle.pvp_world.specs.declared.report.Report.{Report}

-- THE REPORT

-- what was put on a post, and why an event was dropped
pub record IsReport (post posted : List Envelope) (why : Option Why) (report : Report) : Type 0 where
  pub count : length posted ≡ length post + report.count
  pub first : report.first ≡ (if report.count == 0 then 0 else length post + 1)
  pub dropped : report.dropped ≡ why

-- why an actor's event was dropped: only sites drop events
abbrev pub dropped_in : (setup : Setup) (choose : Choice Cmd) (f : ℕ) (bank : Bank) (t : Turn) (after : Bank)
    → Acts setup choose f bank t after → Option Why
dropped_in setup choose f bank (OfSite i event) after acts =
    dropped_as (site_step {R = Answer} {O = PaymentOrder} choose f i acts.before event).ending
dropped_in setup choose f bank (OfNode c event) after acts = None
dropped_in setup choose f bank (OfClient k event) after acts = None

-- A MOVE: by a legal list of what is shown before, it leads to what is shown after, and it is added at the trail's end
pub record Moves {B : Type 0} (held : B → Boot) (old new : ShownWorld B) (move : Move) : Type 0 where
  pub list : LegalList old.setup (faults old.setup)
  pub cells : list.cells ≡ old.opening
  pub moves : list.moves ≡ old.trail
  pub shows : ShowsBank held old list.bank
  pub after : Bank
  pub leads : Leads old.setup list.choose (faults old.setup) list.bank move after
  pub shows_after : ShowsBank held new after
  pub setup : new.setup ≡ old.setup
  pub opening : new.opening ≡ old.opening
  pub trail : new.trail ≡ old.trail ++ move ∷ []

-- A STEP THAT WAS TAKEN, and its report
pub record IsTaken {B : Type 0} (held : B → Boot) (old new : ShownWorld B) (step : Step) (report : Report)
    : Type 0 where
  pub moves : Moves held old new (Takes step)
  pub told : let by : Steps old.setup moves.list.choose (faults old.setup) moves.list.bank step moves.after =
      moves.leads in
      IsReport old.post new.post (dropped_in old.setup moves.list.choose
      (faults old.setup) moves.list.bank by.turn_is moves.after by.acts) report

-- A STEP THAT WAS NOT TAKEN

-- the actor of a turn is there
abbrev pub has_actor : {B : Type 0} → ShownWorld B → Turn → Bool
has_actor world (OfSite i event) = nat_lt i (length world.sites)
has_actor world (OfNode c event) = nat_lt c (length world.nodes)
has_actor world (OfClient k event) = nat_lt k (length world.clients)

-- the actor of a number is there, to take a beat
abbrev pub has_number : {B : Type 0} → ShownWorld B → ℕ → Bool
has_number world actor = has_actor world (turn_of actor Beat node_event.Beats client_event.Beats)

-- the step is for some actor, which is there or not
pub record IsTurn {B : Type 0} (world : ShownWorld B) (step : Step) (is_there : Bool) : Type 0 where
  pub turn_is : Turn
  pub has_turn : turn world.post step ≡ Some turn_is
  pub there : has_actor world turn_is ≡ is_there

-- a site, a node, a client refuses its turn for this reason
abbrev pub SiteRefuses : {B : Type 0} → (B → Boot) → ShownWorld B → SiteFault → Turn → Type 0
SiteRefuses {B} held world fault (OfSite i event) =
    (v : ShownSite Cmd Setup B) × (slice_get world.sites i ≡ Some v)
    × (refusal {R = Answer} {O = PaymentOrder} v.f v.me (site_shown held v []) event ≡ Some fault)
SiteRefuses held world fault _ = ⊥

abbrev pub NodeRefuses : {B : Type 0} → ShownWorld B → NodeFault → Turn → Type 0
NodeRefuses world fault (OfNode c event) =
    (v : ShownNode) × (slice_get world.nodes c ≡ Some v) × node.IsRefusal v v (node.step_of v event) fault
NodeRefuses world fault _ = ⊥

abbrev pub ClientRefuses : {B : Type 0} → ShownWorld B → ClientFault → Turn → Type 0
ClientRefuses world fault (OfClient k event) =
    (v : ShownClient) × (slice_get world.clients k ≡ Some v) × client.IsRefusal v v (client.step_of v event) fault
ClientRefuses world fault _ = ⊥

abbrev pub is_fall : SiteFault → Bool
is_fall site_fault.NoMemory = true
is_fall site_fault.CellFault = true
is_fall site_fault.NotUp = false
is_fall site_fault.AlreadyUp = false
is_fall site_fault.ViewsSpent = false
is_fall site_fault.BootsSpent = false
is_fall site_fault.NotMine = false

abbrev pub is_world_fall : WorldFault → Bool
is_world_fall (OfSiteFault fault) = is_fall fault
is_world_fall NoSuchEnvelope = false
is_world_fall NoSuchActor = false
is_world_fall Outstanding = false
is_world_fall (OfNodeFault fault) = false
is_world_fall Spent = false
is_world_fall NoMemory = false

-- the world's fault for a client's fault
abbrev pub told_as : ClientFault → WorldFault
told_as client_fault.Outstanding = Outstanding
told_as client_fault.Spent = Spent
told_as client_fault.NoMemory = NoMemory

-- it is this actor's turn
abbrev pub InTurn : {B : Type 0} → ShownWorld B → Step → (Turn → Type 0) → Type 0
InTurn world step Is = (t : Turn) × (turn world.post step ≡ Some t) × Is t

-- why a step was not taken: the number is of no envelope, then the actor is not there; only then was memory refused,
-- or did the actor refuse
abbrev pub IsWhy : {B : Type 0} → (B → Boot) → ShownWorld B → Step → WorldFault → Type 0
IsWhy held world step NoSuchEnvelope = turn world.post step ≡ None
IsWhy held world step NoSuchActor = IsTurn world step false
IsWhy held world step NoMemory = IsTurn world step true
IsWhy held world step (OfSiteFault fault) = InTurn world step (SiteRefuses held world fault)
IsWhy held world step (OfNodeFault fault) = InTurn world step (NodeRefuses world fault)
IsWhy held world step Outstanding = InTurn world step (ClientRefuses world client_fault.Outstanding)
IsWhy held world step Spent = InTurn world step (ClientRefuses world client_fault.Spent)

-- what a fallen site would have done with its event
abbrev pub ending_in : (setup : Setup) (choose : Choice Cmd) (f : ℕ) (bank : Bank) (t : Turn) (cell : Boot)
    (after : Bank) → FallsBy setup choose f bank t cell after → Ending
ending_in setup choose f bank (OfSite i event) cell after falls =
    (site_step {R = Answer} {O = PaymentOrder} choose f i falls.before event).ending
ending_in setup choose f bank (OfNode c event) cell after falls = absurd falls
ending_in setup choose f bank (OfClient k event) cell after falls = absurd falls

-- what its event would have saved
abbrev pub saved_in : (setup : Setup) (choose : Choice Cmd) (f : ℕ) (bank : Bank) (t : Turn) (cell : Boot)
    (after : Bank) → FallsBy setup choose f bank t cell after → Boot
saved_in setup choose f bank (OfSite i event) cell after falls =
    (site_step {R = Answer} {O = PaymentOrder} choose f i falls.before event).site.cell
saved_in setup choose f bank (OfNode c event) cell after falls = absurd falls
saved_in setup choose f bank (OfClient k event) cell after falls = absurd falls

-- it fell over what its event saves
abbrev pub IsOverSaved : {B : Type 0} (held : B → Boot) (old new : ShownWorld B) (step : Step) (cell : Boot)
    → Moves held old new (Falls step cell) → Type 0
IsOverSaved held old new step cell moves =
    let by : Fails old.setup moves.list.choose (faults old.setup) moves.list.bank step cell moves.after = moves.leads in
    cell ≡ saved_in old.setup moves.list.choose (faults old.setup) moves.list.bank by.turn_is cell moves.after by.falls

-- A FALL, which is the move: only a site falls that would handle its event, and neither drop nor refuse it, and only
-- at an event that is no crash
pub record HasFallen {B : Type 0} (held : B → Boot) (old new : ShownWorld B) (step : Step) : Type 0 where
  pub cell : Boot
  pub moves : Moves held old new (Falls step cell)
  pub handled : let by : Fails old.setup moves.list.choose (faults old.setup) moves.list.bank step cell moves.after =
      moves.leads in
      ending_in old.setup moves.list.choose (faults old.setup) moves.list.bank by.turn_is cell moves.after by.falls
      ≡ Handled
  pub no_crash : (site : ℕ) → step ≢ Crash site

-- the world is as it was; but if a site fell, that is the move
pub record IsRefused {B : Type 0} (held : B → Boot) (old new : ShownWorld B) (step : Step) (fault : WorldFault)
    : Type 0 where
  pub kept : is_world_fall fault ≡ false → (new ≡ old) × IsWhy held old step fault
  pub fell : is_world_fall fault ≡ true → HasFallen held old new step

-- what a world does with a step
abbrev pub Applies : {B : Type 0} → (B → Boot) → ShownWorld B → ShownWorld B → Step → Result Report WorldFault → Type 0
Applies held old new step result = MatchResult result (IsTaken held old new step) (IsRefused held old new step)

-- CELLS

-- no save of a site's cell fails
abbrev pub AreReliable : {B : Type 0} → Cell B → ShownWorld B → Type 0
AreReliable {B} c world = (i : ℕ) (v : ShownSite Cmd Setup B) → slice_get world.sites i ≡ Some v
    → c.is_reliable v.cell

-- how many saves of each site's cell have failed
abbrev pub failures : {B : Type 0} → Cell B → ShownWorld B → List ℕ
failures c world = map (λ v. c.faults v.cell) world.sites

-- one more save of the cell of the step's site failed, and all other sites are as they were
pub record HasFailed {B : Type 0} (c : Cell B) (old new : ShownWorld B) (step : Step) : Type 0 where
  pub site : ℕ
  pub event : EventOf Cmd Answer PaymentOrder
  pub has_turn : turn old.post step ≡ Some (OfSite site event)
  pub before : ShownSite Cmd Setup B
  pub after : ShownSite Cmd Setup B
  pub is_there : slice_get old.sites site ≡ Some before
  pub changes : new.sites ≡ slice_set old.sites site after
  pub one_more : HasRisen (c.faults before.cell) (c.faults after.cell)

-- A step reports a failed save exactly where there was one: then the count of its site's cell rises, and otherwise no
-- count does. Where no cell's saves fail, none did.
pub record TellsFailures {B : Type 0} (c : Cell B) (old new : ShownWorld B) (step : Step)
    (result : Result Report WorldFault) : Type 0 where
  pub failed : result ≡ Err (OfSiteFault site_fault.CellFault) → HasFailed c old new step
  pub counted : result ≢ Err (OfSiteFault site_fault.CellFault) → failures c new ≡ failures c old
  pub reliable : AreReliable c old → AreReliable c new × (result ≢ Err (OfSiteFault site_fault.CellFault))

-- MANY STEPS

pub record AreTaken {B : Type 0} (old new : ShownWorld B) (steps : List Step) : Type 0 where
  pub setup : new.setup ≡ old.setup
  pub opening : new.opening ≡ old.opening
  pub trail : new.trail ≡ old.trail ++ map (λ step. Takes step) steps

-- the steps before one are taken, and that one is not
pub record IsStopped {B : Type 0} (c : Cell B) (old new : ShownWorld B) (steps : List Step) (fault : WorldFault)
    : Type 0 where
  pub done : List Step
  pub next : Step
  pub rest : List Step
  pub parts : steps ≡ done ++ next ∷ rest
  pub between : ShownWorld B
  pub taken : AreTaken old between done
  pub counted : failures c between ≡ failures c old
  pub refused : IsRefused c.held between new next fault
  pub tells : TellsFailures c between new next (Err fault)
