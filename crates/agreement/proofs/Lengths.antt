-- What a site knows has one number for each site, in every world that a legal list reaches.
use Rattle.std.proofs.Common.{◌≡◌, ℕ, zero, suc, ◌+◌, ◌*◌, ◌<◌, ◌≤◌, Bool, true, false, not, ◌&&◌, ◌||◌, ◌==◌, nat_lt, nat_le, if◌then◌else◌, List, [], ◌∷◌, ◌++◌, length, take, map, get_or, Option, Some, None, refl, sym, ◌∙◌, subst, arith, true≢false, length-set}
use Rattle.std.proofs.lemmas.Option.{slice_get_within, get_or_from_slice_get}
use Rattle.vr_types.specs.declared.cell.Boot.{Boot}
use Rattle.vr_types.specs.declared.event.EventOf.{EventOf}
use Rattle.vr_types.specs.declared.event.EventOf.TheVariants.{Deliver, Timer, Beat, Crash, Restart}
use Rattle.vr_types.specs.declared.event.SiteFault.{SiteFault}
use Rattle.vr_types.specs.declared.event.SiteFault.TheVariants.{NotUp, AlreadyUp, ViewsSpent, BootsSpent, NotMine}
use Rattle.vr_types.specs.declared.event.Status.{Status}
use Rattle.vr_types.specs.declared.event.Status.TheVariants.{Normal, Change, Recovering, Down}
use Rattle.vr_types.specs.declared.limits.TheConstants.{MAX_ROWS}
use Rattle.vr_types.specs.declared.message.MsgOf.{MsgOf}
use Rattle.vr_types.specs.declared.message.MsgOf.TheVariants.{Request, Prepare, PrepareOk, Commit, StartViewChange, DoViewChange, StartView, GetState, NewState, Recovery, RecoveryResponse, Reply, PayOrder}
use Rattle.vr_types.specs.declared.message.PrepareOf.{PrepareOf}
use Rattle.vr_types.specs.declared.message.Commit.{Commit as CommitMsg}
use Rattle.vr_types.specs.declared.message.PrepareOk.{PrepareOk as PrepareOkMsg}
use Rattle.vr_types.specs.declared.message.StartViewOf.{StartViewOf}
use Rattle.vr_types.specs.declared.message.NewStateOf.{NewStateOf}
use Rattle.vr_types.specs.declared.message.GetState.{GetState as GetStateMsg}
use Rattle.vr_types.specs.declared.message.Recovery.{Recovery as RecoveryMsg}
use Rattle.vr_types.specs.declared.row.RowOf.{RowOf}
use Rattle.vr_types.specs.Cell.{max_number, nonce_of}
use Rattle.vr_types.specs.Rows.{newest, last_of}
use Rattle.vr_types.specs.Group.{primary, actor_of, is_other_site, is_of_all, may_send, is_mine}
use Rattle.vr_types.specs.Site.{Site, Start, Vote, Response, over, no_boots, opening_site, restarted, boot_of, has_start, has_vote, is_normal, is_recovering, is_change, is_down}
use Rattle.vr_types.specs.Choice.{Choice, Regained}
use Rattle.vr_types.specs.Step.{Step, greater, is_outdated, learns, begins_with_executed, takes_log}
use Rattle.vr_types.specs.Normal.{with_row, answers_again, with_next, on_request, on_prepare, on_commit, on_prepare_ok, beats_normal}
use Rattle.vr_types.specs.Change.{Part, with_start, with_vote, with_voted, own_vote, is_to_vote, is_to_open, starts_view, starts_later_view, votes_where_due, opens_where_due, after_start, after_vote, on_start_view_change, on_do_view_change, on_start_view, on_timer, beats_in_change}
use Rattle.vr_types.specs.Transfer.{on_get_state, on_new_state}
use Rattle.vr_types.specs.Recovery.{after_response, has_as_late, regains, on_recovery, on_recovery_response, beats_recovering, on_restart}
use Rattle.vr_types.specs.Handling.{refused_or, on_message, on_beat, on_event, site_step}
use Rattle.vr_types.proofs.Vectors.{no_boots_long}
use Rattle.agreement.specs.Worlds.{World, Course, Ends, FallsOver, Happening, stepped, fallen, EndsIn, Happens, IsRun, opening_world, IsLegal}
use Rattle.agreement.proofs.Reached.{nobody, site_at, set_is_put}
use Rattle.agreement.proofs.Put.{put, put_cases}
use Rattle.agreement.proofs.Tests.{eq_of, not_false, and_right}

-- after the step the site knows a number for each site
record Long {C R O : Type 0} (n : ℕ) (step : Step C R O) : Type 0 where
  is : length step.site.known ≡ n

record PartLong {C R O : Type 0} (n : ℕ) (part : Part C R O) : Type 0 where
  is : length part.site.known ≡ n

-- a site that is not down does
pub record IsLong {C : Type 0} (n : ℕ) (x : Site C) : Type 0 where
  pub is : is_down x.status ≡ false → length x.known ≡ n

pub greater_same : (a b : List ℕ) → length b ≤ length a → length (greater a b) ≡ length a
greater_same [] [] h = refl
greater_same [] (b ∷ bs) h = absurd (omega arith)
greater_same (a ∷ as') [] h = refl
greater_same (a ∷ as') (b ∷ bs) h = let e = greater_same as' bs (omega arith) in omega arith

long_next : {C : Type 0} (n : ℕ) (x : Site C) → length x.known ≡ n → (place : ℕ) (row : RowOf C) → length (with_next place row x).known ≡ n
long_next {C} n x h place row = by_test (place == length x.log + 1)
  where
    by_test : (b : Bool) → length (if b then with_row row x else x).known ≡ n
    by_test true = h
    by_test false = h

learnt : {C : Type 0} (n : ℕ) (x : Site C) → length x.known ≡ n → (told : List ℕ) → length told ≡ n → length (learns told x).known ≡ n
learnt n x h told full = greater_same x.known told (let a = h in let b = full in omega arith) ∙ h

long_with_start : {C : Type 0} (n : ℕ) (start : Start) (y : Site C) → length y.known ≡ n → length (with_start start y).known ≡ n
long_with_start {C} n start y l = by_test (has_start y.collected.starts start.from)
  where
    by_test : (b : Bool)
        → (let z : Site C = if b then y else record y { collected = record (y.collected) { starts = y.collected.starts ++ start ∷ [] } } in length z.known ≡ n)
    by_test true = l
    by_test false = l

long_with_vote : {C : Type 0} (n : ℕ) (vote : Vote C) (y : Site C) → length y.known ≡ n → length (with_vote vote y).known ≡ n
long_with_vote {C} n vote y l = by_test (has_vote y.collected.votes vote.from)
  where
    by_test : (b : Bool)
        → (let z : Site C = if b then y else record y { collected = record (y.collected) { votes = y.collected.votes ++ vote ∷ [] } } in length z.known ≡ n)
    by_test true = l
    by_test false = l

long_begun : {C : Type 0} (R O : Type 0) (n f me : ℕ) (x : Site C) → length x.known ≡ n → (told : List ℕ) → length told ≡ n → (w : ℕ)
    → length (starts_later_view {R = R} {O = O} f me w (learns told x)).site.known ≡ n
long_begun {C} R O n f me x h told full w = by_test (nat_lt x.view w)
  where
    by_test : (b : Bool)
        → (let part : Part C R O = if b then starts_view f me w (learns told x) else record { site = learns told x; sent = [] } in length part.site.known ≡ n)
    by_test true = learnt n x h told full
    by_test false = learnt n x h told full

module _ {C R O : Type 0} (n : ℕ) where
  long_if : (b : Bool) {p q : Step C R O} → Long n p → Long n q → Long n (if b then p else q)
  long_if true p q = p
  long_if false p q = q

  part_if : (b : Bool) {p q : Part C R O} → PartLong n p → PartLong n q → PartLong n (if b then p else q)
  part_if true p q = p
  part_if false p q = q

  module _ (choose : Choice C) (f me : ℕ) (x : Site C) (h : length x.known ≡ n) where
    long_request : (row : RowOf C) → Long n (on_request {R = R} {O = O} f me x row)
    unfolding on_request
    long_request row =
        long_if (not (is_normal x.status)) (record { is = h })
        (long_if (not (primary f x.view == me)) (record { is = h })
        (long_if (nat_lt (newest x.log row.client) row.number) (long_if (length x.log == MAX_ROWS) (record { is = h }) (record { is = h }))
        (again (last_of (take x.done x.log) row.client))))
      where
        again : (last : Option (ℕ × RowOf C)) → Long n (answers_again {R = R} {O = O} x row.number (newest x.log row.client) last)
        again None = record { is = h }
        again (Some last) = long_if ((row.number == newest x.log row.client) && (last.1.number == row.number)) (record { is = h }) (record { is = h })

    long_prepare : (from : ℕ) (msg : PrepareOf C) → Long n (on_prepare {R = R} {O = O} f me x from msg)
    unfolding on_prepare
    long_prepare from msg =
        long_if (not (primary f msg.view == from)) (record { is = h })
        (long_if (is_recovering x.status) (record { is = h })
        (long_if (nat_lt msg.view x.view) (record { is = h })
        (long_if (nat_lt x.view msg.view || is_change x.status) (record { is = h }) (record { is = long_next n x h msg.place msg.row }))))

    long_commit : (from : ℕ) (msg : CommitMsg) → Long n (on_commit {R = R} {O = O} f me x from msg)
    unfolding on_commit
    long_commit from msg =
        long_if (not (primary f msg.view == from)) (record { is = h })
        (long_if (is_recovering x.status) (record { is = h })
        (long_if (nat_lt msg.view x.view) (record { is = h })
        (long_if (nat_lt x.view msg.view || is_change x.status) (record { is = h }) (record { is = h }))))

    long_prepare_ok : (from : ℕ) (msg : PrepareOkMsg) → Long n (on_prepare_ok {R = R} {O = O} choose f me x from msg)
    unfolding on_prepare_ok
    long_prepare_ok from msg =
        long_if (not (is_normal x.status)) (record { is = h })
        (long_if (not (msg.view == x.view)) (record { is = h }) (long_if (not (primary f x.view == me)) (record { is = h }) (record { is = h })))

    long_takes : (w k : ℕ) (log : List (RowOf C)) → Long n (takes_log {R = R} {O = O} choose f me x w k log)
    long_takes w k log = long_if (begins_with_executed choose.same x log) (record { is = h }) (record { is = h })

    long_start_view : (from : ℕ) (msg : StartViewOf C) → Long n (on_start_view {R = R} {O = O} choose f me x from msg)
    unfolding on_start_view
    long_start_view from msg =
        long_if (not (primary f msg.view == from)) (record { is = h })
        (long_if (is_recovering x.status) (record { is = h })
        (long_if (nat_lt msg.view x.view) (record { is = h })
        (long_if (is_normal x.status && (msg.view == x.view)) (record { is = h }) (long_takes msg.view msg.done msg.rows))))

    long_get_state : (from : ℕ) (msg : GetStateMsg) → Long n (on_get_state {R = R} {O = O} f me x from msg)
    unfolding on_get_state
    long_get_state from msg =
        long_if (not (is_normal x.status)) (record { is = h })
        (long_if (not (msg.view == x.view)) (record { is = h })
        (long_if (not (primary f x.view == me)) (record { is = h }) (long_if (nat_lt (length x.log) msg.base) (record { is = h }) (record { is = h }))))

    long_new_state : (from : ℕ) (msg : NewStateOf C) → Long n (on_new_state {R = R} {O = O} choose f me x from msg)
    unfolding on_new_state
    long_new_state from msg =
        long_if (not (primary f msg.view == from)) (record { is = h })
        (long_if (is_recovering x.status) (record { is = h })
        (long_if (nat_lt msg.view x.view) (record { is = h })
        (long_if (nat_lt MAX_ROWS (msg.base + length msg.rows)) (record { is = h })
        (long_if (is_normal x.status && (msg.view == x.view))
        (long_if (nat_le msg.base (length x.log) && nat_lt (length x.log) (msg.base + length msg.rows))
        (long_takes msg.view msg.done (take msg.base x.log ++ msg.rows)) (record { is = h }))
        (long_if (nat_le msg.base x.done && nat_le x.done (msg.base + length msg.rows))
        (long_takes msg.view msg.done (take msg.base x.log ++ msg.rows)) (record { is = h }))))))

    long_recovery : (from : ℕ) (msg : RecoveryMsg) → Long n (on_recovery {R = R} {O = O} f me x from msg)
    unfolding on_recovery
    long_recovery from msg =
        long_if (not (is_normal x.status)) (record { is = h })
        (long_if (nat_lt msg.nonce (boot_of x.known from)) (record { is = h }) (record { is = length-set x.known from msg.nonce ∙ h }))

    long_timer : Long n (on_timer {R = R} {O = O} f me x)
    unfolding on_timer
    long_timer = long_if (is_recovering x.status) (record { is = h }) (record { is = h })

    long_beat : (status : Status) → Long n (on_beat {R = R} {O = O} f me x status)
    unfolding beats_normal beats_in_change beats_recovering
    long_beat Normal = long_if (primary f x.view == me) (record { is = h }) (record { is = h })
    long_beat Change = record { is = h }
    long_beat Recovering = record { is = h }
    long_beat Down = record { is = h }

    long_opens : (part : Part C R O) → length part.site.known ≡ n → Long n (opens_where_due choose f me x part)
    long_opens part l =
        long_if (not (is_to_open f me part.site)) (record { is = l })
        (long_if (not (begins_with_executed choose.same part.site (choose.pick part.site.collected.votes).log)) (record { is = h }) (record { is = l }))

  long_votes : (f me : ℕ) (part : Part C R O) → length part.site.known ≡ n → PartLong n (votes_where_due f me part)
  long_votes f me part l =
      part_if (not (is_to_vote f me part.site)) (record { is = l })
      (part_if (primary f part.site.view == me) (record { is = long_with_vote n (own_vote me part.site) (with_voted part.site) l }) (record { is = l }))

  module _ (choose : Choice C) (f me : ℕ) (x : Site C) (h : length x.known ≡ n) where
    long_start_view_change : (w : ℕ) (start : Start) → length start.known ≡ n → Long n (on_start_view_change {R = R} {O = O} choose f me x w start)
    unfolding on_start_view_change
    long_start_view_change w start full =
        long_if (is_recovering x.status) (record { is = h })
        (long_if (nat_lt w x.view) (record { is = h }) (long_if (is_normal x.status && (w == x.view)) (record { is = h })
        (long_if (is_outdated x.known start.from start.known) (record { is = h })
        (let begun : Part C R O = starts_later_view f me w (learns start.known x) in
        long_opens choose f me x h (after_start f me w start x)
        (long_votes f me (record begun { site = with_start start begun.site })
        (long_with_start n start begun.site (long_begun R O n f me x h start.known full w))).is))))

    long_do_view_change : (w : ℕ) (vote : Vote C) → length vote.known ≡ n → Long n (on_do_view_change {R = R} {O = O} choose f me x w vote)
    unfolding on_do_view_change
    long_do_view_change w vote full =
        long_if (is_recovering x.status) (record { is = h })
        (long_if (nat_lt w x.view) (record { is = h }) (long_if (not (primary f w == me)) (record { is = h })
        (long_if (is_normal x.status && (w == x.view)) (record { is = h })
        (long_if (is_outdated x.known vote.from vote.known) (record { is = h }) (let begun : Part C R O = starts_later_view f me w (learns vote.known x) in
        long_opens choose f me x h (after_vote f me w vote x) (long_with_vote n vote begun.site (long_begun R O n f me x h vote.known full w)))))))

    long_response : (nonce : ℕ) (response : Response C) → length response.known ≡ n → Long n (on_recovery_response {R = R} {O = O} choose x nonce response)
    unfolding on_recovery_response
    long_response nonce response full =
        long_if (not (is_recovering x.status)) (record { is = h })
        (long_if (not (nonce == nonce_of x.cell)) (record { is = h })
        (long_if (is_outdated x.known response.from response.known) (record { is = h })
        (long_if (has_as_late (learns response.known x).collected.responses response) (record { is = h })
        (by_state (choose.regained (after_response response x).collected.responses)))))
      where
        by_state : (regained : Option (Regained C)) → Long n (regains {R = R} {O = O} (after_response response x) regained)
        by_state None = record { is = learnt n x h response.known full }
        by_state (Some regained) = record { is = learnt n x h response.known full }

restart_long : (C : Type 0) (f me : ℕ) (cell : Boot) → length (restarted {C = C} f me cell).known ≡ 2 * f + 1
restart_long C f me cell = length-set (no_boots f) me (nonce_of cell) ∙ no_boots_long f

of_all : (f : ℕ) (known : List ℕ) (b : Bool) → (b && is_of_all f known) ≡ true → length known ≡ 2 * f + 1
of_all f known b e = eq_of _ _ (and_right b _ e)

opening_long : {C : Type 0} (f : ℕ) (cells : List Boot) (i : ℕ) → IsLong {C = C} (2 * f + 1) (get_or (map (opening_site f) cells) i nobody)
opening_long f [] i = record { is = λ e. absurd (true≢false e) }
opening_long {C} f (cell ∷ cells) zero = by_test (cell.boots == 0)
  where
    by_test : (b : Bool) → (let x : Site C = if b then record (over cell Normal) { known = no_boots f } else over cell Down in IsLong (2 * f + 1) x)
    by_test true = record { is = λ _. no_boots_long f }
    by_test false = record { is = λ e. absurd (true≢false e) }
opening_long f (cell ∷ cells) (suc i) = opening_long f cells i

module _ {C R O : Type 0} (choose : Choice C) (f me : ℕ) (x : Site C) where
  message_long : length x.known ≡ 2 * f + 1 → (actor : ℕ) (msg : MsgOf C R O) → may_send f me actor msg ≡ true
      → Long (2 * f + 1) (on_message choose f me x actor msg)
  message_long h actor (Request msg) may = long_request (2 * f + 1) choose f me x h _
  message_long h actor (Prepare msg) may = long_prepare (2 * f + 1) choose f me x h _ msg
  message_long h actor (PrepareOk msg) may = long_prepare_ok (2 * f + 1) choose f me x h _ msg
  message_long h actor (Commit msg) may = long_commit (2 * f + 1) choose f me x h _ msg
  message_long h actor (StartViewChange msg) may =
      long_start_view_change (2 * f + 1) choose f me x h msg.view _ (of_all f msg.known (is_other_site f me actor) may)
  message_long h actor (DoViewChange msg) may = long_do_view_change (2 * f + 1) choose f me x h msg.view _ (of_all f msg.known (is_other_site f me actor) may)
  message_long h actor (StartView msg) may = long_start_view (2 * f + 1) choose f me x h _ msg
  message_long h actor (GetState msg) may = long_get_state (2 * f + 1) choose f me x h _ msg
  message_long h actor (NewState msg) may = long_new_state (2 * f + 1) choose f me x h _ msg
  message_long h actor (Recovery msg) may = long_recovery (2 * f + 1) choose f me x h _ msg
  message_long h actor (RecoveryResponse msg) may = long_response (2 * f + 1) choose f me x h msg.nonce _ (of_all f msg.known (is_other_site f me actor) may)
  message_long h actor (Reply msg) may = record { is = h }
  message_long h actor (PayOrder order) may = record { is = h }

  as_long : (step : Step C R O) → Long (2 * f + 1) step → IsLong (2 * f + 1) step.site
  as_long step l = record { is = λ _. l.is }

  -- an event at a site that is not down
  unless_down : IsLong (2 * f + 1) x → (down other : Bool) (fault : SiteFault) (step : Step C R O) → is_down x.status ≡ down
      → (down ≡ false → other ≡ false → length x.known ≡ 2 * f + 1 → Long (2 * f + 1) step)
      → IsLong (2 * f + 1) (refused_or x (if down then Some NotUp else if other then Some fault else None) step).site
  unless_down l true other fault step e k = l
  unless_down l false true fault step e k = l
  unless_down l false false fault step e k = as_long step (k refl refl (l.is e))

  unless_down_alone : IsLong (2 * f + 1) x → (down : Bool) (step : Step C R O) → is_down x.status ≡ down
      → (length x.known ≡ 2 * f + 1 → IsLong (2 * f + 1) step.site)
      → IsLong (2 * f + 1) (refused_or x (if down then Some NotUp else None) step).site
  unless_down_alone l true step e k = l
  unless_down_alone l false step e k = k (l.is e)

  unless_up : IsLong (2 * f + 1) x → (up spent : Bool) (step : Step C R O) → IsLong (2 * f + 1) step.site
      → IsLong (2 * f + 1) (refused_or x (if up then Some AlreadyUp else if spent then Some BootsSpent else None) step).site
  unless_up l true spent step k = l
  unless_up l false true step k = l
  unless_up l false false step k = k

  restart_is : (step : Step C R O) → step ≡ on_restart f me x → IsLong (2 * f + 1) step.site
  unfolding on_restart
  restart_is step e =
      subst (λ (s : Step C R O). IsLong (2 * f + 1) s.site) (sym e) (record { is = λ _. restart_long C f me (record { boots = x.cell.boots + 1 }) })

  step_long : IsLong (2 * f + 1) x → (event : EventOf C R O) → IsLong (2 * f + 1) (site_step choose f me x event).site
  step_long l (Deliver e) = unless_down l (is_down x.status) (not (is_mine f me e)) NotMine _ refl (λ up mine h.
      message_long h e.from e.msg (and_right (e.to == actor_of me) _ (not_false _ mine)))
  step_long l Timer =
      unless_down l (is_down x.status) (not (is_recovering x.status) && (x.view == max_number)) ViewsSpent _ refl
      (λ up _ h. long_timer (2 * f + 1) choose f me x h)
  step_long l Beat = unless_down_alone l (is_down x.status) _ refl (λ h. as_long _ (long_beat (2 * f + 1) choose f me x h x.status))
  step_long l Crash = unless_down_alone l (is_down x.status) _ refl (λ h. record { is = λ e. absurd (true≢false e) })
  step_long l Restart = unless_up l (not (is_down x.status)) (x.cell.boots == max_number) (on_event choose f me x Restart) (restart_is _ refl)

-- every site of a world
abbrev pub AllLong : {C R O : Type 0} → ℕ → World C R O → Type 0
AllLong f world = (i : ℕ) → IsLong (2 * f + 1) (site_at world i)

module _ {C R O : Type 0} (choose : Choice C) (f : ℕ) where
  set_long : (w : World C R O) (i : ℕ) (x : Site C) → AllLong f w → i < length w.sites → IsLong (2 * f + 1) x → (j : ℕ)
      → IsLong (2 * f + 1) (put (site_at w) i x j)
  set_long w i x all small l j = put_cases (site_at w) i x (λ k y. IsLong (2 * f + 1) y) j l (λ _. all j)

  happens_long : (w after : World C R O) (h : Happening C R O) → AllLong f w → Happens choose f w h after → AllLong f after
  happens_long w after h all p = by_course h.course p.ends
    where
      small : h.site < length w.sites
      small = slice_get_within w.sites h.site p.before p.is_there

      was : IsLong (2 * f + 1) p.before
      was = subst (λ (x : Site C). IsLong (2 * f + 1) x) (get_or_from_slice_get w.sites h.site p.before nobody p.is_there) (all h.site)

      by_site : (y : Site C) (v : World C R O) → site_at v ≡ put (site_at w) h.site y → IsLong (2 * f + 1) y → AllLong f v
      by_site y v e l i = subst (λ (s : ℕ → Site C). IsLong (2 * f + 1) (s i)) (sym e) (set_long w h.site y all small l i)

      by_course : (course : Course) → EndsIn w h.site p.before (site_step choose f h.site p.before h.event) course after → AllLong f after
      by_course Ends ends = subst (λ (v : World C R O). AllLong f v) (sym ends.1)
          (by_site (site_step {R = R} {O = O} choose f h.site p.before h.event).site (stepped w h.site (site_step choose f h.site p.before h.event))
          (set_is_put w.sites h.site _ small) (step_long choose f h.site p.before was h.event))
      by_course (FallsOver cell) ends = subst (λ (v : World C R O). AllLong f v) (sym ends.1)
          (by_site (over cell Down) (fallen w h.site cell) (set_is_put w.sites h.site (over cell Down) small) (record { is = λ e. absurd (true≢false e) }))

  pub run_long : (w after : World C R O) (events : List (Happening C R O)) → AllLong f w → IsRun choose f w events after → AllLong f after
  run_long w after [] all e = subst (λ (v : World C R O). AllLong f v) (sym e) all
  run_long w after (h ∷ hs) all run = run_long run.0 after hs (happens_long w run.0 h all run.1) run.2

  pub legal_long : (cells : List Boot) (events : List (Happening C R O)) (world : World C R O) → IsLegal choose f cells events world → AllLong f world
  legal_long cells events world legal = run_long (opening_world f cells) world events (opening_long f cells) legal.run
