-- Whole steps and falls keep what holds.
use Rattle.std.proofs.Common.{◌≡◌, ◌≢◌, ◌⊎◌, inl, inr, ℕ, ◌+◌, ◌*◌, ◌<◌, ◌≤◌, Bool, true, false, not, ◌&&◌, ◌==◌, nat_le, if◌then◌else◌, [], ◌++◌, Some, None, refl, sym, ap, ◌∙◌, subst, arith, true≢false}
use Rattle.std.specs.Prelude.{Contains}
use Rattle.vr_types.specs.declared.cell.Boot.{Boot}
use Rattle.vr_types.specs.declared.event.EventOf.{EventOf}
use Rattle.vr_types.specs.declared.event.EventOf.TheVariants.{Deliver, Timer, Beat, Crash, Restart}
use Rattle.vr_types.specs.declared.event.SiteFault.{SiteFault}
use Rattle.vr_types.specs.declared.event.SiteFault.TheVariants.{NotUp, AlreadyUp, ViewsSpent, BootsSpent, NotMine}
use Rattle.vr_types.specs.declared.event.Status.{Status}
use Rattle.vr_types.specs.declared.event.Status.TheVariants.{Normal, Change, Recovering, Down}
use Rattle.vr_types.specs.declared.message.EnvelopeOf.{EnvelopeOf}
use Rattle.vr_types.specs.declared.message.MsgOf.{MsgOf}
use Rattle.vr_types.specs.declared.message.MsgOf.TheVariants.{Request, Prepare, PrepareOk, Commit, StartViewChange, DoViewChange, StartView, GetState, NewState, Recovery, RecoveryResponse, Reply, PayOrder}
use Rattle.vr_types.specs.Group.{actor_of, site_of, is_other_site, may_send, is_mine, mail}
use Rattle.vr_types.specs.Site.{Site, over, is_down, is_recovering}
use Rattle.vr_types.specs.Choice.{Choice, IsRight}
use Rattle.vr_types.specs.Step.{Step, does}
use Rattle.vr_types.specs.Cell.{max_number}
use Rattle.vr_types.specs.Handling.{refused_or, on_message, on_beat, site_step, IsFall}
use Rattle.vr_types.proofs.ChoosingPick.{Contains-none}
use Rattle.vr_types.specs.Messages.{is_request}
use Rattle.agreement.specs.Worlds.{MayHappen}
use Rattle.agreement.proofs.Histories.{History}
use Rattle.agreement.proofs.Votes.{IsAhead, same_cell}
use Rattle.agreement.proofs.Invariant.{Holds}
use Rattle.agreement.proofs.Put.{put, put_here}
use Rattle.agreement.proofs.Moves.{Kept, kept_same, kept_then}
use Rattle.agreement.proofs.Parts.{kept_down}
use Rattle.agreement.proofs.Takes.{kept_restart}
use Rattle.agreement.proofs.NormalRules.{kept_request, kept_prepare, kept_prepare_ok, kept_commit, kept_beat_normal}
use Rattle.agreement.proofs.TransferRules.{kept_get_state, kept_start_view, kept_new_state}
use Rattle.agreement.proofs.ChangeRules.{kept_start_view_change, kept_do_view_change, kept_timer, kept_beat_in_change}
use Rattle.agreement.proofs.RecoveryRules.{kept_recovery, kept_recovery_response, kept_beat_recovering, kept_crash}
use Rattle.agreement.proofs.Tests.{eq_of, ne_of, le_of, not_true, not_false, and_left, and_right}

-- an actor that may send what goes between sites is a site, and another one
record IsPeer (f me actor : ℕ) : Type 0 where
  small : site_of actor < 2 * f + 1
  is : actor ≡ actor_of (site_of actor)
  other : site_of actor ≢ me

peer : (f me actor : ℕ) → is_other_site f me actor ≡ true → IsPeer f me actor
peer f me actor e =
    let low : 200 ≤ actor = le_of (actor_of 0) actor (and_left _ _ e) in
    let apart : actor ≢ actor_of me =
    ne_of actor (actor_of me) (not_true _ (and_right (nat_le actor (actor_of (2 * f))) _ (and_right (nat_le (actor_of 0) actor) _ e))) in
    let high : actor ≤ 200 + 2 * f = le_of actor (actor_of (2 * f)) (and_left _ _ (and_right (nat_le (actor_of 0) actor) _ e)) in
    record { small = omega arith; is = omega arith; other = λ same. apart (omega arith) }

module _ {C R O : Type 0} (choose : Choice C) (f : ℕ) (right : IsRight f choose) (me : ℕ) (small : me < 2 * f + 1) (g : History C R O) (s : ℕ → Site C)
    (holds : Holds f g s) where
  -- a message that is no request was said by that site
  said_by : (actor : ℕ) (msg : MsgOf C R O) → IsPeer f me actor → is_request msg ≡ false
      → (is_request msg ≡ true) ⊎ Contains g.said (record { from = actor; to = actor_of me; msg = msg }) → Contains g.said (mail (site_of actor) me msg)
  said_by actor msg p other (inl request) = absurd (true≢false (sym request ∙ other))
  said_by actor msg p other (inr in') = subst (λ (a : ℕ). Contains g.said (record { from = a; to = actor_of me; msg = msg })) p.is in'

  message_kept : (actor : ℕ) (msg : MsgOf C R O) → is_down (s me).status ≡ false → may_send f me actor msg ≡ true
      → (is_request msg ≡ true) ⊎ Contains g.said (record { from = actor; to = actor_of me; msg = msg })
      → Kept f g s me (on_message choose f me (s me) actor msg)
  message_kept actor (Request msg) up may come = kept_request f me g s holds _
  message_kept actor (Prepare msg) up may come = let p = peer f me actor may in
      kept_prepare f me g s holds _ msg up p.other (holds.said _ _ _ (said_by actor _ p refl come))
  message_kept actor (PrepareOk msg) up may come = let p = peer f me actor may in
      kept_prepare_ok f me g s holds choose right _ me msg small (said_by actor _ p refl come)
  message_kept actor (Commit msg) up may come = let p = peer f me actor may in
      kept_commit f me g s holds _ msg up (holds.said _ _ _ (said_by actor _ p refl come)).1
  message_kept actor (StartViewChange msg) up may come = let p = peer f me actor (and_left _ _ may) in
      kept_start_view_change f me g s holds choose right me msg.view (record { from = site_of actor; known = msg.known }) up small (said_by actor _ p refl come)
  message_kept actor (DoViewChange msg) up may come = let p = peer f me actor (and_left _ _ may) in
      kept_do_view_change f me g s holds choose right me msg.view _ up (said_by actor _ p refl come)
  message_kept actor (StartView msg) up may come = let p = peer f me actor may in
      kept_start_view f me g s holds choose _ msg up p.other (holds.said _ _ _ (said_by actor _ p refl come))
  message_kept actor (GetState msg) up may come = kept_get_state f me g s holds _ msg
  message_kept actor (NewState msg) up may come = let p = peer f me actor may in
      kept_new_state f me g s holds choose _ msg up p.other (holds.said _ _ _ (said_by actor _ p refl come))
  message_kept actor (Recovery msg) up may come = let p = peer f me actor may in kept_recovery f me g s holds _ me msg p.small (said_by actor _ p refl come)
  message_kept actor (RecoveryResponse msg) up may come = let p = peer f me actor (and_left _ _ may) in
      kept_recovery_response f me g s holds choose right msg.nonce _ p.other (said_by actor _ p refl come)
  message_kept actor (Reply msg) up may come = kept_same f g s me holds _ refl refl
  message_kept actor (PayOrder order) up may come = kept_same f g s me holds _ refl refl

  beat_kept : (status : Status) → (s me).status ≡ status → Kept f g s me (on_beat {R = R} {O = O} f me (s me) status)
  beat_kept Normal e = kept_beat_normal f me g s holds e
  beat_kept Change e = kept_beat_in_change f me g s holds e
  beat_kept Recovering e = kept_beat_recovering f me g s holds
  beat_kept Down e = kept_same f g s me holds _ refl refl

  -- an event at a site that is not down, refused where a test says so
  unless_down : (down other : Bool) (fault : SiteFault) (step : Step C R O) → (down ≡ false → other ≡ false → Kept f g s me step)
      → Kept f g s me (refused_or (s me) (if down then Some NotUp else if other then Some fault else None) step)
  unless_down true other fault step k = kept_same f g s me holds _ refl refl
  unless_down false true fault step k = kept_same f g s me holds _ refl refl
  unless_down false false fault step k = k refl refl

  unless_down_alone : (down : Bool) (step : Step C R O) → Kept f g s me step → Kept f g s me (refused_or (s me) (if down then Some NotUp else None) step)
  unless_down_alone true step k = kept_same f g s me holds _ refl refl
  unless_down_alone false step k = k

  unless_up : (up spent : Bool) (step : Step C R O) → Kept f g s me step
      → Kept f g s me (refused_or (s me) (if up then Some AlreadyUp else if spent then Some BootsSpent else None) step)
  unless_up true spent step k = kept_same f g s me holds _ refl refl
  unless_up false true step k = kept_same f g s me holds _ refl refl
  unless_up false false step k = k

  -- what arrives was sent, and what was sent was said
  come_by : (e : EnvelopeOf C R O) → e.to ≡ actor_of me → (is_request e.msg ≡ true) ⊎ Contains g.said e
      → (is_request e.msg ≡ true) ⊎ Contains g.said (record { from = e.from; to = actor_of me; msg = e.msg })
  come_by e to (inl request) = inl request
  come_by e to (inr in') = inr (subst (λ (a : ℕ). Contains g.said (record { from = e.from; to = a; msg = e.msg })) to in')

  pub step_kept : (event : EventOf C R O) → MayHappen g.said event → Kept f g s me (site_step choose f me (s me) event)
  step_kept (Deliver e) may = unless_down (is_down (s me).status) (not (is_mine f me e)) NotMine _ (λ up mine.
      let is = not_false _ mine in
      message_kept e.from e.msg up (and_right (e.to == actor_of me) _ is) (come_by e (eq_of e.to (actor_of me) (and_left _ _ is)) may))
  step_kept Timer may =
      unless_down (is_down (s me).status) (not (is_recovering (s me).status) && ((s me).view == max_number)) ViewsSpent _ (λ up _. kept_timer f me g s holds up)
  step_kept Beat may = unless_down_alone (is_down (s me).status) _ (beat_kept (s me).status refl)
  step_kept Crash may = unless_down_alone (is_down (s me).status) _ (kept_crash f me g s holds)
  step_kept Restart may = unless_up (not (is_down (s me).status)) ((s me).cell.boots == max_number) _ (kept_restart f g s me holds small)

-- a fall keeps what holds: it is the step with its messages said and not sent, and then the site is down
pub fall_kept : {C R O : Type 0} (f me : ℕ) (g : History C R O) (s : ℕ → Site C) (step : Step C R O) (cell : Boot) → Holds f g s → Kept f g s me step
    → IsFall (s me) step (over cell Down) → Kept f g s me (does (over cell Down) [])
fall_kept {C} {R} {O} f me g s step cell holds k fall = by_cell fall.down
  where
    cell_of : (x : Site C) (b : Boot) → over {C = C} cell Down ≡ over b Down → cell ≡ b
    cell_of x b e = ap (λ (y : Site C). y.cell) e

    saved : cell ≡ step.site.cell → Kept f g s me (does (over cell Down) (step.sent ++ []))
    saved e = kept_then f g s me step.site (over cell Down) step.sent [] (record { history = k.history; holds = k.holds; grown = k.grown; sent = k.sent })
        (λ h grown later.
        kept_down f h (put s me step.site) me later cell (subst (λ (x : Site C). IsAhead x (over cell Down)) (sym (put_here s me step.site))
        (same_cell step.site (over cell Down) e)))

    by_cell : (over {C = C} cell Down ≡ over (s me).cell Down) ⊎ (over {C = C} cell Down ≡ over step.site.cell Down) → Kept f g s me (does (over cell Down) [])
    by_cell (inl e) = kept_down f g s me holds cell (same_cell (s me) (over cell Down) (cell_of (s me) (s me).cell e))
    by_cell (inr e) =
        let down = saved (cell_of (s me) step.site.cell e) in
        record { history = down.history; holds = down.holds; grown = down.grown; sent = λ d in'. absurd (Contains-none d in') }
