-- What a recovering site drops, and what it says at a beat.
use Rattle.std.proofs.Common.{◌≡◌, ℕ, ◌==◌, Bool, true, false, true≢false, not, List, if◌then◌else◌, refl, sym}
use Rattle.vr_types.specs.declared.cell.Boot.{Boot}
use Rattle.vr_types.specs.declared.event.Why.TheVariants.{Status, NotPrimary}
use Rattle.vr_types.specs.declared.message.MsgOf.{MsgOf}
use Rattle.vr_types.specs.declared.message.MsgOf.TheVariants.{Request, Prepare, PrepareOk, Commit, StartViewChange, DoViewChange, StartView, GetState, NewState, Recovery, RecoveryResponse, Reply, PayOrder}
use Rattle.vr_types.specs.declared.message.PrepareOf.{PrepareOf}
use Rattle.vr_types.specs.declared.message.RecoveryResponseOf.{RecoveryResponseOf}
use Rattle.vr_types.specs.declared.message.StartViewOf.{StartViewOf}
use Rattle.vr_types.specs.declared.message.NewStateOf.{NewStateOf}
use Rattle.vr_types.specs.declared.message.Commit.{Commit as CommitMsg}
use Rattle.vr_types.specs.declared.message.GetState.{GetState as GetStateMsg}
use Rattle.vr_types.specs.declared.message.PrepareOk.{PrepareOk as PrepareOkMsg}
use Rattle.vr_types.specs.declared.message.Recovery.{Recovery as RecoveryMsg}
use Rattle.vr_types.specs.declared.row.RowOf.{RowOf}
use Rattle.vr_types.specs.Change.{on_timer, on_start_view_change, on_do_view_change, on_start_view}
use Rattle.vr_types.specs.Cell.{nonce_of}
use Rattle.vr_types.specs.Choice.{Choice}
use Rattle.vr_types.specs.Group.{primary, may_send, to_all}
use Rattle.vr_types.specs.Handling.{on_message}
use Rattle.vr_types.specs.Normal.{on_request, on_prepare, on_prepare_ok, on_commit}
use Rattle.vr_types.specs.Recovery.{on_recovery, beats_recovering}
use Rattle.vr_types.specs.Site.{Ack, Site, Start, Vote}
use Rattle.vr_types.specs.Step.{Step, does, drops}
use Rattle.vr_types.specs.Transfer.{on_get_state, on_new_state}
use Rattle.vr_recover.specs.declared.recovering.RecoveringOf.{RecoveringOf}
use Rattle.vr_recover.specs.Recovering.{recovering_site}

module _ {C R O : Type 0} (f me : ℕ) (kept : RecoveringOf C) (acks : List Ack) (cell : Boot) where
  -- it comes first whether the word is its primary's
  not_primary_first : (b : Bool)
      → ◌≡◌ {A = Step C R O} (if not b then drops (recovering_site kept acks cell) NotPrimary else drops (recovering_site kept acks cell) Status)
      (drops (recovering_site kept acks cell) (if b then Status else NotPrimary))
  not_primary_first true = refl
  not_primary_first false = refl

  pub prepare_drops : (from : ℕ) (msg : PrepareOf C)
      → ◌≡◌ {A = Step C R O} (on_prepare f me (recovering_site kept acks cell) from msg)
      (drops (recovering_site kept acks cell) (if primary f msg.view == from then Status else NotPrimary))
  unfolding on_prepare
  prepare_drops from msg = not_primary_first (primary f msg.view == from)

  pub commit_drops : (from : ℕ) (msg : CommitMsg)
      → ◌≡◌ {A = Step C R O} (on_commit f me (recovering_site kept acks cell) from msg)
      (drops (recovering_site kept acks cell) (if primary f msg.view == from then Status else NotPrimary))
  unfolding on_commit
  commit_drops from msg = not_primary_first (primary f msg.view == from)

  pub start_view_drops : (choose : Choice C) (from : ℕ) (msg : StartViewOf C)
      → ◌≡◌ {A = Step C R O} (on_start_view choose f me (recovering_site kept acks cell) from msg)
      (drops (recovering_site kept acks cell) (if primary f msg.view == from then Status else NotPrimary))
  unfolding on_start_view
  start_view_drops choose from msg = not_primary_first (primary f msg.view == from)

  pub new_state_drops : (choose : Choice C) (from : ℕ) (msg : NewStateOf C)
      → ◌≡◌ {A = Step C R O} (on_new_state choose f me (recovering_site kept acks cell) from msg)
      (drops (recovering_site kept acks cell) (if primary f msg.view == from then Status else NotPrimary))
  unfolding on_new_state
  new_state_drops choose from msg = not_primary_first (primary f msg.view == from)

  request_drops : (row : RowOf C) → ◌≡◌ {A = Step C R O} (on_request f me (recovering_site kept acks cell) row) (drops (recovering_site kept acks cell) Status)
  unfolding on_request
  request_drops row = refl

  prepare_ok_drops : (choose : Choice C) (from : ℕ) (msg : PrepareOkMsg)
      → ◌≡◌ {A = Step C R O} (on_prepare_ok choose f me (recovering_site kept acks cell) from msg) (drops (recovering_site kept acks cell) Status)
  unfolding on_prepare_ok
  prepare_ok_drops choose from msg = refl

  start_view_change_drops : (choose : Choice C) (w : ℕ) (start : Start)
      → ◌≡◌ {A = Step C R O} (on_start_view_change choose f me (recovering_site kept acks cell) w start) (drops (recovering_site kept acks cell) Status)
  unfolding on_start_view_change
  start_view_change_drops choose w start = refl

  do_view_change_drops : (choose : Choice C) (w : ℕ) (vote : Vote C)
      → ◌≡◌ {A = Step C R O} (on_do_view_change choose f me (recovering_site kept acks cell) w vote) (drops (recovering_site kept acks cell) Status)
  unfolding on_do_view_change
  do_view_change_drops choose w vote = refl

  get_state_drops : (from : ℕ) (msg : GetStateMsg)
      → ◌≡◌ {A = Step C R O} (on_get_state f me (recovering_site kept acks cell) from msg) (drops (recovering_site kept acks cell) Status)
  unfolding on_get_state
  get_state_drops from msg = refl

  recovery_drops : (from : ℕ) (msg : RecoveryMsg)
      → ◌≡◌ {A = Step C R O} (on_recovery f me (recovering_site kept acks cell) from msg) (drops (recovering_site kept acks cell) Status)
  unfolding on_recovery
  recovery_drops from msg = refl

  -- all else that may come
  pub others_drop : (choose : Choice C) (actor : ℕ) (msg : MsgOf C R O) → may_send f me actor msg ≡ true
      → ((r : RecoveryResponseOf C) → msg ≡ RecoveryResponse r → ⊥) → ((p : PrepareOf C) → msg ≡ Prepare p → ⊥)
      → ((k : CommitMsg) → msg ≡ Commit k → ⊥) → ((v : StartViewOf C) → msg ≡ StartView v → ⊥) → ((n : NewStateOf C) → msg ≡ NewState n → ⊥)
      → on_message choose f me (recovering_site kept acks cell) actor msg ≡ drops (recovering_site kept acks cell) Status
  others_drop choose actor (Request msg) may a b c d e = request_drops _
  others_drop choose actor (Prepare msg) may a b c d e = absurd (b msg refl)
  others_drop choose actor (PrepareOk msg) may a b c d e = prepare_ok_drops choose _ msg
  others_drop choose actor (Commit msg) may a b c d e = absurd (c msg refl)
  others_drop choose actor (StartViewChange msg) may a b c d e = start_view_change_drops choose msg.view _
  others_drop choose actor (DoViewChange msg) may a b c d e = do_view_change_drops choose msg.view _
  others_drop choose actor (StartView msg) may a b c d e = absurd (d msg refl)
  others_drop choose actor (GetState msg) may a b c d e = get_state_drops _ msg
  others_drop choose actor (NewState msg) may a b c d e = absurd (e msg refl)
  others_drop choose actor (Recovery msg) may a b c d e = recovery_drops _ msg
  others_drop choose actor (RecoveryResponse msg) may a b c d e = absurd (a msg refl)
  others_drop choose actor (Reply msg) may a b c d e = absurd (true≢false (sym may))
  others_drop choose actor (PayOrder order) may a b c d e = absurd (true≢false (sym may))

-- it asks all again
pub beats_is : {C R O : Type 0} (f me : ℕ) (x : Site C)
    → ◌≡◌ {A = Step C R O} (beats_recovering f me x) (does x (to_all f me (Recovery (record { nonce = nonce_of x.cell }))))
unfolding beats_recovering
beats_is f me x = refl

-- its timer is dropped
pub timer_is : {C R O : Type 0} (f me : ℕ) (kept : RecoveringOf C) (acks : List Ack) (cell : Boot)
    → ◌≡◌ {A = Step C R O} (on_timer f me (recovering_site kept acks cell)) (drops (recovering_site kept acks cell) Status)
unfolding on_timer
timer_is f me kept acks cell = refl
