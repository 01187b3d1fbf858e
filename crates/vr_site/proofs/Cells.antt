-- No rule of a running site touches the cell.
use Rattle.std.proofs.Common.{◌≡◌, ℕ, ◌+◌, ◌==◌, ◌&&◌, ◌||◌, Bool, true, false, true≢false, not, nat_lt, nat_le, List, length, take, Option, Some, None, ◌++◌, [], ◌∷◌, if◌then◌else◌, refl, sym, ap, ◌∙◌}
use Rattle.vr_types.specs.declared.event.Status.{Status}
use Rattle.vr_types.specs.declared.event.Status.TheVariants as status
use Rattle.vr_types.specs.declared.event.Why.TheVariants as why
use Rattle.vr_types.specs.declared.limits.TheConstants.{MAX_ROWS}
use Rattle.vr_types.specs.declared.message.MsgOf.{MsgOf}
use Rattle.vr_types.specs.declared.message.MsgOf.TheVariants.{Request, Prepare, PrepareOk, Commit, StartViewChange, DoViewChange, StartView, GetState, NewState, Recovery, RecoveryResponse, Reply, PayOrder}
use Rattle.vr_types.specs.declared.message.PrepareOf.{PrepareOf}
use Rattle.vr_types.specs.declared.message.StartViewOf.{StartViewOf}
use Rattle.vr_types.specs.declared.message.NewStateOf.{NewStateOf}
use Rattle.vr_types.specs.declared.message.Commit.{Commit as CommitMsg}
use Rattle.vr_types.specs.declared.message.GetState.{GetState as GetStateMsg}
use Rattle.vr_types.specs.declared.message.PrepareOk.{PrepareOk as PrepareOkMsg}
use Rattle.vr_types.specs.declared.message.Recovery.{Recovery as RecoveryMsg}
use Rattle.vr_types.specs.declared.row.RowOf.{RowOf}
use Rattle.vr_types.specs.Change.{Part, starts_view, starts_later_view, with_start, with_vote, with_voted, own_vote, sends_vote, votes_where_due, is_to_vote, is_to_open, opens_where_due, on_timer, on_start_view_change, on_do_view_change, on_start_view, beats_in_change}
use Rattle.vr_types.specs.Choice.{Choice}
use Rattle.vr_types.specs.Group.{primary}
use Rattle.vr_types.specs.Handling.{on_message, on_beat}
use Rattle.vr_types.specs.Normal.{on_request, answers_again, with_row, on_prepare, on_commit, on_prepare_ok, beats_normal}
use Rattle.vr_types.specs.Recovery.{on_recovery, on_recovery_response}
use Rattle.vr_types.specs.Rows.{last_of, newest}
use Rattle.vr_types.specs.Site.{Site, Start, Vote, Response, boot_of, has_start, has_vote, is_normal, is_change, is_recovering, is_running}
use Rattle.vr_types.specs.Step.{Step, drops, is_outdated, learns, begins_with_executed, takes_log}
use Rattle.vr_types.specs.Transfer.{on_get_state, on_new_state}
use Rattle.vr_log.proofs.OutcomeLemmas.{running_is_here}

-- the cell is as it was
pub record KeepsCell {C R O : Type 0} (x : Site C) (s : Step C R O) : Type 0 where
  pub same : s.site.cell ≡ x.cell

keeps_if : {C R O : Type 0} (x : Site C) (b : Bool) (p q : Step C R O) → KeepsCell x p → KeepsCell x q → KeepsCell x (if b then p else q)
keeps_if x true p q h k = h
keeps_if x false p q h k = k

starting_keeps : {C : Type 0} (R O : Type 0) (f me : ℕ) (x : Site C) (w : ℕ) (told : List ℕ)
    → (starts_later_view {R = R} {O = O} f me w (learns told x)).site.cell ≡ x.cell
starting_keeps {C} R O f me x w told = by_test (nat_lt x.view w)
  where
    by_test : (b : Bool)
        → (let part : Part C R O = if b then starts_view f me w (learns told x) else record { site = learns told x; sent = [] } in part.site.cell) ≡ x.cell
    by_test true = refl
    by_test false = refl

with_start_keeps : {C : Type 0} (start : Start) (y : Site C) → (with_start start y).cell ≡ y.cell
with_start_keeps {C} start y = by_test (has_start y.collected.starts start.from)
  where
    by_test : (b : Bool) → (if b then y else record y { collected = record (y.collected) { starts = y.collected.starts ++ start ∷ [] } }).cell ≡ y.cell
    by_test true = refl
    by_test false = refl

with_vote_keeps : {C : Type 0} (vote : Vote C) (y : Site C) → (with_vote vote y).cell ≡ y.cell
with_vote_keeps {C} vote y = by_test (has_vote y.collected.votes vote.from)
  where
    by_test : (b : Bool) → (if b then y else record y { collected = record (y.collected) { votes = y.collected.votes ++ vote ∷ [] } }).cell ≡ y.cell
    by_test true = refl
    by_test false = refl

module _ {C R O : Type 0} (f me : ℕ) (x : Site C) where
  request_keeps : (row : RowOf C) → KeepsCell {R = R} {O = O} x (on_request f me x row)
  unfolding on_request
  request_keeps row =
      keeps_if x (not (is_normal x.status)) _ _ (record { same = refl })
      (keeps_if x (not (primary f x.view == me)) _ _ (record { same = refl })
      (keeps_if x (nat_lt (newest x.log row.client) row.number) _ _
      (keeps_if x (length x.log == MAX_ROWS) _ _ (record { same = refl }) (record { same = refl }))
      (again (last_of (take x.done x.log) row.client))))
    where
      again : (last : Option (ℕ × RowOf C)) → KeepsCell {R = R} {O = O} x (answers_again x row.number (newest x.log row.client) last)
      again None = (record { same = refl })
      again (Some last) =
          keeps_if x ((row.number == newest x.log row.client) && (last.1.number == row.number)) _ _ (record { same = refl }) (record { same = refl })

  prepare_keeps : (from : ℕ) (msg : PrepareOf C) → KeepsCell {R = R} {O = O} x (on_prepare f me x from msg)
  unfolding on_prepare
  prepare_keeps from msg =
      keeps_if x (not (primary f msg.view == from)) _ _ (record { same = refl })
      (keeps_if x (is_recovering x.status) _ _ (record { same = refl })
      (keeps_if x (nat_lt msg.view x.view) _ _ (record { same = refl })
      (keeps_if x (nat_lt x.view msg.view || is_change x.status) _ _ (record { same = refl }) (record { same = by_place (msg.place == length x.log + 1) }))))
    where
      by_place : (b : Bool) → (if b then with_row msg.row x else x).cell ≡ x.cell
      by_place true = refl
      by_place false = refl

  commit_keeps : (from : ℕ) (msg : CommitMsg) → KeepsCell {R = R} {O = O} x (on_commit f me x from msg)
  unfolding on_commit
  commit_keeps from msg =
      keeps_if x (not (primary f msg.view == from)) _ _ (record { same = refl })
      (keeps_if x (is_recovering x.status) _ _ (record { same = refl })
      (keeps_if x (nat_lt msg.view x.view) _ _ (record { same = refl })
      (keeps_if x (nat_lt x.view msg.view || is_change x.status) _ _ (record { same = refl }) (record { same = refl }))))

  prepare_ok_keeps : (choose : Choice C) (from : ℕ) (msg : PrepareOkMsg) → KeepsCell {R = R} {O = O} x (on_prepare_ok choose f me x from msg)
  unfolding on_prepare_ok
  prepare_ok_keeps choose from msg =
      keeps_if x (not (is_normal x.status)) _ _ (record { same = refl })
      (keeps_if x (not (msg.view == x.view)) _ _ (record { same = refl })
      (keeps_if x (not (primary f x.view == me)) _ _ (record { same = refl }) (record { same = refl })))

  opening_keeps : (choose : Choice C) (part : Part C R O) → part.site.cell ≡ x.cell → KeepsCell x (opens_where_due choose f me x part)
  opening_keeps choose part h =
      keeps_if x (not (is_to_open f me part.site)) _ _ (record { same = h })
      (keeps_if x (not (begins_with_executed choose.same part.site (choose.pick part.site.collected.votes).log)) _ _
      (record { same = refl }) (record { same = h }))

  voting_keeps : (part : Part C R O) → (votes_where_due f me part).site.cell ≡ part.site.cell
  voting_keeps part = by_tests (not (is_to_vote f me part.site)) (primary f part.site.view == me)
    where
      by_tests : (due here : Bool) → (let p : Part C R O = if due then part
          else if here then record { site = with_vote (own_vote me part.site) (with_voted part.site); sent = part.sent }
          else record { site = with_voted part.site; sent = part.sent ++ sends_vote f me part.site } in p.site.cell) ≡ part.site.cell
      by_tests true here = refl
      by_tests false true = with_vote_keeps (own_vote me part.site) (with_voted part.site)
      by_tests false false = refl

  start_view_change_keeps : (choose : Choice C) (w : ℕ) (start : Start) → KeepsCell {R = R} {O = O} x (on_start_view_change choose f me x w start)
  unfolding on_start_view_change
  start_view_change_keeps choose w start =
      keeps_if x (is_recovering x.status) _ _ (record { same = refl })
      (keeps_if x (nat_lt w x.view) _ _ (record { same = refl })
      (keeps_if x (is_normal x.status && (w == x.view)) _ _ (record { same = refl })
      (keeps_if x (is_outdated x.known start.from start.known) _ _ (record { same = refl })
      (let started = starts_later_view {R = R} {O = O} f me w (learns start.known x) in
      let kept : Part C R O = record started { site = with_start start started.site } in
      opening_keeps choose (votes_where_due f me kept) (voting_keeps kept ∙ with_start_keeps start started.site ∙ starting_keeps R O f me x w start.known)))))

  do_view_change_keeps : (choose : Choice C) (w : ℕ) (vote : Vote C) → KeepsCell {R = R} {O = O} x (on_do_view_change choose f me x w vote)
  unfolding on_do_view_change
  do_view_change_keeps choose w vote =
      keeps_if x (is_recovering x.status) _ _ (record { same = refl })
      (keeps_if x (nat_lt w x.view) _ _ (record { same = refl })
      (keeps_if x (not (primary f w == me)) _ _ (record { same = refl })
      (keeps_if x (is_normal x.status && (w == x.view)) _ _ (record { same = refl })
      (keeps_if x (is_outdated x.known vote.from vote.known) _ _ (record { same = refl })
      (let started = starts_later_view {R = R} {O = O} f me w (learns vote.known x) in
      opening_keeps choose (record started { site = with_vote vote started.site })
      (with_vote_keeps vote started.site ∙ starting_keeps R O f me x w vote.known))))))

  taking_keeps : (choose : Choice C) (w k : ℕ) (log : List (RowOf C)) → KeepsCell {R = R} {O = O} x (takes_log choose f me x w k log)
  taking_keeps choose w k log = keeps_if x (begins_with_executed choose.same x log) _ _ (record { same = refl }) (record { same = refl })

  start_view_keeps : (choose : Choice C) (from : ℕ) (msg : StartViewOf C) → KeepsCell {R = R} {O = O} x (on_start_view choose f me x from msg)
  unfolding on_start_view
  start_view_keeps choose from msg =
      keeps_if x (not (primary f msg.view == from)) _ _ (record { same = refl })
      (keeps_if x (is_recovering x.status) _ _ (record { same = refl })
      (keeps_if x (nat_lt msg.view x.view) _ _ (record { same = refl })
      (keeps_if x (is_normal x.status && (msg.view == x.view)) _ _ (record { same = refl }) (taking_keeps choose msg.view msg.done msg.rows))))

  get_state_keeps : (from : ℕ) (msg : GetStateMsg) → KeepsCell {R = R} {O = O} x (on_get_state f me x from msg)
  unfolding on_get_state
  get_state_keeps from msg =
      keeps_if x (not (is_normal x.status)) _ _ (record { same = refl })
      (keeps_if x (not (msg.view == x.view)) _ _ (record { same = refl })
      (keeps_if x (not (primary f x.view == me)) _ _ (record { same = refl })
      (keeps_if x (nat_lt (length x.log) msg.base) _ _ (record { same = refl }) (record { same = refl }))))

  new_state_keeps : (choose : Choice C) (from : ℕ) (msg : NewStateOf C) → KeepsCell {R = R} {O = O} x (on_new_state choose f me x from msg)
  unfolding on_new_state
  new_state_keeps choose from msg =
      keeps_if x (not (primary f msg.view == from)) _ _ (record { same = refl })
      (keeps_if x (is_recovering x.status) _ _ (record { same = refl })
      (keeps_if x (nat_lt msg.view x.view) _ _ (record { same = refl })
      (keeps_if x (nat_lt MAX_ROWS (msg.base + length msg.rows)) _ _ (record { same = refl })
      (keeps_if x (is_normal x.status && (msg.view == x.view)) _ _
      (keeps_if x (nat_le msg.base (length x.log) && nat_lt (length x.log) (msg.base + length msg.rows)) _ _ (taking_keeps choose msg.view msg.done _)
      (record { same = refl }))
      (keeps_if x (nat_le msg.base x.done && nat_le x.done (msg.base + length msg.rows)) _ _ (taking_keeps choose msg.view msg.done _)
      (record { same = refl }))))))

  recovery_keeps : (from : ℕ) (msg : RecoveryMsg) → KeepsCell {R = R} {O = O} x (on_recovery f me x from msg)
  unfolding on_recovery
  recovery_keeps from msg =
      keeps_if x (not (is_normal x.status)) _ _ (record { same = refl })
      (keeps_if x (nat_lt msg.nonce (boot_of x.known from)) _ _ (record { same = refl }) (record { same = refl }))

  -- a running site takes no response
  pub response_drops : (choose : Choice C) (nonce : ℕ) (response : Response C) → is_running x.status ≡ true
      → ◌≡◌ {A = Step C R O} (on_recovery_response choose x nonce response) (drops x why.Status)
  unfolding on_recovery_response
  response_drops choose nonce response up = rw (running_is_here x.status up)

  pub message_keeps : (choose : Choice C) → is_running x.status ≡ true → (actor : ℕ) (msg : MsgOf C R O) → KeepsCell x (on_message choose f me x actor msg)
  message_keeps choose up actor (Request msg) = request_keeps _
  message_keeps choose up actor (Prepare msg) = prepare_keeps _ msg
  message_keeps choose up actor (PrepareOk msg) = prepare_ok_keeps choose _ msg
  message_keeps choose up actor (Commit msg) = commit_keeps _ msg
  message_keeps choose up actor (StartViewChange msg) = start_view_change_keeps choose msg.view _
  message_keeps choose up actor (DoViewChange msg) = do_view_change_keeps choose msg.view _
  message_keeps choose up actor (StartView msg) = start_view_keeps choose _ msg
  message_keeps choose up actor (GetState msg) = get_state_keeps _ msg
  message_keeps choose up actor (NewState msg) = new_state_keeps choose _ msg
  message_keeps choose up actor (Recovery msg) = recovery_keeps _ msg
  message_keeps choose up actor (RecoveryResponse msg) = record { same = ap (λ (s : Step C R O). s.site.cell) (response_drops choose msg.nonce _ up) }
  message_keeps choose up actor (Reply msg) = record { same = refl }
  message_keeps choose up actor (PayOrder order) = record { same = refl }

  pub timer_keeps : KeepsCell {R = R} {O = O} x (on_timer f me x)
  unfolding on_timer
  timer_keeps = keeps_if x (is_recovering x.status) _ _ (record { same = refl }) (record { same = refl })

  beat_normal_keeps : KeepsCell {R = R} {O = O} x (beats_normal f me x)
  unfolding beats_normal
  beat_normal_keeps = keeps_if x (primary f x.view == me) _ _ (record { same = refl }) (record { same = refl })

  beat_in_change_keeps : KeepsCell {R = R} {O = O} x (beats_in_change f me x)
  unfolding beats_in_change
  beat_in_change_keeps = record { same = refl }

  pub beat_keeps : (s : Status) → is_running s ≡ true → KeepsCell {R = R} {O = O} x (on_beat f me x s)
  beat_keeps status.Normal up = beat_normal_keeps
  beat_keeps status.Change up = beat_in_change_keeps
  beat_keeps status.Recovering up = absurd (true≢false (sym up))
  beat_keeps status.Down up = absurd (true≢false (sym up))
