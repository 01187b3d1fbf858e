-- Which case of a rule it is.
use Rattle.std.proofs.Common.{append-nil, ◌≡◌, ◌≢◌, ℕ, ◌+◌, ◌<◌, ◌≤◌, ◌==◌, ◌&&◌, List, [], ◌∷◌, ◌++◌, length, max, min, take, drop, Bool, true, false, not, nat_lt, nat_le, if◌then◌else◌, refl, ap, ◌∙◌, eq-eqb}
use Rattle.std.proofs.lemmas.Bool.{lt-ltb, le-ltb, ne_eqb}
use Rattle.vr_types.specs.declared.event.Status.TheVariants.{Change}
use Rattle.vr_types.specs.declared.event.Why.TheVariants.{Status, View, NotPrimary, Known, Stale}
use Rattle.vr_types.specs.declared.limits.TheConstants.{MAX_ROWS}
use Rattle.vr_types.specs.declared.message.EnvelopeOf.{EnvelopeOf}
use Rattle.vr_types.specs.declared.message.MsgOf.TheVariants.{PrepareOk, StartViewChange, NewState}
use Rattle.vr_types.specs.declared.message.StartViewOf.{StartViewOf}
use Rattle.vr_types.specs.declared.message.NewStateOf.{NewStateOf}
use Rattle.vr_types.specs.declared.message.GetState.{GetState as GetStateMsg}
use Rattle.vr_types.specs.declared.row.RowOf.{RowOf}
use Rattle.vr_types.specs.Choice.{Choice}
use Rattle.vr_types.specs.Group.{primary, mail, to_all}
use Rattle.vr_types.specs.Site.{Site, Start, Vote, nothing, is_normal, is_recovering}
use Rattle.vr_types.specs.Step.{Step, does, drops, is_outdated, learns, begins_with_executed, takes_log}
use Rattle.vr_types.specs.Change.{on_timer, on_start_view_change, on_do_view_change, beats_in_change, on_start_view, sends_vote, starts_later_view, with_start, with_vote, votes_where_due, opens_where_due}
use Rattle.vr_types.specs.Transfer.{on_get_state, on_new_state}
use Rattle.vr_change.specs.Fits.{rows_fit}
use Rattle.vr_change.proofs.Sites.{normal_with}

module _ {C R O : Type 0} (f me : ℕ) (x : Site C) where
  pub on_timer-is : is_recovering x.status ≡ false
      → ◌≡◌ {A = Step C R O} (on_timer f me x) (does (record x { status = Change; view = x.view + 1; collected = nothing })
      (to_all f me (StartViewChange (record { view = x.view + 1; known = x.known }))))
  unfolding on_timer
  on_timer-is e = rw e

  pub beats_in_change-is : (more : List (EnvelopeOf C R O)) → (if x.collected.voted && not (primary f x.view == me) then sends_vote f me x else []) ≡ more
      → ◌≡◌ {A = Step C R O} (beats_in_change f me x) (does x (to_all f me (StartViewChange (record { view = x.view; known = x.known })) ++ more))
  unfolding beats_in_change
  beats_in_change-is more e = ap (λ l. let s : Step C R O = does x (to_all f me (StartViewChange (record { view = x.view; known = x.known })) ++ l) in s) e

  pub beats_in_change-votes : x.collected.voted ≡ true → (primary f x.view == me) ≡ false
      → ◌≡◌ {A = Step C R O} (beats_in_change f me x) (does x (to_all f me (StartViewChange (record { view = x.view; known = x.known })) ++ sends_vote f me x))
  beats_in_change-votes v p =
      beats_in_change-is (sends_vote f me x) (ap (λ b. if b && not (primary f x.view == me) then sends_vote f me x else []) v
      ∙ ap (λ b. if not b then sends_vote f me x else []) p)

  pub beats_in_change-silent : (x.collected.voted && not (primary f x.view == me)) ≡ false
      → ◌≡◌ {A = Step C R O} (beats_in_change f me x) (does x (to_all f me (StartViewChange (record { view = x.view; known = x.known }))))
  beats_in_change-silent v =
      beats_in_change-is [] (ap (λ b. if b then sends_vote f me x else []) v) ∙ ap (λ l. let s : Step C R O = does x l in
      s) (append-nil (to_all f me (StartViewChange (record { view = x.view; known = x.known }))))

  pub on_get_state-status : (from : ℕ) (msg : GetStateMsg) → is_normal x.status ≡ false → ◌≡◌ {A = Step C R O} (on_get_state f me x from msg) (drops x Status)
  unfolding on_get_state
  on_get_state-status from msg e = rw e

  pub on_get_state-view : (from : ℕ) (msg : GetStateMsg) → is_normal x.status ≡ true → msg.view ≢ x.view
      → ◌≡◌ {A = Step C R O} (on_get_state f me x from msg) (drops x View)
  unfolding on_get_state
  on_get_state-view from msg e other = rw (e, ne_eqb _ _ other)

  pub on_get_state-backup : (from : ℕ) (msg : GetStateMsg) → is_normal x.status ≡ true → msg.view ≡ x.view → (primary f x.view == me) ≡ false
      → ◌≡◌ {A = Step C R O} (on_get_state f me x from msg) (drops x NotPrimary)
  unfolding on_get_state
  on_get_state-backup from msg e same p = rw (e, eq-eqb _ _ same, p)

  pub on_get_state-stale : (from : ℕ) (msg : GetStateMsg) → is_normal x.status ≡ true → msg.view ≡ x.view → (primary f x.view == me) ≡ true
      → length x.log < msg.base → ◌≡◌ {A = Step C R O} (on_get_state f me x from msg) (drops x Stale)
  unfolding on_get_state
  on_get_state-stale from msg e same p short = rw (e, eq-eqb _ _ same, p, lt-ltb _ _ short)

  pub on_get_state-mine : (from : ℕ) (msg : GetStateMsg) → is_normal x.status ≡ true → msg.view ≡ x.view → (primary f x.view == me) ≡ true
      → msg.base ≤ length x.log
      → ◌≡◌ {A = Step C R O} (on_get_state f me x from msg)
      (does x (mail me from (NewState (record { view = x.view; base = msg.base; done = x.done; rows = drop msg.base x.log })) ∷ []))
  unfolding on_get_state
  on_get_state-mine from msg e same p long = rw (e, eq-eqb _ _ same, p, le-ltb _ _ long)

module _ {C R O : Type 0} (choose : Choice C) (f me : ℕ) (x : Site C) where
  pub on_start_view-leader : (from : ℕ) (msg : StartViewOf C) → (primary f msg.view == from) ≡ false
      → ◌≡◌ {A = Step C R O} (on_start_view choose f me x from msg) (drops x NotPrimary)
  unfolding on_start_view
  on_start_view-leader from msg p = rw p

  pub on_start_view-view : (from : ℕ) (msg : StartViewOf C) → (primary f msg.view == from) ≡ true → is_recovering x.status ≡ false → msg.view < x.view
      → ◌≡◌ {A = Step C R O} (on_start_view choose f me x from msg) (drops x View)
  unfolding on_start_view
  on_start_view-view from msg p e old = rw (p, e, lt-ltb _ _ old)

  pub on_start_view-known : (from : ℕ) (msg : StartViewOf C) → (primary f msg.view == from) ≡ true → is_recovering x.status ≡ false → x.view ≤ msg.view
      → (is_normal x.status && (msg.view == x.view)) ≡ true
      → ◌≡◌ {A = Step C R O} (on_start_view choose f me x from msg) (drops x Known)
  unfolding on_start_view
  on_start_view-known from msg p e new here = rw (p, e, le-ltb _ _ new, here)

  pub on_start_view-takes : (from : ℕ) (msg : StartViewOf C) → (primary f msg.view == from) ≡ true → is_recovering x.status ≡ false → x.view ≤ msg.view
      → (is_normal x.status && (msg.view == x.view)) ≡ false
      → ◌≡◌ {A = Step C R O} (on_start_view choose f me x from msg) (takes_log choose f me x msg.view msg.done msg.rows)
  unfolding on_start_view
  on_start_view-takes from msg p e new here = rw (p, e, le-ltb _ _ new, here)

  pub on_new_state-leader : (from : ℕ) (msg : NewStateOf C) → (primary f msg.view == from) ≡ false
      → ◌≡◌ {A = Step C R O} (on_new_state choose f me x from msg) (drops x NotPrimary)
  unfolding on_new_state
  on_new_state-leader from msg p = rw p

  pub on_new_state-view : (from : ℕ) (msg : NewStateOf C) → (primary f msg.view == from) ≡ true → is_recovering x.status ≡ false → msg.view < x.view
      → ◌≡◌ {A = Step C R O} (on_new_state choose f me x from msg) (drops x View)
  unfolding on_new_state
  on_new_state-view from msg p e old = rw (p, e, lt-ltb _ _ old)

  on_new_state-is : (from : ℕ) (msg : NewStateOf C) → (primary f msg.view == from) ≡ true → is_recovering x.status ≡ false → x.view ≤ msg.view
      → ◌≡◌ {A = Step C R O} (on_new_state choose f me x from msg) (if rows_fit x msg.view msg.base (length msg.rows)
      then takes_log choose f me x msg.view msg.done (take msg.base x.log ++ msg.rows) else drops x Stale)
  unfolding on_new_state
  on_new_state-is from msg p e new = rw (p, e, le-ltb _ _ new)
      (by_tests (nat_lt MAX_ROWS (msg.base + length msg.rows)) (is_normal x.status && (msg.view == x.view))
      (nat_le msg.base (length x.log) && nat_lt (length x.log) (msg.base + length msg.rows))
      (nat_le msg.base x.done && nat_le x.done (msg.base + length msg.rows)) (takes_log choose f me x msg.view msg.done (take msg.base x.log ++ msg.rows))
      (drops x Stale))
    where
      by_tests : (a b c d : Bool) (s t : Step C R O)
          → (if a then t else if b then (if c then s else t) else (if d then s else t)) ≡ (if not a && (if b then c else d) then s else t)
      by_tests true b c d s t = refl
      by_tests false true c d s t = refl
      by_tests false false c d s t = refl

  pub on_new_state-stale : (from : ℕ) (msg : NewStateOf C) → (primary f msg.view == from) ≡ true → is_recovering x.status ≡ false → x.view ≤ msg.view
      → rows_fit x msg.view msg.base (length msg.rows) ≡ false
      → ◌≡◌ {A = Step C R O} (on_new_state choose f me x from msg) (drops x Stale)
  on_new_state-stale from msg p e new fit =
      on_new_state-is from msg p e new ∙ ap (λ b.
      let s : Step C R O = if b then takes_log choose f me x msg.view msg.done (take msg.base x.log ++ msg.rows) else drops x Stale in s) fit

  pub on_new_state-takes : (from : ℕ) (msg : NewStateOf C) → (primary f msg.view == from) ≡ true → is_recovering x.status ≡ false → x.view ≤ msg.view
      → rows_fit x msg.view msg.base (length msg.rows) ≡ true
      → ◌≡◌ {A = Step C R O} (on_new_state choose f me x from msg) (takes_log choose f me x msg.view msg.done (take msg.base x.log ++ msg.rows))
  on_new_state-takes from msg p e new fit =
      on_new_state-is from msg p e new ∙ ap (λ b.
      let s : Step C R O = if b then takes_log choose f me x msg.view msg.done (take msg.base x.log ++ msg.rows) else drops x Stale in s) fit

  pub on_start_view_change-view : (w : ℕ) (start : Start) → is_recovering x.status ≡ false → w < x.view
      → ◌≡◌ {A = Step C R O} (on_start_view_change choose f me x w start) (drops x View)
  unfolding on_start_view_change
  on_start_view_change-view w start e old = rw (e, lt-ltb _ _ old)

  pub on_start_view_change-here : (w : ℕ) (start : Start) → is_recovering x.status ≡ false → x.view ≤ w → (is_normal x.status && (w == x.view)) ≡ true
      → ◌≡◌ {A = Step C R O} (on_start_view_change choose f me x w start) (drops x Status)
  unfolding on_start_view_change
  on_start_view_change-here w start e new here = rw (e, le-ltb _ _ new, here)

  pub on_start_view_change-stale : (w : ℕ) (start : Start) → is_recovering x.status ≡ false → x.view ≤ w → (is_normal x.status && (w == x.view)) ≡ false
      → is_outdated x.known start.from start.known ≡ true
      → ◌≡◌ {A = Step C R O} (on_start_view_change choose f me x w start) (drops x Stale)
  unfolding on_start_view_change
  on_start_view_change-stale w start e new here old = rw (e, le-ltb _ _ new, here, old)

  pub on_start_view_change-is : (w : ℕ) (start : Start) → is_recovering x.status ≡ false → x.view ≤ w → (is_normal x.status && (w == x.view)) ≡ false
      → is_outdated x.known start.from start.known ≡ false
      → ◌≡◌ {A = Step C R O} (on_start_view_change choose f me x w start)
      (let part = starts_later_view f me w (learns start.known x) in
      opens_where_due choose f me x (votes_where_due f me (record { site = with_start start part.site; sent = part.sent })))
  unfolding on_start_view_change
  on_start_view_change-is w start e new here current = rw (e, le-ltb _ _ new, here, current)

  pub on_do_view_change-view : (w : ℕ) (vote : Vote C) → is_recovering x.status ≡ false → w < x.view
      → ◌≡◌ {A = Step C R O} (on_do_view_change choose f me x w vote) (drops x View)
  unfolding on_do_view_change
  on_do_view_change-view w vote e old = rw (e, lt-ltb _ _ old)

  pub on_do_view_change-backup : (w : ℕ) (vote : Vote C) → is_recovering x.status ≡ false → x.view ≤ w → (primary f w == me) ≡ false
      → ◌≡◌ {A = Step C R O} (on_do_view_change choose f me x w vote) (drops x NotPrimary)
  unfolding on_do_view_change
  on_do_view_change-backup w vote e new p = rw (e, le-ltb _ _ new, p)

  pub on_do_view_change-here : (w : ℕ) (vote : Vote C) → is_recovering x.status ≡ false → x.view ≤ w → (primary f w == me) ≡ true
      → (is_normal x.status && (w == x.view)) ≡ true → ◌≡◌ {A = Step C R O} (on_do_view_change choose f me x w vote) (drops x Status)
  unfolding on_do_view_change
  on_do_view_change-here w vote e new p here = rw (e, le-ltb _ _ new, p, here)

  pub on_do_view_change-stale : (w : ℕ) (vote : Vote C) → is_recovering x.status ≡ false → x.view ≤ w → (primary f w == me) ≡ true
      → (is_normal x.status && (w == x.view)) ≡ false → is_outdated x.known vote.from vote.known ≡ true
      → ◌≡◌ {A = Step C R O} (on_do_view_change choose f me x w vote) (drops x Stale)
  unfolding on_do_view_change
  on_do_view_change-stale w vote e new p here old = rw (e, le-ltb _ _ new, p, here, old)

  pub on_do_view_change-is : (w : ℕ) (vote : Vote C) → is_recovering x.status ≡ false → x.view ≤ w → (primary f w == me) ≡ true
      → (is_normal x.status && (w == x.view)) ≡ false → is_outdated x.known vote.from vote.known ≡ false
      → ◌≡◌ {A = Step C R O} (on_do_view_change choose f me x w vote)
      (let part = starts_later_view f me w (learns vote.known x) in
      opens_where_due choose f me x (record { site = with_vote vote part.site; sent = part.sent }))
  unfolding on_do_view_change
  on_do_view_change-is w vote e new p here current = rw (e, le-ltb _ _ new, p, here, current)

module _ {C R O : Type 0} (choose : Choice C) (f me : ℕ) (x : Site C) (w k : ℕ) (log : List (RowOf C)) where
  pub takes_log-stale : begins_with_executed choose.same x log ≡ false → ◌≡◌ {A = Step C R O} (takes_log choose f me x w k log) (drops x Stale)
  takes_log-stale e = rw e

  pub takes_log-is : (more : List (EnvelopeOf C R O)) → begins_with_executed choose.same x log ≡ true
      → (if nat_lt (max x.done (min k (length log))) (length log) then mail me (primary f w) (PrepareOk (record { view = w; place = length log })) ∷ [] else [])
      ≡ more
      → ◌≡◌ {A = Step C R O} (takes_log choose f me x w k log) (does (normal_with w (max x.done (min k (length log))) log x.known x.cell) more)
  takes_log-is more e d = rw e (ap (λ l. let s : Step C R O = does (normal_with w (max x.done (min k (length log))) log x.known x.cell) l in s) d)

  pub takes_log-rest : begins_with_executed choose.same x log ≡ true → max x.done (min k (length log)) < length log
      → ◌≡◌ {A = Step C R O} (takes_log choose f me x w k log)
      (does (normal_with w (max x.done (min k (length log))) log x.known x.cell)
      (mail me (primary f w) (PrepareOk (record { view = w; place = length log })) ∷ []))
  takes_log-rest e left =
      takes_log-is (mail me (primary f w) (PrepareOk (record { view = w; place = length log })) ∷ []) e
      (ap (λ b. if b then mail me (primary f w) (PrepareOk (record { view = w; place = length log })) ∷ [] else []) (lt-ltb _ _ left))

  pub takes_log-all : begins_with_executed choose.same x log ≡ true → length log ≤ max x.done (min k (length log))
      → ◌≡◌ {A = Step C R O} (takes_log choose f me x w k log) (does (normal_with w (max x.done (min k (length log))) log x.known x.cell) [])
  takes_log-all e all =
      takes_log-is [] e (ap (λ b. if b then mail me (primary f w) (PrepareOk (record { view = w; place = length log })) ∷ [] else []) (le-ltb _ _ all))
