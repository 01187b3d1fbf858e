-- The order of events: by clock, and then by actor number.
use Rattle.std.proofs.Common.{◌≡◌, ◌≢◌, inl, inr, ℕ, zero, suc, ◌+◌, ◌<◌, ◌≤◌, List, [], ◌∷◌, length, get_or, Option, Some, None, slice_get, slice_index, refl, sym, ap, subst, ◌∙◌, arith}
use Rattle.std.proofs.lemmas.Bool.{cases_order}
use Rattle.std.proofs.lemmas.Option.{slice_get_within}
use Rattle.pvp_rooms.specs.declared.message.Recorded.{Recorded}
use Rattle.pvp_rooms.specs.Histories.{IsRising}
use Rattle.pvp_rooms.specs.declared.cell.Closed.{Closed}
use Rattle.pvp_rooms.specs.Runs.{history_in, history_of, AreInOrder, IsBefore}
use Rattle.pvp_rooms.specs.Verdicts.{ClocksRise}
use Rattle.pvp_rooms.specs.Merging.{IsNextActor}

pub same_some : {X : Type 0} (x y : X) → Some x ≡ Some y → x ≡ y
same_some x y e = cc

above_last : {E O : Type 0} (h : List (Recorded E O)) (last j : ℕ) (s : Recorded E O) → IsRising h last → slice_get h j ≡ Some s → last < s.clock
above_last [] last j s rising e = cc
above_last (r ∷ rs) last zero s rising e = subst (λ (t : Recorded _ _). last < t.clock) (same_some r s e) rising.0
above_last (r ∷ rs) last (suc j) s rising e =
    let more = above_last rs r.clock j s rising.2 e in
    let first = rising.0 in
    omega (arith, more, first)

-- of two events of an actor the later has the greater clock
pub apart : {E O : Type 0} (h : List (Recorded E O)) (last i j : ℕ) (r s : Recorded E O) → IsRising h last → i < j → slice_get h i ≡ Some r
    → slice_get h j ≡ Some s → r.clock < s.clock
apart [] last i j r s rising below e f = cc
apart (x ∷ xs) last i zero r s rising below e f = absurd (omega (arith, below))
apart (x ∷ xs) last zero (suc j) r s rising below e f = subst (λ (t : Recorded _ _). t.clock < s.clock) (same_some x r e) (above_last xs x.clock j s rising.2 f)
apart (x ∷ xs) last (suc i) (suc j) r s rising below e f = apart xs x.clock i j r s rising.2 (omega (arith, below)) e f

-- there is an actor where there is an event
pub who_took : {A N E O : Type 0} (closed : List (Closed A N E O)) (j i : ℕ) (r : Recorded E O) → slice_get (history_of closed j) i ≡ Some r
    → (c : Closed A N E O) × (slice_get closed j ≡ Some c) × (slice_get c.history.items i ≡ Some r)
who_took {A = A} {N = N} {E = E} {O = O} closed j i r e = go (slice_get closed j) refl
  where
    go : (o : Option (Closed A N E O)) → slice_get closed j ≡ o → (c : Closed A N E O) × (slice_get closed j ≡ Some c) × (slice_get c.history.items i ≡ Some r)
    go None is = let none : None ≡ Some r = ap (λ o. slice_get (history_in o) i) (sym is) ∙ e in cc
    go (Some c) is = (c, is, ap (λ o. slice_get (history_in o) i) (sym is) ∙ e)

module _ {A N E O : Type 0} (closed : List (Closed A N E O)) (clocks : ClocksRise closed) where
  -- a later event of the same actor, or the same, has no lesser clock
  pub no_lower : (j i k : ℕ) (r s : Recorded E O) → i ≤ k → slice_get (history_of closed j) i ≡ Some r → slice_get (history_of closed j) k ≡ Some s
      → r.clock ≤ s.clock
  no_lower j i k r s below e f = elim (cases_order i k) [
    | inl same ↦ (let one : r ≡ s = same_some r s (sym e ∙ ap (slice_get (history_of closed j)) same ∙ f) in
        let c : r.clock ≡ s.clock = ap (λ (t : Recorded E O). t.clock) one in omega (arith, c))
    | inr w ↦ elim w [
      | inl less ↦ (let a = greater j i k r s less e f in omega (arith, a))
      | inr more ↦ absurd (omega (arith, more, below))
    ]
  ]
    where
      greater : (j i k : ℕ) (r s : Recorded E O) → i < k → slice_get (history_of closed j) i ≡ Some r → slice_get (history_of closed j) k ≡ Some s
          → r.clock < s.clock
      greater j i k r s less e f =
          let w = who_took closed j i r e in
          let f2 : slice_get w.0.history.items k ≡ Some s = ap (λ o. slice_get (history_in o) k) (sym w.1) ∙ f in
          apart w.0.history.items 0 i k r s (clocks j w.0 w.1) less w.2 f2

  pub is_greater : (j i k : ℕ) (r s : Recorded E O) → i < k → slice_get (history_of closed j) i ≡ Some r → slice_get (history_of closed j) k ≡ Some s
      → r.clock < s.clock
  is_greater j i k r s less e f =
      let w = who_took closed j i r e in
      let f2 : slice_get w.0.history.items k ≡ Some s = ap (λ o. slice_get (history_in o) k) (sym w.1) ∙ f in
      apart w.0.history.items 0 i k r s (clocks j w.0 w.1) less w.2 f2

  module _ (at : List ℕ) (k : ℕ) (next : IsNextActor closed at k) where
    -- there is a next event of an actor that has a later one
    head_of : (j i : ℕ) (r : Recorded E O) → slice_index at j ≤ i → slice_get (history_of closed j) i ≡ Some r
        → (q : Recorded E O) × (slice_get (history_of closed j) (slice_index at j) ≡ Some q)
    head_of j i r low e =
        let w = slice_get_within (history_of closed j) i r e in (
          get_or (history_of closed j) (slice_index at j) r,
          slice_get_got (history_of closed j) (slice_index at j) r (omega (arith, w, low)),
        )
      where
        slice_get_got : {X : Type 0} (xs : List X) (i : ℕ) (d : X) → i < length xs → slice_get xs i ≡ Some (get_or xs i d)
        slice_get_got [] i d h = absurd (omega (arith, h))
        slice_get_got (x ∷ xs) zero d h = refl
        slice_get_got (x ∷ xs) (suc i) d h = slice_get_got xs i d (omega (arith, h))

    -- no event that is left comes before the next one
    pub not_earlier : (j i : ℕ) (r : Recorded E O) → slice_index at j ≤ i → slice_get (history_of closed j) i ≡ Some r
        → ¬ IsBefore closed (record { by = j; what = r }) (record { by = k; what = next.what })
    not_earlier j i r low e early =
        let q = head_of j i r low e in
        let least = no_lower j (slice_index at j) i q.0 r low q.1 e in
        let no = next.first j q.0 q.1 in
        elim early [
          | inl less ↦ no (inl (omega (arith, less, least)))
          | inr w ↦ elim (cases_order q.0.clock next.what.clock) [
            | inl same ↦ no (inr (same, w.1))
            | inr v ↦ elim v [
              | inl less ↦ no (inl less)
              | inr more ↦ (let s = w.0 in absurd (omega (arith, s, more, least)))
            ]
          ]
        ]

    -- every other event that is left comes after it
    pub is_after : AreInOrder closed → (j i : ℕ) (r : Recorded E O) → k ≢ j → slice_index at j ≤ i → slice_get (history_of closed j) i ≡ Some r
        → IsBefore closed (record { by = k; what = next.what }) (record { by = j; what = r })
    is_after order j i r other low e =
        let no = not_earlier j i r low e in
        let w = who_took closed j i r e in
        let within = slice_get_within closed j w.0 w.1 in
        elim (cases_order next.what.clock r.clock) [
          | inl same ↦ elim (cases_order k j) [
            | inl one ↦ absurd (other one)
            | inr v ↦ elim v [
              | inl less ↦ inr (same, order k j less within)
              | inr more ↦ absurd (no (inr (sym same, order j k more next.within)))
            ]
          ]
          | inr u ↦ elim u [
            | inl less ↦ inl less
            | inr more ↦ absurd (no (inl more))
          ]
        ]

    pub is_after_own : (i : ℕ) (r : Recorded E O) → slice_index at k + 1 ≤ i → slice_get (history_of closed k) i ≡ Some r
        → IsBefore closed (record { by = k; what = next.what }) (record { by = k; what = r })
    is_after_own i r low e = inl (is_greater k (slice_index at k) i next.what r (omega (arith, low)) next.next e)
