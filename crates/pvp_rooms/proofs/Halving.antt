-- Where keys rise, what has a key is found by halving.
use Rattle.std.proofs.Common.{◌≡◌, ℕ, ◌<◌, List, length, get_or, Some, slice_get, true, false, ap, inl, inr, arith}
use Rattle.std.specs.List.Sorted.{IsNonDecreasingBy, IsPartitionPoint}
use Rattle.std.proofs.lemmas.Bool.{cases_order, ltb-true, ltb-false}
use Rattle.std.proofs.lemmas.Option.{slice_get_within, slice_get-get_or, get_or_from_slice_get}
use lib.Dec.{ltb}
use Rattle.pvp_rooms.specs.declared.message.Recorded.{Recorded}
use Rattle.pvp_rooms.specs.Histories.{IsRising}
use Rattle.pvp_rooms.specs.declared.cell.Closed.{Closed}
use Rattle.pvp_rooms.specs.Runs.{number_in, AreInOrder}
use Rattle.pvp_rooms.specs.Named.{IsPlaceOf}
use Rattle.pvp_rooms.proofs.Order.{apart}

-- of two items the later has the greater key
abbrev pub Rises : {X : Type 0} → (X → ℕ) → List X → Type 0
Rises {X} key xs = (i j : ℕ) (x y : X) → i < j → slice_get xs i ≡ Some x → slice_get xs j ≡ Some y → key x < key y

module _ {X : Type 0} (key : X → ℕ) (xs : List X) (rises : Rises key xs) where
  pub rises-sorted : IsNonDecreasingBy key xs
  rises-sorted i j d low within = elim (cases_order i j) [
    | inl same ↦ (let e : key (get_or xs i d) ≡ key (get_or xs j d) = ap (λ n. key (get_or xs n d)) same in omega (arith, e))
    | inr w ↦ elim w [
      | inl less ↦
          (let a = rises i j (get_or xs i d) (get_or xs j d) less (slice_get-get_or xs i d (omega (arith, less, within))) (slice_get-get_or xs j d within) in
          omega (arith, a))
      | inr more ↦ absurd (omega (arith, more, low))
    ]
  ]

  pub is_found : (at t : ℕ) → IsPartitionPoint (λ y. ltb (key y) t ≡ true) (λ y. ltb (key y) t ≡ false) xs at → IsPlaceOf key xs t at
  is_found at t parted place x is same = elim (cases_order place at) [
    | inl e ↦ e
    | inr w ↦ elim w [
      | inl less ↦ (let below = ltb-true (key (get_or xs place x)) t (parted.0 place x (omega arith) less) in absurd (omega (arith, below, here, same)))
      | inr more ↦
          (let there = slice_get-get_or xs at x (omega (arith, more, within)) in
          let above = ltb-false (key (get_or xs at x)) t (parted.1 at x (omega arith) (omega (arith, more, within))) in
          let less = rises at place (get_or xs at x) x more there is in
          absurd (omega (arith, above, less, same)))
    ]
  ]
    where
      within : place < length xs
      within = slice_get_within xs place x is

      here : key (get_or xs place x) ≡ key x
      here = ap key (get_or_from_slice_get xs place x x is)

-- clocks rise in a history
pub clocks_rise : {E O : Type 0} (history : List (Recorded E O)) → IsRising history 0 → Rises (λ r. r.clock) history
clocks_rise history rising i j r s less is there = apart history 0 i j r s rising less is there

-- numbers rise in a list of actors
pub numbers_rise : {A N E O : Type 0} (closed : List (Closed A N E O)) → AreInOrder closed → Rises (λ c. c.number) closed
numbers_rise closed order i j c d less is there =
    let w = slice_get_within closed j d there in
    let below = order i j less w in
    let a = ap number_in is in
    let b = ap number_in there in
    omega (arith, below, a, b)
