-- Things with numbers, of which no two are the same.
use Rattle.std.proofs.Common.{◌||◌, ◌≡◌, ℕ, suc, ◌<◌, ◌≤◌, ◌==◌, eqb, Bool, false, List, [], ◌∷◌, length, map, take, get_or, slice_get, Some, IsPermutation, refl, sym, ap, ◌∙◌, arith, inl, inr, length-take, zero, true≢false}
use Rattle.std.specs.List.{list_any, IsDistinct}
use Rattle.std.specs.List.Sorted.{IsNonDecreasingBy, IsNonDecreasing}
use Rattle.std.proofs.lemmas.Bool.{cases_Bool}
use Rattle.std.proofs.lemmas.Bool.Decides.{nat_tests}
use Rattle.std.proofs.lemmas.List.{length-map, get_or-map, get_or-take}
use Rattle.std.proofs.lemmas.Option.{get_or_from_slice_get}
use Rattle.std.proofs.lemmas.List.Folds.{list_any_at}
use Rattle.std.proofs.lemmas.Map.Keys.{IsDistinct-from_apart, IsDistinct-IsPermutation, IsStrictlyIncreasing-from_distinct, sorted_from_strictly_increasing}
use Rattle.pvp_audit.proofs.Rising.{has, RisesFrom, rises}

-- a number in a list of things that have one
pub any_map : {X : Type 0} (number : X → ℕ) (n : ℕ) (xs : List X) → list_any (λ x. number x == n) xs ≡ has n (map number xs)
any_map number n [] = refl
any_map number n (x ∷ xs) = ap (λ (b : Bool). number x == n || b) (any_map number n xs)

-- none before has the same number
abbrev pub AreNew : {X : Type 0} → (X → ℕ) → List X → Type 0
AreNew {X} number xs = (k : ℕ) (x : X) → slice_get xs k ≡ Some x → list_any (λ y. number y == number x) (take k xs) ≡ false

pub there_is : {X : Type 0} (xs : List X) (i : ℕ) → i < length xs → (x : X) × (slice_get xs i ≡ Some x)
there_is [] i low = absurd (omega arith)
there_is (x ∷ xs) zero low = (x, refl)
there_is (x ∷ xs) (suc i) low = there_is xs i (omega arith)

pub new_differ : {X : Type 0} (number : X → ℕ) (xs : List X) → AreNew number xs → IsDistinct eqb (map number xs)
new_differ {X} number xs new = IsDistinct-from_apart eqb (map number xs) (λ i j d less within. apart i j d less (omega (arith, within, length-map xs number)))
  where
    apart : (i j d : ℕ) → i < j → j < length xs → eqb (get_or (map number xs) i d) (get_or (map number xs) j d) ≡ false
    apart i j d less within =
        let c = there_is xs j within in
        let x = c.0 in
        let first : get_or (map number xs) i d ≡ number (get_or xs i x) = get_or-map number xs i x d (omega (arith, less, within)) in
        let second : get_or (map number xs) j d ≡ number x = get_or-map number xs j x d within ∙ ap number (get_or_from_slice_get xs j x x c.1) in
        elim (cases_Bool (eqb (number (get_or xs i x)) (number x))) [
          | inl e ↦ absurd (true≢false (sym (list_any_at (λ y. number y == number x) (take j xs) i x (omega (arith, length-take j xs, less, within))
              (ap (λ (y : X). number y == number x) (get_or-take j xs i x less) ∙ e)) ∙ new j x c.1))
          | inr e ↦ rw (first, second) e
        ]

-- the numbers of such things, put in order, rise
pub ordered_rise : {X Y : Type 0} (number : X → ℕ) (called : Y → ℕ) (xs : List X) (ys : List Y) → AreNew number xs
    → IsPermutation (map number xs) (map called ys) → IsNonDecreasingBy called ys → RisesFrom 0 (map called ys)
ordered_rise {X} {Y} number called xs ys new same order =
    rises 0 (map called ys) (sorted_from_strictly_increasing (map called ys) (IsStrictlyIncreasing-from_distinct (map called ys) rise differ)) (omega arith)
  where
    differ : IsDistinct eqb (map called ys)
    differ = IsDistinct-IsPermutation eqb (λ m n. flips m n) (map number xs) (map called ys) same (new_differ number xs new)
      where
        flips : (m n : ℕ) → eqb m n ≡ eqb n m
        flips m n = grind (arith, nat_tests)

    rise : IsNonDecreasing (map called ys)
    rise i j d le within =
        let low : j < length ys = omega (arith, within, length-map ys called) in
        let c = there_is ys j low in
        let first : get_or (map called ys) i d ≡ called (get_or ys i c.0) = get_or-map called ys i c.0 d (omega (arith, le, low)) in
        let second : get_or (map called ys) j d ≡ called (get_or ys j c.0) = get_or-map called ys j c.0 d low in
        let o : called (get_or ys i c.0) ≤ called (get_or ys j c.0) = order i j c.0 le low in
        omega (arith, first, second, o)
