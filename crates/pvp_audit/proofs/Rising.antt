-- Numbers that rise: two lists of the same ones are one list.
use Rattle.std.proofs.Common.{if◌then◌else◌, ◌≡◌, ℕ, zero, suc, ◌+◌, ◌<◌, ◌≤◌, ◌==◌, Bool, true, false, ◌||◌, List, [], ◌∷◌, ◌++◌, get_or, Some, None, refl, sym, ap, subst, ◌∙◌, arith, inl, inr, ◌⊎◌, true≢false}
use Rattle.std.specs.List.{list_any, find, range_with_len}
use Rattle.std.specs.List.Sorted.{IsStrictlySortedBy}
use Rattle.std.specs.Ordering.{nat_cmp}
use Rattle.std.proofs.lemmas.Bool.{or_cases, cases_lt}
use Rattle.std.proofs.lemmas.Bool.Decides.{nat_tests}
use Rattle.std.proofs.lemmas.List.Folds.{list_any-append}
use Rattle.std.proofs.lemmas.Map.Keys.{sorted_tail, below_from_sorted}

-- a number is one of these
abbrev pub has : ℕ → List ℕ → Bool
has n xs = list_any (λ m. m == n) xs

-- each is above the one before it, and the first is no less than this
abbrev pub RisesFrom : ℕ → List ℕ → Type 0
RisesFrom low [] = Unit {0}
RisesFrom low (x ∷ xs) = (low ≤ x) × RisesFrom (x + 1) xs

same_number : (m n : ℕ) → (m == n) ≡ true → m ≡ n
same_number m n e = grind (arith, nat_tests)

itself : (n : ℕ) → (n == n) ≡ true
itself n = grind (arith, nat_tests)

pub above : (low : ℕ) (xs : List ℕ) (n : ℕ) → RisesFrom low xs → has n xs ≡ true → low ≤ n
above low [] n rises found = absurd (true≢false (sym found))
above low (x ∷ xs) n rises found = elim (or_cases (x == n) (has n xs) found) [
  | inl e ↦ let same = same_number x n e in let first = rises.0 in omega (arith, same, first)
  | inr e ↦ let later = above (x + 1) xs n rises.1 e in let first = rises.0 in omega (arith, later, first)
]

-- what a list has behind its first number
behind : (x n : ℕ) (xs : List ℕ) → has n (x ∷ xs) ≡ true → x < n → has n xs ≡ true
behind x n xs found less = elim (or_cases (x == n) (has n xs) found) [
  | inl e ↦ let same = same_number x n e in absurd (omega (arith, same, less))
  | inr e ↦ e
]

at_front : (x : ℕ) (xs : List ℕ) → has x (x ∷ xs) ≡ true
at_front x xs = ap (λ (b : Bool). b || has x xs) (itself x)

further : (x n : ℕ) (xs : List ℕ) → has n xs ≡ true → has n (x ∷ xs) ≡ true
further x n xs found = go (x == n)
  where
    go : (b : Bool) → (b || has n xs) ≡ true
    go true = refl
    go false = found

-- two lists of the same numbers
pub same_rising : (low : ℕ) (xs ys : List ℕ) → RisesFrom low xs → RisesFrom low ys
    → ((n : ℕ) → has n xs ≡ true → has n ys ≡ true) → ((n : ℕ) → has n ys ≡ true → has n xs ≡ true) → xs ≡ ys
same_rising low [] [] rx ry there back = refl
same_rising low [] (y ∷ ys) rx ry there back = absurd (true≢false (sym (back y (at_front y ys))))
same_rising low (x ∷ xs) [] rx ry there back = absurd (true≢false (sym (there x (at_front x xs))))
same_rising low (x ∷ xs) (y ∷ ys) rx ry there back =
    let le : y ≤ x = above y (y ∷ ys) x (omega arith, ry.1) (there x (at_front x xs)) in
    let ge : x ≤ y = above x (x ∷ xs) y (omega arith, rx.1) (back y (at_front y ys)) in
    let same : x ≡ y = omega (arith, le, ge) in
    let rest : xs ≡ ys = same_rising (x + 1) xs ys rx.1 (subst (λ (z : ℕ). RisesFrom (z + 1) ys) (sym same) ry.1)
    (λ n found. behind y n ys (there n (further x n xs found)) (let low = above (x + 1) xs n rx.1 found in omega (arith, low, same)))
    (λ n found. behind x n xs (back n (further y n ys found)) (let low = above (y + 1) ys n ry.1 found in omega (arith, low, same))) in
    cc

-- numbers in a strict order rise
pub rises : (low : ℕ) (xs : List ℕ) → IsStrictlySortedBy nat_cmp xs → low ≤ get_or xs 0 low → RisesFrom low xs
rises low [] sorted first = tt
rises low (x ∷ []) sorted first = (first, tt)
rises low (x ∷ y ∷ xs) sorted first = (
  first,
  rises (x + 1) (y ∷ xs) (sorted_tail nat_cmp x (y ∷ xs) sorted)
      (let next : x < y = below_from_sorted (x ∷ y ∷ xs) 0 1 0 sorted (omega arith) (omega arith) in omega (arith, next)),
)

-- numbers one after another
pub range_rises : (first count : ℕ) → RisesFrom first (range_with_len first count)
range_rises first zero = tt
range_rises first (suc count) = (omega arith, range_rises (first + 1) count)

pub range_has : (first count n : ℕ) → first ≤ n → n < first + count → has n (range_with_len first count) ≡ true
range_has first zero n from to = absurd (omega (arith, from, to))
range_has first (suc count) n from to = elim (cases_lt first n) [
  | inl less ↦ further first n (range_with_len (first + 1) count) (range_has (first + 1) count n (omega (arith, less)) (omega (arith, to)))
  | inr le ↦ let same : n ≡ first = omega (arith, le, from) in
      subst (λ (m : ℕ). has n (m ∷ range_with_len (first + 1) count) ≡ true) same (at_front n (range_with_len (first + 1) count))
]

pub range_below : (first count n : ℕ) → has n (range_with_len first count) ≡ true → n < first + count
range_below first zero n found = absurd (true≢false (sym found))
range_below first (suc count) n found = elim (or_cases (first == n) (has n (range_with_len (first + 1) count)) found) [
  | inl e ↦ let same = same_number first n e in omega (arith, same)
  | inr e ↦ let less = range_below (first + 1) count n e in omega (arith, less)
]

-- these, and then greater ones
pub rises_append : (low mid : ℕ) (xs ys : List ℕ) → RisesFrom low xs → ((n : ℕ) → has n xs ≡ true → n < mid) → low ≤ mid → RisesFrom mid ys
    → RisesFrom low (xs ++ ys)
rises_append low mid [] [] rx less le ry = tt
rises_append low mid [] (y ∷ ys) rx less le ry = (let first = ry.0 in omega (arith, first, le), ry.1)
rises_append low mid (x ∷ xs) ys rx less le ry = (
  rx.0,
  rises_append (x + 1) mid xs ys rx.1 (λ n found. less n (further x n xs found)) (let first = less x (at_front x xs) in omega (arith, first)) ry,
)

pub has_left : (n : ℕ) (xs ys : List ℕ) → has n xs ≡ true → has n (xs ++ ys) ≡ true
has_left n xs ys found = list_any-append (λ m. m == n) xs ys ∙ ap (λ (b : Bool). b || has n ys) found

pub has_right : (n : ℕ) (xs ys : List ℕ) → has n ys ≡ true → has n (xs ++ ys) ≡ true
has_right n xs ys found = list_any-append (λ m. m == n) xs ys ∙ go (has n xs)
  where
    go : (b : Bool) → (b || has n ys) ≡ true
    go true = refl
    go false = found

pub has_cases : (n : ℕ) (xs ys : List ℕ) → has n (xs ++ ys) ≡ true → (has n xs ≡ true) ⊎ (has n ys ≡ true)
has_cases n xs ys found = or_cases (has n xs) (has n ys) (sym (list_any-append (λ m. m == n) xs ys) ∙ found)

-- where none of these fails, each has what is asked
pub none_found : (fails : ℕ → Bool) (xs : List ℕ) (n : ℕ) → find fails xs ≡ None → has n xs ≡ true → fails n ≡ false
none_found fails [] n none found = absurd (true≢false (sym found))
none_found fails (x ∷ xs) n none found = go (fails x) refl none (λ rest later. none_found fails xs n rest later)
  where
    go : (b : Bool) → fails x ≡ b → (if b then Some x else find fails xs) ≡ None → (find fails xs ≡ None → has n xs ≡ true → fails n ≡ false) → fails n ≡ false
    go true e none on = absurd (cc)
    go false e none on = elim (or_cases (x == n) (has n xs) found) [
      | inl f ↦ subst (λ (m : ℕ). fails m ≡ false) (same_number x n f) e
      | inr f ↦ on none f
    ]
