-- Sums of amounts, and how far from 0 an account is at most.
use Rattle.std.proofs.Common.{◌≡◌, ℕ, ◌+◌, ◌*◌, ◌-◌, ◌≤◌, ◌<◌, true, false, List, [], ◌∷◌, length, suc, zero, arith, refl, sum_by, pos, ◌-ℤ◌, ap, ◌∙◌}
use Rattle.std.specs.Prelude.{nat_le, slice_index_or, int_lt}
use Rattle.std.specs.List.{AllByRecursion}
use Rattle.std.proofs.lemmas.Int.{ints}
use Rattle.std.proofs.lemmas.Bool.{and_parts, leb-true}
use Rattle.std.proofs.lemmas.List.Sums.{sum_by-cons}
use Rattle.pvp_book.specs.Ledger.{most_amount}
use Rattle.pvp_book.specs.Answer.{is_amount}

pub amount-small : (amt : ℕ) → is_amount amt ≡ true → amt ≤ most_amount
amount-small amt is = leb-true amt most_amount (and_parts (nat_le 1 amt) (nat_le amt most_amount) is).1

pub sum-small : {X : Type 0} (f : X → ℕ) (most : ℕ) (xs : List X) → AllByRecursion (λ (x : X). f x ≤ most) xs → sum_by f xs ≤ length xs * most
sum-small f most [] all = omega arith
sum-small f most (x ∷ xs) all =
    let here : f x ≤ most = all.0 in
    let rest = sum-small f most xs all.1 in
    let both = sum_by-cons f x xs in
    omega arith

-- where an account is not short, it covers the amount
pub covers : (came went held amt : ℕ) → held + went ≡ came → int_lt (pos came -ℤ pos went) (pos amt) ≡ false → amt ≤ held
covers came went held amt is enough = grind (arith, ints)

-- within a list the item does not depend on what stands for one behind its end
pub within : (xs : List ℕ) (i d : ℕ) → i < length xs → slice_index_or xs i d ≡ slice_index_or xs i 0
within [] i d low = absurd (omega arith)
within (x ∷ xs) zero d low = refl
within (x ∷ xs) (suc i) d low = within xs i d (omega arith)

-- what is read at a place
pub at-place : (xs : List ℕ) (at place value : ℕ) → value ≡ slice_index_or xs (at - 1) value → at ≡ place → place - 1 < length xs
    → value ≡ slice_index_or xs (place - 1) 0
at-place xs at place value read is low = read ∙ ap (λ k. slice_index_or xs (k - 1) value) is ∙ within xs (place - 1) value low
