-- Numbers that rise from place to place.
use Rattle.std.proofs.Common.{◌≡◌, ℕ, ◌+◌, ◌-◌, ◌<◌, ◌≤◌, ◌==◌, List, length, get_or, slice_get, Bool, true, false, refl, ap, sym, subst, ◌∙◌, arith}
use Rattle.std.proofs.lemmas.Option.{slice_get_read}
use Rattle.std.proofs.lemmas.Bool.{eqb-true, eqb-false}
use Rattle.pvp_rooms.specs.declared.cell.Closed.{Closed}
use Rattle.pvp_rooms.specs.Runs.{number_in, number_at}

number_read : {A N E O : Type 0} (closed : List (Closed A N E O)) (k : ℕ) (c : Closed A N E O) → k < length closed → c ≡ get_or closed k c
    → number_at closed k ≡ c.number
number_read closed k c h e = ap number_in (slice_get_read closed (length closed) k c refl h e)

pub number_got : {A N E O : Type 0} (closed : List (Closed A N E O)) (k : ℕ) (c : Closed A N E O) → k < length closed → c ≡ get_or closed k c
    → number_at closed k ≡ (get_or closed k c).number
number_got closed k c h e = number_read closed k c h e ∙ ap (λ v. v.number) e

-- one more place
pub rises : (f : ℕ → ℕ) (i : ℕ) → 1 ≤ i → ((j k : ℕ) → j < k → k < i → f j < f k) → f (i - 1) < f i → (j k : ℕ) → j < k → k < i + 1 → f j < f k
rises f i some old step j k lt below = by (k == i) refl
  where
    before : k ≡ i → (b : Bool) → (j == (i - 1)) ≡ b → f j < f i
    before is true d = subst (λ n. f n < f i) (sym (eqb-true j (i - 1) d)) step
    before is false d =
        let ne = eqb-false j (i - 1) d in
        let first : f j < f (i - 1) = old j (i - 1) (omega (arith, lt, is, ne, some)) (omega (arith, some)) in
        omega (arith, first, step)

    by : (b : Bool) → (k == i) ≡ b → f j < f k
    by true e = let is = eqb-true k i e in subst (λ n. f j < f n) (sym is) (before is (j == (i - 1)) refl)
    by false e = let ne = eqb-false k i e in old j k lt (omega (arith, below, ne))
