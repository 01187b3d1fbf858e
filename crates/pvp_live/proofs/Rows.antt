-- Numbers one after another, and where sites stand one after another.
use Rattle.std.proofs.Common.{◌≡◌, ℕ, ◌+◌, [], ◌∷◌, ◌++◌, zero, suc, refl, ap, ◌∙◌, arith}
use native.Mathlib.Numerals.{unary_clauses}
use Rattle.std.specs.List.{range_with_len}

pub range_more : (a n : ℕ) → range_with_len a (n + 1) ≡ range_with_len a n ++ (a + n) ∷ []
range_more a zero = simp unary_clauses refl
range_more a (suc n) =
    let rest = range_more (a + 1) n in
    let e : (a + 1) + n ≡ a + suc n = omega arith in
    let q : suc n + 1 ≡ suc (n + 1) = omega arith in
    ap (range_with_len a) q ∙ ap (λ l. a ∷ l) (rest ∙ ap (λ m. range_with_len (a + 1) n ++ m ∷ []) e)
