-- What stands behind the first items of a list.
use Rattle.std.proofs.Common.{◌≡◌, ℕ, zero, suc, ◌+◌, ◌-◌, ◌<◌, List, [], ◌∷◌, ◌++◌, length, length-append, slice_get, refl, sym, ap, ◌∙◌, arith}
use Rattle.headline.proofs.Basics.{some-same}
use Rattle.pvp_audit.proofs.Numbering.{get_right}

same_items : {X : Type 0} (xs ys : List X) → length xs ≡ length ys → ((j : ℕ) → j < length ys → slice_get xs j ≡ slice_get ys j) → xs ≡ ys
same_items [] [] many each = refl
same_items [] (y ∷ ys) many each = absurd (omega (arith, many))
same_items (x ∷ xs) [] many each = absurd (omega (arith, many))
same_items (x ∷ xs) (y ∷ ys) many each =
    let first = some-same x y (each zero (omega arith)) in
    let rest = same_items xs ys (omega (arith, many)) (λ j low. each (suc j) (omega (arith, low))) in
    λ i. first i ∷ rest i

-- these stand there, so they are what stands there
pub more_is : {X : Type 0} (post before more sent : List X) (many : ℕ) → post ≡ before ++ more → length before ≡ many → length post - many ≡ length sent
    → ((j : ℕ) → j < length sent → slice_get post (many + j) ≡ slice_get sent j) → more ≡ sent
more_is post before more sent many parts first left each =
    let both = length-append before more in
    let all = ap length parts in
    same_items more sent (omega (arith, both, all, first, left))
    (λ j low. sym (get_right before more j (many + j) (omega (arith, first))) ∙ ap (λ l. slice_get l (many + j)) (sym parts) ∙ each j low)
