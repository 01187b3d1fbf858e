-- Lists that are the same item by item.
use Rattle.std.proofs.Common.{◌≡◌, ℕ, suc, ◌<◌, List, [], ◌∷◌, length, slice_get, Some, refl, arith}

some : {X : Type 0} (x y : X) → Some x ≡ Some y → x ≡ y
some x y e = cc

pub same_by_get : {X : Type 0} (xs ys : List X) → length xs ≡ length ys → ((k : ℕ) → k < length xs → slice_get xs k ≡ slice_get ys k) → xs ≡ ys
same_by_get [] [] e h = refl
same_by_get [] (y ∷ ys) e h = absurd (omega (arith, e))
same_by_get (x ∷ xs) [] e h = absurd (omega (arith, e))
same_by_get (x ∷ xs) (y ∷ ys) e h =
    let first = some x y (h 0 (omega arith)) in
    let rest = same_by_get xs ys (omega (arith, e)) (λ k lt. h (suc k) (omega (arith, lt))) in
    λ i. first i ∷ rest i
