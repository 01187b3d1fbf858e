-- Lists that grow by one.
use Rattle.std.proofs.Common.{◌≡◌, ℕ, ◌+◌, List, [], ◌∷◌, ◌++◌, take, slice_get, Some, ap, ◌∙◌}
use Rattle.std.proofs.lemmas.Option.{slice_get_within, get_or_from_slice_get}
use Rattle.std.proofs.lemmas.List.{take_more}

-- the first n + 1 elements are the first n and the next
pub take_next : {X : Type 0} (xs : List X) (n : ℕ) (x : X) → slice_get xs n ≡ Some x → take (n + 1) xs ≡ take n xs ++ x ∷ []
take_next xs n x h = take_more xs n x (slice_get_within xs n x h) ∙ ap (λ y. take n xs ++ y ∷ []) (get_or_from_slice_get xs n x x h)
