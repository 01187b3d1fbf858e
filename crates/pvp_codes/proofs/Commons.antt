-- What two words have in common at their fronts.
use Rattle.std.proofs.Common.{◌≡◌, ℕ, ◌+◌, ◌≤◌, List, [], ◌∷◌, length, drop, refl, ap, ◌∙◌, arith}
use Rattle.std.proofs.lemmas.List.{drop_all}
use Rattle.pvp_codes.specs.Near.{common_length}

none_common : (word : List ℕ) → common_length word [] ≡ 0
none_common [] = refl
none_common (a ∷ word) = refl

-- a word that has ended has no more in common
pub common_ends : (word known : List ℕ) (at : ℕ) → length known ≤ at → common_length word known ≡ at + common_length (drop at word) (drop at known)
    → common_length word known ≡ at
common_ends word known at ended so_far =
    let rest : common_length (drop at word) (drop at known) ≡ 0 = ap (common_length (drop at word)) (drop_all at known ended) ∙ none_common (drop at word) in
    so_far ∙ ap (λ (n : ℕ). at + n) rest ∙ omega arith
