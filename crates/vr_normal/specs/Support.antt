-- The acknowledgements of a view as one number for each site.
use Rattle.std.specs.Prelude.{ℕ, List, Bool, nat_le, count_by, slice_index}
use Rattle.vr_types.specs.Group.{others}

-- at least f different other sites have acknowledged the first n rows, by the number of each
abbrev pub has_support : ℕ → ℕ → List ℕ → ℕ → Bool
has_support f me acked n = nat_le f (count_by (λ j. nat_le n (slice_index acked j)) (others f me))
