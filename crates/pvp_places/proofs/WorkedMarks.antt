-- Which journals are whole, by rows.
use Rattle.std.proofs.Common.{◌≡◌, ℕ, [], ◌∷◌, List, length, get_or, refl, ap, arith}
use Rattle.pvp_places.specs.Mark.{Said, Begun, Synced, Written, IsWhole}

abbrev this_run : List ℕ
this_run = 97 ∷ []

abbrev another_run : List ℕ
another_run = 98 ∷ []

begun_is_not : IsWhole Begun this_run → ⊥
begun_is_not whole = whole

synced_is : IsWhole Synced this_run
synced_is = tt

written_in_this_run_is : IsWhole (Written this_run) this_run
written_in_this_run_is = (refl, λ same. absurd (cc))

written_in_another_is_not : IsWhole (Written another_run) this_run → ⊥
written_in_another_is_not whole = let first = ap (λ (run : List ℕ). get_or run 0 0) whole.0 in absurd (omega (arith, first))

-- where the machine tells no run, none is the same
written_in_no_run_is_not : IsWhole (Written []) [] → ⊥
written_in_no_run_is_not whole = whole.1 refl

-- the whole name counts
written_in_a_longer_one_is_not : IsWhole (Written this_run) (97 ∷ 98 ∷ []) → ⊥
written_in_a_longer_one_is_not whole = let long = ap (length {A = ℕ}) whole.0 in absurd (omega (arith, long))

synced_is_in_no_run_too : IsWhole Synced []
synced_is_in_no_run_too = tt
