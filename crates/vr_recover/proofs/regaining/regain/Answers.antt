use Rattle.std.proofs.Common.{◌≡◌, ◌+◌, ◌*◌, ℕ, zero, suc, List, [], map, length, replicate, slice_index, refl, arith, rules}
use Rattle.std.proofs.lemmas.Bool.Decides.{nat_tests}
use Rattle.vr_types.specs.Choice.{OneEach}
use Rattle.vr_types.proofs.ChoosingPick.{Contains-none}
use Rattle.vr_log.specs.Running.{SumUp, vote_of}
use Rattle.vr_recover.proofs.regaining.regain.Goals as goal

-- no vote of a site is kept
none_one_each : {A : Type 0} (sender : A → ℕ) (xs : List A) → xs ≡ [] → OneEach sender xs
none_one_each sender xs e = rw e (λ a b in_a in_b same. absurd (Contains-none a in_a))

zero_at : (n j : ℕ) → slice_index (replicate n 0) j ≡ 0
zero_at zero j = refl
zero_at (suc n) zero = refl
zero_at (suc n) (suc j) = zero_at n j

-- no acknowledgement sums up nothing but zeros
zeros_summed : (acked : List ℕ) (n : ℕ) → acked ≡ replicate n 0 → SumUp acked []
zeros_summed acked n is = rw is (λ j m. (let e = zero_at n j in grind (arith, nat_tests, e)))

pub returns-clause-running : goal.returns-clause-running
returns-clause-running g c =
    let none : map vote_of c.new-2.result.items ≡ [] = rw c.new-2.ensures.items refl in
    let summed : SumUp c.in_ok-acked.acked.items [] = zeros_summed c.in_ok-acked.acked.items (2 * c.args.config.f + 1) (search rules) in
    let sites : length c.in_ok-acked.acked.items ≡ 2 * c.args.config.f + 1 = search rules in
    record {
      sound =
          record {
            kept = c.in_ok-advance.ensures.kept (g.M.Machine.start c.args.setup.now) c.in_ok-kept.ensures.kept;
            sites = sites;
            known = c.requires.known;
            up = refl;
            votes = none_one_each _ _ none;
          };
      summed = summed;
    }
