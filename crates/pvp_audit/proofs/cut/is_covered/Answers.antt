use Rattle.std.proofs.Common.{◌==◌, ◌||◌, not, nat_le, rules, tests}
use Rattle.std.proofs.lemmas.Iterator.{YieldsList-from_slice}
use Rattle.std.proofs.lemmas.Iterator.Search.{all_from_yields_List}
use Rattle.pvp_audit.proofs.cut.is_covered.Goals as goal

pub returns : goal.returns
returns c =
    let stamp = c.in-Some.stamp in
    rw c.in-Some.is (all_from_yields_List (λ reach. not (reach.actor == stamp.actor) || nat_le stamp.clock reach.clock) _ _ c.all.result c.all.ensures.ran
    (YieldsList-from_slice c.args.reaches.now cc) (λ x b q k. search (rules, tests)))
