use Rattle.std.proofs.Common.{get_or, refl, sym}
use Rattle.std.proofs.lemmas.Option.{slice_get-get_or}
use Rattle.pvp_audit.proofs.Gathering.{right-front, right-all, right-more}
use Rattle.pvp_audit.proofs.gather.first_wrong.Goals as goal

pub returns-in-Some : goal.returns-in-Some
returns-in-Some c =
    let at = c.loop-at.at in
    let journals = c.args.journals.now in
    record {
      before = at;
      journal = get_or journals at c.index-journals-at.result;
      counted = refl;
      there = slice_get-get_or journals at c.index-journals-at.result c.loop-at-test.true;
      right = right-front c.args.setup.now c.args.mark.now journals at c.loop-at.invariant;
      wrong = sym c.in-Some.ensures;
    }

pub loop-at-preserved : goal.loop-at-preserved
loop-at-preserved c =
    right-more c.args.setup.now c.args.mark.now c.args.journals.now c.loop-at.at c.index-journals-at.result c.loop-at-test.true c.loop-at.invariant
    (sym c.in_default.ensures)

pub returns : goal.returns
returns c = right-all c.args.setup.now c.args.mark.now c.args.journals.now c.loop-at.at c.loop-at.invariant c.loop-at-test.false
