use Rattle.pvp_audit.proofs.Gathering.{AreRightTo}
use Rattle.pvp_audit.proofs.gather.first_wrong.Given as goal

-- nothing is wrong with those so far
abbrev pub invariant-loop-at : goal.invariant-loop-at
invariant-loop-at l = AreRightTo l.setup l.mark l.journals l.at
