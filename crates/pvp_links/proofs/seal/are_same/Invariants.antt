use Rattle.pvp_links.proofs.Differences.{Tells}
use Rattle.pvp_links.proofs.seal.are_same.Given as goal

abbrev pub invariant-loop-at : goal.invariant-loop-at
invariant-loop-at l = Tells l.one l.other l.differences l.at
