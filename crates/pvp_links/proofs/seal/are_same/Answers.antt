use Rattle.std.proofs.Common.{arith}
use Rattle.pvp_links.proofs.Differences.{tells-none, tells-more, tells-all}
use Rattle.pvp_links.proofs.seal.are_same.Goals as goal

pub loop-at-init : goal.loop-at-init
loop-at-init c = tells-none _ _

pub loop-at-preserved : goal.loop-at-preserved
loop-at-preserved c = tells-more _ _ _ _ c.loop-at.invariant

pub returns : goal.returns
returns c = tells-all _ _ _ c.loop-at.at c.requires (omega arith) c.loop-at.invariant
