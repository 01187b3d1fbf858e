use Rattle.pvp_text.proofs.SetupTextItems.{IsSoFar}
use Rattle.pvp_text.proofs.setup.tree.ListFromTree.from_tree.Given as goal

abbrev pub invariant-loop-item : goal.invariant-loop-item
invariant-loop-item g l = IsSoFar g.T.FromTree.kind l.list l.item-index l.item-items
