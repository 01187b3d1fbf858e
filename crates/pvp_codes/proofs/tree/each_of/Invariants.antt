use Rattle.std.proofs.Common.{◌≡◌, drop}
use Rattle.serde_json.specs.View.{items_view}
use Rattle.pvp_codes.specs.Tree.{each_of}
use Rattle.pvp_codes.proofs.tree.each_of.Given as goal

-- nothing is wrong with the items so far
abbrev pub invariant-loop-place : goal.invariant-loop-place
invariant-loop-place g l =
    each_of g.T.Part.finds 0 (items_view l.items)
    ≡ each_of g.T.Part.finds l.place (items_view (drop l.place l.items))
