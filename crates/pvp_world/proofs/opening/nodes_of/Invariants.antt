use Rattle.std.proofs.Common.{map}
use Rattle.pvp_types.specs.declared.setup.Currency.{Currency}
use Rattle.rtgs_node.specs.Node.{opening_node}
use Rattle.pvp_world.specs.World.{IsNode}
use Rattle.pvp_world.proofs.Openings.{AreSoFar}
use Rattle.pvp_world.proofs.opening.nodes_of.Given as goal

-- the nodes so far
abbrev pub invariant-loop-ccy : goal.invariant-loop-ccy
invariant-loop-ccy l =
    AreSoFar (IsNode l.setup) l.nodes.items (map (λ (currency : Currency). opening_node) l.setup.currencies) l.ccy
