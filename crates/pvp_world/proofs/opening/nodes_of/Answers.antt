use Rattle.std.proofs.Common.{map, ap, ◌∙◌, arith}
use Rattle.std.proofs.lemmas.List.{length-map}
use Rattle.pvp_types.specs.declared.setup.Currency.{Currency}
use Rattle.rtgs_node.specs.Node.{Node, opening_node}
use Rattle.rtgs_node.specs.Shown.{ShownNode}
use Rattle.pvp_world.specs.World.{IsNode}
use Rattle.pvp_world.proofs.Openings.{so_far-none, so_far-more, so_far-all, same-at}
use Rattle.pvp_world.proofs.opening.nodes_of.Goals as goal

pub loop-ccy-init : goal.loop-ccy-init
loop-ccy-init c = so_far-none _ _ _ c.in_ok-nodes.ensures.items

pub loop-ccy-preserved : goal.loop-ccy-preserved
loop-ccy-preserved c =
    let setup = c.args.setup.now in
    so_far-more (IsNode setup) _ (map (λ (currency : Currency). opening_node) setup.currencies) c.loop-ccy.ccy c.in_ok-new.field-0 c.push.new.self.items
    c.loop-ccy.invariant c.in_ok-push.ensures.items
    (λ y at. c.in_ok-new.ensures ∙ ap (λ (x : Node). let v : ShownNode = record { setup = setup; ccy = c.loop-ccy.ccy; node = x } in
    v) (same-at opening_node setup.currencies _ y at))

pub returns : goal.returns
returns c =
    let setup = c.args.setup.now in
    let all = length-map setup.currencies (λ (currency : Currency). opening_node) in
    so_far-all _ _ _ _ c.loop-ccy.invariant (omega arith)
