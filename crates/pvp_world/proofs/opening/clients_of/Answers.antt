use Rattle.std.proofs.Common.{◌≡◌, ◌+◌, ◌∷◌, map, length, ap, ◌∙◌, arith}
use Rattle.std.proofs.lemmas.List.{length-map}
use Rattle.pvp_types.specs.Setup.{faults}
use Rattle.pvp_types.specs.declared.setup.Member.{Member}
use Rattle.pvp_types.proofs.SetupLemmas.{valid-members}
use Rattle.headline.specs.Client.{Client, opening_client}
use Rattle.pvp_world.specs.Client.{ShownClient}
use Rattle.pvp_world.specs.World.{IsClient}
use Rattle.pvp_world.proofs.Openings.{so_far-none, so_far-more, so_far-all, same-at_first}
use Rattle.pvp_world.proofs.opening.clients_of.Goals as goal

pub overflow_add-len : goal.overflow_add-len
overflow_add-len c =
    let few = valid-members c.args.setup.now c.requires in
    omega arith

pub loop-number-init : goal.loop-number-init
loop-number-init c = so_far-none _ _ _ c.in_ok-clients.ensures.items

pub loop-number-preserved : goal.loop-number-preserved
loop-number-preserved c =
    let setup = c.args.setup.now in
    so_far-more (IsClient setup) _ (opening_client ∷ map (λ (member : Member). opening_client) setup.members) c.loop-number.number
    c.new.result c.push.new.self.items
    c.loop-number.invariant c.in_ok-push.ensures.items
    (λ y at. c.new.ensures ∙ ap (λ (x : Client). let v : ShownClient = record { f = faults setup; me = c.loop-number.number; client = x } in
    v) (same-at_first opening_client setup.members _ y at))

pub returns : goal.returns
returns c =
    let setup = c.args.setup.now in
    let all = length-map setup.members (λ (member : Member). opening_client) in
    let end : c.loop-number.number ≡ length setup.members + 1 = omega arith in
    so_far-all _ _ _ _ c.loop-number.invariant (omega arith)
