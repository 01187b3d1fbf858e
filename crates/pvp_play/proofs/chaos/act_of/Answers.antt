use Rattle.std.proofs.Common.{ap, ◌∙◌, rules}
use Rattle.pvp_types.specs.declared.setup.Setup.{Setup}
use Rattle.pvp_types.specs.declared.step.Step.TheVariants.{Beat}
use Rattle.pvp_play.specs.declared.chaos.Act.TheVariants.{Tries}
use Rattle.pvp_play.specs.Chaos.{any_actor}
use Rattle.pvp_play.proofs.ChaosLemmas.{row-drains, row-delivers, row-beats}
use Rattle.pvp_play.proofs.chaos.act_of.Goals as goal

pub returns-in-0-to-15 : goal.returns-in-0-to-15
returns-in-0-to-15 g c = row-drains c.args.world.now c.args.a c.args.b (search rules)

pub returns-in-16-to-19 : goal.returns-in-16-to-19
returns-in-16-to-19 g c = c.any_delivery.ensures ∙ row-delivers c.args.world.now c.args.a c.args.b (search rules) (search rules)

pub returns-in-21-to-23 : goal.returns-in-21-to-23
returns-in-21-to-23 g c =
    ap (λ k. Tries (Beat k)) (c.any_actor.ensures ∙ ap (λ (s : Setup). any_actor s c.args.b) c.setup-setup.ensures.same)
    ∙ row-beats c.args.world.now c.args.a c.args.b (search rules) (search rules)
