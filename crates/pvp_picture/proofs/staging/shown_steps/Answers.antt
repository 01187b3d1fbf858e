use Rattle.pvp_picture.proofs.SceneLemmas.{steps_more}
use Rattle.pvp_picture.proofs.staging.shown_steps.Goals as goal

pub loop-place-preserved : goal.loop-place-preserved
loop-place-preserved c =
    steps_more _ _ _ _ c.args.first c.loop-place.place c.loop-place.steps.items c.push.new.self.items c.in_ok-shown_step.field-0 c.loop-place.auto.place
    c.in_ok-push.ensures.items c.in_ok-shown_step.ensures c.loop-place.invariant
