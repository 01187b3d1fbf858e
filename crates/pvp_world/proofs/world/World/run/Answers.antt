use Rattle.std.proofs.Common.{refl, ◌∙◌, subst}
use Rattle.pvp_world.specs.Steps.{AreTaken, TellsFailures}
use Rattle.pvp_world.proofs.Moving.{got}
use Rattle.pvp_world.proofs.Many.{take-whole, none-taken, taken-more, stopped-at}
use Rattle.pvp_world.proofs.Saves.{ok-no-failure, end-is-none, fault-told, fault-not-told}
use Rattle.pvp_world.proofs.world.World.run.Goals as goal

pub loop-step-init : goal.loop-step-init
loop-step-init g c = (none-taken c.args.self.now, c.is_proved.ensures, (λ all. all), refl)

pub loop-step-preserved : goal.loop-step-preserved
loop-step-preserved g c = (
  taken-more g.C.BootCell c.args.self.now c.loop-step.self c.apply.new.self c.args.steps.now c.loop-step.step-index _
      (got c.args.steps.now c.loop-step.step-index _ c.loop-step-test.true) c.loop-step.invariant.0 c.in_default.ensures.applies.moves,
  c.apply.ensures.headline,
  (λ all. (c.apply.ensures.tells.reliable (c.loop-step.invariant.2 all)).0),
  c.apply.ensures.tells.counted (ok-no-failure c.apply.result _ c.in_default.is) ∙ c.loop-step.invariant.3,
)

pub returns-in-Err-clause-stopped : goal.returns-in-Err-clause-stopped
returns-in-Err-clause-stopped g c =
    stopped-at g.C.BootCell c.args.self.now c.loop-step.self c.apply.new.self c.args.steps.now c.loop-step.step-index _
    (got c.args.steps.now c.loop-step.step-index _ c.loop-step-test.true) c.loop-step.invariant.0 c.in-Err.fault
    c.loop-step.invariant.3 c.in-Err.ensures.applies (subst (TellsFailures g.C.BootCell c.loop-step.self c.apply.new.self _) c.in-Err.is c.apply.ensures.tells)

pub returns-in-Err-clause-counted : goal.returns-in-Err-clause-counted
returns-in-Err-clause-counted g c =
    λ other. c.apply.ensures.tells.counted (fault-not-told c.apply.result c.in-Err.fault c.in-Err.is other) ∙ c.loop-step.invariant.3

pub returns-in-Err-clause-reliable : goal.returns-in-Err-clause-reliable
returns-in-Err-clause-reliable g c = λ all.
    let r = c.apply.ensures.tells.reliable (c.loop-step.invariant.2 all) in
    (r.0, fault-told c.apply.result c.in-Err.fault c.in-Err.is r.1)

pub returns-clause-taken : goal.returns-clause-taken
returns-clause-taken g c =
    subst (λ steps. AreTaken c.args.self.now c.loop-step.self steps) (take-whole c.args.steps.now c.loop-step.step-index c.loop-step-test.false)
    c.loop-step.invariant.0

pub returns-clause-headline : goal.returns-clause-headline
returns-clause-headline g c = c.loop-step.invariant.1

pub returns-clause-counted : goal.returns-clause-counted
returns-clause-counted g c = λ _. c.loop-step.invariant.3

pub returns-clause-reliable : goal.returns-clause-reliable
returns-clause-reliable g c = λ all. (c.loop-step.invariant.2 all, end-is-none)
