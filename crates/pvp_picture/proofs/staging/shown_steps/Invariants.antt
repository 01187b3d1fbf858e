use Rattle.std.specs.Prelude.{map, ◌-◌}
use Rattle.pvp_picture.specs.Scene.{AreShownSteps}
use Rattle.pvp_picture.proofs.staging.shown_steps.Given as goal

-- the steps so far
abbrev pub invariant-loop-place : goal.invariant-loop-place
invariant-loop-place l =
    AreShownSteps l.run.world.now.setup l.run.world.now.post l.run.noted.now (map (λ snapshots. snapshots.items) l.run.snapshots.now)
    l.first (l.place - l.first) l.steps.items
