use Rattle.std.specs.Prelude.{All}
use Rattle.pvp_picture.specs.Scene.{IsFlight}
use Rattle.pvp_picture.proofs.staging.flights_of.Given as goal

abbrev pub invariant-loop-place : goal.invariant-loop-place
invariant-loop-place l = All (IsFlight l.run.world.now.setup l.run.world.now.post) l.flights.items
