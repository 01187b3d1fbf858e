use Rattle.std.specs.Prelude.{All}
use Rattle.pvp_picture.specs.Scene.{IsFlight}
use Rattle.pvp_picture.proofs.staging.push_sent.Given as goal

abbrev pub invariant-loop-sent : goal.invariant-loop-sent
invariant-loop-sent l = All (IsFlight l.run.world.now.setup l.run.world.now.post) l.flights.items
