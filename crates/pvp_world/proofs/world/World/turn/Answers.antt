use Rattle.std.proofs.Common.{sym, rules}
use Rattle.pvp_world.proofs.world.World.turn.Goals as goal
use Rattle.pvp_world.proofs.world.World.turn.Goals.{in-PayIn, in-Close, in-Submit, in-Beat, in-Timer, in-Crash, in-Restart}

pub returns-then-not-has_actor-clause-fault : goal.returns-then-not-has_actor-clause-fault
returns-then-not-has_actor-clause-fault g c = record {
  turn_is = c.match-step.turn;
  has_turn = elim c.match-step.branch [
    | in-PayIn w ↦ search rules
    | in-Close w ↦ search rules
    | in-Submit w ↦ search rules
    | in-Beat w ↦ search rules
    | in-Timer w ↦ search rules
    | in-Crash w ↦ search rules
    | in-Restart w ↦ search rules
  ];
  there = sym c.if-not-has_actor.ensures;
}
