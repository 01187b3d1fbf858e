use Rattle.pvp_picture.specs.Replay.{StayAnswered}
use Rattle.pvp_picture.proofs.executed.Executions.note.Given as goal

-- the rows so far
abbrev pub invariant-loop-number : goal.invariant-loop-number
invariant-loop-number l = StayAnswered l.fn.self l.self
