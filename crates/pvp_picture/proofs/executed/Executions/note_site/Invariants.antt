use Rattle.pvp_picture.specs.Replay.{StayAnswered}
use Rattle.pvp_picture.proofs.executed.Executions.note_site.Given as goal

-- the rows so far
abbrev pub invariant-loop-place : goal.invariant-loop-place
invariant-loop-place l = StayAnswered l.fn.self l.self
