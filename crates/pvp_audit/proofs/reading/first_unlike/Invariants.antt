use Rattle.pvp_rooms.specs.Verdicts.{HoldBelow}
use Rattle.pvp_audit.specs.Judged.{ReadsWorld}
use Rattle.pvp_audit.proofs.reading.first_unlike.Given as goal

-- the ends so far read like the world's actors
abbrev pub invariant-loop-k : goal.invariant-loop-k
invariant-loop-k l = HoldBelow l.closed l.k (λ c. ReadsWorld l.world c.number c.end)
