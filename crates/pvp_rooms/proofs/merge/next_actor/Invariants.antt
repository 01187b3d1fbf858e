use Rattle.pvp_rooms.proofs.Least.{SoFar}
use Rattle.pvp_rooms.proofs.merge.next_actor.Given as goal

-- of the actors so far the one that was found comes first; or none has an event left
abbrev pub invariant-loop-k : goal.invariant-loop-k
invariant-loop-k g l = SoFar l.closed l.at l.k l.least l.found
