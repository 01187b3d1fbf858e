use Rattle.pvp_rooms.specs.Verdicts.{HoldBelow, HasRisingClocks}
use Rattle.pvp_rooms.proofs.verdict.first_clock.Given as goal

abbrev pub invariant-loop-k : goal.invariant-loop-k
invariant-loop-k g l = HoldBelow l.closed l.k HasRisingClocks
