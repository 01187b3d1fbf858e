use Rattle.pvp_rooms.specs.Verdicts.{HoldBelow}
use Rattle.pvp_audit.specs.Banked.{IsOfBank}
use Rattle.pvp_audit.proofs.fitting.are_of_bank.Given as goal

abbrev pub invariant-loop-k : goal.invariant-loop-k
invariant-loop-k l = HoldBelow l.closed l.k (λ c. IsOfBank l.setup c)
