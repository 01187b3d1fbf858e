use Rattle.pvp_audit.proofs.Filling.{StandsSo}
use Rattle.pvp_audit.proofs.filled.fill_in.Given as goal

abbrev pub invariant-loop-entry : goal.invariant-loop-entry
invariant-loop-entry l = StandsSo l.fn.actor l.actor l.yielded l.history.items l.goes
