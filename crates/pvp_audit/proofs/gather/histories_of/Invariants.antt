use Rattle.std.proofs.Common.{◌≡◌, map}
use Rattle.pvp_audit.specs.Gathered.{history_of}
use Rattle.pvp_audit.proofs.gather.histories_of.Given as goal

-- the journals so far have their histories
abbrev pub invariant-loop-journal : goal.invariant-loop-journal
invariant-loop-journal l = l.histories.items ≡ map history_of l.yielded
