use Rattle.std.proofs.Common.{map}
use Rattle.pvp_journal.specs.Summaries.{entry_of}
use Rattle.pvp_journal.proofs.Written.{IsWritten}
use Rattle.pvp_journal.proofs.writing.write_journal.Given as goal

-- the head and the records so far are there
abbrev pub invariant-loop-taken : goal.invariant-loop-taken
invariant-loop-taken l = IsWritten l.head (map entry_of l.history) l.fn.out.items l.taken-index l.out.items l.sum
