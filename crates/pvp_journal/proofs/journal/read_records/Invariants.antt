use Rattle.std.proofs.Common.{length}
use Rattle.pvp_journal.specs.Journals.{AreRecords}
use Rattle.pvp_journal.proofs.journal.read_records.Given as goal

abbrev pub invariant-loop-piece : goal.invariant-loop-piece
invariant-loop-piece l = AreRecords l.me (record { sum = l.before; bytes = l.bytes }) l.history.items (record { sum = l.sum; bytes = l.rest })

abbrev pub decreases-loop-piece : goal.decreases-loop-piece
decreases-loop-piece l = length l.rest
