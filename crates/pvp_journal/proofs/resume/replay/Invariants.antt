use Rattle.std.proofs.Common.{take}
use Rattle.pvp_journal.specs.Resumed.{TookEntries}
use Rattle.pvp_journal.proofs.resume.replay.Given as goal

abbrev pub invariant-loop-entry : goal.invariant-loop-entry
invariant-loop-entry g l = TookEntries l.fn.actor l.actor (take l.entry-index l.entries)
