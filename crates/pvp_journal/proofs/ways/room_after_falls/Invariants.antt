use Rattle.std.proofs.Common.{◌≡◌, ◌≤◌}
use Rattle.pvp_journal.specs.Resumed.{falls_between, in_memory}
use Rattle.pvp_journal.specs.Rooms.{GoesOn, bank_texts}
use Rattle.pvp_journal.proofs.ways.room_after_falls.Given as goal

-- the restarts so far fell
abbrev pub invariant-loop-boots : goal.invariant-loop-boots
invariant-loop-boots g l =
    GoesOn in_memory in_memory bank_texts g.L.Log.seen l.fn.room l.room (falls_between l.known l.boots)
    × (l.held ≤ l.known → l.boots ≡ l.known)
