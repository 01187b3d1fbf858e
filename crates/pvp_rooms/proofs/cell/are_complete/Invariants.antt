use Rattle.std.proofs.Common.{◌≡◌, drop}
use Rattle.pvp_rooms.specs.Closing.{are_complete}
use Rattle.pvp_rooms.proofs.cell.are_complete.Given as goal

-- the rest is complete exactly where all is
abbrev pub invariant-loop-seat : goal.invariant-loop-seat
invariant-loop-seat g l =
    record { next : l.next ≡ l.seat-index; rest : are_complete (drop l.seat-index l.seats) l.actor l.next ≡ are_complete l.seats l.actor 0 }
