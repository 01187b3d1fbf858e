use Rattle.std.proofs.Common.{◌≡◌}
use Rattle.pvp_rooms.specs.Closing.{fresh_seats}
use Rattle.pvp_rooms.proofs.cell.ActorCell.around.Given as goal

abbrev pub invariant-loop-seat : goal.invariant-loop-seat
invariant-loop-seat g l = l.all.items ≡ fresh_seats l.seat l.number
