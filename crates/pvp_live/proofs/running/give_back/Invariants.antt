use Rattle.std.proofs.Common.{◌≡◌, ◌++◌, List}
use Rattle.std.specs.Vec.Iter.{into_iter_items}
use Rattle.pvp_live.specs.Seating.{BankSeat}
use Rattle.pvp_live.specs.Seating.{TakesBack}
use Rattle.pvp_live.proofs.running.give_back.Given as goal

-- those so far are back
abbrev pub invariant-loop-seat : goal.invariant-loop-seat
invariant-loop-seat g l =
    (goal.iterator-loop-seat g).can_next l.seat-iterator × (goal.iterator-loop-seat g).is_finite l.seat-iterator
    × ((done : List BankSeat) × (l.fn.given.items ≡ done ++ into_iter_items l.seat-iterator) × TakesBack l.fn.seats.items done l.seats.items)
