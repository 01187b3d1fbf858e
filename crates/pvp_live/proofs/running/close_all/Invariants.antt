use Rattle.std.proofs.Common.{◌≡◌, ◌++◌, List}
use Rattle.std.specs.Global.{Vec}
use Rattle.std.specs.Vec.Iter.{into_iter_items}
use Rattle.pvp_live.specs.Seating.{BankSeat}
use Rattle.pvp_live.specs.Seating.{Keeps}
use Rattle.pvp_live.proofs.running.close_all.Given as goal

-- the seats so far are kept
abbrev pub invariant-loop-own : goal.invariant-loop-own
invariant-loop-own g l =
    (goal.iterator-loop-own g).can_next l.own-iterator × (goal.iterator-loop-own g).is_finite l.own-iterator
    × ((done : List (Vec BankSeat)) × (l.fn.seats.items ≡ done ++ into_iter_items l.own-iterator) × Keeps done l.closed.items)
