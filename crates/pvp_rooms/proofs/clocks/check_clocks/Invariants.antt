use Rattle.std.proofs.Common.{◌≡◌, ◌-◌, ◌≤◌, length, take}
use Rattle.pvp_rooms.specs.Histories.{IsRising, last_clock}
use Rattle.pvp_rooms.proofs.clocks.check_clocks.Given as goal

abbrev pub invariant-loop-at : goal.invariant-loop-at
invariant-loop-at g l =
    record { within : l.at ≤ length l.history; rising : IsRising (take l.at l.history) 0; last : last_clock (take l.at l.history) 0 ≡ l.last }

abbrev pub decreases-loop-at : goal.decreases-loop-at
decreases-loop-at g l = length l.history - l.at
