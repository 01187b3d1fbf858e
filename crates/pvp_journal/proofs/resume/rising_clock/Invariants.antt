use Rattle.std.proofs.Common.{◌≡◌, take}
use Rattle.pvp_rooms.specs.Histories.{IsRising, last_clock}
use Rattle.pvp_journal.proofs.resume.rising_clock.Given as goal

abbrev pub invariant-loop-r : goal.invariant-loop-r
invariant-loop-r g l = record { rising : IsRising (take l.r-index l.history) 0; last : last_clock (take l.r-index l.history) 0 ≡ l.last }
