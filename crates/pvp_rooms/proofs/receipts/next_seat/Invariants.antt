use Rattle.std.proofs.Common.{ℕ, ◌<◌}
use Rattle.pvp_rooms.specs.Together.{IsNext}
use Rattle.pvp_rooms.proofs.receipts.next_seat.Given as goal

-- none of the seats so far
abbrev pub invariant-loop-k : goal.invariant-loop-k
invariant-loop-k g l = (j : ℕ) → j < l.k → ¬ IsNext l.seats l.at l.event j
