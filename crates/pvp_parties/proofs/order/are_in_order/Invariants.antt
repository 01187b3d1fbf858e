use Rattle.std.proofs.Common.{ℕ, ◌<◌}
use Rattle.pvp_rooms.specs.Runs.{number_at}
use Rattle.pvp_parties.proofs.order.are_in_order.Given as goal

-- the numbers so far rise
abbrev pub invariant-loop-i : goal.invariant-loop-i
invariant-loop-i l = (j k : ℕ) → j < k → k < l.i → number_at l.closed j < number_at l.closed k
