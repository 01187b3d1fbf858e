use Rattle.std.proofs.Common.{◌≡◌, ℕ, ◌<◌, length}
use Rattle.vr_log.specs.Clients.{executed_in, newest_in, reply_in}
use Rattle.vr_log.proofs.clients.ClientsOf.forget_waiting.Given as goal

-- the numbers of the clients so far are those of their answers; the answers stay
abbrev pub invariant-loop-place : goal.invariant-loop-place
invariant-loop-place g l =
    (length l.self.table.items ≡ length l.initial.self.table.items)
    × ((q : ℕ) → q < l.place → newest_in l.self q ≡ executed_in l.initial.self q)
    × ((q : ℕ) → reply_in l.self q ≡ reply_in l.initial.self q)
