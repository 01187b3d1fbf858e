use Rattle.std.proofs.Common.{◌≡◌, ℕ, length, take}
use Rattle.vr_types.specs.Rows.{newest}
use Rattle.vr_log.specs.Clients.{HavePlaces, executed_in, newest_in, reply_in}
use Rattle.vr_log.proofs.clients.ClientsOf.rebuild.Given as goal

-- Where the executed rows were answered, the rows so far are noted behind them; the answers stay, and the clients of
-- the others have places.
abbrev pub invariant-loop-at : goal.invariant-loop-at
invariant-loop-at g l =
    (((q : ℕ) → executed_in l.initial.self q ≡ newest (take l.done l.log) q) → (q : ℕ) → newest_in l.self q ≡ newest (take l.at l.log) q)
    × ((q : ℕ) → reply_in l.self q ≡ reply_in l.initial.self q)
    × HavePlaces l.self l.done (length l.log) l.log
