use Rattle.std.proofs.Common.{◌≡◌, ℕ}
use Rattle.vr_log.specs.Clients.{HavePlaces, known_in}
use Rattle.vr_log.proofs.clients.ClientsOf.reach_all.Given as goal

-- what is known of clients stays; the clients of the rows so far have places
abbrev pub invariant-loop-at : goal.invariant-loop-at
invariant-loop-at g l =
    ((q : ℕ) → known_in l.self q ≡ known_in l.initial.self q)
    × HavePlaces l.self l.from l.at l.log
