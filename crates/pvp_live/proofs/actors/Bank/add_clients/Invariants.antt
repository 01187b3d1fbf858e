use Rattle.pvp_live.specs.Seating.{AreNew}
use Rattle.pvp_live.proofs.actors.Bank.add_clients.Given as goal

-- those so far have new seats
abbrev pub invariant-loop-client : goal.invariant-loop-client
invariant-loop-client g l = AreNew l.self.cells.items l.self.own.items
