use Rattle.pvp_live.specs.Seating.{AreNew}
use Rattle.pvp_live.proofs.actors.Bank.add_nodes.Given as goal

-- those so far have new seats
abbrev pub invariant-loop-ccy : goal.invariant-loop-ccy
invariant-loop-ccy g l = AreNew l.self.cells.items l.self.own.items
