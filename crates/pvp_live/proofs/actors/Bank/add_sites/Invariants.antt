use Rattle.pvp_live.specs.Seating.{AreNew}
use Rattle.pvp_live.proofs.actors.Bank.add_sites.Given as goal

-- those so far have new seats
abbrev pub invariant-loop-site : goal.invariant-loop-site
invariant-loop-site g l = AreNew l.self.cells.items l.self.own.items
