use Rattle.std.proofs.Common.{sym, subst}
use Rattle.pvp_book.specs.OrderTable.{IsNext}
use Rattle.pvp_book.proofs.OrderTableLemmas.{AreMade-made, AreMade-ended, AreMade-still}
use Rattle.pvp_book.proofs.order_table.OrderTable.add.Goals as goal

pub returns-in-Made : goal.returns-in-Made
returns-in-Made c = λ entries are.
    AreMade-made entries c.args.entry.now c.args.self.now c.make.new.self are c.in-Made.order (sym c.in-Made.ensures) c.make.ensures.places
    c.make.ensures.made c.make.ensures.queues c.make.ensures.outstanding
    (subst (λ s. IsNext s c.args.self.now) (sym c.in-Made.ensures) c.requires.next)

pub returns-in-Ended : goal.returns-in-Ended
returns-in-Ended c = λ entries are.
    AreMade-ended entries c.args.entry.now c.args.self.now c.end.new.self are c.in-Ended.ccy c.in-Ended.out (sym c.in-Ended.ensures)
    (subst (λ s. IsNext s c.args.self.now) (sym c.in-Ended.ensures) c.requires.next)
    c.end.ensures.places c.end.ensures.made c.end.ensures.ended c.end.ensures.queues c.end.ensures.outstanding

pub returns-in-Nothing : goal.returns-in-Nothing
returns-in-Nothing c = λ entries are. AreMade-still entries c.args.entry.now c.args.self.now (sym c.in-Nothing.ensures) are
