use Rattle.std.proofs.Common.{ap, ◌∙◌}
use Rattle.std.specs.Prelude.{is_some}
use Rattle.pvp_book.specs.Ledger.{Ledger}
use Rattle.pvp_book.specs.Answer.{has_order}
use Rattle.pvp_book.proofs.OrderTableLemmas.{order-there}
use Rattle.pvp_book.proofs.book.Book.has_order.Goals as goal

pub returns : goal.returns
returns c =
    c.is_some.ensures ∙ ap is_some c.get.ensures ∙ order-there c.self.inside.entries.items c.self.inside.table c.self.invariant.orders c.args.c c.args.out
    ∙ ap (λ (held : Ledger). has_order held.entries c.args.c c.args.out) c.self.view_is
