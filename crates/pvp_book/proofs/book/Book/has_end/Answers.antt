use Rattle.std.proofs.Common.{ap, ◌∙◌}
use Rattle.pvp_book.specs.Ledger.{Ledger}
use Rattle.pvp_book.specs.Orders.{has_end}
use Rattle.pvp_book.proofs.book.Book.has_end.Goals as goal

pub returns : goal.returns
returns c =
    c.has_ended.ensures ∙ c.self.invariant.orders.ended c.args.c c.args.out ∙ ap (λ (held : Ledger). has_end held.entries c.args.c c.args.out) c.self.view_is
