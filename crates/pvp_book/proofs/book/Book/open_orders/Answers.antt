use Rattle.std.proofs.Common.{◌∙◌, ap}
use Rattle.pvp_book.specs.Ledger.{Ledger, open_orders}
use Rattle.pvp_book.proofs.book.Book.open_orders.Goals as goal

pub returns : goal.returns
returns c = c.new.ensures ∙ c.self.invariant.orders.outstanding c.args.c ∙ ap (λ (held : Ledger). open_orders held.entries c.args.c) c.self.view_is
