use Rattle.std.proofs.Common.{◌∙◌, ap, slice_get}
use Rattle.pvp_book.specs.Ledger.{Ledger, outstanding_orders}
use Rattle.pvp_book.specs.Open.{outstanding_at}
use Rattle.pvp_book.proofs.book.Book.open.Goals as goal

pub returns : goal.returns
returns c =
    c.outstanding_at.ensures
    ∙ (λ i. slice_get (outstanding_at (λ ccy. c.self.invariant.orders.outstanding ccy i) 0 (c.currency_count.ensures.count i)) c.args.at)
    ∙ ap (λ (held : Ledger). slice_get (outstanding_orders held.setup held.entries) c.args.at) c.self.view_is
