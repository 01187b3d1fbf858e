use Rattle.std.proofs.Common.{◌≤◌, ◌∙◌, ap, sym, subst, arith, length}
use Rattle.pvp_book.specs.Ledger.{Ledger, outstanding_orders}
use Rattle.pvp_book.specs.Open.{outstanding_at}
use Rattle.pvp_book.proofs.LedgerLemmas.{length-open-le}
use Rattle.pvp_book.proofs.book.Book.open_count.Goals as goal

pub count_outstanding-requires : goal.count_outstanding-requires
count_outstanding-requires c = record {
  few = λ ccy.
      let part = length-open-le c.self.inside.entries.items ccy in
      let fewer : length c.self.inside.entries.items ≤ c.self.inside.applied = c.self.invariant.ledger.fewer in
      let applied : c.self.inside.applied ≤ 65535 = c.self.invariant.ledger.few in
      subst (λ os. length os ≤ 65535) (sym (c.self.invariant.orders.outstanding ccy)) (omega arith);
}

pub returns : goal.returns
returns c =
    c.count_outstanding.ensures
    ∙ (λ i. length (outstanding_at (λ ccy. c.self.invariant.orders.outstanding ccy i) 0 (c.currency_count.ensures.count i)))
    ∙ ap (λ (held : Ledger). length (outstanding_orders held.setup held.entries)) c.self.view_is
