use Rattle.std.proofs.Common.{◌∙◌, ap, sym, length}
use Rattle.pvp_book.specs.declared.pair.PairState.TheVariants as state
use Rattle.pvp_book.specs.Ledger.{Ledger, queue}
use Rattle.pvp_book.proofs.QueueLemmas.{queue-counted}
use Rattle.pvp_book.proofs.book.Book.queued.Goals as goal

pub returns : goal.returns
returns c =
    c.get.ensures ∙ c.self.invariant.states state.Matched ∙ sym (queue-counted _ _ c.self.invariant)
    ∙ ap (λ (l : Ledger). length (queue l.setup l.entries)) c.self.view_is
