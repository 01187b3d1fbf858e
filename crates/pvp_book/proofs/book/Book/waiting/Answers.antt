use Rattle.pvp_book.proofs.BookLemmas.{queue-at}
use Rattle.pvp_book.proofs.book.Book.waiting.Goals as goal

pub returns : goal.returns
returns c = queue-at c.args.at c.self.invariant c.self.view_is c.as_slice.ensures.value c.waiting_at.ensures
