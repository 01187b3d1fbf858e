use Rattle.std.proofs.Common.{ap, sym, ◌∙◌}
use Rattle.std.specs.Option.{option_map}
use Rattle.pvp_book.specs.declared.pair.Pair.{Pair}
use Rattle.pvp_book.proofs.book.Book.queue_at.Goals as goal

pub returns-in_err-pair : goal.returns-in_err-pair
returns-in_err-pair c =
    c.from_residual.ensures ∙ ap (option_map (λ (p : Pair). p.reference)) (sym c.in_err-pair.was ∙ c.waiting.ensures)

pub returns : goal.returns
returns c = ap (option_map (λ (p : Pair). p.reference)) (sym c.in_ok-pair.was ∙ c.waiting.ensures)
