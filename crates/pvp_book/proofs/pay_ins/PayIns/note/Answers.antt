use Rattle.std.proofs.Common.{◌∷◌, [], ap, sym, ◌∙◌}
use Rattle.std.specs.Prelude.{◌||◌}
use Rattle.std.proofs.lemmas.List.Folds.{list_any-append}
use Rattle.pvp_book.specs.declared.entry.Entry.{Entry}
use Rattle.pvp_book.specs.Ledger.{is_pay_in, has_pay_in}
use Rattle.pvp_book.proofs.Counts.{or-false}
use Rattle.pvp_book.proofs.pay_ins.PayIns.note.Goals as goal

pub returns-in-Fund : goal.returns-in-Fund
returns-in-Fund c = λ entries held k n.
    c.add.ensures k n ∙ (λ i. held k n i || is_pay_in k n (sym c.in-Fund.is i))
    ∙ sym (list_any-append (λ (x : Entry). is_pay_in k n x.cmd) entries (c.args.entry.now ∷ [])
    ∙ ap (λ b. has_pay_in entries k n || b) (or-false (is_pay_in k n c.args.entry.now.cmd)))
