use Rattle.std.proofs.Common.{◌≡◌, to_z, of_z, arith, ap, ◌∙◌}
use Rattle.std.specs.Int.{w128}
use Rattle.std.proofs.lemmas.Int.{ints}
use Rattle.pvp_book.specs.Ledger.{Ledger, value}
use Rattle.pvp_book.proofs.KeptLemmas.{value-kept}
use Rattle.pvp_book.proofs.book.Book.value.Goals as goal

pub returns : goal.returns
returns c =
    let same : to_z w128 (of_z w128 c.value.result) ≡ c.value.result = omega (arith, ints) in
    same ∙ c.value.ensures
    ∙ value-kept c.self.inside.setup c.self.inside.entries.items c.self.inside.accounts.members.items c.args.m c.self.invariant.ledger.valid
    c.self.invariant.accounts
    ∙ ap (λ (held : Ledger). value held.setup held.entries c.args.m) c.self.view_is
