use Rattle.std.proofs.Common.{◌≡◌, ◌*◌, arith, ap, sym, ◌∙◌, ℤ, pos, ◌+ℤ◌, to_z, of_z, w64, slice_index_or, slice_set}
use Rattle.std.proofs.lemmas.Int.{ints}
use Rattle.pvp_types.proofs.SetupLemmas.{valid-currencies}
use Rattle.pvp_book.specs.Bounds.{most_total, IsWithin}
use Rattle.pvp_book.specs.Kept.{figures_after}
use Rattle.pvp_book.proofs.account.Accounts.post.Goals as goal

sum : (figure amt : ℤ) → IsWithin (64 * most_total) figure → IsWithin most_total amt
    → to_z w64 (of_z w64 (to_z w64 (of_z w64 figure) +ℤ to_z w64 (of_z w64 amt))) ≡ figure +ℤ amt
sum figure amt small few = let low = small.above in let high = small.below in let least = few.above in let most = few.below in omega (arith, ints)

pub index-requires : goal.index-requires
index-requires c = let known = (c.requires.can c.in-Some.moved c.in-Some.is).member in let same = c.from-at.ensures in omega arith

pub bounds-self-from : goal.bounds-self-from
bounds-self-from c =
    let few = (valid-currencies c.args.setup.now c.requires.valid).1 in let known = (c.requires.can c.in-Some.moved c.in-Some.is).currency in
    let same = c.from.ensures in omega arith

pub bounds-self-from-2 : goal.bounds-self-from-2
bounds-self-from-2 c =
    let few = (valid-currencies c.args.setup.now c.requires.valid).1 in let known = (c.requires.can c.in-Some.moved c.in-Some.is).currency in
    let same = c.from.ensures in omega arith

pub returns-clause-figures : goal.returns-clause-figures
returns-clause-figures c =
    let can = c.requires.can c.in-Some.moved c.in-Some.is in
    ap (λ at. slice_set c.args.self.now.figures at
    (to_z w64 (of_z w64 (to_z w64 (of_z w64 (slice_index_or c.args.self.now.figures at (pos 0))) +ℤ to_z w64 (of_z w64 c.in-Some.moved.amt)))))
    c.from.ensures
    ∙ ap (slice_set c.args.self.now.figures c.in-Some.moved.ccy)
    (sum (slice_index_or c.args.self.now.figures c.in-Some.moved.ccy (pos 0)) c.in-Some.moved.amt can.figure can.amount)
    ∙ ap (λ o. figures_after o c.args.self.now.figures) (sym c.in-Some.is)
