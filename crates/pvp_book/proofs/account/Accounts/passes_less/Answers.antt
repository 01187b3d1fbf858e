use Rattle.std.proofs.Common.{◌≡◌, ◌≤◌, ℕ, pos, neg_ℤ, ◌-ℤ◌, to_z, of_z, w64, arith, ap, ◌∙◌}
use Rattle.std.proofs.lemmas.Int.{ints}
use Rattle.pvp_book.specs.Bounds.{most_total}
use Rattle.pvp_book.specs.Kept.{after_posting, passes_with}
use Rattle.pvp_book.proofs.KeptLemmas.{account-read}
use Rattle.pvp_book.proofs.account.Accounts.passes_less.Goals as goal

less : (amt : ℕ) → amt ≤ most_total → to_z w64 (of_z w64 (pos 0 -ℤ to_z w64 amt)) ≡ neg_ℤ (pos amt)
less amt few = omega (arith, ints)

pub returns : goal.returns
returns c =
    c.passes.ensures
    ∙ ap (passes_with c.args.setup.now c.args.m) (c.after_posting-account.ensures
    ∙ ap (λ z. after_posting c.args.setup.now.currencies c.args.c z c.index.result.now) (less c.args.amt c.requires.amount)
    ∙ ap (after_posting c.args.setup.now.currencies c.args.c (neg_ℤ (pos c.args.amt)))
    (account-read c.args.self.now.members.items c.from.result c.args.m c.index.result.now c.index.ensures c.from.ensures c.requires.member))
