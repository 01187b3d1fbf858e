use Rattle.std.proofs.Common.{◌≡◌, ◌≤◌, ◌*◌, arith, subst, ap, sym, ◌∙◌, ℤ, pos, ◌-ℤ◌, to_z, of_z, w64}
use Rattle.std.proofs.lemmas.Int.{ints}
use Rattle.pvp_book.specs.Limits.{worth_of, debt_of}
use Rattle.pvp_book.specs.Bounds.{most_total, most_standing, IsWithin}
use Rattle.pvp_book.proofs.LimitsLemmas.{worth-most, debt-most}
use Rattle.pvp_book.proofs.AccountLemmas.{standing-fits}
use Rattle.pvp_book.proofs.account.standing_of.Goals as goal

same : (b : ℤ) → IsWithin (3 * most_total) b → to_z w64 (of_z w64 b) ≡ b
same b small = let low = small.above in let high = small.below in omega (arith, ints)

worth : (c : goal.After-debt_of) → c.worth_of.result ≡ worth_of (c.args.currency.now, c.args.balance)
worth c = c.worth_of.ensures ∙ ap (λ b. worth_of (c.args.currency.now, b)) (same c.args.balance c.requires.small)

debt : (c : goal.After-debt_of) → c.debt_of.result ≡ debt_of (c.args.currency.now, c.args.balance)
debt c = c.debt_of.ensures ∙ ap (λ b. debt_of (c.args.currency.now, b)) (same c.args.balance c.requires.small)

most-worth : (c : goal.After-debt_of) → c.worth_of.result ≤ 3 * most_total * 1000000 * 20000
most-worth c = rw (worth c) (worth-most c.args.currency.now c.args.balance (3 * most_total) c.requires.fair c.requires.small)

most-debt : (c : goal.After-debt_of) → c.debt_of.result ≤ 3 * most_total * 1000000 * 20000
most-debt c = rw (debt c) (debt-most c.args.currency.now c.args.balance (3 * most_total) c.requires.fair c.requires.small)

pub debt_of-requires : goal.debt_of-requires
debt_of-requires c =
    let most = debt-most c.args.currency.now c.args.balance (3 * most_total) c.requires.fair c.requires.small in
    rw (same c.args.balance c.requires.small) (omega arith)

pub overflow_cast-result-2 : goal.overflow_cast-result-2
overflow_cast-result-2 c = let most = most-debt c in omega (arith, ints)

pub overflow_sub-result : goal.overflow_sub-result
overflow_sub-result c = (standing-fits _ _ (most-worth c) (most-debt c)).0

pub returns-clause-value : goal.returns-clause-value
returns-clause-value c = (standing-fits _ _ (most-worth c) (most-debt c)).1 ∙ (λ i. pos (worth c i) -ℤ pos (debt c i))

pub returns-clause-small : goal.returns-clause-small
returns-clause-small c =
    subst (IsWithin most_standing) (sym (standing-fits _ _ (most-worth c) (most-debt c)).1) (standing-fits _ _ (most-worth c) (most-debt c)).2
