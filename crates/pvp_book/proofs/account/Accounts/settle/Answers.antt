use Rattle.std.proofs.Common.{◌≡◌, Bool, true, false, refl, ap, ◌∙◌}
use Rattle.std.specs.Prelude.{◌&&◌}
use Rattle.pvp_book.specs.Kept.{after_trade, passes_with}
use Rattle.pvp_book.proofs.KeptLemmas.{account-read}
use Rattle.pvp_book.proofs.account.Accounts.settle.Goals.{else-passes-via-then-passes+else-passes-2, else-passes-via-else-passes}
use Rattle.pvp_book.proofs.account.Accounts.settle.Goals as goal

pub returns-then-passes-2-clause-passed : goal.returns-then-passes-2-clause-passed
returns-then-passes-2-clause-passed c =
    let first =
    account-read c.args.self.now.members.items c.from-at.result c.args.pair.now.first c.index.result.now c.index.ensures
    c.from-at.ensures c.requires.can.first in
    let second =
    account-read c.args.self.now.members.items c.from-other.result c.args.pair.now.second c.index-2.result.now c.index-2.ensures
    c.from-other.ensures c.requires.can.second in
    (λ i. (c.if-passes.ensures ∙ ap (passes_with c.args.setup.now c.args.pair.now.first) (c.after_trade-first.ensures
    ∙ ap (after_trade c.args.setup.now.currencies c.args.pair.now.sell c.args.pair.now.sell_amt c.args.pair.now.buy c.args.pair.now.buy_amt) first)) i
    && (c.if-passes-2.ensures ∙ ap (passes_with c.args.setup.now c.args.pair.now.second) (c.after_trade-second.ensures
    ∙ ap (after_trade c.args.setup.now.currencies c.args.pair.now.buy c.args.pair.now.buy_amt c.args.pair.now.sell c.args.pair.now.sell_amt) second)) i)

no-second : (a : Bool) → false ≡ (a && false)
no-second true = refl
no-second false = refl

pub returns-clause-passed : goal.returns-clause-passed
returns-clause-passed c =
    let first =
    account-read c.args.self.now.members.items c.from-at.result c.args.pair.now.first c.index.result.now c.index.ensures
    c.from-at.ensures c.requires.can.first in
    let second =
    account-read c.args.self.now.members.items c.from-other.result c.args.pair.now.second c.index-2.result.now c.index-2.ensures
    c.from-other.ensures c.requires.can.second in
    let one =
    c.after_trade-first.ensures ∙ ap (after_trade c.args.setup.now.currencies c.args.pair.now.sell c.args.pair.now.sell_amt c.args.pair.now.buy
    c.args.pair.now.buy_amt) first in
    let other =
    c.after_trade-second.ensures ∙ ap (after_trade c.args.setup.now.currencies c.args.pair.now.buy c.args.pair.now.buy_amt c.args.pair.now.sell
    c.args.pair.now.sell_amt) second in
    elim c.else-passes.branch [
      | else-passes-via-then-passes+else-passes-2 w ↦
          no-second (passes_with c.args.setup.now c.args.pair.now.first c.after_trade-first.result)
          ∙ (λ i. passes_with c.args.setup.now c.args.pair.now.first (one i)
          && (w.if-passes-2.ensures ∙ ap (passes_with c.args.setup.now c.args.pair.now.second) other) i)
      | else-passes-via-else-passes w ↦
          (λ i. (w.if-passes.ensures ∙ ap (passes_with c.args.setup.now c.args.pair.now.first) one) i
          && passes_with c.args.setup.now c.args.pair.now.second (other i))
    ]
