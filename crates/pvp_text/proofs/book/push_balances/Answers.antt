use Rattle.std.proofs.Common.{◌∷◌, ◌++◌, ap, sym, ◌∙◌, rules}
use Rattle.std.specs.Fmt.{signed_decimal}
use Rattle.pvp_text.specs.BookText.{balances_text}
use Rattle.pvp_text.proofs.BookTextLemmas.{balances_text-more, appended, shown}
use Rattle.pvp_text.proofs.book.push_balances.Goals as goal

pub loop-c-preserved : goal.loop-c-preserved
loop-c-preserved c =
    appended _ _ _ _ _ _ c.in_ok-write.ensures.bytes c.loop-c.invariant
    (balances_text-more c.args.book.now c.args.m c.loop-c.c
    ∙ ap (λ b. balances_text c.args.book.now c.args.m c.loop-c.c ++ (32 ∷ signed_decimal b))
    (sym (shown c.balance-balance.result _ (search rules) c.balance-balance.ensures)))
