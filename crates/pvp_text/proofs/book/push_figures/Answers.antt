use Rattle.std.proofs.Common.{◌∷◌, ◌++◌, ap, sym, ◌∙◌, rules}
use Rattle.std.specs.Fmt.{signed_decimal}
use Rattle.pvp_text.specs.BookText.{figures_text}
use Rattle.pvp_text.proofs.BookTextLemmas.{figures_text-more, appended, shown}
use Rattle.pvp_text.proofs.book.push_figures.Goals as goal

pub loop-c-preserved : goal.loop-c-preserved
loop-c-preserved c =
    appended _ _ _ _ _ _ c.in_ok-write.ensures.bytes c.loop-c.invariant
    (figures_text-more c.args.book.now c.loop-c.c
    ∙ ap (λ b. figures_text c.args.book.now c.loop-c.c ++ (32 ∷ signed_decimal b))
    (sym (shown c.figure-figure.result _ (search rules) c.figure-figure.ensures)))
