use Rattle.std.proofs.Common.{length, sym, ap, ◌∙◌, arith}
use Rattle.std.proofs.lemmas.List.{take_all}
use Rattle.vr_types.specs.Site.{executed_rows}
use Rattle.pvp_book.specs.Ledger.{opening}
use Rattle.pvp_book.specs.Answer.{after_rows}
use Rattle.headline.proofs.Books.{held-is}
use Rattle.pvp_window.specs.Readings.{behind_label}
use Rattle.pvp_window.proofs.laws.sites_show_the_same.Goals as goal

pub returns : goal.returns
returns c = λ setup early late x y looked agree has_x has_y same.
    let n = length (executed_rows x) in
    let start = opening setup in
    ap (λ held. behind_label held looked)
    (held-is start (executed_rows x)
    ∙ ap (after_rows start) (sym (take_all n (executed_rows x) (omega arith)))
    ∙ agree x y n has_x has_y (omega arith) (omega (arith, same))
    ∙ ap (after_rows start) (take_all n (executed_rows y) (omega (arith, same)))
    ∙ sym (held-is start (executed_rows y)))
