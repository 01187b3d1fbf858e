use Rattle.std.proofs.Common.{ap, sym, ◌∙◌, length, ◌%◌, arith}
use Rattle.vr_types.specs.Pages.{on_page}
use Rattle.vr_types.proofs.Pages.{whole-pages}
use Rattle.vr_types.proofs.paged.PagedRows.push.Goals as goal

pub returns-in_err-page-clause-room : goal.returns-in_err-page-clause-room
returns-in_err-page-clause-room g c =
    λ begun.
    absurd
    (begun (ap (λ rows. length rows % 64) (sym c.self.view_is) ∙ whole-pages on_page c.self.inside.full.items c.self.inside.last.items c.self.invariant.full
    (omega (arith, c.if-len-ne0.false, c.len.ensures))))

pub returns-in_err-reserve-clause-room : goal.returns-in_err-reserve-clause-room
returns-in_err-reserve-clause-room g c =
    λ begun.
    absurd
    (begun (ap (λ rows. length rows % 64) (sym c.self.view_is) ∙ whole-pages on_page c.self.inside.full.items c.self.inside.last.items c.self.invariant.full
    (omega (arith, c.if-len-ne0.false, c.len.ensures))))

pub returns-in-Err-clause-room : goal.returns-in-Err-clause-room
returns-in-Err-clause-room g c =
    λ begun.
    absurd
    (begun (ap (λ rows. length rows % 64) (sym c.self.view_is) ∙ whole-pages on_page c.self.inside.full.items c.self.inside.last.items c.self.invariant.full
    (omega (arith, c.if-len-ne0.false, c.len.ensures))))
