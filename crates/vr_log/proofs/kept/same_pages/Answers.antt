use Rattle.std.proofs.Common.{◌*◌, ◌++◌, take, sym, ap, ◌∙◌}
use Rattle.vr_types.specs.Pages.{page_rows}
use Rattle.vr_log.specs.Clients.{rows_at}
use Rattle.vr_log.proofs.Rows.{page-more}
use Rattle.vr_log.proofs.kept.same_pages.Goals as goal

pub loop-page-preserved : goal.loop-page-preserved
loop-page-preserved g c =
    let a = c.args.a.now in
    let b = c.args.b.now in
    let page = c.loop-page.page in
    let here = sym c.page_at.ensures ∙ c.is_same_page.ensures c.if-not-is_same_page.false ∙ c.page_at-in-loop-page.ensures in
    page-more a page ∙ ap (λ l. l ++ rows_at a page) c.loop-page.invariant
    ∙ ap (λ l. take (page_rows * page) b ++ l) here ∙ sym (page-more b page)
