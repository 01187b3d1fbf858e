use Rattle.std.proofs.Common.{◌++◌, ◌*◌, append_assoc, take, sym, ap, ◌∙◌, arith}
use Rattle.std.proofs.lemmas.List.{take_all}
use Rattle.vr_types.specs.Pages.{page_rows}
use Rattle.vr_types.specs.Rows.{newest}
use Rattle.vr_log.proofs.Rows.{page-more}
use Rattle.vr_log.proofs.clients.ClientsOf.note_rows.Goals as goal

pub loop-page-preserved : goal.loop-page-preserved
loop-page-preserved g c =
    let rows = c.args.rows.now in
    let before = take (page_rows * c.loop-page.page) rows in
    let here = c.page_at.result.now in (
      λ log was q. c.in_ok-note_page.ensures.ok (log ++ before) (c.loop-page.invariant.0 log was) q
          ∙ ap (λ l. newest l q) (append_assoc log before here
          ∙ ap (λ l. log ++ l) (ap (λ l. before ++ l) c.page_at.ensures ∙ sym (page-more rows c.loop-page.page))),
      λ q. c.note_page.ensures.replies q ∙ c.loop-page.invariant.1 q,
    )

pub returns-clause-ok : goal.returns-clause-ok
returns-clause-ok g c =
    let rows = c.args.rows.now in
    let page = c.loop-page.page in
    λ log was q. c.loop-page.invariant.0 log was q
    ∙ ap (λ l. newest (log ++ l) q) (take_all (page_rows * page) rows (omega (arith, c.page_count-page-end.ensures)))
