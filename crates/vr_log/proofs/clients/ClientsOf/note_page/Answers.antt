use Rattle.std.proofs.Common.{◌==◌, if◌then◌else◌, length, refl, ap, ◌∙◌}
use Rattle.std.proofs.lemmas.Option.{slice_get_read}
use Rattle.vr_log.proofs.Rows.{newest_next}
use Rattle.vr_log.proofs.clients.ClientsOf.note_page.Goals as goal

pub loop-row-preserved : goal.loop-row-preserved
loop-row-preserved g c =
    let page = c.args.page.now in
    let at = c.loop-row.row-index in
    let row = c.row-item.result in (
      λ log was q. c.in_ok-note.ensures.ok q
          ∙ ap (λ n. if row.client == q then row.number else n) (c.loop-row.invariant.0 log was q)
          ∙ newest_next log page at row q (slice_get_read page (length page) at row refl c.loop-row-test.true c.row-item.is),
      λ q. c.note.ensures.replies q ∙ c.loop-row.invariant.1 q,
    )
