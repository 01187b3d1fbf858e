use Rattle.std.proofs.Common.{◌==◌, [], if◌then◌else◌, ap, ◌∙◌, arith}
use Rattle.vr_log.proofs.Rows.{newest_next}
use Rattle.vr_log.proofs.clients.ClientsOf.rebuild.Goals as goal

pub loop-at-preserved : goal.loop-at-preserved
loop-at-preserved g c =
    let at = c.loop-at.at in
    let row = c.row-row.result in (
      λ was q. c.set_newest.ensures.newest q
          ∙ ap (λ n. if row.client == q then row.number else n) (c.loop-at.invariant.0 was q)
          ∙ newest_next [] c.args.log.now at row q c.row-row.ensures,
      λ q. c.set_newest.ensures.replies q ∙ c.loop-at.invariant.1 q,
      λ k other after before there.
          (let low = c.loop-at.invariant.2 k other after before there in omega (arith, low, c.set_newest.ensures.places)),
    )
