use Rattle.std.proofs.Common.{◌++◌, ◌∷◌, [], sym, ap, ◌∙◌, append_assoc}
use Rattle.std.specs.List.{slice_range}
use Rattle.vr_types.proofs.Pages.{slice_range-next}
use Rattle.vr_types.proofs.paged.PagedRows.append.Goals as goal

pub loop-at-preserved : goal.loop-at-preserved
loop-at-preserved g c =
    let before = c.args.self.now in
    let others = c.args.others.now in
    let so_far = slice_range others c.args.from c.loop-at.at in
    c.in_ok-push.ensures.ok
    ∙ ap (λ rows. rows ++ c.row.result ∷ []) c.loop-at.invariant
    ∙ append_assoc before so_far (c.row.result ∷ [])
    ∙ ap (λ rows. before ++ rows) (sym (slice_range-next others c.args.from c.loop-at.at c.row.result c.loop-at.auto.at c.row.ensures))
