use Rattle.std.proofs.Common.{◌+◌, [], ◌∷◌, ◌++◌, sym, ap, ◌∙◌, append_assoc}
use Rattle.std.specs.List.{range_with_len}
use Rattle.pvp_live.proofs.Rows.{range_more}
use Rattle.pvp_live.proofs.actors.add_range.Goals as goal

pub loop-at-preserved : goal.loop-at-preserved
loop-at-preserved c =
    let old = c.args.numbers.now.items in
    let first = c.args.first in
    let at = c.loop-at.at in
    c.in_ok-push.ensures.items ∙ ap (λ l. l ++ (first + at) ∷ []) c.loop-at.invariant ∙ append_assoc old (range_with_len first at) ((first + at) ∷ [])
    ∙ ap (λ l. old ++ l) (sym (range_more first at))
