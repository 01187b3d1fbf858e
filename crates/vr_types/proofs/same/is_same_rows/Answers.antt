use Rattle.std.proofs.Common.{◌≡◌, ◌++◌, ◌∷◌, [], take, sym, ap, ◌∙◌, refl, arith}
use Rattle.std.proofs.lemmas.List.{take_all}
use Rattle.vr_types.proofs.Lists.{take_next}
use Rattle.vr_types.proofs.same.is_same_rows.Goals as goal

pub loop-at-preserved : goal.loop-at-preserved
loop-at-preserved g c =
    let a = c.args.a.now in
    let b = c.args.b.now in
    let at = c.loop-at.at in
    take_next a at c.row.result c.row.ensures
    ∙ ap (λ rows. rows ++ c.row.result ∷ []) c.loop-at.invariant
    ∙ ap (λ row. take at b ++ row ∷ []) (c.is_same_row.ensures.0 c.if-not-is_same_row.false)
    ∙ sym (take_next b at c.row-in-loop-at.result c.row-in-loop-at.ensures)

pub returns : goal.returns
returns g c =
    let a = c.args.a.now in
    let b = c.args.b.now in
    let at = c.loop-at.at in
    let all_a : take at a ≡ a = take_all at a (omega (arith, c.len-at-end.ensures.length, c.loop-at-test.false)) in
    let all_b : take at b ≡ b =
    take_all at b (omega (arith, c.len-at-end.ensures.length, c.loop-at-test.false, c.if-len.false, c.len.ensures.length, c.len-2.ensures.length)) in
    (λ _. sym all_a ∙ c.loop-at.invariant ∙ all_b, λ _. refl)
