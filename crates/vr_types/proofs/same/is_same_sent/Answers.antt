use Rattle.std.proofs.Common.{◌≡◌, ◌++◌, ◌∷◌, [], take, length, sym, ap, ◌∙◌, refl, arith}
use Rattle.std.proofs.lemmas.List.{take_all}
use Rattle.std.proofs.lemmas.Option.{slice_get_read}
use Rattle.vr_types.proofs.Lists.{take_next}
use Rattle.vr_types.proofs.same.is_same_sent.Goals as goal

pub loop-i-preserved : goal.loop-i-preserved
loop-i-preserved g c =
    let a = c.args.a.now in
    let b = c.args.b.now in
    let i = c.loop-i.i in
    let x = c.index-a-i.result in
    let y = c.index-b-i.result in
    take_next a i x (slice_get_read a (length a) i x refl (omega (arith, c.loop-i-test.true)) c.index-a-i.is)
    ∙ ap (λ items. items ++ x ∷ []) c.loop-i.invariant
    ∙ ap (λ item. take i b ++ item ∷ []) (c.is_same_envelope.ensures.0 c.if-not-is_same_envelope.false)
    ∙ sym (take_next b i y (slice_get_read b (length b) i y refl (omega (arith, c.loop-i-test.true, c.if-a-b.false)) c.index-b-i.is))

pub returns : goal.returns
returns g c =
    let a = c.args.a.now in
    let b = c.args.b.now in
    let i = c.loop-i.i in
    let all_a : take i a ≡ a = take_all i a (omega (arith, c.loop-i-test.false)) in
    let all_b : take i b ≡ b = take_all i b (omega (arith, c.loop-i-test.false, c.if-a-b.false)) in
    (λ _. sym all_a ∙ c.loop-i.invariant ∙ all_b, λ _. refl)
