use Rattle.std.proofs.Common.{◌≡◌, ◌+◌, true≢false, arith, sym, subst, ◌∙◌, length}
use Rattle.vr_normal.proofs.Supports.{IsBest, best_none, best_taken, best_kept, best_is_largest}
use Rattle.vr_normal.proofs.quorum.commit_place.Goals as goal
use Rattle.vr_normal.proofs.quorum.commit_place.Goals.{then-candidate-place+then-is_supported, else-candidate-place, else-candidate-place-via-then-candidate-place+else-is_supported, else-candidate-place-via-else-candidate-place}

pub loop-candidate-init : goal.loop-candidate-init
loop-candidate-init c = best_none c.args.config.f c.args.config.me c.args.acked.now

pub loop-candidate-preserved : goal.loop-candidate-preserved
loop-candidate-preserved c =
    let f = c.args.config.f in
    let me = c.args.config.me in
    let acked = c.args.acked.now in
    let i = c.loop-candidate.candidate-index in
    let best = c.loop-candidate.invariant in
    elim c.if-candidate-place.branch [
      | then-candidate-place+then-is_supported w ↦
          subst (IsBest f me acked (i + 1)) (sym w.place-is)
          (best_taken f me acked i c.loop-candidate.place best (sym w.is_supported.ensures ∙ w.if-is_supported.true) w.if-candidate-place.true)
      | else-candidate-place w ↦ subst (IsBest f me acked (i + 1)) (sym w.place-is) (elim w.else-candidate-place.branch [
        | else-candidate-place-via-then-candidate-place+else-is_supported v ↦
            best_kept f me acked i c.loop-candidate.place best (λ s. absurd (true≢false (sym s ∙ sym v.is_supported.ensures ∙ v.if-is_supported.false)))
        | else-candidate-place-via-else-candidate-place v ↦
            best_kept f me acked i c.loop-candidate.place best (λ s. v.if-candidate-place.false)
      ])
    ]

pub returns : goal.returns
returns c =
    let end : c.loop-candidate.candidate-index ≡ length c.args.acked.now = omega arith in
    best_is_largest c.args.config.f c.args.config.me c.args.acked.now c.loop-candidate.place c.args.config.some
    (subst (λ n. IsBest c.args.config.f c.args.config.me c.args.acked.now n c.loop-candidate.place) end c.loop-candidate.invariant)
