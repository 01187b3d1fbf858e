use Rattle.std.proofs.Common.{◌≡◌, ◌+◌, arith, ◌∙◌, ap, sym, Some, ◌++◌, ◌∷◌, []}
use Rattle.vr_log.specs.Kept.{answer_to}
use Rattle.vr_log.proofs.Rows.{given_next}
use Rattle.std.specs.List.{filter_map}
use Rattle.vr_types.specs.Step.{places_between}
use Rattle.vr_log.proofs.kept.Kept.execute.Goals as goal

pub loop-self-preserved : goal.loop-self-preserved
loop-self-preserved g c =
    let m = g.M.Machine in
    let i = c.loop-self.invariant in
    let first = c.args.self.now in
    let before = c.loop-self.self in
    let now = c.in_ok-answer.ensures in
    record {
      log = now.log ∙ i.log;
      later = omega (arith, now.done);
      within = omega (arith, now.done);
      ready = now.ready;
      kept = λ start was. now.kept start (i.kept start was);
      answers = λ start was.
          let h = answer_to m start first.log in
          let here : h (before.done + 1) ≡ Some c.in_ok-answer.answer =
          ap (λ log. answer_to m start log (before.done + 1)) (sym i.log) ∙ now.answer start (i.kept start was) in
          c.in_ok-push.ensures.items ∙ ap (λ answers. answers ++ c.in_ok-answer.answer ∷ []) (i.answers start was)
          ∙ sym (given_next h first.done before.done c.in_ok-answer.answer i.later here)
          ∙ ap (λ n. filter_map h (places_between first.done n)) (sym now.done);
    }
