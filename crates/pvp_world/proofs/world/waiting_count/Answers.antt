use Rattle.std.proofs.Common.{sym, ap, ◌∙◌, arith}
use Rattle.std.specs.Prelude.{is_some}
use Rattle.std.proofs.lemmas.List.Sums.{count_by_more_yes, count_by_more_no}
use Rattle.pvp_world.proofs.world.waiting_count.Goals as goal
use Rattle.pvp_world.proofs.world.waiting_count.Goals.{then-is_waiting, else-is_waiting}

pub loop-client-preserved : goal.loop-client-preserved
loop-client-preserved c =
    elim c.if-is_waiting.branch [
      | then-is_waiting w ↦ (let more = count_by_more_yes (λ shown. is_some shown.client.waiting) c.args.clients.now c.loop-client.client-index
          c.client-item.result c.loop-client-test.true
          (ap (λ shown. is_some shown.client.waiting) (sym c.client-item.is) ∙ (sym c.is_waiting.ensures ∙ w.if-is_waiting.true)) in
          let was = c.loop-client.invariant in (omega (arith, w.count-is, was.0), omega (arith, w.count-is, was.1, more)))
      | else-is_waiting w ↦ (let same = count_by_more_no (λ shown. is_some shown.client.waiting) c.args.clients.now c.loop-client.client-index
          c.client-item.result c.loop-client-test.true
          (ap (λ shown. is_some shown.client.waiting) (sym c.client-item.is) ∙ (sym c.is_waiting.ensures ∙ w.if-is_waiting.false)) in
          let was = c.loop-client.invariant in (omega (arith, w.count-is, was.0), omega (arith, w.count-is, was.1, same)))
    ]
