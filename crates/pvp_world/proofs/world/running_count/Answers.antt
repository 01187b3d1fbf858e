use Rattle.std.proofs.Common.{sym, ap, ◌∙◌, arith}
use Rattle.std.proofs.lemmas.List.Sums.{count_by_more_yes, count_by_more_no}
use Rattle.vr_types.specs.Site.{is_running}
use Rattle.pvp_world.proofs.world.running_count.Goals as goal
use Rattle.pvp_world.proofs.world.running_count.Goals.{then-runs, else-runs}

pub loop-site-preserved : goal.loop-site-preserved
loop-site-preserved g c =
    elim c.if-runs.branch [
      | then-runs w ↦ (let more = count_by_more_yes (λ site. is_running site.volatile.status) c.args.sites.now c.loop-site.site-index c.site-item.result
          c.loop-site-test.true (ap (λ site. is_running site.volatile.status) (sym c.site-item.is) ∙ (sym c.runs.ensures ∙ w.if-runs.true)) in
          let was = c.loop-site.invariant in (omega (arith, w.count-is, was.0), omega (arith, w.count-is, was.1, more)))
      | else-runs w ↦ (let same = count_by_more_no (λ site. is_running site.volatile.status) c.args.sites.now c.loop-site.site-index c.site-item.result
          c.loop-site-test.true (ap (λ site. is_running site.volatile.status) (sym c.site-item.is) ∙ (sym c.runs.ensures ∙ w.if-runs.false)) in
          let was = c.loop-site.invariant in (omega (arith, w.count-is, was.0), omega (arith, w.count-is, was.1, same)))
    ]
