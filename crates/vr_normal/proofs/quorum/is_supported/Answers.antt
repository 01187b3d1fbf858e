use Rattle.std.proofs.Common.{◌+◌, arith, sym, ◌∙◌, ap}
use Rattle.vr_normal.proofs.Supports.{count_yes, count_no, count_me}
use Rattle.vr_normal.proofs.quorum.is_supported.Goals as goal
use Rattle.vr_normal.proofs.quorum.is_supported.Goals.{then-site-config+then-place-acked, else-site-config, else-site-config-via-then-site-config+else-place-acked, else-site-config-via-else-site-config}

pub loop-site-preserved : goal.loop-site-preserved
loop-site-preserved c =
    let site = c.loop-site.site in
    let me = c.args.config.me in
    let place = c.args.place in
    let acked = c.args.acked.now in
    elim c.if-site-config.branch [
      | then-site-config+then-place-acked w ↦ record {
        counted = w.count-is ∙ ap (λ n. n + 1) c.loop-site.invariant.counted ∙ sym (count_yes site me place acked w.if-site-config.true w.if-place-acked.true);
        few = omega arith;
      }
      | else-site-config w ↦ elim w.else-site-config.branch [
        | else-site-config-via-then-site-config+else-place-acked v ↦ record {
          counted = w.count-is ∙ c.loop-site.invariant.counted ∙ sym (count_no site me place acked v.if-site-config.true v.if-place-acked.false);
          few = omega arith;
        }
        | else-site-config-via-else-site-config v ↦ record {
          counted = w.count-is ∙ c.loop-site.invariant.counted ∙ sym (count_me site me place acked v.if-site-config.false);
          few = omega arith;
        }
      ]
    ]
