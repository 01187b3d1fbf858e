use Rattle.std.proofs.Common.{◌≡◌, ◌≤◌, nat_le, count_by, slice_index}
use Rattle.vr_log.proofs.Others.{others_below}
use Rattle.vr_normal.proofs.quorum.is_supported.Given as goal

-- of the sites so far
abbrev pub invariant-loop-site : goal.invariant-loop-site
invariant-loop-site l = record {
  counted : l.count ≡ count_by (λ j. nat_le l.place (slice_index l.acked j)) (others_below l.site l.config.me);
  few : l.count ≤ l.site;
}
