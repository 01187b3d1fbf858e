use Rattle.std.proofs.Common.{◌≡◌, ◌≤◌, ◌==◌, ◌&&◌, ◌||◌, not, map, count_by}
use Rattle.std.specs.List.{range_with_len}
use Rattle.vr_types.specs.Site.{has_start}
use Rattle.vr_log.specs.Running.{start_of}
use Rattle.vr_change.specs.Ballot.{starts_left}
use Rattle.vr_change.proofs.ballot.enough_started.Given as goal

-- of the sites so far
abbrev pub invariant-loop-site : goal.invariant-loop-site
invariant-loop-site g l = record {
  counted : l.count ≡ count_by (λ j. not (j == l.config.me)
      && (has_start (starts_left l.running.known l.told (map start_of l.running.starts.items)) j || (l.from == j))) (range_with_len 0 l.site);
  few : l.count ≤ l.site;
}
