use Rattle.std.proofs.Common.{◌≡◌, ◌≤◌, ◌==◌, ◌||◌, map, count_by}
use Rattle.std.specs.List.{range_with_len}
use Rattle.vr_types.specs.Site.{has_vote}
use Rattle.vr_log.specs.Running.{vote_of}
use Rattle.vr_change.specs.Ballot.{votes_left}
use Rattle.vr_change.proofs.ballot.enough_voted.Given as goal

-- of the sites so far
abbrev pub invariant-loop-site : goal.invariant-loop-site
invariant-loop-site g l = record {
  counted : l.count ≡ count_by (λ j. has_vote (votes_left l.running.known l.told (map vote_of l.running.votes.items)) j || (l.from == j))
      (range_with_len 0 l.site);
  few : l.count ≤ l.site;
}
