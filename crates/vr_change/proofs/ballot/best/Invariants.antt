use Rattle.std.proofs.Common.{◌≡◌, ◌<◌, length, map, take}
use Rattle.std.specs.Prelude.{IfSome}
use Rattle.vr_log.specs.Running.{vote_of}
use Rattle.vr_change.specs.Ballot.{votes_left, vote_at}
use Rattle.vr_change.proofs.Ballots.{best_of}
use Rattle.vr_change.proofs.ballot.best.Given as goal

-- the best so far
abbrev pub invariant-loop-at : goal.invariant-loop-at
invariant-loop-at g l = record {
  within : IfSome l.best (λ best. best < length l.running.votes.items);
  pick : vote_at (map vote_of l.running.votes.items) l.best ≡ best_of (votes_left l.running.known l.told (take l.at (map vote_of l.running.votes.items)));
}
