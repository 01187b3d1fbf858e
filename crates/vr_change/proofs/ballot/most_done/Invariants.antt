use Rattle.std.proofs.Common.{◌≡◌, map, take, max, fold}
use Rattle.vr_log.specs.Running.{vote_of}
use Rattle.vr_change.specs.Ballot.{votes_left}
use Rattle.vr_change.proofs.ballot.most_done.Given as goal

-- the most so far
abbrev pub invariant-loop-vote : goal.invariant-loop-vote
invariant-loop-vote g l =
    l.most ≡ fold (λ most vote. max most vote.done) 0 (votes_left l.running.known l.told (take l.vote-index (map vote_of l.running.votes.items)))
