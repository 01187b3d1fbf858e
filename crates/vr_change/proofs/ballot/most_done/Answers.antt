use Rattle.std.proofs.Common.{rules, ◌≡◌, true, false, map, max, slice_get, sym, ap, ◌∙◌}
use Rattle.vr_log.specs.Running.{vote_of}
use Rattle.vr_change.proofs.Ballots.{kept_at, most_next}
use Rattle.vr_change.proofs.ballot.most_done.Goals as goal
use Rattle.vr_change.proofs.ballot.most_done.Goals.{then-is_left, else-is_left}

pub loop-vote-preserved : goal.loop-vote-preserved
loop-vote-preserved g c =
    let r = c.args.running.now in
    let votes = map vote_of r.votes.items in
    let at = c.loop-vote.vote-index in
    let a = c.vote-item.result in
    let same = c.deref-vote-items.ensures.value in
    let there = ap (λ l. slice_get (map vote_of l) at) (sym same) ∙ kept_at c.deref-vote-items.result.now at a c.loop-vote-test.true c.vote-item.is in
    let left = sym c.is_left.ensures in
    elim c.if-is_left.branch [
      | then-is_left w ↦
          let more : w.max-most.result ≡ max c.loop-vote.most a.done = search rules in
          w.most-is ∙ more ∙ ap (λ m. max m a.done) c.loop-vote.invariant ∙ most_next r.known c.args.told.now votes at (vote_of a) true there
          (left ∙ w.if-is_left.true)
      | else-is_left w ↦ w.most-is ∙ c.loop-vote.invariant ∙ most_next r.known c.args.told.now votes at (vote_of a) false there (left ∙ w.if-is_left.false)
    ]
