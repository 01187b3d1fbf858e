use Rattle.std.proofs.Common.{◌≡◌, ℕ, ◌+◌, ◌==◌, ◌||◌, true, false, map, sym, ap, ◌∙◌, arith}
use Rattle.vr_types.specs.Site.{has_vote}
use Rattle.vr_log.specs.Running.{vote_of}
use Rattle.vr_change.specs.Ballot.{votes_left}
use Rattle.vr_change.proofs.Counts.{count_next}
use Rattle.vr_change.proofs.ballot.enough_voted.Goals as goal
use Rattle.vr_change.proofs.ballot.enough_voted.Goals.{then-votes_now, else-votes_now}

none_more : (n : ℕ) → n + 0 ≡ n
none_more n = omega arith

pub loop-site-preserved : goal.loop-site-preserved
loop-site-preserved g c =
    let site = c.loop-site.site in
    let more = c.votes_now.ensures in
    elim c.if-votes_now.branch [
      | then-votes_now w ↦ record {
        counted =
            w.count-is ∙ ap (λ n. n + 1) c.loop-site.invariant.counted ∙ sym
            (count_next (λ j. has_vote (votes_left c.args.running.now.known c.args.told.now (map vote_of c.args.running.now.votes.items)) j
            || (c.args.from == j)) site true (sym more ∙ w.if-votes_now.true));
        few = omega arith;
      }
      | else-votes_now w ↦ record {
        counted =
            w.count-is ∙ c.loop-site.invariant.counted ∙ sym
            (count_next (λ j. has_vote (votes_left c.args.running.now.known c.args.told.now (map vote_of c.args.running.now.votes.items)) j
            || (c.args.from == j)) site false (sym more ∙ w.if-votes_now.false) ∙ none_more _);
        few = omega arith;
      }
    ]
