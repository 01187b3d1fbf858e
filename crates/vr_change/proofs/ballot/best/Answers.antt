use Rattle.std.proofs.Common.{◌<◌, ◌≤◌, true, false, length, map, sym, ap, ◌∙◌, subst, arith}
use Rattle.std.specs.Prelude.{IfSome}
use Rattle.std.proofs.lemmas.List.{length-map, take_all}
use Rattle.vr_log.specs.Running.{vote_of}
use Rattle.vr_change.specs.Ballot.{vote_at, votes_left}
use Rattle.vr_change.proofs.Ballots.{best_next, best_is_pick, best_of, something_at}
use Rattle.vr_change.proofs.ballot.best.Goals as goal
use Rattle.vr_change.proofs.ballot.best.Goals.{then-goes_next, else-goes_next}

pub loop-at-preserved : goal.loop-at-preserved
loop-at-preserved g c =
    let r = c.args.running.now in
    let votes = map vote_of r.votes.items in
    let at = c.loop-at.at in
    let i = c.loop-at.invariant in
    let long = length-map r.votes.items vote_of in
    let low : at < length r.votes.items = omega (arith, c.len-at-end.ensures, c.loop-at-test.true) in
    let a = something_at votes at (omega arith) in
    let test = sym (c.goes_next.ensures a.0 a.1) in
    elim c.if-goes_next.branch [
      | then-goes_next w ↦ record {
        within = subst (λ o. IfSome o (λ best. best < length r.votes.items)) (sym w.best-is) low;
        pick = ap (vote_at votes) w.best-is ∙ best_next r.known c.args.told.now votes at c.loop-at.best a.0 true a.1 i.pick (test ∙ w.if-goes_next.true);
      }
      | else-goes_next w ↦ record {
        within = subst (λ o. IfSome o (λ best. best < length r.votes.items)) (sym w.best-is) i.within;
        pick = ap (vote_at votes) w.best-is ∙ best_next r.known c.args.told.now votes at c.loop-at.best a.0 false a.1 i.pick (test ∙ w.if-goes_next.false);
      }
    ]

pub returns : goal.returns
returns g c =
    let r = c.args.running.now in
    let votes = map vote_of r.votes.items in
    let known = r.known in
    let told = c.args.told.now in
    let long = length-map r.votes.items vote_of in
    let all : length votes ≤ c.loop-at.at = omega (arith, c.len-at-end.ensures, c.loop-at-test.false) in
    best_is_pick votes (votes_left known told votes) (length r.votes.items) c.loop-at.best long
    (c.loop-at.invariant.pick ∙ ap (λ l. best_of (votes_left known told l)) (take_all c.loop-at.at votes all)) c.loop-at.invariant.within
