use Rattle.std.proofs.Common.{◌≡◌, ◌++◌, ◌∷◌, [], map, sym, ap, ◌∙◌}
use Rattle.vr_types.specs.Choice.{IsPick}
use Rattle.vr_types.proofs.Choosing.{goes_before}
use Rattle.vr_log.specs.Running.{vote_of}
use Rattle.vr_change.specs.Ballot.{claim, claims_before, votes_left}
use Rattle.vr_change.proofs.Ballots.{kept_at, picked, picked_at, pick_new, pick_kept}
use Rattle.vr_change.proofs.ballot.best_before.Goals as goal

pub returns-then-goes_before-clause-pick : goal.returns-then-goes_before-clause-pick
returns-then-goes_before-clause-pick g c = λ vote same.
    let r = c.args.running.now in
    let votes = map vote_of r.votes.items in
    let left = votes_left r.known c.args.told.now votes in
    let at = c.in_ok-at.at in
    let b = vote_of c.index.result.now in
    let best = c.in_ok-at.ensures in
    let eb = kept_at r.votes.items at c.index.result.now best.0 c.index.ensures in
    let p : IsPick left b = picked votes left at b eb best.1 in
    let test : goes_before vote b ≡ c.goes_before.result =
    sym (c.goes_before.ensures ∙ ap (λ k. claims_before k c.of.result) (sym same) ∙ ap (claims_before (claim vote)) c.of.ensures) in
    pick_new left b vote p (test ∙ c.if-goes_before.true)

pub returns-else-goes_before-clause-pick : goal.returns-else-goes_before-clause-pick
returns-else-goes_before-clause-pick g c = λ vote same.
    let r = c.args.running.now in
    let votes = map vote_of r.votes.items in
    let left = votes_left r.known c.args.told.now votes in
    let at = c.in_ok-at.at in
    let b = vote_of c.index.result.now in
    let best = c.in_ok-at.ensures in
    let eb = kept_at r.votes.items at c.index.result.now best.0 c.index.ensures in
    let p : IsPick left b = picked votes left at b eb best.1 in
    let test : goes_before vote b ≡ c.goes_before.result =
    sym (c.goes_before.ensures ∙ ap (λ k. claims_before k c.of.result) (sym same) ∙ ap (claims_before (claim vote)) c.of.ensures) in
    picked_at votes (left ++ vote ∷ []) at b eb (pick_kept left b vote p (test ∙ c.if-goes_before.false))
