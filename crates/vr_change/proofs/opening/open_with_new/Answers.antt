use Rattle.std.proofs.Common.{◌≡◌, ◌++◌, ◌∷◌, [], map, max, sym, ap, ◌∙◌, arith}
use Rattle.std.proofs.lemmas.List.{length-map}
use Rattle.vr_types.specs.Choice.{IsPick}
use Rattle.vr_types.specs.Step.{learns}
use Rattle.vr_types.specs.Site.{Site, Vote}
use Rattle.vr_types.proofs.Choosing.{most_done_of}
use Rattle.vr_change.specs.Ballot.{votes_left}
use Rattle.vr_change.proofs.Left.{one_each-left}
use Rattle.vr_log.specs.Running.{site_of, vote_of}
use Rattle.vr_log.proofs.OutcomeLemmas.{follows_as}
use Rattle.vr_change.proofs.Ballots.{there_is, one_each-more}
use Rattle.vr_change.proofs.Openings.{opens_picked, most_done-more}
use Rattle.vr_change.proofs.opening.open_with_new.Goals as goal

pub returns-in-Some-clause-step : goal.returns-in-Some-clause-step
returns-in-Some-clause-step g c = λ choose start acks cell right h.
    let m = g.M.Machine in
    let f = c.args.config.f in
    let me = c.args.config.me in
    let r = c.args.running.now in
    let x = site_of r acks cell in
    let sent = c.args.sent.items in
    let y : Site _ = learns c.args.vote.known x in
    let told = c.args.vote.known in
    let votes = map vote_of r.votes.items in
    let vs = votes_left r.known told votes in
    let v : Vote _ = vote_of c.args.vote in
    let ballot = vs ++ v ∷ [] in
    let each = one_each-more vs v (one_each-left r.known told votes h.sound.votes) c.requires.new in
    let done : c.max-done.result ≡ most_done_of ballot = c.max-done.ensures ∙ ap (λ n. max n v.done) c.most_done.ensures ∙ most_done-more vs v in
    let pick = c.in-Some.ensures.pick v (sym c.of-new.ensures) in
    let long = length-map r.votes.items vote_of in
    let at = there_is (IsPick ballot) votes c.in-Some.at (omega (arith, c.in-Some.ensures.within)) pick in
    follows_as m start f me _ c.open_with_vote.result _ _ (opens_picked choose f me x y sent ballot at.0 c.max-done.result right each at.2 done)
    (c.open_with_vote.ensures.step at.0 at.1 choose start acks cell right h)

pub returns-in-None-clause-step : goal.returns-in-None-clause-step
returns-in-None-clause-step g c = λ choose start acks cell right h.
    let m = g.M.Machine in
    let f = c.args.config.f in
    let me = c.args.config.me in
    let r = c.args.running.now in
    let x = site_of r acks cell in
    let sent = c.args.sent.items in
    let y : Site _ = learns c.args.vote.known x in
    let told = c.args.vote.known in
    let votes = map vote_of r.votes.items in
    let vs = votes_left r.known told votes in
    let v : Vote _ = vote_of c.args.vote in
    let ballot = vs ++ v ∷ [] in
    let each = one_each-more vs v (one_each-left r.known told votes h.sound.votes) c.requires.new in
    let done : c.max-done.result ≡ most_done_of ballot = c.max-done.ensures ∙ ap (λ n. max n v.done) c.most_done.ensures ∙ most_done-more vs v in
    let pick : IsPick ballot v = c.in-None.ensures.pick v (sym c.of-new.ensures) in
    follows_as m start f me _ c.open_with_rows.result _ _ (opens_picked choose f me x y sent ballot v c.max-done.result right each pick done)
    (c.open_with_rows.ensures.step choose start acks cell right h)
