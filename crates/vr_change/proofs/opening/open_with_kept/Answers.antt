use Rattle.std.proofs.Common.{map, arith}
use Rattle.std.proofs.lemmas.List.{length-map}
use Rattle.vr_types.specs.Choice.{IsPick}
use Rattle.vr_types.specs.Site.{Site}
use Rattle.vr_types.specs.Step.{learns}
use Rattle.vr_log.specs.Running.{site_of, vote_of}
use Rattle.vr_log.proofs.OutcomeLemmas.{follows_as}
use Rattle.vr_change.specs.Ballot.{votes_left}
use Rattle.vr_change.proofs.Ballots.{there_is}
use Rattle.vr_change.proofs.Left.{one_each-left}
use Rattle.vr_change.proofs.Openings.{opens_picked}
use Rattle.vr_change.proofs.opening.open_with_kept.Goals as goal

pub returns-clause-step : goal.returns-clause-step
returns-clause-step g c = λ choose start acks cell right h.
    let m = g.M.Machine in
    let f = c.args.config.f in
    let me = c.args.config.me in
    let r = c.args.running.now in
    let told = c.args.told.now in
    let x = site_of r acks cell in
    let y : Site _ = learns told x in
    let sent = c.args.sent.items in
    let votes = map vote_of r.votes.items in
    let left = votes_left r.known told votes in
    let long = length-map r.votes.items vote_of in
    let best = c.in-Some.ensures in
    let at = there_is (IsPick left) votes c.in-Some.at (omega (arith, best.0)) best.1 in
    follows_as m start f me _ c.open_with_vote.result _ _
    (opens_picked choose f me x y sent left at.0 c.most_done-done.result right (one_each-left r.known told votes h.sound.votes) at.2
    c.most_done-done.ensures)
    (c.open_with_vote.ensures.step at.0 at.1 choose start acks cell right h)
