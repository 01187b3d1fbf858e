use Rattle.std.proofs.Common.{◌≡◌, ◌==◌, true, false, map, count_by, nat_lt, sym, ap, ◌∙◌, eq-eqb}
use Rattle.vr_types.specs.Group.{primary, sites}
use Rattle.vr_types.specs.Site.{Site, has_vote, is_change}
use Rattle.vr_types.specs.Step.{learns}
use Rattle.vr_log.specs.Running.{site_of, vote_of}
use Rattle.vr_log.proofs.OutcomeLemmas.{follows_as}
use Rattle.vr_change.specs.Ballot.{votes_left}
use Rattle.vr_change.specs.Parts.{opens_with}
use Rattle.vr_change.proofs.Openings.{on_ok_then}
use Rattle.vr_change.proofs.Votes.{voted, take-is, take-not, opens-col, opens-now, not_open-own, not_open-few, has_ballot, count_ballot, with_ballot-kept, with_ballot-new, changes}
use Rattle.vr_change.proofs.voting.take_vote.Goals as goal

pub returns-then-not-votes_now-clause-sound : goal.returns-then-not-votes_now-clause-sound
returns-then-not-votes_now-clause-sound g c = on_ok_then c.keep_vote.result _ _ (λ h. h c.args.config.f) c.keep_vote.ensures.sound

pub returns-then-not-enough_voted-clause-sound : goal.returns-then-not-enough_voted-clause-sound
returns-then-not-enough_voted-clause-sound g c =
    on_ok_then c.keep_vote-then-not-enough_voted.result _ _ (λ h. h c.args.config.f) c.keep_vote-then-not-enough_voted.ensures.sound

pub returns-then-not-votes_now-clause-step : goal.returns-then-not-votes_now-clause-step
returns-then-not-votes_now-clause-step g c = λ choose start acks cell right h.
    let m = g.M.Machine in
    let f = c.args.config.f in
    let me = c.args.config.me in
    let r = c.args.running.now in
    let x = site_of r acks cell in
    let vote = vote_of c.args.vote in
    let y : Site _ = learns vote.known x in
    let sent = c.args.sent.items in
    let vs = votes_left r.known vote.known (map vote_of r.votes.items) in
    let p : (primary f r.view == me) ≡ true = eq-eqb _ _ c.requires.mine in
    let z = voted vote y in
    let own : has_vote z.collected.votes me ≡ false = has_ballot vs vote me ∙ sym c.votes_now.ensures ∙ c.if-not-votes_now.true in
    follows_as m start f me _ c.keep_vote.result _ _ (take-not choose f me x y vote sent (not_open-own f me z own))
    (c.keep_vote.ensures.step c.args.config start acks cell h)

pub returns-then-not-enough_voted-clause-step : goal.returns-then-not-enough_voted-clause-step
returns-then-not-enough_voted-clause-step g c = λ choose start acks cell right h.
    let m = g.M.Machine in
    let f = c.args.config.f in
    let me = c.args.config.me in
    let r = c.args.running.now in
    let x = site_of r acks cell in
    let vote = vote_of c.args.vote in
    let y : Site _ = learns vote.known x in
    let sent = c.args.sent.items in
    let vs = votes_left r.known vote.known (map vote_of r.votes.items) in
    let p : (primary f r.view == me) ≡ true = eq-eqb _ _ c.requires.mine in
    let z = voted vote y in
    let count : nat_lt f (count_by (has_vote z.collected.votes) (sites f)) ≡ false =
    ap (nat_lt f) (count_ballot f vs vote) ∙ sym c.enough_voted.ensures ∙ c.if-not-enough_voted.true in
    follows_as m start f me _ c.keep_vote-then-not-enough_voted.result _ _ (take-not choose f me x y vote sent (not_open-few f me z count))
    (c.keep_vote-then-not-enough_voted.ensures.step c.args.config start acks cell h)

pub returns-then-has_vote_left-clause-step : goal.returns-then-has_vote_left-clause-step
returns-then-has_vote_left-clause-step g c = λ choose start acks cell right h.
    let m = g.M.Machine in
    let f = c.args.config.f in
    let me = c.args.config.me in
    let r = c.args.running.now in
    let x = site_of r acks cell in
    let vote = vote_of c.args.vote in
    let y : Site _ = learns vote.known x in
    let sent = c.args.sent.items in
    let vs = votes_left r.known vote.known (map vote_of r.votes.items) in
    let p : (primary f r.view == me) ≡ true = eq-eqb _ _ c.requires.mine in
    let z = voted vote y in
    let own : has_vote z.collected.votes me ≡ true = has_ballot vs vote me ∙ sym c.votes_now.ensures ∙ c.if-not-votes_now.false in
    let count : nat_lt f (count_by (has_vote z.collected.votes) (sites f)) ≡ true =
    ap (nat_lt f) (count_ballot f vs vote) ∙ sym c.enough_voted.ensures ∙ c.if-not-enough_voted.false in
    let change : is_change r.status ≡ true = changes r.status h.sound.up c.requires.change in
    let opened = opens-now f me z change p own count in
    let has : has_vote vs vote.from ≡ true = sym c.has_vote_left.ensures ∙ c.if-has_vote_left.true in
    follows_as m start f me _ c.open_with_kept.result _ _
    (take-is choose f me x y vote sent ∙ opens-col choose f me x y z.collected sent opened
    ∙ ap (λ l. opens_with choose f me x y sent (choose.pick l).log (choose.most_done l)) (with_ballot-kept vs vote has))
    (c.open_with_kept.ensures.step choose start acks cell right h)

pub returns-else-has_vote_left-clause-step : goal.returns-else-has_vote_left-clause-step
returns-else-has_vote_left-clause-step g c = λ choose start acks cell right h.
    let m = g.M.Machine in
    let f = c.args.config.f in
    let me = c.args.config.me in
    let r = c.args.running.now in
    let x = site_of r acks cell in
    let vote = vote_of c.args.vote in
    let y : Site _ = learns vote.known x in
    let sent = c.args.sent.items in
    let vs = votes_left r.known vote.known (map vote_of r.votes.items) in
    let p : (primary f r.view == me) ≡ true = eq-eqb _ _ c.requires.mine in
    let z = voted vote y in
    let own : has_vote z.collected.votes me ≡ true = has_ballot vs vote me ∙ sym c.votes_now.ensures ∙ c.if-not-votes_now.false in
    let count : nat_lt f (count_by (has_vote z.collected.votes) (sites f)) ≡ true =
    ap (nat_lt f) (count_ballot f vs vote) ∙ sym c.enough_voted.ensures ∙ c.if-not-enough_voted.false in
    let change : is_change r.status ≡ true = changes r.status h.sound.up c.requires.change in
    let opened = opens-now f me z change p own count in
    let has : has_vote vs vote.from ≡ false = sym c.has_vote_left.ensures ∙ c.if-has_vote_left.false in
    follows_as m start f me _ c.open_with_new.result _ _
    (take-is choose f me x y vote sent ∙ opens-col choose f me x y z.collected sent opened
    ∙ ap (λ l. opens_with choose f me x y sent (choose.pick l).log (choose.most_done l)) (with_ballot-new vs vote has))
    (c.open_with_new.ensures.step choose start acks cell right h)
