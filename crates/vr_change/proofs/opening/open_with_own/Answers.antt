use Rattle.std.proofs.Common.{◌≡◌, true, ◌++◌, ◌∷◌, [], map, max, refl, sym, ap, ◌∙◌, arith}
use Rattle.std.proofs.lemmas.List.{length-map}
use Rattle.vr_types.specs.Choice.{IsPick}
use Rattle.vr_types.specs.Site.{Site, Vote}
use Rattle.vr_types.specs.Change.{own_vote}
use Rattle.vr_types.proofs.Choosing.{most_done_of}
use Rattle.vr_change.specs.Ballot.{votes_left}
use Rattle.vr_change.proofs.Left.{one_each-left}
use Rattle.vr_log.specs.Running.{site_of, vote_of}
use Rattle.vr_log.proofs.OutcomeLemmas.{follows_as}
use Rattle.vr_change.proofs.Ballots.{there_is, one_each-more}
use Rattle.vr_change.proofs.Openings.{opens_picked, opens_with-opens, most_done-more}
use Rattle.vr_types.specs.Step.{learns, begins_with_executed}
use Rattle.vr_log.proofs.Begins.{begins_is}
use Rattle.vr_change.specs.Ballot.{claim}
use Rattle.vr_change.specs.declared.ballot.Claim.{Claim}
use Rattle.vr_change.proofs.opening.open_with_own.Goals as goal

pub returns-in-Some-clause-step : goal.returns-in-Some-clause-step
returns-in-Some-clause-step g c = λ choose start acks cell right h.
    let m = g.M.Machine in
    let f = c.args.config.f in
    let me = c.args.config.me in
    let r = c.args.running.now in
    let x = site_of r acks cell in
    let sent = c.args.sent.items in
    let y : Site _ = learns c.args.told.now x in
    let told = c.args.told.now in
    let votes = map vote_of r.votes.items in
    let vs = votes_left r.known told votes in
    let v : Vote _ = own_vote me y in
    let ballot = vs ++ v ∷ [] in
    let each = one_each-more vs v (one_each-left r.known told votes h.sound.votes) c.requires.new in
    let done : c.max-done.result ≡ most_done_of ballot = c.max-done.ensures ∙ ap (λ n. max n v.done) c.most_done.ensures ∙ most_done-more vs v in
    let mine : claim v ≡ record { from = me; last_normal = r.last_normal; rows = c.len.result } =
    ap (λ n. let k : Claim = record { from = me; last_normal = r.last_normal; rows = n } in k) (sym c.len.ensures.length) in
    let pick = c.in-Some.ensures.pick v mine in
    let long = length-map r.votes.items vote_of in
    let at = there_is (IsPick ballot) votes c.in-Some.at (omega (arith, c.in-Some.ensures.within)) pick in
    follows_as m start f me _ c.open_with_vote.result _ _ (opens_picked choose f me x y sent ballot at.0 c.max-done.result right each at.2 done)
    (c.open_with_vote.ensures.step at.0 at.1 choose start acks cell right h)

pub returns-in-None-clause-step : goal.returns-in-None-clause-step
returns-in-None-clause-step g c = λ choose start acks cell right h.
    let m = g.M.Machine in
    let f = c.args.config.f in
    let me = c.args.config.me in
    let r = c.args.running.now in
    let x = site_of r acks cell in
    let sent = c.args.sent.items in
    let y : Site _ = learns c.args.told.now x in
    let told = c.args.told.now in
    let votes = map vote_of r.votes.items in
    let vs = votes_left r.known told votes in
    let v : Vote _ = own_vote me y in
    let ballot = vs ++ v ∷ [] in
    let each = one_each-more vs v (one_each-left r.known told votes h.sound.votes) c.requires.new in
    let done : c.max-done.result ≡ most_done_of ballot = c.max-done.ensures ∙ ap (λ n. max n v.done) c.most_done.ensures ∙ most_done-more vs v in
    let mine : claim v ≡ record { from = me; last_normal = r.last_normal; rows = c.len.result } =
    ap (λ n. let k : Claim = record { from = me; last_normal = r.last_normal; rows = n } in k) (sym c.len.ensures.length) in
    let pick : IsPick ballot v = c.in-None.ensures.pick v mine in
    let begins : begins_with_executed choose.same y y.log ≡ true =
    sym (begins_is choose.same right.same true x.done x.log x.log h.sound.kept.within ((λ _. refl), (λ _. refl))) in
    follows_as m start f me _ c.open.result _ _ (opens_picked choose f me x y sent ballot v c.max-done.result right each pick done
    ∙ opens_with-opens choose f me x y sent y.log c.max-done.result begins)
    (c.open.ensures.step start acks cell h)
