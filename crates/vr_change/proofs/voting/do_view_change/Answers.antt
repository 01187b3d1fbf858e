use Rattle.std.proofs.Common.{◌≡◌, ◌≤◌, ◌==◌, ◌&&◌, true, false, sym, ap, ◌∙◌, arith, eq-eqb}
use Rattle.std.proofs.lemmas.Bool.{ne_eqb}
use Rattle.vr_types.specs.Change.{Part}
use Rattle.vr_types.specs.Group.{primary}
use Rattle.vr_types.specs.Site.{is_normal}
use Rattle.vr_types.specs.Step.{is_outdated}
use Rattle.vr_log.specs.Running.{site_of, vote_of}
use Rattle.vr_log.proofs.OutcomeLemmas.{meets_as, follows_as, err_follows, drops_meets, running_is_here}
use Rattle.vr_change.specs.Parts.{starts_learnt, vote_goes_on}
use Rattle.vr_change.proofs.Openings.{on_ok_then}
use Rattle.vr_change.proofs.Cases.{on_do_view_change-view, on_do_view_change-backup, on_do_view_change-here, on_do_view_change-stale, on_do_view_change-is}
use Rattle.vr_change.proofs.Votes.{vote-later, vote-does, goes_on}
use Rattle.vr_change.proofs.voting.do_view_change.Goals as goal

pub returns-then-view-running-clause-step : goal.returns-then-view-running-clause-step
returns-then-view-running-clause-step g c = λ choose start acks cell right h.
    let m = g.M.Machine in
    let f = c.args.config.f in
    let me = c.args.config.me in
    let r = c.args.running.now in
    let w = c.args.view in
    let x = site_of r acks cell in
    let here = running_is_here r.status h.sound.up in
    let vote = vote_of c.args.vote in
    let d = c.dropped in
    meets_as m start f me r d.result _ _ (on_do_view_change-view choose f me x w vote here c.if-view-running.true)
    (drops_meets m start f me r d.result acks cell _ d.ensures h)

pub returns-then-primary_of-config-clause-step : goal.returns-then-primary_of-config-clause-step
returns-then-primary_of-config-clause-step g c = λ choose start acks cell right h.
    let m = g.M.Machine in
    let f = c.args.config.f in
    let me = c.args.config.me in
    let r = c.args.running.now in
    let w = c.args.view in
    let x = site_of r acks cell in
    let here = running_is_here r.status h.sound.up in
    let vote = vote_of c.args.vote in
    let d = c.dropped-then-primary_of-config in
    let new : r.view ≤ w = omega arith in
    let p : (primary f w == me) ≡ false = ne_eqb _ _ (λ same. c.if-primary_of-config.true (c.primary_of.ensures.site ∙ same)) in
    meets_as m start f me r d.result _ _ (on_do_view_change-backup choose f me x w vote here new p)
    (drops_meets m start f me r d.result acks cell _ d.ensures h)

pub returns-then-is_normal_in-clause-step : goal.returns-then-is_normal_in-clause-step
returns-then-is_normal_in-clause-step g c = λ choose start acks cell right h.
    let m = g.M.Machine in
    let f = c.args.config.f in
    let me = c.args.config.me in
    let r = c.args.running.now in
    let w = c.args.view in
    let x = site_of r acks cell in
    let here = running_is_here r.status h.sound.up in
    let vote = vote_of c.args.vote in
    let d = c.dropped-then-is_normal_in in
    let new : r.view ≤ w = omega arith in
    let p : (primary f w == me) ≡ true = eq-eqb _ _ (sym c.primary_of.ensures.site ∙ c.if-primary_of-config.false) in
    let there : (is_normal r.status && (w == r.view)) ≡ true = sym c.is_normal_in.ensures ∙ c.if-is_normal_in.true in
    meets_as m start f me r d.result _ _ (on_do_view_change-here choose f me x w vote here new p there)
    (drops_meets m start f me r d.result acks cell _ d.ensures h)

pub returns-then-is_outdated-clause-step : goal.returns-then-is_outdated-clause-step
returns-then-is_outdated-clause-step g c = λ choose start acks cell right h.
    let m = g.M.Machine in
    let f = c.args.config.f in
    let me = c.args.config.me in
    let r = c.args.running.now in
    let w = c.args.view in
    let x = site_of r acks cell in
    let here = running_is_here r.status h.sound.up in
    let vote = vote_of c.args.vote in
    let d = c.dropped-then-is_outdated in
    let new : r.view ≤ w = omega arith in
    let p : (primary f w == me) ≡ true = eq-eqb _ _ (sym c.primary_of.ensures.site ∙ c.if-primary_of-config.false) in
    let later : (is_normal r.status && (w == r.view)) ≡ false = sym c.is_normal_in.ensures ∙ c.if-is_normal_in.false in
    let old : is_outdated r.known vote.from vote.known ≡ true = sym c.is_outdated.ensures ∙ c.if-is_outdated.true in
    meets_as m start f me r d.result _ _ (on_do_view_change-stale choose f me x w vote here new p later old)
    (drops_meets m start f me r d.result acks cell _ d.ensures h)

pub returns-in_err-sent-clause-step : goal.returns-in_err-sent-clause-step
returns-in_err-sent-clause-step g c = λ choose start acks cell right h.
    let m = g.M.Machine in
    let f = c.args.config.f in
    let me = c.args.config.me in
    let r = c.args.running.now in
    let w = c.args.view in
    let x = site_of r acks cell in
    let here = running_is_here r.status h.sound.up in
    let vote = vote_of c.args.vote in
    let new : r.view ≤ w = omega arith in
    let p : (primary f w == me) ≡ true = eq-eqb _ _ (sym c.primary_of.ensures.site ∙ c.if-primary_of-config.false) in
    let later : (is_normal r.status && (w == r.view)) ≡ false = sym c.is_normal_in.ensures ∙ c.if-is_normal_in.false in
    let current : is_outdated r.known vote.from vote.known ≡ false = sym c.is_outdated.ensures ∙ c.if-is_outdated.false in
    err_follows m start f me _ c.from_residual.result _ c.from_residual.ensures.0
    (ap (λ s. s.ending) (on_do_view_change-is choose f me x w vote here new p later current
    ∙ vote-does choose f me w x c.args.config.some new vote c.in_err-sent.ensures.err))

pub returns-clause-sound : goal.returns-clause-sound
returns-clause-sound g c = on_ok_then c.take_vote.result _ _ (λ h start s. h start (c.start_later.ensures.sound start s)) c.take_vote.ensures.sound

pub returns-clause-step : goal.returns-clause-step
returns-clause-step g c = λ choose start acks cell right h.
    let m = g.M.Machine in
    let f = c.args.config.f in
    let me = c.args.config.me in
    let r = c.args.running.now in
    let w = c.args.view in
    let x = site_of r acks cell in
    let here = running_is_here r.status h.sound.up in
    let vote = vote_of c.args.vote in
    let new : r.view ≤ w = omega arith in
    let p : (primary f w == me) ≡ true = eq-eqb _ _ (sym c.primary_of.ensures.site ∙ c.if-primary_of-config.false) in
    let later : (is_normal r.status && (w == r.view)) ≡ false = sym c.is_normal_in.ensures ∙ c.if-is_normal_in.false in
    let current : is_outdated r.known vote.from vote.known ≡ false = sym c.is_outdated.ensures ∙ c.if-is_outdated.false in
    let part : Part _ _ _ = starts_learnt f me w vote.known x in
    let is = c.in_ok-sent.ensures.part start acks cell h in
    follows_as m start f me _ c.take_vote.result _ _ (on_do_view_change-is choose f me x w vote here new p later current
    ∙ vote-later choose f me w x c.args.config.some new vote)
    (goes_on m start f me c.start_later.new.running c.take_vote.new.running c.take_vote.result c.in_ok-sent.sent.items part is (vote_goes_on choose f me vote)
    (c.take_vote.ensures.step choose start part.site.collected.acks part.site.cell right is.running))
