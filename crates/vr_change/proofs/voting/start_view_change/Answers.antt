use Rattle.std.proofs.Common.{◌≡◌, ◌≤◌, ◌==◌, ◌&&◌, true, false, sym, ap, ◌∙◌, arith}
use Rattle.vr_types.specs.Change.{Part}
use Rattle.vr_types.specs.Site.{is_normal}
use Rattle.vr_types.specs.Step.{is_outdated}
use Rattle.vr_log.specs.Running.{site_of, start_of}
use Rattle.vr_log.proofs.OutcomeLemmas.{meets_as, follows_as, err_follows, drops_meets, running_is_here}
use Rattle.vr_change.specs.Parts.{starts_learnt, start_goes_on}
use Rattle.vr_change.proofs.Openings.{on_ok_then}
use Rattle.vr_change.proofs.Cases.{on_start_view_change-view, on_start_view_change-here, on_start_view_change-stale, on_start_view_change-is}
use Rattle.vr_change.proofs.Votes.{start-later, start-does, goes_on}
use Rattle.vr_change.proofs.voting.start_view_change.Goals as goal

pub returns-then-view-running-clause-step : goal.returns-then-view-running-clause-step
returns-then-view-running-clause-step g c = λ choose start acks cell right h.
    let m = g.M.Machine in
    let f = c.args.config.f in
    let me = c.args.config.me in
    let r = c.args.running.now in
    let w = c.args.view in
    let x = site_of r acks cell in
    let here = running_is_here r.status h.sound.up in
    let st = start_of c.args.start in
    let d = c.dropped in
    meets_as m start f me r d.result _ _ (on_start_view_change-view choose f me x w st here c.if-view-running.true)
    (drops_meets m start f me r d.result acks cell _ d.ensures h)

pub returns-then-is_normal_in-clause-step : goal.returns-then-is_normal_in-clause-step
returns-then-is_normal_in-clause-step g c = λ choose start acks cell right h.
    let m = g.M.Machine in
    let f = c.args.config.f in
    let me = c.args.config.me in
    let r = c.args.running.now in
    let w = c.args.view in
    let x = site_of r acks cell in
    let here = running_is_here r.status h.sound.up in
    let st = start_of c.args.start in
    let d = c.dropped-then-is_normal_in in
    let new : r.view ≤ w = omega arith in
    let there : (is_normal r.status && (w == r.view)) ≡ true = sym c.is_normal_in.ensures ∙ c.if-is_normal_in.true in
    meets_as m start f me r d.result _ _ (on_start_view_change-here choose f me x w st here new there)
    (drops_meets m start f me r d.result acks cell _ d.ensures h)

pub returns-then-is_outdated-clause-step : goal.returns-then-is_outdated-clause-step
returns-then-is_outdated-clause-step g c = λ choose start acks cell right h.
    let m = g.M.Machine in
    let f = c.args.config.f in
    let me = c.args.config.me in
    let r = c.args.running.now in
    let w = c.args.view in
    let x = site_of r acks cell in
    let here = running_is_here r.status h.sound.up in
    let st = start_of c.args.start in
    let d = c.dropped-then-is_outdated in
    let new : r.view ≤ w = omega arith in
    let later : (is_normal r.status && (w == r.view)) ≡ false = sym c.is_normal_in.ensures ∙ c.if-is_normal_in.false in
    let old : is_outdated r.known st.from st.known ≡ true = sym c.is_outdated.ensures ∙ c.if-is_outdated.true in
    meets_as m start f me r d.result _ _ (on_start_view_change-stale choose f me x w st here new later old)
    (drops_meets m start f me r d.result acks cell _ d.ensures h)

pub returns-in_err-sent-clause-step : goal.returns-in_err-sent-clause-step
returns-in_err-sent-clause-step g c = λ choose start acks cell right h.
    let m = g.M.Machine in
    let f = c.args.config.f in
    let me = c.args.config.me in
    let r = c.args.running.now in
    let w = c.args.view in
    let x = site_of r acks cell in
    let here = running_is_here r.status h.sound.up in
    let st = start_of c.args.start in
    let new : r.view ≤ w = omega arith in
    let later : (is_normal r.status && (w == r.view)) ≡ false = sym c.is_normal_in.ensures ∙ c.if-is_normal_in.false in
    let current : is_outdated r.known st.from st.known ≡ false = sym c.is_outdated.ensures ∙ c.if-is_outdated.false in
    err_follows m start f me _ c.from_residual.result _ c.from_residual.ensures.0
    (ap (λ s. s.ending) (on_start_view_change-is choose f me x w st here new later current
    ∙ start-does choose f me w x c.args.config.some new st c.in_err-sent.ensures.err))

pub returns-then-primary_of-config-clause-sound : goal.returns-then-primary_of-config-clause-sound
returns-then-primary_of-config-clause-sound g c = on_ok_then c.lead.result _ _ (λ h start s. h start (c.start_later.ensures.sound start s)) c.lead.ensures.sound

pub returns-then-primary_of-config-clause-step : goal.returns-then-primary_of-config-clause-step
returns-then-primary_of-config-clause-step g c = λ choose start acks cell right h.
    let m = g.M.Machine in
    let f = c.args.config.f in
    let me = c.args.config.me in
    let r = c.args.running.now in
    let w = c.args.view in
    let x = site_of r acks cell in
    let here = running_is_here r.status h.sound.up in
    let st = start_of c.args.start in
    let new : r.view ≤ w = omega arith in
    let later : (is_normal r.status && (w == r.view)) ≡ false = sym c.is_normal_in.ensures ∙ c.if-is_normal_in.false in
    let current : is_outdated r.known st.from st.known ≡ false = sym c.is_outdated.ensures ∙ c.if-is_outdated.false in
    let part : Part _ _ _ = starts_learnt f me w st.known x in
    let is = c.in_ok-sent.ensures.part start acks cell h in
    follows_as m start f me _ c.lead.result _ _ (on_start_view_change-is choose f me x w st here new later current
    ∙ start-later choose f me w x c.args.config.some new st)
    (goes_on m start f me c.start_later.new.running c.lead.new.running c.lead.result c.in_ok-sent.sent.items part is (start_goes_on choose f me st)
    (c.lead.ensures.step choose start part.site.collected.acks part.site.cell right is.running))

pub returns-else-primary_of-config-clause-sound : goal.returns-else-primary_of-config-clause-sound
returns-else-primary_of-config-clause-sound g c =
    on_ok_then c.follow.result _ _ (λ h start s. h start (c.start_later.ensures.sound start s)) c.follow.ensures.sound

pub returns-else-primary_of-config-clause-step : goal.returns-else-primary_of-config-clause-step
returns-else-primary_of-config-clause-step g c = λ choose start acks cell right h.
    let m = g.M.Machine in
    let f = c.args.config.f in
    let me = c.args.config.me in
    let r = c.args.running.now in
    let w = c.args.view in
    let x = site_of r acks cell in
    let here = running_is_here r.status h.sound.up in
    let st = start_of c.args.start in
    let new : r.view ≤ w = omega arith in
    let later : (is_normal r.status && (w == r.view)) ≡ false = sym c.is_normal_in.ensures ∙ c.if-is_normal_in.false in
    let current : is_outdated r.known st.from st.known ≡ false = sym c.is_outdated.ensures ∙ c.if-is_outdated.false in
    let part : Part _ _ _ = starts_learnt f me w st.known x in
    let is = c.in_ok-sent.ensures.part start acks cell h in
    follows_as m start f me _ c.follow.result _ _ (on_start_view_change-is choose f me x w st here new later current
    ∙ start-later choose f me w x c.args.config.some new st)
    (goes_on m start f me c.start_later.new.running c.follow.new.running c.follow.result c.in_ok-sent.sent.items part is (start_goes_on choose f me st)
    (c.follow.ensures.step choose start part.site.collected.acks part.site.cell is.running))
