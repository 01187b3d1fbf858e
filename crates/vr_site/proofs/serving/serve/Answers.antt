use Rattle.std.proofs.Common.{sym, ap, ◌∙◌}
use Rattle.vr_types.specs.Change.{vote_of, on_start_view_change, on_do_view_change, on_start_view}
use Rattle.vr_types.specs.Handling.{on_message}
use Rattle.vr_types.specs.Normal.{on_prepare, on_prepare_ok, on_commit}
use Rattle.vr_types.specs.Recovery.{on_recovery}
use Rattle.vr_types.specs.Transfer.{on_get_state, on_new_state}
use Rattle.vr_log.specs.Running.{site_of}
use Rattle.vr_log.proofs.OutcomeLemmas.{meets_as, follows_as, drops_meets}
use Rattle.vr_site.proofs.Cells.{response_drops}
use Rattle.vr_site.proofs.serving.serve.Goals as goal

pub returns-in-Request-clause-step : goal.returns-in-Request-clause-step
returns-in-Request-clause-step g c = λ choose start acks cell right h.
    let f = c.args.config.f in
    let me = c.args.config.me in
    let r = c.args.running.now in
    let x = site_of r acks cell in
    follows_as g.M.Machine start f me c.request.new.running c.request.result _ _
    (ap (λ msg. on_message choose f me x c.args.from msg) c.in-Request.is)
    (c.request.ensures.step start acks cell h)

pub returns-in-Prepare-clause-step : goal.returns-in-Prepare-clause-step
returns-in-Prepare-clause-step g c = λ choose start acks cell right h.
    let f = c.args.config.f in
    let me = c.args.config.me in
    let r = c.args.running.now in
    let x = site_of r acks cell in
    follows_as g.M.Machine start f me c.prepare.new.running c.prepare.result _ _
    (ap (λ msg. on_message choose f me x c.args.from msg) c.in-Prepare.is ∙ ap (λ s. on_prepare f me x s c.in-Prepare.prepare) (sym c.site_number-site.ensures))
    (c.prepare.ensures.step start acks cell h)

pub returns-in-PrepareOk-clause-step : goal.returns-in-PrepareOk-clause-step
returns-in-PrepareOk-clause-step g c = λ choose start acks cell right h.
    let f = c.args.config.f in
    let me = c.args.config.me in
    let r = c.args.running.now in
    let x = site_of r acks cell in
    follows_as g.M.Machine start f me c.prepare_ok.new.running c.prepare_ok.result _ _
    (ap (λ msg. on_message choose f me x c.args.from msg) c.in-PrepareOk.is ∙ ap (λ s. on_prepare_ok choose f me x s c.in-PrepareOk.ok)
    (sym c.site_number-site.ensures))
    (c.prepare_ok.ensures.step choose start acks cell right h)

pub returns-in-Commit-clause-step : goal.returns-in-Commit-clause-step
returns-in-Commit-clause-step g c = λ choose start acks cell right h.
    let f = c.args.config.f in
    let me = c.args.config.me in
    let r = c.args.running.now in
    let x = site_of r acks cell in
    follows_as g.M.Machine start f me c.commit.new.running c.commit.result _ _
    (ap (λ msg. on_message choose f me x c.args.from msg) c.in-Commit.is ∙ ap (λ s. on_commit f me x s c.in-Commit.commit) (sym c.site_number-site.ensures))
    (c.commit.ensures.step start acks cell h)

pub returns-in-StartViewChange-clause-step : goal.returns-in-StartViewChange-clause-step
returns-in-StartViewChange-clause-step g c = λ choose start acks cell right h.
    let f = c.args.config.f in
    let me = c.args.config.me in
    let r = c.args.running.now in
    let x = site_of r acks cell in
    follows_as g.M.Machine start f me c.start_view_change.new.running c.start_view_change.result _ _
    (ap (λ msg. on_message choose f me x c.args.from msg) c.in-StartViewChange.is ∙ ap
    (λ s. on_start_view_change choose f me x c.in-StartViewChange.change.view (record { from = s; known = c.in-StartViewChange.change.known }))
    (sym c.site_number-site.ensures))
    (c.start_view_change.ensures.step choose start acks cell right h)

pub returns-in-DoViewChange-clause-step : goal.returns-in-DoViewChange-clause-step
returns-in-DoViewChange-clause-step g c = λ choose start acks cell right h.
    let f = c.args.config.f in
    let me = c.args.config.me in
    let r = c.args.running.now in
    let x = site_of r acks cell in
    follows_as g.M.Machine start f me c.do_view_change.new.running c.do_view_change.result _ _
    (ap (λ msg. on_message choose f me x c.args.from msg) c.in-DoViewChange.is ∙ ap
    (λ s. on_do_view_change choose f me x c.in-DoViewChange.change.view (vote_of s c.in-DoViewChange.change)) (sym c.site_number-site.ensures))
    (c.do_view_change.ensures.step choose start acks cell right h)

pub returns-in-StartView-clause-step : goal.returns-in-StartView-clause-step
returns-in-StartView-clause-step g c = λ choose start acks cell right h.
    let f = c.args.config.f in
    let me = c.args.config.me in
    let r = c.args.running.now in
    let x = site_of r acks cell in
    follows_as g.M.Machine start f me c.start_view.new.running c.start_view.result _ _
    (ap (λ msg. on_message choose f me x c.args.from msg) c.in-StartView.is ∙ ap (λ s. on_start_view choose f me x s c.in-StartView.opening)
    (sym c.site_number-site.ensures))
    (c.start_view.ensures.step choose start acks cell right h)

pub returns-in-GetState-clause-step : goal.returns-in-GetState-clause-step
returns-in-GetState-clause-step g c = λ choose start acks cell right h.
    let f = c.args.config.f in
    let me = c.args.config.me in
    let r = c.args.running.now in
    let x = site_of r acks cell in
    follows_as g.M.Machine start f me r c.get_state.result _ _
    (ap (λ msg. on_message choose f me x c.args.from msg) c.in-GetState.is ∙ ap (λ s. on_get_state f me x s c.in-GetState.wanted)
    (sym c.site_number-site.ensures))
    (c.get_state.ensures start acks cell h)

pub returns-in-NewState-clause-step : goal.returns-in-NewState-clause-step
returns-in-NewState-clause-step g c = λ choose start acks cell right h.
    let f = c.args.config.f in
    let me = c.args.config.me in
    let r = c.args.running.now in
    let x = site_of r acks cell in
    follows_as g.M.Machine start f me c.new_state.new.running c.new_state.result _ _
    (ap (λ msg. on_message choose f me x c.args.from msg) c.in-NewState.is ∙ ap (λ s. on_new_state choose f me x s c.in-NewState.state)
    (sym c.site_number-site.ensures))
    (c.new_state.ensures.step choose start acks cell right h)

pub returns-in-Recovery-clause-step : goal.returns-in-Recovery-clause-step
returns-in-Recovery-clause-step g c = λ choose start acks cell right h.
    let f = c.args.config.f in
    let me = c.args.config.me in
    let r = c.args.running.now in
    let x = site_of r acks cell in
    follows_as g.M.Machine start f me c.recovery.new.running c.recovery.result _ _
    (ap (λ msg. on_message choose f me x c.args.from msg) c.in-Recovery.is ∙ ap (λ s. on_recovery f me x s c.in-Recovery.recovery)
    (sym c.site_number-site.ensures))
    (c.recovery.ensures.step start acks cell h)

pub returns-in-RecoveryResponse-clause-step : goal.returns-in-RecoveryResponse-clause-step
returns-in-RecoveryResponse-clause-step g c = λ choose start acks cell right h.
    let f = c.args.config.f in
    let me = c.args.config.me in
    let r = c.args.running.now in
    let x = site_of r acks cell in
    meets_as g.M.Machine start f me r c.dropped.result _ _
    (ap (λ msg. on_message choose f me x c.args.from msg) c.in-RecoveryResponse.is ∙ response_drops f me x choose _ _ h.sound.up)
    (drops_meets g.M.Machine start f me r c.dropped.result acks cell _ c.dropped.ensures h)
