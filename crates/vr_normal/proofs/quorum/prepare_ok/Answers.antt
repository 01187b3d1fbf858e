use Rattle.std.proofs.Common.{◌≡◌, sym, ◌∙◌, false, true, ◌==◌, eq-eqb}
use Rattle.std.proofs.lemmas.Bool.{ne_eqb}
use Rattle.vr_types.specs.Group.{primary}
use Rattle.vr_types.specs.Site.{is_normal}
use Rattle.vr_log.specs.Running.{site_of}
use Rattle.vr_log.proofs.OutcomeLemmas.{meets_as, follows_as, drops_meets}
use Rattle.vr_normal.proofs.Cases.{on_prepare_ok-status, on_prepare_ok-view, on_prepare_ok-backup, on_prepare_ok-mine}
use Rattle.vr_normal.proofs.quorum.prepare_ok.Goals as goal

pub returns-then-not-runs_normally-clause-step : goal.returns-then-not-runs_normally-clause-step
returns-then-not-runs_normally-clause-step g c = λ choose start acks cell right h.
    let f = c.args.config.f in
    let me = c.args.config.me in
    let r = c.args.running.now in
    let e : is_normal r.status ≡ false = sym c.runs_normally.ensures ∙ c.if-not-runs_normally.true in
    meets_as g.M.Machine start f me r c.dropped.result _ _ (on_prepare_ok-status f me (site_of r acks cell) choose c.args.from c.args.msg e)
    (drops_meets g.M.Machine start f me r c.dropped.result acks cell _ c.dropped.ensures h)

pub returns-then-msg-running-clause-step : goal.returns-then-msg-running-clause-step
returns-then-msg-running-clause-step g c = λ choose start acks cell right h.
    let f = c.args.config.f in
    let me = c.args.config.me in
    let r = c.args.running.now in
    let d = c.dropped-then-msg-running in
    let e : is_normal r.status ≡ true = sym c.runs_normally.ensures ∙ c.if-not-runs_normally.false in
    meets_as g.M.Machine start f me r d.result _ _ (on_prepare_ok-view f me (site_of r acks cell) choose c.args.from c.args.msg e c.if-msg-running.true)
    (drops_meets g.M.Machine start f me r d.result acks cell _ d.ensures h)

pub returns-then-primary_of-config-clause-step : goal.returns-then-primary_of-config-clause-step
returns-then-primary_of-config-clause-step g c = λ choose start acks cell right h.
    let f = c.args.config.f in
    let me = c.args.config.me in
    let r = c.args.running.now in
    let d = c.dropped-then-primary_of-config in
    let e : is_normal r.status ≡ true = sym c.runs_normally.ensures ∙ c.if-not-runs_normally.false in
    let p : (primary f r.view == me) ≡ false = ne_eqb _ _ (λ same. c.if-primary_of-config.true (c.primary_of.ensures.site ∙ same)) in
    meets_as g.M.Machine start f me r d.result _ _ (on_prepare_ok-backup f me (site_of r acks cell) choose c.args.from c.args.msg e c.if-msg-running.false p)
    (drops_meets g.M.Machine start f me r d.result acks cell _ d.ensures h)

pub returns-clause-step : goal.returns-clause-step
returns-clause-step g c = λ choose start acks cell right h.
    let f = c.args.config.f in
    let me = c.args.config.me in
    let r = c.args.running.now in
    let e : is_normal r.status ≡ true = sym c.runs_normally.ensures ∙ c.if-not-runs_normally.false in
    let p : (primary f r.view == me) ≡ true = eq-eqb _ _ (sym c.primary_of.ensures.site ∙ c.if-primary_of-config.false) in
    follows_as g.M.Machine start f me c.acknowledge.new.running c.acknowledge.result _ _
    (on_prepare_ok-mine f me (site_of r acks cell) choose c.args.from c.args.msg e c.if-msg-running.false p)
    (c.acknowledge.ensures.step choose start acks cell right h)
