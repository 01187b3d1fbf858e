use Rattle.std.proofs.Common.{◌≡◌, ◌<◌, ◌≤◌, ◌==◌, true, false, length, refl, sym, ap, ◌∙◌, arith, eq-eqb}
use Rattle.std.proofs.lemmas.Bool.{ne_eqb}
use Rattle.vr_types.specs.Group.{primary}
use Rattle.vr_types.specs.Site.{is_normal}
use Rattle.vr_log.specs.Running.{site_of}
use Rattle.vr_log.proofs.OutcomeLemmas.{meets_as, follows_as, err_follows, drops_meets, does_follows}
use Rattle.vr_change.proofs.Cases.{on_get_state-status, on_get_state-view, on_get_state-backup, on_get_state-stale, on_get_state-mine}
use Rattle.vr_change.proofs.transfer.get_state.Goals as goal

pub returns-then-not-runs_normally : goal.returns-then-not-runs_normally
returns-then-not-runs_normally g c = λ start acks cell h.
    let m = g.M.Machine in
    let f = c.args.config.f in
    let me = c.args.config.me in
    let r = c.args.running.now in
    let x = site_of r acks cell in
    let d = c.dropped in
    let e : is_normal r.status ≡ false = sym c.runs_normally.ensures ∙ c.if-not-runs_normally.true in
    meets_as m start f me r d.result _ _ (on_get_state-status f me x c.args.from c.args.msg e)
    (drops_meets m start f me r d.result acks cell _ d.ensures h)

pub returns-then-msg-running : goal.returns-then-msg-running
returns-then-msg-running g c = λ start acks cell h.
    let m = g.M.Machine in
    let f = c.args.config.f in
    let me = c.args.config.me in
    let r = c.args.running.now in
    let x = site_of r acks cell in
    let d = c.dropped-then-msg-running in
    let e : is_normal r.status ≡ true = sym c.runs_normally.ensures ∙ c.if-not-runs_normally.false in
    meets_as m start f me r d.result _ _ (on_get_state-view f me x c.args.from c.args.msg e c.if-msg-running.true)
    (drops_meets m start f me r d.result acks cell _ d.ensures h)

pub returns-then-primary_of-config : goal.returns-then-primary_of-config
returns-then-primary_of-config g c = λ start acks cell h.
    let m = g.M.Machine in
    let f = c.args.config.f in
    let me = c.args.config.me in
    let r = c.args.running.now in
    let x = site_of r acks cell in
    let d = c.dropped-then-primary_of-config in
    let e : is_normal r.status ≡ true = sym c.runs_normally.ensures ∙ c.if-not-runs_normally.false in
    let p : (primary f r.view == me) ≡ false = ne_eqb _ _ (λ same. c.if-primary_of-config.true (c.primary_of.ensures.site ∙ same)) in
    meets_as m start f me r d.result _ _ (on_get_state-backup f me x c.args.from c.args.msg e c.if-msg-running.false p)
    (drops_meets m start f me r d.result acks cell _ d.ensures h)

pub returns-then-len-msg : goal.returns-then-len-msg
returns-then-len-msg g c = λ start acks cell h.
    let m = g.M.Machine in
    let f = c.args.config.f in
    let me = c.args.config.me in
    let r = c.args.running.now in
    let x = site_of r acks cell in
    let d = c.dropped-then-len-msg in
    let e : is_normal r.status ≡ true = sym c.runs_normally.ensures ∙ c.if-not-runs_normally.false in
    let p : (primary f r.view == me) ≡ true = eq-eqb _ _ (sym c.primary_of.ensures.site ∙ c.if-primary_of-config.false) in
    let short : length r.kept.log < c.args.msg.base = omega arith in
    meets_as m start f me r d.result _ _ (on_get_state-stale f me x c.args.from c.args.msg e c.if-msg-running.false p short)
    (drops_meets m start f me r d.result acks cell _ d.ensures h)

pub returns-in_err-copy_from : goal.returns-in_err-copy_from
returns-in_err-copy_from g c = λ start acks cell h.
    let m = g.M.Machine in
    let f = c.args.config.f in
    let me = c.args.config.me in
    let r = c.args.running.now in
    let x = site_of r acks cell in
    let e : is_normal r.status ≡ true = sym c.runs_normally.ensures ∙ c.if-not-runs_normally.false in
    let p : (primary f r.view == me) ≡ true = eq-eqb _ _ (sym c.primary_of.ensures.site ∙ c.if-primary_of-config.false) in
    let long : c.args.msg.base ≤ length r.kept.log = omega arith in
    err_follows m start f me r c.from_residual.result _ c.from_residual.ensures.0
    (ap (λ s. s.ending) (on_get_state-mine f me x c.args.from c.args.msg e c.if-msg-running.false p long))

pub returns : goal.returns
returns g c = λ start acks cell h.
    let m = g.M.Machine in
    let f = c.args.config.f in
    let me = c.args.config.me in
    let r = c.args.running.now in
    let x = site_of r acks cell in
    let e : is_normal r.status ≡ true = sym c.runs_normally.ensures ∙ c.if-not-runs_normally.false in
    let p : (primary f r.view == me) ≡ true = eq-eqb _ _ (sym c.primary_of.ensures.site ∙ c.if-primary_of-config.false) in
    let long : c.args.msg.base ≤ length r.kept.log = omega arith in
    follows_as m start f me r c.sends_one.result _ _ (on_get_state-mine f me x c.args.from c.args.msg e c.if-msg-running.false p long)
    (does_follows m start f me r c.sends_one.result x _ (rw (c.mail_to.ensures, c.in_ok-copy_from.ensures) at c.sends_one.ensures) h refl)
