use Rattle.std.proofs.Common.{◌≡◌, ◌≤◌, ◌==◌, true, false, length, sym, ap, ◌∙◌, arith, eq-eqb}
use Rattle.std.proofs.lemmas.Bool.{ne_eqb}
use Rattle.vr_types.specs.Group.{primary}
use Rattle.vr_log.specs.Running.{site_of}
use Rattle.vr_log.proofs.OutcomeLemmas.{meets_as, follows_as, drops_meets, running_is_here}
use Rattle.vr_change.specs.Fits.{rows_fit}
use Rattle.vr_change.proofs.Cases.{on_new_state-leader, on_new_state-view, on_new_state-stale, on_new_state-takes}
use Rattle.vr_change.proofs.transfer.new_state.Goals as goal

pub returns-then-primary_of-from-clause-step : goal.returns-then-primary_of-from-clause-step
returns-then-primary_of-from-clause-step g c = λ choose start acks cell right h.
    let m = g.M.Machine in
    let f = c.args.config.f in
    let me = c.args.config.me in
    let r = c.args.running.now in
    let x = site_of r acks cell in
    let d = c.dropped in
    let p : (primary f c.args.msg.view == c.args.from) ≡ false = ne_eqb _ _ (λ same. c.if-primary_of-from.true (c.primary_of.ensures.site ∙ same)) in
    meets_as m start f me r d.result _ _ (on_new_state-leader choose f me x c.args.from c.args.msg p)
    (drops_meets m start f me r d.result acks cell _ d.ensures h)

pub returns-then-msg-running-clause-step : goal.returns-then-msg-running-clause-step
returns-then-msg-running-clause-step g c = λ choose start acks cell right h.
    let m = g.M.Machine in
    let f = c.args.config.f in
    let me = c.args.config.me in
    let r = c.args.running.now in
    let x = site_of r acks cell in
    let d = c.dropped-then-msg-running in
    let p : (primary f c.args.msg.view == c.args.from) ≡ true = eq-eqb _ _ (sym c.primary_of.ensures.site ∙ c.if-primary_of-from.false) in
    let here = running_is_here r.status h.sound.up in
    meets_as m start f me r d.result _ _ (on_new_state-view choose f me x c.args.from c.args.msg p here c.if-msg-running.true)
    (drops_meets m start f me r d.result acks cell _ d.ensures h)

pub returns-then-not-fits-clause-step : goal.returns-then-not-fits-clause-step
returns-then-not-fits-clause-step g c = λ choose start acks cell right h.
    let m = g.M.Machine in
    let f = c.args.config.f in
    let me = c.args.config.me in
    let r = c.args.running.now in
    let x = site_of r acks cell in
    let d = c.dropped-then-not-fits in
    let p : (primary f c.args.msg.view == c.args.from) ≡ true = eq-eqb _ _ (sym c.primary_of.ensures.site ∙ c.if-primary_of-from.false) in
    let here = running_is_here r.status h.sound.up in
    let new : r.view ≤ c.args.msg.view = omega arith in
    let fit : rows_fit x c.args.msg.view c.args.msg.base (length c.args.msg.rows) ≡ false =
    ap (λ n. rows_fit x c.args.msg.view c.args.msg.base n) (sym c.len.ensures.length) ∙ sym (c.fits.ensures.fit acks cell) ∙ c.if-not-fits.true in
    meets_as m start f me r d.result _ _ (on_new_state-stale choose f me x c.args.from c.args.msg p here new fit)
    (drops_meets m start f me r d.result acks cell _ d.ensures h)

pub returns-clause-step : goal.returns-clause-step
returns-clause-step g c = λ choose start acks cell right h.
    let m = g.M.Machine in
    let f = c.args.config.f in
    let me = c.args.config.me in
    let r = c.args.running.now in
    let x = site_of r acks cell in
    let p : (primary f c.args.msg.view == c.args.from) ≡ true = eq-eqb _ _ (sym c.primary_of.ensures.site ∙ c.if-primary_of-from.false) in
    let here = running_is_here r.status h.sound.up in
    let new : r.view ≤ c.args.msg.view = omega arith in
    let fit : rows_fit x c.args.msg.view c.args.msg.base (length c.args.msg.rows) ≡ true =
    ap (λ n. rows_fit x c.args.msg.view c.args.msg.base n) (sym c.len.ensures.length) ∙ sym (c.fits.ensures.fit acks cell) ∙ c.if-not-fits.false in
    follows_as m start f me _ _ _ _ (on_new_state-takes choose f me x c.args.from c.args.msg p here new fit)
    (c.take_log.ensures.step choose start acks cell right h)
