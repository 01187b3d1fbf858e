use Rattle.std.proofs.Common.{◌≡◌, ◌≤◌, sym, ◌∙◌, refl, arith, false, true, ◌==◌, ◌||◌, nat_lt, eq-eqb}
use Rattle.std.proofs.lemmas.Bool.{ne_eqb}
use Rattle.vr_types.specs.Group.{primary}
use Rattle.vr_types.specs.Site.{is_change}
use Rattle.vr_log.specs.Running.{site_of}
use Rattle.vr_log.proofs.OutcomeLemmas.{meets_as, follows_as, drops_meets, does_follows, on_ok, running_is_here}
use Rattle.vr_normal.proofs.Cases.{on_prepare-leader, on_prepare-view, on_prepare-later, on_prepare-here}
use Rattle.vr_normal.proofs.backup.prepare.Goals as goal

pub returns-then-primary_of-from-clause-step : goal.returns-then-primary_of-from-clause-step
returns-then-primary_of-from-clause-step g c = λ start acks cell h.
    let m = g.M.Machine in
    let f = c.args.config.f in
    let me = c.args.config.me in
    let r = c.args.running.now in
    let p : (primary f c.args.msg.view == c.args.from) ≡ false = ne_eqb _ _ (λ same. c.if-primary_of-from.true (c.primary_of.ensures.site ∙ same)) in
    meets_as m start f me r c.dropped.result _ _ (on_prepare-leader f me (site_of r acks cell) c.args.from c.args.msg p)
    (drops_meets m start f me r c.dropped.result acks cell _ c.dropped.ensures h)

pub returns-then-msg-running-clause-step : goal.returns-then-msg-running-clause-step
returns-then-msg-running-clause-step g c = λ start acks cell h.
    let m = g.M.Machine in
    let f = c.args.config.f in
    let me = c.args.config.me in
    let r = c.args.running.now in
    let d = c.dropped-then-msg-running in
    let p : (primary f c.args.msg.view == c.args.from) ≡ true = eq-eqb _ _ (sym c.primary_of.ensures.site ∙ c.if-primary_of-from.false) in
    let here = running_is_here r.status h.sound.up in
    meets_as m start f me r d.result _ _ (on_prepare-view f me (site_of r acks cell) c.args.from c.args.msg p here c.if-msg-running.true)
    (drops_meets m start f me r d.result acks cell _ d.ensures h)

pub returns-then-lags-clause-sound : goal.returns-then-lags-clause-sound
returns-then-lags-clause-sound g c = on_ok c.ask_state.result _ (λ start s. s)

pub returns-then-lags-clause-step : goal.returns-then-lags-clause-step
returns-then-lags-clause-step g c = λ start acks cell h.
    let m = g.M.Machine in
    let f = c.args.config.f in
    let me = c.args.config.me in
    let r = c.args.running.now in
    let x = site_of r acks cell in
    let p : (primary f c.args.msg.view == c.args.from) ≡ true = eq-eqb _ _ (sym c.primary_of.ensures.site ∙ c.if-primary_of-from.false) in
    let here = running_is_here r.status h.sound.up in
    let new : r.view ≤ c.args.msg.view = omega arith in
    let later : (nat_lt r.view c.args.msg.view || is_change r.status) ≡ true = sym c.lags.ensures ∙ c.if-lags.true in
    follows_as m start f me r c.ask_state.result _ _ (on_prepare-later f me x c.args.from c.args.msg p here new later)
    (does_follows m start f me r c.ask_state.result x _ c.ask_state.ensures h refl)

pub returns-clause-step : goal.returns-clause-step
returns-clause-step g c = λ start acks cell h.
    let m = g.M.Machine in
    let f = c.args.config.f in
    let me = c.args.config.me in
    let r = c.args.running.now in
    let x = site_of r acks cell in
    let p : (primary f c.args.msg.view == c.args.from) ≡ true = eq-eqb _ _ (sym c.primary_of.ensures.site ∙ c.if-primary_of-from.false) in
    let here = running_is_here r.status h.sound.up in
    let new : r.view ≤ c.args.msg.view = omega arith in
    let later : (nat_lt r.view c.args.msg.view || is_change r.status) ≡ false = sym c.lags.ensures ∙ c.if-lags.false in
    follows_as m start f me c.take_row.new.running c.take_row.result _ _ (on_prepare-here f me x c.args.from c.args.msg p here new later)
    (c.take_row.ensures.step start acks cell h)
