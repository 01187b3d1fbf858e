use Rattle.std.proofs.Common.{◌≡◌, ◌≤◌, ◌<◌, [], sym, ◌∙◌, ap, refl, arith, max, min, length, false, true, ◌==◌, ◌||◌, nat_lt, eq-eqb}
use Rattle.std.proofs.lemmas.Bool.{ne_eqb}
use Rattle.vr_types.specs.Group.{primary}
use Rattle.vr_types.specs.Site.{is_change}
use Rattle.vr_types.specs.Step.{executed_to, asks_state, does}
use Rattle.vr_log.specs.Running.{site_of}
use Rattle.vr_log.proofs.OutcomeLemmas.{err_follows, meets_as, follows_as, drops_meets, does_meets, does_follows, on_ok, running_is_here, same_site}
use Rattle.vr_normal.proofs.Cases.{on_commit-leader, on_commit-view, on_commit-later, on_commit-here, missing_rows, enough_rows}
use Rattle.vr_normal.proofs.backup.commit.Goals as goal

pub returns-then-primary_of-from-clause-step : goal.returns-then-primary_of-from-clause-step
returns-then-primary_of-from-clause-step g c = λ start acks cell h.
    let m = g.M.Machine in
    let f = c.args.config.f in
    let me = c.args.config.me in
    let r = c.args.running.now in
    let p : (primary f c.args.msg.view == c.args.from) ≡ false = ne_eqb _ _ (λ same. c.if-primary_of-from.true (c.primary_of.ensures.site ∙ same)) in
    meets_as m start f me r c.dropped.result _ _ (on_commit-leader f me (site_of r acks cell) c.args.from c.args.msg p)
    (drops_meets m start f me r c.dropped.result acks cell _ c.dropped.ensures h)

pub returns-then-msg-running-clause-step : goal.returns-then-msg-running-clause-step
returns-then-msg-running-clause-step g c = λ start acks cell h.
    let m = g.M.Machine in
    let f = c.args.config.f in
    let me = c.args.config.me in
    let r = c.args.running.now in
    let d = c.dropped-then-msg-running in
    let p : (primary f c.args.msg.view == c.args.from) ≡ true = eq-eqb _ _ (sym c.primary_of.ensures.site ∙ c.if-primary_of-from.false) in
    let here = running_is_here r.status h.sound.up in
    meets_as m start f me r d.result _ _ (on_commit-view f me (site_of r acks cell) c.args.from c.args.msg p here c.if-msg-running.true)
    (drops_meets m start f me r d.result acks cell _ d.ensures h)

pub returns-then-lags-clause-sound : goal.returns-then-lags-clause-sound
returns-then-lags-clause-sound g c = on_ok c.ask_state.result _ (λ start s. s)

pub returns-then-lags-clause-step : goal.returns-then-lags-clause-step
returns-then-lags-clause-step g c = λ start acks cell h.
    let m = g.M.Machine in
    let f = c.args.config.f in
    let me = c.args.config.me in
    let r = c.args.running.now in
    let x = site_of r acks cell in
    let p : (primary f c.args.msg.view == c.args.from) ≡ true = eq-eqb _ _ (sym c.primary_of.ensures.site ∙ c.if-primary_of-from.false) in
    let here = running_is_here r.status h.sound.up in
    let new : r.view ≤ c.args.msg.view = omega arith in
    let later : (nat_lt r.view c.args.msg.view || is_change r.status) ≡ true = sym c.lags.ensures ∙ c.if-lags.true in
    follows_as m start f me r c.ask_state.result _ _ (on_commit-later f me x c.args.from c.args.msg p here new later)
    (does_follows m start f me r c.ask_state.result x _ c.ask_state.ensures h refl)

pub returns-in_err-advance-clause-step : goal.returns-in_err-advance-clause-step
returns-in_err-advance-clause-step g c = λ start acks cell h.
    let m = g.M.Machine in
    let f = c.args.config.f in
    let me = c.args.config.me in
    let r = c.args.running.now in
    let x = site_of r acks cell in
    let p : (primary f c.args.msg.view == c.args.from) ≡ true = eq-eqb _ _ (sym c.primary_of.ensures.site ∙ c.if-primary_of-from.false) in
    let here = running_is_here r.status h.sound.up in
    let new : r.view ≤ c.args.msg.view = omega arith in
    let later : (nat_lt r.view c.args.msg.view || is_change r.status) ≡ false = sym c.lags.ensures ∙ c.if-lags.false in
    err_follows m start f me _ c.from_residual.result _ c.from_residual.ensures.0
    (ap (λ s. s.ending) (on_commit-here f me x c.args.from c.args.msg p here new later))

pub returns-then-len-msg-clause-sound : goal.returns-then-len-msg-clause-sound
returns-then-len-msg-clause-sound g c =
    on_ok c.ask_state-then-len-msg.result _ (λ start s. record {
      kept = c.in_ok-advance.ensures.kept start s.kept;
      sites = s.sites;
      known = s.known;
      up = s.up;
      votes = s.votes;
    })

pub returns-then-len-msg-clause-step : goal.returns-then-len-msg-clause-step
returns-then-len-msg-clause-step g c = λ start acks cell h.
    let m = g.M.Machine in
    let f = c.args.config.f in
    let me = c.args.config.me in
    let r = c.args.running.now in
    let x = site_of r acks cell in
    let now = c.in_ok-advance.ensures in
    let y = executed_to c.args.msg.done x in
    let p : (primary f c.args.msg.view == c.args.from) ≡ true = eq-eqb _ _ (sym c.primary_of.ensures.site ∙ c.if-primary_of-from.false) in
    let here = running_is_here r.status h.sound.up in
    let new : r.view ≤ c.args.msg.view = omega arith in
    let later : (nat_lt r.view c.args.msg.view || is_change r.status) ≡ false = sym c.lags.ensures ∙ c.if-lags.false in
    let missing : length r.kept.log < c.args.msg.done = omega (arith, c.len-len.ensures.length, c.if-len-msg.true) in
    follows_as m start f me _ c.ask_state-then-len-msg.result _ _
    (on_commit-here f me x c.args.from c.args.msg p here new later ∙ ap (does y)
    (missing_rows (length r.kept.log) c.args.msg.done (asks_state f me r.view (length r.kept.log)) [] missing))
    (does_follows m start f me _ c.ask_state-then-len-msg.result y _ (rw c.len-len.ensures.length at c.ask_state-then-len-msg.ensures)
    (record {
      sound = record { kept = now.kept start h.sound.kept; sites = h.sound.sites; known = h.sound.known; up = h.sound.up; votes = h.sound.votes };
      summed = h.summed;
    })
    (same_site x r.kept.log _ (max r.kept.done (min c.args.msg.done (length r.kept.log))) _ (sym now.log) (sym now.done)))

pub returns-else-len-msg-clause-sound : goal.returns-else-len-msg-clause-sound
returns-else-len-msg-clause-sound g c =
    λ start s. record { kept = c.in_ok-advance.ensures.kept start s.kept; sites = s.sites; known = s.known; up = s.up; votes = s.votes }

pub returns-else-len-msg-clause-step : goal.returns-else-len-msg-clause-step
returns-else-len-msg-clause-step g c = λ start acks cell h.
    let m = g.M.Machine in
    let f = c.args.config.f in
    let me = c.args.config.me in
    let r = c.args.running.now in
    let x = site_of r acks cell in
    let now = c.in_ok-advance.ensures in
    let y = executed_to c.args.msg.done x in
    let p : (primary f c.args.msg.view == c.args.from) ≡ true = eq-eqb _ _ (sym c.primary_of.ensures.site ∙ c.if-primary_of-from.false) in
    let here = running_is_here r.status h.sound.up in
    let new : r.view ≤ c.args.msg.view = omega arith in
    let later : (nat_lt r.view c.args.msg.view || is_change r.status) ≡ false = sym c.lags.ensures ∙ c.if-lags.false in
    let enough : c.args.msg.done ≤ length r.kept.log = omega (arith, c.len-len.ensures.length, c.if-len-msg.false) in
    meets_as m start f me _ c.silent.result _ _
    (on_commit-here f me x c.args.from c.args.msg p here new later ∙ ap (does y)
    (enough_rows (length r.kept.log) c.args.msg.done (asks_state f me r.view (length r.kept.log)) [] enough))
    (does_meets m start f me _ c.silent.result y [] c.silent.ensures
    (record {
      sound = record { kept = now.kept start h.sound.kept; sites = h.sound.sites; known = h.sound.known; up = h.sound.up; votes = h.sound.votes };
      summed = h.summed;
    })
    (same_site x r.kept.log _ (max r.kept.done (min c.args.msg.done (length r.kept.log))) _ (sym now.log) (sym now.done)))
