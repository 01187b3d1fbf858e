use Rattle.std.proofs.Common.{◌≡◌, ◌++◌, ◌==◌, true, false, map, refl, sym, ap, ◌∙◌, eq-eqb}
use Rattle.std.proofs.lemmas.Bool.{ne_eqb}
use Rattle.vr_types.specs.Group.{primary, to_all}
use Rattle.vr_types.specs.Handling.{order_to}
use Rattle.vr_log.specs.Running.{site_of}
use Rattle.vr_log.proofs.OutcomeLemmas.{meets_as, err_follows, does_meets}
use Rattle.vr_normal.proofs.BeatLemmas.{beats_normal-backup, beats_normal-primary, beat_meets}
use Rattle.vr_normal.proofs.beats.beat.Goals as goal

pub returns-then-primary_of-config : goal.returns-then-primary_of-config
returns-then-primary_of-config g c = λ start acks cell h.
    let f = c.args.config.f in
    let me = c.args.config.me in
    let r = c.args.running.now in
    let x = site_of r acks cell in
    let p : (primary f r.view == me) ≡ false = ne_eqb _ _ (λ same. c.if-primary_of-config.true (c.primary_of.ensures.site ∙ same)) in
    meets_as g.M.Machine start f me r c.silent.result _ _ (beats_normal-backup f me x p)
    (does_meets g.M.Machine start f me r c.silent.result x _ c.silent.ensures h refl)

pub returns-in_err-sent : goal.returns-in_err-sent
returns-in_err-sent g c = λ start acks cell h.
    let f = c.args.config.f in
    let me = c.args.config.me in
    let r = c.args.running.now in
    let x = site_of r acks cell in
    let p : (primary f r.view == me) ≡ true = eq-eqb _ _ (sym c.primary_of.ensures.site ∙ c.if-primary_of-config.false) in
    err_follows g.M.Machine start f me r c.from_residual.result _ c.from_residual.ensures.0 (ap (λ s. s.ending) (beats_normal-primary f me x p))

pub returns-in_err-send_orders : goal.returns-in_err-send_orders
returns-in_err-send_orders g c = λ start acks cell h.
    let f = c.args.config.f in
    let me = c.args.config.me in
    let r = c.args.running.now in
    let x = site_of r acks cell in
    let p : (primary f r.view == me) ≡ true = eq-eqb _ _ (sym c.primary_of.ensures.site ∙ c.if-primary_of-config.false) in
    err_follows g.M.Machine start f me r c.from_residual-in_err-send_orders.result _ c.from_residual-in_err-send_orders.ensures.0
    (ap (λ s. s.ending) (beats_normal-primary f me x p))

pub returns : goal.returns
returns g c = λ start acks cell h.
    let f = c.args.config.f in
    let me = c.args.config.me in
    let r = c.args.running.now in
    let x = site_of r acks cell in
    let p : (primary f r.view == me) ≡ true = eq-eqb _ _ (sym c.primary_of.ensures.site ∙ c.if-primary_of-config.false) in
    meets_as g.M.Machine start f me r _ _ _ (beats_normal-primary f me x p)
    (beat_meets g.M.Machine start f me r _ acks cell h refl
    (c.in_ok-send_orders.ensures ∙ ap (λ s. s ++ map (order_to me) (g.M.Machine.orders r.kept.machine))
    (c.in_ok-sent.ensures ∙ ap (to_all f me) (c.news.ensures acks cell))))
