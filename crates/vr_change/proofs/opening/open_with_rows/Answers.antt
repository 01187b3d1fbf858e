use Rattle.std.proofs.Common.{◌≡◌, true, false, sym, ap, ◌∙◌}
use Rattle.vr_types.specs.Step.{learns, begins_with_executed}
use Rattle.vr_types.specs.Site.{Site}
use Rattle.vr_log.specs.Kept.{KeepsExecuted}
use Rattle.vr_log.specs.Running.{site_of}
use Rattle.vr_log.proofs.OutcomeLemmas.{follows_as, meets_as, err_follows, drops_meets}
use Rattle.vr_change.proofs.Openings.{opens_with-stale, opens_with-opens, opened_over, on_ok_then}
use Rattle.vr_change.proofs.opening.open_with_rows.Goals as goal

pub returns-then-not-keeps_executed-clause-step : goal.returns-then-not-keeps_executed-clause-step
returns-then-not-keeps_executed-clause-step g c = λ choose start acks cell right h.
    let m = g.M.Machine in
    let f = c.args.config.f in
    let me = c.args.config.me in
    let r = c.args.running.now in
    let x = site_of r acks cell in
    let y : Site _ = learns c.args.told.now x in
    let begins : begins_with_executed choose.same y c.args.rows ≡ false = sym (c.keeps_executed.ensures.same f choose right) ∙ c.if-not-keeps_executed.true in
    meets_as m start f me r c.dropped.result _ _ (opens_with-stale choose f me x y c.args.sent.items c.args.rows c.args.done begins)
    (drops_meets m start f me r c.dropped.result acks cell _ c.dropped.ensures h)

pub returns-in_err-take_rows-clause-step : goal.returns-in_err-take_rows-clause-step
returns-in_err-take_rows-clause-step g c = λ choose start acks cell right h.
    let m = g.M.Machine in
    let f = c.args.config.f in
    let me = c.args.config.me in
    let r = c.args.running.now in
    let x = site_of r acks cell in
    let y : Site _ = learns c.args.told.now x in
    let begins : begins_with_executed choose.same y c.args.rows ≡ true = sym (c.keeps_executed.ensures.same f choose right) ∙ c.if-not-keeps_executed.false in
    err_follows m start f me _ c.from_residual.result _ c.from_residual.ensures.0
    (ap (λ s. s.ending) (opens_with-opens choose f me x y c.args.sent.items c.args.rows c.args.done begins))

pub returns-clause-sound : goal.returns-clause-sound
returns-clause-sound g c =
    let keeps : KeepsExecuted c.args.running.now.kept c.args.rows = c.keeps_executed.ensures.keeps c.if-not-keeps_executed.false in
    on_ok_then c.open.result _ _
    (λ h start s. h start (record {
      kept = c.in_ok-take_rows.ensures.kept start keeps s.kept;
      sites = s.sites;
      known = s.known;
      up = s.up;
      votes = s.votes;
    })) c.open.ensures.sound

pub returns-clause-step : goal.returns-clause-step
returns-clause-step g c = λ choose start acks cell right h.
    let m = g.M.Machine in
    let f = c.args.config.f in
    let me = c.args.config.me in
    let r = c.args.running.now in
    let x = site_of r acks cell in
    let y : Site _ = learns c.args.told.now x in
    let begins : begins_with_executed choose.same y c.args.rows ≡ true = sym (c.keeps_executed.ensures.same f choose right) ∙ c.if-not-keeps_executed.false in
    let keeps : KeepsExecuted r.kept c.args.rows = c.keeps_executed.ensures.keeps c.if-not-keeps_executed.false in
    let took = c.in_ok-take_rows.ensures in
    follows_as m start f me _ c.open.result _ _ (opens_with-opens choose f me x y c.args.sent.items c.args.rows c.args.done begins)
    (follows_as m start f me _ c.open.result _ _
    (opened_over f me y c.args.rows c.take_rows.new.self.log c.take_rows.new.self.done c.args.done c.args.sent.items (sym took.log)
    (sym c.take_rows.ensures.done))
    (c.open.ensures.step start acks cell
    (record {
      sound = record {
        kept = took.kept start keeps h.sound.kept;
        sites = h.sound.sites;
        known = h.sound.known;
        up = h.sound.up;
        votes = h.sound.votes;
      };
      summed = h.summed;
    })))
