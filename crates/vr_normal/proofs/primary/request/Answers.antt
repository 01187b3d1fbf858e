use Rattle.std.proofs.Common.{◌≡◌, sym, ◌∙◌, false, true, ◌==◌, ◌<◌, ◌≤◌, eq-eqb}
use Rattle.std.proofs.lemmas.Bool.{ne_eqb}
use Rattle.vr_types.specs.Group.{primary}
use Rattle.vr_types.specs.Rows.{newest}
use Rattle.vr_types.specs.Site.{is_normal}
use Rattle.vr_log.specs.Running.{site_of}
use Rattle.vr_log.proofs.OutcomeLemmas.{meets_as, follows_as, drops_meets}
use Rattle.vr_normal.proofs.Cases.{on_request-status, on_request-backup, on_request-new, on_request-old}
use Rattle.vr_normal.proofs.primary.request.Goals as goal

pub returns-then-not-runs_normally-clause-step : goal.returns-then-not-runs_normally-clause-step
returns-then-not-runs_normally-clause-step g c = λ start acks cell h.
    let m = g.M.Machine in
    let f = c.args.config.f in
    let me = c.args.config.me in
    let r = c.args.running.now in
    let e : is_normal r.status ≡ false = sym c.runs_normally.ensures ∙ c.if-not-runs_normally.true in
    meets_as m start f me r c.dropped.result _ _ (on_request-status f me (site_of r acks cell) c.args.row e)
    (drops_meets m start f me r c.dropped.result acks cell _ c.dropped.ensures h)

pub returns-then-primary_of-config-clause-step : goal.returns-then-primary_of-config-clause-step
returns-then-primary_of-config-clause-step g c = λ start acks cell h.
    let m = g.M.Machine in
    let f = c.args.config.f in
    let me = c.args.config.me in
    let r = c.args.running.now in
    let d = c.dropped-then-primary_of-config in
    let e : is_normal r.status ≡ true = sym c.runs_normally.ensures ∙ c.if-not-runs_normally.false in
    let p : (primary f r.view == me) ≡ false = ne_eqb _ _ (λ same. c.if-primary_of-config.true (c.primary_of.ensures.site ∙ same)) in
    meets_as m start f me r d.result _ _ (on_request-backup f me (site_of r acks cell) c.args.row e p)
    (drops_meets m start f me r d.result acks cell _ d.ensures h)

pub returns-then-newest-row-clause-step : goal.returns-then-newest-row-clause-step
returns-then-newest-row-clause-step g c = λ start acks cell h.
    let m = g.M.Machine in
    let f = c.args.config.f in
    let me = c.args.config.me in
    let r = c.args.running.now in
    let e : is_normal r.status ≡ true = sym c.runs_normally.ensures ∙ c.if-not-runs_normally.false in
    let p : (primary f r.view == me) ≡ true = eq-eqb _ _ (sym c.primary_of.ensures.site ∙ c.if-primary_of-config.false) in
    let new : newest r.kept.log c.args.row.client < c.args.row.number =
    rw (h.sound.kept.newest c.args.row.client) at (rw c.newest.ensures at c.if-newest-row.true) in
    follows_as m start f me c.append.new.running c.append.result _ _ (on_request-new f me (site_of r acks cell) c.args.row e p new)
    (c.append.ensures.step start acks cell h)

pub returns-else-newest-row-clause-step : goal.returns-else-newest-row-clause-step
returns-else-newest-row-clause-step g c = λ start acks cell h.
    let m = g.M.Machine in
    let f = c.args.config.f in
    let me = c.args.config.me in
    let r = c.args.running.now in
    let e : is_normal r.status ≡ true = sym c.runs_normally.ensures ∙ c.if-not-runs_normally.false in
    let p : (primary f r.view == me) ≡ true = eq-eqb _ _ (sym c.primary_of.ensures.site ∙ c.if-primary_of-config.false) in
    let old : c.args.row.number ≤ newest r.kept.log c.args.row.client =
    rw (h.sound.kept.newest c.args.row.client) at (rw c.newest.ensures at c.if-newest-row.false) in
    follows_as m start f me r c.answer_again.result _ _ (on_request-old f me (site_of r acks cell) c.args.row e p old)
    (c.answer_again.ensures start acks cell h)
