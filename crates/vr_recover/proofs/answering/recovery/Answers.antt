use Rattle.std.proofs.Common.{◌≡◌, ◌+◌, ◌*◌, true, false, nat_lt, length, length-set, sym, ap, ◌∙◌, arith}
use Rattle.std.proofs.lemmas.Bool.Decides.{nat_tests}
use Rattle.vr_types.specs.Site.{Site, boot_of, is_normal}
use Rattle.vr_types.specs.Recovery.{notes}
use Rattle.vr_log.specs.Running.{IsRunning, site_of}
use Rattle.vr_log.proofs.OutcomeLemmas.{meets_as, follows_as, drops_meets, does_follows, err_follows}
use Rattle.vr_recover.proofs.RecoveryCases.{on_recovery-status, on_recovery-stale, on_recovery-normal}
use Rattle.vr_recover.proofs.answering.recovery.Goals as goal

pub returns-then-not-runs_normally-clause-step : goal.returns-then-not-runs_normally-clause-step
returns-then-not-runs_normally-clause-step g c = λ start acks cell h.
    let f = c.args.config.f in
    let me = c.args.config.me in
    let r = c.args.running.now in
    let e : is_normal r.status ≡ false = sym c.runs_normally.ensures ∙ c.if-not-runs_normally.true in
    meets_as g.M.Machine start f me r c.dropped.result _ _ (on_recovery-status f me (site_of r acks cell) c.args.from c.args.msg e)
    (drops_meets g.M.Machine start f me r c.dropped.result acks cell _ c.dropped.ensures h)

pub returns-then-msg-get-clause-step : goal.returns-then-msg-get-clause-step
returns-then-msg-get-clause-step g c = λ start acks cell h.
    let f = c.args.config.f in
    let me = c.args.config.me in
    let r = c.args.running.now in
    let e : is_normal r.status ≡ true = sym c.runs_normally.ensures ∙ c.if-not-runs_normally.false in
    let is = c.get.ensures in
    let low = c.if-msg-get.true in
    let old : nat_lt c.args.msg.nonce (boot_of r.known c.args.from) ≡ true = grind (arith, nat_tests, is, low) in
    meets_as g.M.Machine start f me r c.dropped-then-msg-get.result _ _ (on_recovery-stale f me (site_of r acks cell) c.args.from c.args.msg e old)
    (drops_meets g.M.Machine start f me r c.dropped-then-msg-get.result acks cell _ c.dropped-then-msg-get.ensures h)

pub returns-in_err-state_of_its_view-clause-step : goal.returns-in_err-state_of_its_view-clause-step
returns-in_err-state_of_its_view-clause-step g c = λ start acks cell h.
    let f = c.args.config.f in
    let me = c.args.config.me in
    let r = c.args.running.now in
    let e : is_normal r.status ≡ true = sym c.runs_normally.ensures ∙ c.if-not-runs_normally.false in
    let is = c.get.ensures in
    let high = c.if-msg-get.false in
    let new : nat_lt c.args.msg.nonce (boot_of r.known c.args.from) ≡ false = grind (arith, nat_tests, is, high) in
    err_follows g.M.Machine start f me _ c.from_residual.result _ c.from_residual.ensures.0
    (ap (λ s. s.ending) (on_recovery-normal f me (site_of r acks cell) c.args.from c.args.msg e new))

pub returns-clause-step : goal.returns-clause-step
returns-clause-step g c = λ start acks cell h.
    let f = c.args.config.f in
    let me = c.args.config.me in
    let r = c.args.running.now in
    let x = site_of r acks cell in
    let y = notes c.args.from c.args.msg.nonce x in
    let e : is_normal r.status ≡ true = sym c.runs_normally.ensures ∙ c.if-not-runs_normally.false in
    let is = c.get.ensures in
    let high = c.if-msg-get.false in
    let new : nat_lt c.args.msg.nonce (boot_of r.known c.args.from) ≡ false = grind (arith, nat_tests, is, high) in
    let noted = c.note.ensures in
    let all : length c.note.new.self ≡ 2 * f + 1 = rw noted (length-set r.known c.args.from c.args.msg.nonce ∙ h.sound.known) in
    let runs : IsRunning g.M.Machine start f (record r { known = c.note.new.self }) acks = record {
      sound = record { kept = h.sound.kept; sites = h.sound.sites; known = all; up = h.sound.up; votes = h.sound.votes };
      summed = h.summed;
    } in
    let site : y ≡ site_of (record r { known = c.note.new.self }) acks cell = ap (λ known. let z : Site _ = record x { known = known } in z) (sym noted) in
    let state = c.in_ok-state_of_its_view.ensures acks cell in
    follows_as g.M.Machine start f me _ c.sends_one.result _ _
    (on_recovery-normal f me x c.args.from c.args.msg e new)
    (does_follows g.M.Machine start f me _ c.sends_one.result y _ (rw (c.mail_to.ensures, state, noted) at c.sends_one.ensures) runs site)
