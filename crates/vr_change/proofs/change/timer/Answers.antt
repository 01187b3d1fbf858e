use Rattle.std.proofs.Common.{◌≡◌, ◌+◌, true, length, refl, sym, ap, ◌∙◌, subst}
use Rattle.vr_types.specs.declared.message.MsgOf.TheVariants.{StartViewChange}
use Rattle.vr_types.specs.Group.{to_all}
use Rattle.vr_types.specs.Site.{is_running}
use Rattle.vr_log.specs.Kept.{IsKept}
use Rattle.vr_log.specs.Running.{site_of}
use Rattle.vr_log.proofs.OutcomeLemmas.{err_follows, meets_as, does_meets, running_is_here}
use Rattle.vr_change.proofs.Cases.{on_timer-is}
use Rattle.vr_change.proofs.Sites.{gave_up_sound, changed_site}
use Rattle.vr_change.proofs.change.timer.Goals as goal

pub returns-in_err-sent-clause-step : goal.returns-in_err-sent-clause-step
returns-in_err-sent-clause-step g c = λ start acks cell h.
    let f = c.args.config.f in
    let me = c.args.config.me in
    let r = c.args.running.now in
    let x = site_of r acks cell in
    err_follows g.M.Machine start f me _ c.from_residual.result _ c.from_residual.ensures.0
    (ap (λ s. s.ending) (on_timer-is f me x (running_is_here r.status h.sound.up)))

pub returns-clause-sound : goal.returns-clause-sound
returns-clause-sound g c = λ start s.
    let m = g.M.Machine in
    let r = c.args.running.now in
    let n = c.start_change.new.running in
    let now = c.start_change.ensures in
    let gave = now.nothing in
    let kept : IsKept m start n.kept = subst (IsKept m start) (sym now.kept) s.kept in
    (gave_up_sound m start c.args.config.f r n gave (ap is_running now.status) now.sites (ap length now.known) kept s).sound

pub returns-clause-step : goal.returns-clause-step
returns-clause-step g c = λ start acks cell h.
    let m = g.M.Machine in
    let f = c.args.config.f in
    let me = c.args.config.me in
    let r = c.args.running.now in
    let x = site_of r acks cell in
    let n = c.start_change.new.running in
    let now = c.start_change.ensures in
    let view = r.view + 1 in
    let gave = now.nothing in
    let up : is_running n.status ≡ true = ap is_running now.status in
    let told : to_all f me (StartViewChange (record { view = n.view; known = n.known }))
    ≡ to_all f me (StartViewChange (record { view = view; known = r.known })) =
    λ i. to_all f me (StartViewChange (record { view = now.view i; known = now.known i })) in
    let kept : IsKept m start n.kept = subst (IsKept m start) (sym now.kept) h.sound.kept in
    meets_as m start f me n _ _ _ (on_timer-is f me x (running_is_here r.status h.sound.up))
    (does_meets m start f me n _ _ _ (record { mails = c.in_ok-sent.ensures ∙ told; dropped = refl })
    (gave_up_sound m start f r n gave up now.sites (ap length now.known) kept h.sound)
    (changed_site r n acks cell view gave now.status now.view now.last_normal now.kept now.known))
