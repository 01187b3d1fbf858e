use Rattle.std.proofs.Common.{◌≡◌, ◌≢◌, [], Some, refl, sym, ap, ◌∙◌, subst}
use Rattle.vr_types.specs.declared.event.EventOf.TheVariants.{Timer}
use Rattle.vr_types.specs.declared.event.SiteFault.TheVariants.{ViewsSpent}
use Rattle.vr_types.specs.Cell.{max_number}
use Rattle.vr_types.specs.Handling.{refusal, on_event}
use Rattle.vr_log.specs.Running.{IsSound, IsRunning, Follows, site_of}
use Rattle.vr_site.specs.declared.life.Life.TheVariants.{Recovering, Up}
use Rattle.vr_site.specs.Life.{IsWell}
use Rattle.vr_site.specs.Replica.{shown, site_shown, Handles}
use Rattle.vr_site.proofs.Cells.{timer_keeps}
use Rattle.vr_site.proofs.Recovering.{timer_is}
use Rattle.vr_site.proofs.Shows.{on_ok_then, refused_handles, spent_refuses_timer, timer_is_taken}
use Rattle.vr_site.proofs.replica.Replica.timer.Goals as goal

pub returns-in-Recovering-clause-handles : goal.returns-in-Recovering-clause-handles
returns-in-Recovering-clause-handles g c =
    let m = g.M.Machine in
    let held = g.C.BootCell.held in
    let at = c.self.inside in
    let was : at.life ≡ Recovering c.in-Recovering.recovering = sym c.replace.ensures.value ∙ c.in-Recovering.is in
    let kept = c.in-Recovering.recovering in
    subst (λ v. Handles m g.C.BootCell v c.proceed.new.self Timer c.proceed.result)
    (ap (shown at.config.f at.config.me at.setup at.cell) (sym was) ∙ c.self.view_is)
    (c.proceed.ensures.handles kept Timer (record {
      allowed = refl;
      follows = λ choose acks right. timer_is at.config.f at.config.me kept acks (held at.cell);
    }))

pub returns-then-deref-clause-handles : goal.returns-then-deref-clause-handles
returns-then-deref-clause-handles g c =
    let m = g.M.Machine in
    let held = g.C.BootCell.held in
    let at = c.self.inside in
    let f = at.config.f in
    let me = at.config.me in
    let r = c.in-Up.running.value in
    let was : at.life ≡ Up c.in-Up.running = sym c.replace.ensures.value ∙ c.in-Up.is in
    let well = subst (λ l. IsWell m (m.start at.setup) f l) was c.self.invariant.1 in
    let same = ap (shown f me at.setup at.cell) (sym was) ∙ c.self.view_is in
    let spent = spent_refuses_timer g.row.M-Reply.Denot g.row.M-Order.Denot f me (site_of r [] (held at.cell)) well.up
    (subst (λ x. x.view ≡ max_number) c.deref.ensures c.if-deref.true) in
    refused_handles m g.C.BootCell c.args.self.now _ Timer ViewsSpent same
    (subst (λ v. refusal {R = g.row.M-Reply.Denot} {O = g.row.M-Order.Denot} v.f v.me (site_shown held v []) Timer ≡ Some ViewsSpent) same spent)

pub finish-requires-clause-sound : goal.finish-requires-clause-sound
finish-requires-clause-sound g c =
    let m = g.M.Machine in
    let at = c.self.inside in
    let was : at.life ≡ Up c.in-Up.running = sym c.replace.ensures.value ∙ c.in-Up.is in
    let well = subst (λ l. IsWell m (m.start at.setup) at.config.f l) was c.self.invariant.1 in
    let sound = subst (IsSound m (m.start at.setup) at.config.f) (sym c.deref_mut.ensures.value) well in
    on_ok_then c.timer-done.result _ _ (λ h. h (m.start at.setup) sound) c.timer-done.ensures.sound

pub returns-else-deref-clause-handles : goal.returns-else-deref-clause-handles
returns-else-deref-clause-handles g c =
    let m = g.M.Machine in
    let held = g.C.BootCell.held in
    let at = c.self.inside in
    let f = at.config.f in
    let me = at.config.me in
    let cell = held at.cell in
    let r = c.in-Up.running.value in
    let was : at.life ≡ Up c.in-Up.running = sym c.replace.ensures.value ∙ c.in-Up.is in
    let well = subst (λ l. IsWell m (m.start at.setup) f l) was c.self.invariant.1 in
    let more = subst (λ x. x.view ≢ max_number) c.deref.ensures c.if-deref.false in
    subst (λ v. Handles m g.C.BootCell v c.finish.new.self Timer c.finish.result) (ap (shown f me at.setup at.cell) (sym was) ∙ c.self.view_is)
    (c.finish.ensures.handles r Timer (record {
      sound = well;
      allowed = timer_is_taken g.row.M-Reply.Denot g.row.M-Order.Denot f me (site_of r [] cell) well.up more;
      follows = λ choose acks right. subst (λ x. IsRunning m (m.start at.setup) f x acks
          → Follows m (m.start at.setup) f me c.timer-done.new.running c.timer-done.result (on_event choose f me (site_of x acks cell) Timer))
          c.deref_mut.ensures.value (λ h. c.timer-done.ensures.step (m.start at.setup) acks cell h);
      saves = λ choose acks. (timer_keeps f me (site_of r acks cell)).same;
    }))
