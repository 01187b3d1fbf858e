use Rattle.std.proofs.Common.{◌≡◌, [], sym, ap, ◌∙◌, subst}
use Rattle.vr_types.specs.declared.event.EventOf.TheVariants.{Beat}
use Rattle.vr_types.specs.declared.event.Status.TheVariants as status
use Rattle.vr_types.specs.declared.message.MsgOf.TheVariants as msg
use Rattle.vr_types.specs.Group.{to_all}
use Rattle.vr_log.specs.Outcomes.{Sends}
use Rattle.vr_log.specs.Running.{IsSound, site_of}
use Rattle.vr_site.specs.declared.life.Life.TheVariants.{Recovering, Up}
use Rattle.vr_site.specs.Life.{volatile_of, IsWell}
use Rattle.vr_site.specs.Replica.{shown, Handles, Serves}
use Rattle.vr_site.proofs.Cells.{beat_keeps}
use Rattle.vr_site.proofs.Restarts.{asked_again, asked_nobody}
use Rattle.vr_site.proofs.Shows.{beat_is_taken}
use Rattle.vr_site.proofs.replica.Replica.beat.Goals as goal

pub returns-in-Up-clause-handles : goal.returns-in-Up-clause-handles
returns-in-Up-clause-handles g c =
    let m = g.M.Machine in
    let held = g.C.BootCell.held in
    let at = c.self.inside in
    let f = at.config.f in
    let me = at.config.me in
    let cell = held at.cell in
    let r = c.in-Up.running.value in
    let was : at.life ≡ Up c.in-Up.running = sym c.replace.ensures.value ∙ c.in-Up.is in
    let well = subst (λ l. IsWell m (m.start at.setup) f l) was c.self.invariant.1 in
    let d = c.deref.result.now in
    let sound = subst (IsSound m (m.start at.setup) f) (sym c.deref.ensures) well in
    subst (λ v. Handles m g.C.BootCell v c.finish.new.self Beat c.finish.result) (ap (shown f me at.setup at.cell) (sym was) ∙ c.self.view_is)
    (c.finish.ensures.handles r Beat (subst (λ x. Serves m (m.start at.setup) f me cell x x c.beat-done.result Beat) c.deref.ensures (record {
      sound = sound;
      allowed = beat_is_taken g.row.M-Reply.Denot g.row.M-Order.Denot f me (site_of d [] cell) sound.up;
      follows = λ choose acks right h. c.beat-done.ensures (m.start at.setup) acks cell h;
      saves = λ choose acks. (beat_keeps f me (site_of d acks cell) d.status sound.up).same;
    })))

pub returns-in_default-clause-handles : goal.returns-in_default-clause-handles
returns-in_default-clause-handles g c =
    let at = c.self.inside in
    let old = c.args.self.now in
    let view = c.self.view_is in
    let was : at.life ≡ Recovering c.in-Recovering.recovering = sym c.replace.ensures.value ∙ c.in-Recovering.is in
    let recovers : old.volatile.status ≡ status.Recovering = sym (ap (λ v. v.volatile.status) view) ∙ ap (λ l. (volatile_of l).status) was in
    asked_nobody g.M.Machine g.C.BootCell old _ (ap (λ v. v.f) view, ap (λ v. v.me) view, ap (λ v. v.setup) view) recovers
    (ap volatile_of c.replace.ensures.after) (ap (λ v. v.cell) view)

pub returns-in-Ok-clause-handles : goal.returns-in-Ok-clause-handles
returns-in-Ok-clause-handles g c =
    let held = g.C.BootCell.held in
    let at = c.self.inside in
    let old = c.args.self.now in
    let view = c.self.view_is in
    let was : at.life ≡ Recovering c.in-Recovering.recovering = sym c.replace.ensures.value ∙ c.in-Recovering.is in
    let recovers : old.volatile.status ≡ status.Recovering = sym (ap (λ v. v.volatile.status) view) ∙ ap (λ l. (volatile_of l).status) was in
    let told = subst (λ v. Sends c.in-Ok.out (to_all v.f v.me (msg.Recovery (record { nonce = c.load-boot.result.boots })))) view c.in-Ok.ensures in
    asked_again g.M.Machine g.C.BootCell old _ (ap (λ v. v.f) view, ap (λ v. v.me) view, ap (λ v. v.setup) view) recovers c.in-Ok.out
    (ap volatile_of (sym was) ∙ ap (λ v. v.volatile) view) (ap (λ v. v.cell) view)
    (subst (λ b. Sends c.in-Ok.out (to_all old.f old.me (msg.Recovery (record { nonce = b.boots })))) (c.load-boot.ensures ∙ ap (λ v. held v.cell) view) told)
