use Rattle.std.proofs.Common.{List, [], subst}
use Rattle.vr_types.specs.declared.event.EventOf.TheVariants.{Deliver}
use Rattle.vr_types.specs.Choice.{Choice, IsRight}
use Rattle.vr_types.specs.Handling.{on_event}
use Rattle.vr_types.specs.Site.{Ack}
use Rattle.vr_log.specs.Running.{IsSound, IsRunning, Follows, site_of}
use Rattle.vr_site.proofs.Cells.{message_keeps}
use Rattle.vr_site.proofs.Shows.{on_ok_then, up_is_not_down, mine_is_taken}
use Rattle.vr_site.proofs.replica.Replica.take_as_running.Goals as goal

pub finish-requires-clause-sound : goal.finish-requires-clause-sound
finish-requires-clause-sound g c =
    let m = g.M.Machine in
    let now = c.args.self.now in
    on_ok_then c.serve-done.result _ _
    (λ h. subst (λ v. IsSound m (m.start v.setup) v.f c.args.running.value → IsSound m (m.start v.setup) v.f c.serve-done.new.running) c.self.view_is
    (subst (λ x. IsSound m (m.start c.self.inside.setup) c.self.inside.config.f x
    → IsSound m (m.start c.self.inside.setup) c.self.inside.config.f c.serve-done.new.running)
    c.deref_mut.ensures.value (h (m.start c.self.inside.setup))) c.requires.sound)
    c.serve-done.ensures.sound

pub returns-clause-handles : goal.returns-clause-handles
returns-clause-handles g c =
    let m = g.M.Machine in
    let held = g.C.BootCell.held in
    let now = c.args.self.now in
    let at = c.self.inside in
    let r = c.args.running.value in
    let e = c.args.envelope in
    let sound = c.requires.sound in
    c.finish.ensures.handles r (Deliver e) (record {
      sound = sound;
      allowed = mine_is_taken now.f now.me (site_of r [] (held now.cell)) e (up_is_not_down r.status sound.up) c.requires.mine;
      follows = subst
          (λ v. (choose : Choice g.row.M-Cmd.Denot) (acks : List Ack) → IsRight v.f choose → IsRunning m (m.start v.setup) v.f r acks
          → Follows m (m.start v.setup) v.f v.me c.serve-done.new.running c.serve-done.result
          (on_event choose v.f v.me (site_of r acks (held v.cell)) (Deliver e)))
          c.self.view_is
          (subst (λ x. (choose : Choice g.row.M-Cmd.Denot) (acks : List Ack) → IsRight at.config.f choose
          → IsRunning m (m.start at.setup) at.config.f x acks
          → Follows m (m.start at.setup) at.config.f at.config.me c.serve-done.new.running c.serve-done.result
          (on_event choose at.config.f at.config.me (site_of x acks (held at.cell)) (Deliver e)))
          c.deref_mut.ensures.value
          (λ choose acks right h. c.serve-done.ensures.step choose (m.start at.setup) acks (held at.cell) right h));
      saves = λ choose acks. (message_keeps now.f now.me (site_of r acks (held now.cell)) choose sound.up e.from e.msg).same;
    })
