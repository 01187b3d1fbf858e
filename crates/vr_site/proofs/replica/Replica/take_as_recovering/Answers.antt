use Rattle.std.proofs.Common.{List, [], refl, ap, ◌∙◌, subst}
use Rattle.vr_types.specs.declared.event.EventOf.TheVariants.{Deliver}
use Rattle.vr_types.specs.Choice.{Choice, IsRight}
use Rattle.vr_types.specs.Handling.{on_event}
use Rattle.vr_types.specs.Site.{Ack}
use Rattle.vr_recover.specs.Progress.{FollowsProgress}
use Rattle.vr_recover.specs.Recovering.{recovering_site}
use Rattle.vr_site.proofs.Shows.{mine_is_taken}
use Rattle.vr_site.proofs.replica.Replica.take_as_recovering.Goals as goal

pub returns-clause-handles : goal.returns-clause-handles
returns-clause-handles g c =
    let held = g.C.BootCell.held in
    let now = c.args.self.now in
    let kept = c.args.recovering in
    let e = c.args.envelope in
    let left = c.await_state-progress.new.recovering in
    let done = c.await_state-progress.result in
    let follows = subst
    (λ v. (choose : Choice g.row.M-Cmd.Denot) (acks : List Ack) → IsRight v.f choose
    → FollowsProgress left acks c.load-boot.result done (on_event choose v.f v.me (recovering_site kept acks c.load-boot.result) (Deliver e)))
    c.self.view_is
    (λ choose acks right. c.await_state-progress.ensures.step choose acks right) in
    c.proceed.ensures.handles kept (Deliver e) (record {
      allowed = mine_is_taken now.f now.me (recovering_site kept [] (held now.cell)) e refl c.requires.mine;
      follows = λ choose acks right. subst (λ b. FollowsProgress left acks b done (on_event choose now.f now.me (recovering_site kept acks b) (Deliver e)))
          (c.load-boot.ensures ∙ ap (λ v. held v.cell) c.self.view_is) (follows choose acks right);
    })
