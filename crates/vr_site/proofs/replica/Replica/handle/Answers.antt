use Rattle.std.proofs.Common.{◌≡◌, subst}
use Rattle.vr_types.specs.declared.event.EventOf.TheVariants.{Deliver, Timer, Beat, Crash, Restart}
use Rattle.vr_types.specs.Handling.{site_step}
use Rattle.vr_types.specs.Choice.{IsRight}
use Rattle.vr_types.specs.Step.{Dropped}
use Rattle.vr_site.specs.Replica.{site_shown}
use Rattle.vr_site.proofs.Promises.{any_choice, dropped_is_ok, result_is_saved}
use Rattle.vr_site.proofs.replica.Replica.handle.Goals as goal

pub returns-in-Timer-clause-dropped : goal.returns-in-Timer-clause-dropped
returns-in-Timer-clause-dropped g c = λ choose acks why right summed e.
    let old = c.args.self.now in
    let held = g.C.BootCell.held in
    dropped_is_ok g.M.Machine g.C.BootCell old _ Timer c.timer.result c.timer.ensures.handles choose acks why right summed
    (subst (λ event. (site_step choose old.f old.me (site_shown held old acks) event).ending ≡ Dropped why) c.in-Timer.is e)

pub returns-in-Beat-clause-dropped : goal.returns-in-Beat-clause-dropped
returns-in-Beat-clause-dropped g c = λ choose acks why right summed e.
    let old = c.args.self.now in
    let held = g.C.BootCell.held in
    dropped_is_ok g.M.Machine g.C.BootCell old _ Beat c.beat.result c.beat.ensures.handles choose acks why right summed
    (subst (λ event. (site_step choose old.f old.me (site_shown held old acks) event).ending ≡ Dropped why) c.in-Beat.is e)

pub returns-in-Restart-clause-dropped : goal.returns-in-Restart-clause-dropped
returns-in-Restart-clause-dropped g c = λ choose acks why right summed e.
    let old = c.args.self.now in
    let held = g.C.BootCell.held in
    dropped_is_ok g.M.Machine g.C.BootCell old _ Restart c.restart.result c.restart.ensures.handles choose acks why right summed
    (subst (λ event. (site_step choose old.f old.me (site_shown held old acks) event).ending ≡ Dropped why) c.in-Restart.is e)

pub returns-in-Deliver-clause-saved_first : goal.returns-in-Deliver-clause-saved_first
returns-in-Deliver-clause-saved_first g c =
    let held = g.C.BootCell.held in
    let m = g.M.Machine in
    let at = c.self.inside in
    let right = any_choice at.config.f g.M.Cmd.PartialEq.eq at.config.some g.met.M.Cmd.Eq.laws g.met.M.Machine.same_cmd in
    result_is_saved m g.C.BootCell c.args.self.now _ (Deliver c.in-Deliver.envelope) right.0 (subst (λ v. IsRight v.f right.0) c.self.view_is right.1)
    c.deliver.result c.deliver.ensures.handles

pub returns-in-Timer-clause-saved_first : goal.returns-in-Timer-clause-saved_first
returns-in-Timer-clause-saved_first g c =
    let held = g.C.BootCell.held in
    let m = g.M.Machine in
    let at = c.self.inside in
    let right = any_choice at.config.f g.M.Cmd.PartialEq.eq at.config.some g.met.M.Cmd.Eq.laws g.met.M.Machine.same_cmd in
    result_is_saved m g.C.BootCell c.args.self.now _ Timer right.0 (subst (λ v. IsRight v.f right.0) c.self.view_is right.1)
    c.timer.result c.timer.ensures.handles

pub returns-in-Beat-clause-saved_first : goal.returns-in-Beat-clause-saved_first
returns-in-Beat-clause-saved_first g c =
    let held = g.C.BootCell.held in
    let m = g.M.Machine in
    let at = c.self.inside in
    let right = any_choice at.config.f g.M.Cmd.PartialEq.eq at.config.some g.met.M.Cmd.Eq.laws g.met.M.Machine.same_cmd in
    result_is_saved m g.C.BootCell c.args.self.now _ Beat right.0 (subst (λ v. IsRight v.f right.0) c.self.view_is right.1)
    c.beat.result c.beat.ensures.handles

pub returns-in-Crash-clause-saved_first : goal.returns-in-Crash-clause-saved_first
returns-in-Crash-clause-saved_first g c =
    let held = g.C.BootCell.held in
    let m = g.M.Machine in
    let at = c.self.inside in
    let right = any_choice at.config.f g.M.Cmd.PartialEq.eq at.config.some g.met.M.Cmd.Eq.laws g.met.M.Machine.same_cmd in
    result_is_saved m g.C.BootCell c.args.self.now _ Crash right.0 (subst (λ v. IsRight v.f right.0) c.self.view_is right.1)
    c.crash.result c.crash.ensures.handles

pub returns-in-Restart-clause-saved_first : goal.returns-in-Restart-clause-saved_first
returns-in-Restart-clause-saved_first g c =
    let held = g.C.BootCell.held in
    let m = g.M.Machine in
    let at = c.self.inside in
    let right = any_choice at.config.f g.M.Cmd.PartialEq.eq at.config.some g.met.M.Cmd.Eq.laws g.met.M.Machine.same_cmd in
    result_is_saved m g.C.BootCell c.args.self.now _ Restart right.0 (subst (λ v. IsRight v.f right.0) c.self.view_is right.1)
    c.restart.result c.restart.ensures.handles
