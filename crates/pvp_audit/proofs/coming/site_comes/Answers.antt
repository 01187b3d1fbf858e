use Rattle.std.proofs.Common.{◌↔◌, ◌-◌, false, sym, subst}
use Rattle.std.specs.Prelude.{IsTrue}
use Rattle.pvp_world.specs.World.{OfTrail}
use Rattle.pvp_audit.specs.Coming.{SiteComes, StepsSo, FallsSo}
use Rattle.pvp_audit.proofs.ByKind.{ok_map, site_refused, site_not_did, site_not_fell, site_did_so, site_fell_so}
use Rattle.pvp_audit.proofs.coming.site_comes.Goals as goal

pub returns-in-Refused-clause-so : goal.returns-in-Refused-clause-so
returns-in-Refused-clause-so c =
    let world = c.args.world.now in
    let e = c.args.event.now in
    subst (λ t. SiteComes world (c.args.actor - 200) e t c.is_refusal.result) (sym c.in-Refused.is)
    (site_refused world c.is_proved.ensures.shows c.args.actor c.requires.site e c.refused_by-refused.result c.refused_by-refused.ensures c.in-Refused.why
    c.is_refusal.result c.is_refusal.ensures)

pub returns-in-Some-clause-so : goal.returns-in-Some-clause-so
returns-in-Some-clause-so c =
    let world = c.args.world.now in
    let e = c.args.event.now in
    subst (λ t. SiteComes world (c.args.actor - 200) e t false) (sym c.in-Did.is)
    (site_not_did world c.is_proved.ensures.shows c.args.actor c.requires.site e c.refused_by-refused.result c.refused_by-refused.ensures c.in-Some.field-0
    c.in-Some.is c.in-Did.sent c.in-Did.dropped)

pub returns-in-None-clause-so : goal.returns-in-None-clause-so
returns-in-None-clause-so c =
    let world = c.args.world.now in
    let e = c.args.event.now in
    let step = c.site_step-step.result in
    ok_map (λ can. OfTrail world (λ list. IsTrue can ↔ StepsSo list step c.as_slice.result.now c.in-Did.dropped))
    (SiteComes world (c.args.actor - 200) e c.args.came.now) c.takes_so.result
    (λ can so. subst (λ t. SiteComes world (c.args.actor - 200) e t can) (sym c.in-Did.is)
    (site_did_so world c.is_proved.ensures.shows c.args.actor c.requires.site e c.refused_by-refused.result c.refused_by-refused.ensures c.in-None.is
    c.args.number c.requires.named step c.site_step-step.ensures can
    c.in-Did.sent c.in-Did.dropped (subst (λ l. OfTrail world (λ list. IsTrue can ↔ StepsSo list step l c.in-Did.dropped)) c.as_slice.ensures so)))
    c.takes_so.ensures.so

pub returns-in-Some-refused-clause-so : goal.returns-in-Some-refused-clause-so
returns-in-Some-refused-clause-so c =
    let world = c.args.world.now in
    let e = c.args.event.now in
    subst (λ t. SiteComes world (c.args.actor - 200) e t false) (sym c.in-Fell.is)
    (site_not_fell world c.is_proved.ensures.shows c.args.actor c.requires.site e c.refused_by-refused.result c.refused_by-refused.ensures
    c.in-Some-refused.field-0 c.in-Some-refused.is c.in-Fell.why c.in-Fell.cell)

pub returns-in-None-refused-clause-so : goal.returns-in-None-refused-clause-so
returns-in-None-refused-clause-so c =
    let world = c.args.world.now in
    let e = c.args.event.now in
    let step = c.site_step-step.result in
    ok_map (λ can. OfTrail world (λ list. IsTrue can ↔ FallsSo list step c.in-Fell.cell))
    (SiteComes world (c.args.actor - 200) e c.args.came.now) c.falls_so.result
    (λ can so. subst (λ t. SiteComes world (c.args.actor - 200) e t can) (sym c.in-Fell.is)
    (site_fell_so world c.is_proved.ensures.shows c.args.actor c.requires.site e c.refused_by-refused.result c.refused_by-refused.ensures c.in-None-refused.is
    c.args.number c.requires.named step c.site_step-step.ensures can
    c.in-Fell.why (c.is_of_fall.ensures.0 c.if-not-is_of_fall.false) c.in-Fell.cell so))
    c.falls_so.ensures.so
