use Rattle.std.proofs.Common.{◌≡◌, ◌↔◌, ◌-◌, true, false, Some, None, sym, subst, ◌∙◌}
use Rattle.std.specs.Prelude.{IsTrue}
use Rattle.pvp_types.specs.Setup.{faults}
use Rattle.pvp_world.specs.World.{OfTrail}
use Rattle.pvp_world.specs.Refusals.{bank_refuses}
use Rattle.pvp_world.specs.declared.fault.WorldFault.TheVariants.{Node}
use Rattle.pvp_audit.specs.Coming.{NodeComes, StepsSo}
use Rattle.pvp_audit.proofs.ByKind.{ok_map, node_not_mine, node_did_so, node_refused_so}
use Rattle.pvp_audit.proofs.coming.node_comes.Goals as goal

pub returns-then-not-is_to-clause-so : goal.returns-then-not-is_to-clause-so
returns-then-not-is_to-clause-so c =
    node_not_mine c.args.world.now c.is_proved.ensures.shows c.args.actor c.requires.first c.requires.last c.args.event.now
    (λ mine. (let clash : true ≡ false = sym (c.is_to.ensures.1 mine) ∙ c.if-not-is_to.true in cc)) c.args.told.now c.is_refused_elsewhere.result
    c.is_refused_elsewhere.ensures

pub returns-in-Ok-clause-so : goal.returns-in-Ok-clause-so
returns-in-Ok-clause-so c =
    let world = c.args.world.now in
    ok_map (λ can. OfTrail world (λ list. IsTrue can ↔ StepsSo list c.node_step-step.result c.as_slice.result.now None))
    (NodeComes world (c.args.actor - 101) c.args.event.now c.args.told.now) c.takes_so.result
    (λ can so. subst (λ t. NodeComes world (c.args.actor - 101) c.args.event.now t can) (sym c.in-Ok.is)
    (node_did_so world c.is_proved.ensures.shows c.args.actor c.requires.first c.requires.last c.args.event.now
    (c.is_to.ensures.0 c.if-not-is_to.false) c.args.number c.requires.named
    c.node_step-step.result c.node_step-step.ensures can c.in-Ok.sent
    (subst (λ l. OfTrail world (λ list. IsTrue can ↔ StepsSo list c.node_step-step.result l None)) c.as_slice.ensures so)))
    c.takes_so.ensures.so

pub returns-else-is_want-clause-so : goal.returns-else-is_want-clause-so
returns-else-is_want-clause-so c =
    let world = c.args.world.now in
    let step = c.node_step-step.result in
    let why = c.in-Err.fault in
    ok_map (λ can. OfTrail world (λ list. IsTrue can ↔ (bank_refuses world.setup (faults world.setup) list.bank step ≡ Some (Node why))))
    (NodeComes world (c.args.actor - 101) c.args.event.now c.args.told.now) c.refuses_so.result
    (λ can so. subst (λ t. NodeComes world (c.args.actor - 101) c.args.event.now t can) (sym c.in-Err.is)
    (node_refused_so world c.is_proved.ensures.shows c.args.actor c.requires.first c.requires.last c.args.event.now
    (c.is_to.ensures.0 c.if-not-is_to.false) c.args.number c.requires.named step c.node_step-step.ensures can why
    (λ same. (let clash : true ≡ false = sym (c.is_want.ensures.1 same) ∙ c.if-is_want.false in cc)) so))
    c.refuses_so.ensures.so
