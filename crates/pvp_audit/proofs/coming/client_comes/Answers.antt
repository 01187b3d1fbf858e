use Rattle.std.proofs.Common.{◌≡◌, ◌↔◌, true, false, Some, None, sym, subst, ◌∙◌}
use Rattle.std.specs.Prelude.{IsTrue}
use Rattle.pvp_types.specs.Setup.{faults}
use Rattle.pvp_world.specs.World.{OfTrail}
use Rattle.pvp_world.specs.Refusals.{bank_refuses}
use Rattle.pvp_audit.specs.Coming.{ClientComes, StepsSo}
use Rattle.pvp_audit.proofs.ByKind.{ok_map, client_did_so, client_refused_so}
use Rattle.pvp_audit.proofs.coming.client_comes.Goals as goal

pub returns-in-Ok-clause-so : goal.returns-in-Ok-clause-so
returns-in-Ok-clause-so c =
    let world = c.args.world.now in
    ok_map (λ can. OfTrail world (λ list. IsTrue can ↔ StepsSo list c.client_step-step.result c.as_slice.result.now None))
    (ClientComes world c.args.actor c.args.event.now c.args.told.now) c.takes_so.result
    (λ can so. subst (λ t. ClientComes world c.args.actor c.args.event.now t can) (sym c.in-Ok.is)
    (client_did_so world c.is_proved.ensures.shows c.args.actor c.requires.last c.args.event.now c.requires.mine c.args.number c.requires.named
    c.client_step-step.result c.client_step-step.ensures can c.in-Ok.sent
    (subst (λ l. OfTrail world (λ list. IsTrue can ↔ StepsSo list c.client_step-step.result l None)) c.as_slice.ensures so)))
    c.takes_so.ensures.so

pub returns-else-is_clients_want-clause-so : goal.returns-else-is_clients_want-clause-so
returns-else-is_clients_want-clause-so c =
    let world = c.args.world.now in
    let step = c.client_step-step.result in
    let why = c.in-Err.fault in
    ok_map (λ can. OfTrail world (λ list. IsTrue can ↔ (bank_refuses world.setup (faults world.setup) list.bank step ≡ Some c.of_client.result)))
    (ClientComes world c.args.actor c.args.event.now c.args.told.now) c.refuses_so.result
    (λ can so. subst (λ t. ClientComes world c.args.actor c.args.event.now t can) (sym c.in-Err.is)
    (client_refused_so world c.is_proved.ensures.shows c.args.actor c.requires.last c.args.event.now c.requires.mine c.args.number c.requires.named step
    c.client_step-step.ensures can why
    (λ same. (let clash : true ≡ false = sym (c.is_clients_want.ensures.1 same) ∙ c.if-is_clients_want.false in cc))
    (subst (λ w. OfTrail world (λ list. IsTrue can ↔ (bank_refuses world.setup (faults world.setup) list.bank step ≡ Some w))) c.of_client.ensures so)))
    c.refuses_so.ensures.so
