use Rattle.std.proofs.Common.{◌≡◌, ℕ, ◌-◌, ◌==◌, Bool, true, false, if◌then◌else◌, Option, Some, None, option_map, slice_get, refl, sym, ap, ◌∙◌}
use Rattle.vr_types.specs.declared.event.EventOf.TheVariants.{Deliver, Beat}
use Rattle.rtgs_node.specs.declared.event.NodeEvent.TheVariants as node
use Rattle.rtgs_node.specs.Node.{Envelope}
use Rattle.headline.specs.declared.step.ClientEvent.TheVariants as client
use Rattle.pvp_types.specs.declared.step.Step.TheVariants.{Deliver as Delivers}
use Rattle.vr_types.specs.Actors.{id_of}
use Rattle.vr_types.specs.declared.actors.ActorId.{ActorId}
use Rattle.vr_types.specs.declared.actors.ActorId.TheVariants as actor_id
use Rattle.headline.specs.Bank.{delivery, turn_at}
use Rattle.pvp_world.specs.World.{ShownWorld}
use Rattle.pvp_world.specs.Steps.{has_actor, has_number, IsTurn}
use Rattle.pvp_world.proofs.world.World.arrival.Goals as goal

-- an envelope's turn is that of the actor that it is addressed to
has_actor-delivery : {B : Type 0} (world : ShownWorld B) (e : Envelope) → has_actor world (delivery e) ≡ has_number world e.to
has_actor-delivery world e = by (id_of e.to)
  where
    by : (id : ActorId) → has_actor world (turn_at id (Deliver e) (node.Takes e) (client.Takes e)) ≡ has_actor world (turn_at id Beat node.Beats client.Beats)
    by (actor_id.Site i) = refl
    by (actor_id.Node c) = refl
    by (actor_id.Client k) = refl

-- an envelope that was found makes the turn of its delivery
delivered : (is_none : Bool) (found : Option Envelope) (e : Envelope) → Some e ≡ (if is_none then None else found)
    → (if is_none then None else option_map delivery found) ≡ Some (delivery e)
delivered true found e is = absurd (cc)
delivered false found e is = ap (option_map delivery) (sym is)

IsTurn-delivery : {B : Type 0} (world : ShownWorld B) (number : ℕ) (e : Envelope) (is_there : Bool)
    → Some e ≡ (if number == 0 then None else slice_get world.post (number - 1)) → is_there ≡ has_number world e.to
    → IsTurn world (Delivers number) is_there
IsTurn-delivery world number e is_there is there = record {
  turn_is = delivery e;
  has_turn = delivered (number == 0) (slice_get world.post (number - 1)) e is;
  there = has_actor-delivery world e ∙ sym there;
}

pub returns-then-not-has_number-clause-fault : goal.returns-then-not-has_number-clause-fault
returns-then-not-has_number-clause-fault g c =
    IsTurn-delivery c.args.self.now c.args.number c.in-Some.envelope.now false c.in-Some.ensures c.if-not-has_number.ensures

pub returns-in-Err-clause-fault : goal.returns-in-Err-clause-fault
returns-in-Err-clause-fault g c =
    IsTurn-delivery c.args.self.now c.args.number c.in-Some.envelope.now true c.in-Some.ensures c.if-not-has_number.ensures
