-- Whose turn it is, by an actor's number.
use Rattle.std.proofs.Common.{◌≡◌, ℕ, ◌+◌, ◌-◌, ◌<◌, Bool, true, false, if◌then◌else◌, nat_le, ap}
use Rattle.pvp_types.specs.declared.command.Cmd.{Cmd}
use Rattle.pvp_types.specs.declared.command.Reply.{Reply as Answer}
use Rattle.pvp_types.specs.declared.command.PayOrder.{PayOrder as PaymentOrder}
use Rattle.vr_types.specs.declared.event.EventOf.{EventOf}
use Rattle.vr_types.specs.Actors.{id_of}
use Rattle.vr_types.specs.declared.actors.ActorId.TheVariants as actor_id
use Rattle.vr_types.proofs.ActorNumbers.{id_of_site, id_of_node, id_of_client}
use Rattle.rtgs_node.specs.declared.event.NodeEvent.{NodeEvent}
use Rattle.headline.specs.declared.step.ClientEvent.{ClientEvent}
use Rattle.headline.specs.declared.step.Turn.TheVariants.{OfSite, OfNode, OfClient}
use Rattle.headline.specs.Bank.{turn_at, turn_of}

module _ (at_site : EventOf Cmd Answer PaymentOrder) (at_node : NodeEvent) (at_client : ClientEvent) where
  pub turn_of_site : (i : ℕ) → turn_of (200 + i) at_site at_node at_client ≡ OfSite i at_site
  turn_of_site i = ap (λ id. turn_at id at_site at_node at_client) (id_of_site i)

  pub turn_of_node : (c : ℕ) → c < 99 → turn_of (101 + c) at_site at_node at_client ≡ OfNode c at_node
  turn_of_node c few = ap (λ id. turn_at id at_site at_node at_client) (id_of_node c few)

  pub turn_of_client : (k : ℕ) → k < 101 → turn_of k at_site at_node at_client ≡ OfClient k at_client
  turn_of_client k few = ap (λ id. turn_at id at_site at_node at_client) (id_of_client k few)

-- a client's number is its own
pub client_number : (n k : ℕ) → id_of n ≡ actor_id.Client k → n ≡ k
client_number n k = by (nat_le 200 n) (nat_le 101 n)
  where
    by : (a b : Bool)
        → (if a then actor_id.Site (n - 200) else if b then actor_id.Node (n - 101) else actor_id.Client n) ≡ actor_id.Client k
        → n ≡ k
    by true b is = absurd (cc)
    by false true is = absurd (cc)
    by false false is = cc
