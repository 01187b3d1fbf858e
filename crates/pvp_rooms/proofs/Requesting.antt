-- What a node or a client sends is requests: they carry no list, and there is room for their copies.
use Rattle.std.proofs.Common.{ℕ, ◌+◌, ◌*◌, ◌≤◌, List, length, sym, subst, arith}
use Rattle.pvp_types.specs.Setup.{faults}
use Rattle.pvp_book.specs.Ledger.{node_of}
use Rattle.rtgs_node.specs.declared.event.NodeEvent.{NodeEvent}
use Rattle.rtgs_node.specs.Node.{Envelope}
use Rattle.rtgs_node.specs.Shown as node
use Rattle.rtgs_node.specs.Shown.{ShownNode}
use Rattle.headline.specs.declared.step.ClientEvent.{ClientEvent}
use Rattle.pvp_world.specs.Client as client
use Rattle.pvp_world.specs.Client.{ShownClient}
use Rattle.pvp_world.proofs.Sent.{AreRequests, requests-few, node-requests, client-requests}
use Rattle.pvp_rooms.specs.declared.requests.SentRoom.{SentRoom}
use Rattle.pvp_rooms.specs.Requests.{HasRoom}

-- room for one envelope a site is room for requests
pub room_for : (f me : ℕ) (sent : List Envelope) (room : SentRoom) → AreRequests f me sent → HasRoom (2 * f + 1) room → HasRoom (length sent) room
room_for f me sent room requests has =
    let few : length sent ≤ 2 * f + 1 = requests-few f me sent requests in
    record {
      no_record = has.no_record;
      no_receipt = has.no_receipt;
      for_record = omega (arith, few, has.for_record);
      for_receipt = omega (arith, few, has.for_receipt);
    }

pub node_sends : (v new : ShownNode) (event : NodeEvent) (sent : List Envelope) → node.IsStep v new (node.step_of v event) sent
    → AreRequests (faults v.setup) (node_of v.ccy) sent
unfolding node.step_of
node_sends v new event sent step =
    subst (AreRequests (faults v.setup) (node_of v.ccy)) (sym step.sends) (node-requests v.setup (faults v.setup) v.ccy v.node event)

pub client_sends : (v new : ShownClient) (event : ClientEvent) (sent : List Envelope) → client.IsStep v new (client.step_of v event) sent
    → AreRequests v.f v.me sent
client_sends v new event sent step = subst (AreRequests v.f v.me) (sym step.sends) (client-requests v.f v.me v.client event)
