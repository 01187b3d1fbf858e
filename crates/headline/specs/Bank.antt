-- The bank in its world: sites, nodes, clients, and the post, which has all that was ever sent.
use Rattle.std.specs.Prelude.{ℕ, ◌-◌, ◌==◌, if◌then◌else◌, List, [], ◌∷◌, ◌++◌, map, slice_get, slice_set, Option, Some, None, option_map}
use Rattle.pvp_types.specs.declared.setup.Setup.{Setup}
use Rattle.pvp_types.specs.declared.command.Cmd.{Cmd}
use Rattle.pvp_types.specs.declared.command.Reply.{Reply as Answer}
use Rattle.pvp_types.specs.declared.command.PayOrder.{PayOrder as PaymentOrder}
use Rattle.pvp_types.specs.declared.step.Step.{Step}
use Rattle.pvp_types.specs.declared.step.Step.TheVariants.{Deliver as Delivers, PayIn as PaysIn, Close as Closes, Submit as Submits, Beat as Beats, Timer as Times, Crash as Crashes, Restart as Restarts}
use Rattle.vr_types.specs.Actors.{id_of}
use Rattle.vr_types.specs.declared.actors.ActorId.{ActorId}
use Rattle.vr_types.specs.declared.actors.ActorId.TheVariants as actor_id
use Rattle.vr_types.specs.declared.cell.Boot.{Boot}
use Rattle.vr_types.specs.declared.event.EventOf.{EventOf}
use Rattle.vr_types.specs.declared.event.EventOf.TheVariants.{Deliver, Timer, Beat, Crash, Restart}
use Rattle.vr_types.specs.Site.{Site, opening_site}
use Rattle.rtgs_node.specs.declared.event.NodeEvent.TheVariants as node
use Rattle.rtgs_node.specs.declared.event.NodeEvent.{NodeEvent}
use Rattle.rtgs_node.specs.Node.{Envelope, Node, opening_node}
-- a step's name here is a verb's, as an event of a site is called so already
use Rattle.headline.specs.declared.step.Turn.{Turn}
use Rattle.headline.specs.declared.step.Turn.TheVariants.{OfSite, OfNode, OfClient}
use Rattle.headline.specs.declared.step.ClientEvent.TheVariants as client
use Rattle.headline.specs.declared.step.ClientEvent.{ClientEvent}
use Rattle.headline.specs.Client.{Client, opening_client}

pub record Bank : Type 0 where
  pub sites : List (Site Cmd)
  pub nodes : List Node  -- by currency
  pub clients : List Client  -- the operator, then the members
  pub post : List Envelope  -- numbered from 1

-- before anything was sent, with each site over its cell
abbrev pub opening_bank : Setup → ℕ → List Boot → Bank
opening_bank setup f cells = record {
  sites = map (opening_site f) cells;
  nodes = map (λ currency. opening_node) setup.currencies;
  clients = opening_client ∷ map (λ member. opening_client) setup.members;
  post = [];
}

-- an actor's turn, by its kind
abbrev pub turn_at : ActorId → EventOf Cmd Answer PaymentOrder → NodeEvent → ClientEvent → Turn
turn_at (actor_id.Site site) at_site at_node at_client = OfSite site at_site
turn_at (actor_id.Node ccy) at_site at_node at_client = OfNode ccy at_node
turn_at (actor_id.Client client) at_site at_node at_client = OfClient client at_client

-- and by its number
abbrev pub turn_of : ℕ → EventOf Cmd Answer PaymentOrder → NodeEvent → ClientEvent → Turn
turn_of actor = turn_at (id_of actor)

-- the envelope of a number comes to the actor that it is addressed to
abbrev pub delivery : Envelope → Turn
delivery e = turn_of e.to (Deliver e) (node.Takes e) (client.Takes e)

-- the turn that a step is
abbrev pub turn : List Envelope → Step → Option Turn
turn post (Delivers number) = if number == 0 then None else option_map delivery (slice_get post (number - 1))
turn post (PaysIn ccy member amt) = Some (OfNode ccy (node.PaysIn member amt))
turn post (Closes ccy member) = Some (OfNode ccy (node.Closes member))
turn post (Submits number cmd) = Some (OfClient number (client.Submits cmd))
turn post (Beats actor) = Some (turn_of actor Beat node.Beats client.Beats)
turn post (Times site) = Some (OfSite site Timer)
turn post (Crashes site) = Some (OfSite site Crash)
turn post (Restarts site) = Some (OfSite site Restart)

-- the bank with an actor as its step leaves it, and with what the step sent

abbrev pub with_site : Bank → ℕ → Site Cmd → List Envelope → Bank
with_site bank i x sent = record bank { sites = slice_set bank.sites i x; post = bank.post ++ sent }

abbrev pub with_node : Bank → ℕ → Node → List Envelope → Bank
with_node bank c x sent = record bank { nodes = slice_set bank.nodes c x; post = bank.post ++ sent }

abbrev pub with_client : Bank → ℕ → Client → List Envelope → Bank
with_client bank k x sent = record bank { clients = slice_set bank.clients k x; post = bank.post ++ sent }
