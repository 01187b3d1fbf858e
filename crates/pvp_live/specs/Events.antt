-- What a line of a live script posts, and at which actor.
use Rattle.std.specs.Prelude.{ℕ, Option, Some, None}
use Rattle.pvp_types.specs.declared.step.Step.TheVariants.{PayIn, Close, Submit, Beat, Timer, Crash, Restart}
use Rattle.vr_types.specs.Actors.{id_of, number_of}
use Rattle.vr_types.specs.declared.actors.ActorId.{ActorId}
use Rattle.vr_types.specs.declared.actors.ActorId.TheVariants.{Client, Node, Site}
use Rattle.pvp_text.specs.declared.script.Statement.{Statement}
use Rattle.pvp_text.specs.declared.script.Statement.TheVariants.{Do}
use Rattle.vr_types.specs.declared.event.EventOf.TheVariants as site
use Rattle.rtgs_node.specs.declared.event.NodeEvent.TheVariants as node
use Rattle.headline.specs.declared.step.ClientEvent.TheVariants as client
use Rattle.pvp_parties.specs.declared.party.PartyEvent.{PartyEvent}
use Rattle.pvp_parties.specs.declared.party.PartyEvent.TheVariants.{OfSite, OfNode, OfClient}
use Rattle.pvp_live.specs.declared.events.Post.{Post}

-- a beat of an actor, by its kind
abbrev pub beat_of : ActorId → PartyEvent
beat_of (Site i) = OfSite site.Beat
beat_of (Node ccy) = OfNode node.Beats
beat_of (Client number) = OfClient client.Beats

-- and of the actor of a number
abbrev pub beat_at : ℕ → Post
beat_at actor = record {
  actor = actor;
  event = beat_of (id_of actor);
}

-- a line that no live script has, and one by which time passes, post nothing
abbrev pub statement_post : Statement → Option Post
statement_post (Do (Submit who cmd)) = Some (record { actor = who; event = OfClient (client.Submits cmd) })
statement_post (Do (PayIn ccy member amt)) =
    Some (record { actor = number_of (Node ccy); event = OfNode (node.PaysIn member amt) })
statement_post (Do (Close ccy member)) =
    Some (record { actor = number_of (Node ccy); event = OfNode (node.Closes member) })
statement_post (Do (Beat actor)) = Some (beat_at actor)
statement_post (Do (Timer i)) = Some (record { actor = number_of (Site i); event = OfSite site.Timer })
statement_post (Do (Crash i)) = Some (record { actor = number_of (Site i); event = OfSite site.Crash })
statement_post (Do (Restart i)) = Some (record { actor = number_of (Site i); event = OfSite site.Restart })
statement_post _ = None
