-- Which move of a world an event of an actor was.
use Rattle.std.specs.Prelude.{ℕ, ◌-◌, min, Option, Some, None, Ok}
use Rattle.pvp_types.specs.declared.command.Cmd.{Cmd}
use Rattle.pvp_types.specs.declared.command.Reply.{Reply as Answer}
use Rattle.pvp_types.specs.declared.command.PayOrder.{PayOrder as PaymentOrder}
use Rattle.pvp_types.specs.declared.step.Step.{Step}
use Rattle.pvp_types.specs.declared.step.Step.TheVariants.{Deliver, PayIn, Close, Submit, Beat, Timer, Crash, Restart}
use Rattle.vr_types.specs.declared.actors.TheConstants.{FIRST_NODE, FIRST_SITE}
use Rattle.vr_types.specs.declared.event.EventOf.{EventOf}
use Rattle.vr_types.specs.declared.event.EventOf.TheVariants as site
use Rattle.rtgs_node.specs.declared.event.NodeEvent.{NodeEvent}
use Rattle.rtgs_node.specs.declared.event.NodeEvent.TheVariants as node
use Rattle.headline.specs.declared.step.ClientEvent.{ClientEvent}
use Rattle.headline.specs.declared.step.ClientEvent.TheVariants as client
use Rattle.headline.specs.declared.step.Move.{Move}
use Rattle.headline.specs.declared.step.Move.TheVariants.{Takes, Falls}
use Rattle.pvp_rooms.specs.declared.message.Recorded.{Recorded}
use Rattle.pvp_rooms.specs.declared.site.CameOf.{CameOf}
use Rattle.pvp_rooms.specs.declared.site.CameOf.TheVariants.{Did, Refused, Fell}
use Rattle.pvp_parties.specs.declared.party.PartyEvent.{PartyEvent}
use Rattle.pvp_parties.specs.declared.party.PartyEvent.TheVariants as event
use Rattle.pvp_parties.specs.declared.party.PartyOutcome.{PartyOutcome}
use Rattle.pvp_parties.specs.declared.party.PartyOutcome.TheVariants as outcome

-- the currency of a node's number
abbrev pub currency_of_node : ℕ → ℕ
currency_of_node number = min (number - FIRST_NODE) 255

-- the step that an event of an actor is, where what it delivers is the envelope of this number

abbrev pub site_step : ℕ → EventOf Cmd Answer PaymentOrder → ℕ → Step
site_step actor (site.Deliver envelope) number = Deliver number
site_step actor site.Timer number = Timer (actor - FIRST_SITE)
site_step actor site.Beat number = Beat actor
site_step actor site.Crash number = Crash (actor - FIRST_SITE)
site_step actor site.Restart number = Restart (actor - FIRST_SITE)

abbrev pub node_step : ℕ → NodeEvent → ℕ → Step
node_step actor (node.PaysIn member amt) number = PayIn (currency_of_node actor) member amt
node_step actor (node.Closes member) number = Close (currency_of_node actor) member
node_step actor (node.Takes envelope) number = Deliver number
node_step actor node.Beats number = Beat actor

abbrev pub client_step : ℕ → ClientEvent → ℕ → Step
client_step actor (client.Submits cmd) number = Submit actor cmd
client_step actor (client.Takes envelope) number = Deliver number
client_step actor client.Beats number = Beat actor

-- what a site's event was: a step, or a fall in its place, or nothing where it was refused
abbrev pub site_move : Step → CameOf Cmd Answer PaymentOrder → Option Move
site_move step (Did sent dropped) = Some (Takes step)
site_move step (Refused why) = None
site_move step (Fell why cell) = Some (Falls step cell)

abbrev pub move_by : ℕ → PartyEvent → PartyOutcome → ℕ → Option Move
move_by actor (event.OfSite e) (outcome.OfSite came) number = site_move (site_step actor e number) came
move_by actor (event.OfNode e) (outcome.OfNode (Ok sent)) number = Some (Takes (node_step actor e number))
move_by actor (event.OfClient e) (outcome.OfClient (Ok sent)) number = Some (Takes (client_step actor e number))
move_by actor _ _ number = None

-- THE MOVE THAT AN EVENT OF AN ACTOR WAS, where it was one: an event that was refused is none
abbrev pub move_of : ℕ → Recorded PartyEvent PartyOutcome → ℕ → Option Move
move_of actor r number = move_by actor r.event r.outcome number
