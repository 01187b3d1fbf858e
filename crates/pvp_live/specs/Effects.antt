-- What the event of a line did, and the fault for which the line was refused.
use Rattle.std.specs.Prelude.{length, Option, Some, None, Ok, Err}
use Rattle.headline.specs.declared.step.ClientFault.{ClientFault}
use Rattle.headline.specs.declared.step.ClientFault.TheVariants as client
use Rattle.pvp_world.specs.declared.fault.WorldFault.{WorldFault}
use Rattle.pvp_world.specs.declared.fault.WorldFault.TheVariants as world
use Rattle.pvp_rooms.specs.declared.message.Answer.{Answer}
use Rattle.pvp_rooms.specs.declared.message.Answer.TheVariants as answer
use Rattle.pvp_rooms.specs.declared.site.CameOf.TheVariants as came
use Rattle.pvp_parties.specs.declared.party.PartyOutcome.{PartyOutcome}
use Rattle.pvp_parties.specs.declared.party.PartyOutcome.TheVariants as party
use Rattle.pvp_live.specs.declared.effects.Effect.{Effect}
use Rattle.pvp_live.specs.declared.effects.Effect.TheVariants.{Sent, Dropped, Refused, ClockSpent}

-- a client's refusal as the world reports it
abbrev pub client_told : ClientFault → WorldFault
client_told client.Outstanding = world.Outstanding
client_told client.Spent = world.Spent
client_told client.NoMemory = world.NoMemory

-- what an event did that came out so; a stray was posted at an actor of another kind, as the line's own is not there
abbrev pub effect_of : PartyOutcome → Effect
effect_of (party.OfSite (came.Did sent None)) = Sent (length sent)
effect_of (party.OfSite (came.Did sent (Some why))) = Dropped why
effect_of (party.OfSite (came.Refused fault)) = Refused (world.Site fault)
effect_of (party.OfSite (came.Fell fault cell)) = Refused (world.Site fault)
effect_of (party.OfNode (Ok sent)) = Sent (length sent)
effect_of (party.OfNode (Err fault)) = Refused (world.Node fault)
effect_of (party.OfClient (Ok sent)) = Sent (length sent)
effect_of (party.OfClient (Err fault)) = Refused (client_told fault)
effect_of party.Stray = Refused world.NoSuchActor

-- what the event of a line did; where there is no answer, there is no such actor
abbrev pub line_effect : Option (Answer PartyOutcome) → Effect
line_effect (Some (answer.Done clock outcome)) = effect_of outcome
line_effect (Some answer.NoMemory) = Refused world.NoMemory
line_effect (Some answer.ClockSpent) = ClockSpent
line_effect None = Refused world.NoSuchActor

-- THE FAULT for which a line was refused. A spent clock is none: the world has no clocks.
abbrev pub fault_of : Effect → Option WorldFault
fault_of (Refused fault) = Some fault
fault_of (Sent count) = None
fault_of (Dropped why) = None
fault_of ClockSpent = None
