-- A client as an actor: a state is what it shows.
use Rattle.std.specs.Prelude.{◌≡◌, ◌⊎◌, List, Some, Result, Ok, Err, IfErr}
use Rattle.rtgs_node.specs.Node.{Envelope}
use Rattle.headline.specs.declared.step.ClientEvent.{ClientEvent}
use Rattle.headline.specs.declared.step.ClientEvent.TheVariants.{Submits, Takes, Beats}
use Rattle.headline.specs.declared.step.ClientFault.{ClientFault}
use Rattle.headline.specs.declared.step.ClientFault.TheVariants.{NoMemory}
use Rattle.headline.specs.Client.{opening_client}
use Rattle.pvp_world.specs.Client.{ShownClient, step_of, IsStep, IsRefusal}

-- the state after an event that came out so: a refusal changes nothing
abbrev pub after : ShownClient → ClientEvent → Result (List Envelope) ClientFault → ShownClient
after x event (Ok sent) = record x { client = (step_of x event).client }
after x event (Err fault) = x

-- how an event can come out: as the client's step sends, or as it refuses; lack of memory may always be
abbrev pub Comes : ShownClient → ClientEvent → Result (List Envelope) ClientFault → Type 0
Comes x event (Ok sent) = IsStep x (after x event (Ok sent)) (step_of x event) sent
Comes x event (Err fault) = (fault ≡ NoMemory) ⊎ ((step_of x event).fault ≡ Some fault)

-- a refusal is the step's; lack of memory is reported only where the step takes memory
abbrev pub Tells : ShownClient → ShownClient → ClientEvent → Result (List Envelope) ClientFault → Type 0
Tells old new event told = IfErr told (IsRefusal old new (step_of old event))

-- a copy of an envelope takes memory
abbrev pub Brings : ClientEvent → Type 0
Brings (Submits cmd) = ⊥
Brings (Takes envelope) = Unit {0}
Brings Beats = ⊥

-- a client opens as one that has asked for nothing
abbrev pub Opens : ShownClient → ShownClient → Type 0
Opens v x = x ≡ record v { client = opening_client }

-- what the client's reading calls show is of this state
pub record Reads (v x : ShownClient) : Type 0 where
  pub number : v.client.number ≡ x.client.number
  pub answer : v.client.answer ≡ x.client.answer
