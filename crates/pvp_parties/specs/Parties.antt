-- The bank's three kinds of actors as one kind of actor.
use Rattle.std.specs.Prelude.{◌≡◌, ◌==◌, ℕ, Bool, true, List, [], Option, Some, None, Ok}
use Rattle.std.specs.Option.{option_map_or}
use Rattle.pvp_types.specs.declared.setup.Setup.{Setup}
use Rattle.pvp_types.specs.declared.command.Cmd.{Cmd}
use Rattle.vr_types.specs.declared.cell.Boot.{Boot}
use Rattle.vr_types.specs.declared.cell.BootCell.{Ghosts as Cell}
use Rattle.vr_types.specs.declared.cell.MemCell.{MemCell}
use Rattle.vr_types.specs.declared.event.EventOf.TheVariants.{Deliver}
use Rattle.vr_types.specs.Group.{actor_of}
use Rattle.pvp_book.specs.Ledger.{Ledger, node_of}
use Rattle.rtgs_node.specs.declared.event.NodeEvent.TheVariants.{Takes as ToNode}
use Rattle.rtgs_node.specs.Node.{Envelope}
use Rattle.rtgs_node.specs.Shown.{ShownNode}
use Rattle.headline.specs.declared.step.ClientEvent.TheVariants.{Takes as ToClient}
use Rattle.headline.specs.declared.step.Turn.{Turn}
use Rattle.headline.specs.declared.step.Turn.TheVariants.{OfSite as SiteTurn, OfNode as NodeTurn, OfClient as ClientTurn}
use Rattle.headline.specs.Bank.{delivery}
use Rattle.headline.specs.Machine.{book}
use Rattle.pvp_world.specs.Client.{ShownClient}
use Rattle.pvp_rooms.specs.declared.site.CameOf.TheVariants.{Did}
use Rattle.pvp_rooms.specs.Sites as sites
use Rattle.pvp_rooms.specs.Nodes as nodes
use Rattle.pvp_rooms.specs.Clients as clients
use Rattle.pvp_parties.specs.declared.party.PartyOf.{PartyOf}
use Rattle.pvp_parties.specs.declared.party.PartyOf.TheVariants.{Site, Node, Client}
use Rattle.pvp_parties.specs.declared.party.PartyEvent.{PartyEvent}
use Rattle.pvp_parties.specs.declared.party.PartyEvent.TheVariants.{OfSite, OfNode, OfClient}
use Rattle.pvp_parties.specs.declared.party.PartyOutcome.{PartyOutcome}
use Rattle.pvp_parties.specs.declared.party.PartyOutcome.TheVariants.{OfSite as SiteTold, OfNode as NodeTold, OfClient as ClientTold, Stray}
use Rattle.pvp_parties.specs.Made.{made_site, made_node, made_client, made_over}

-- an actor over a cell in memory
abbrev pub Party : Type 0
Party = PartyOf MemCell

-- the states of an actor of any kind
pub data PartyState : Type 0 where
  AtSite : sites.SiteState Ledger Cmd → PartyState
  AtNode : ShownNode → PartyState
  AtClient : ShownClient → PartyState

-- the number of an actor: clients from 0, nodes from 101, sites from 200
abbrev pub number_of : {B : Type 0} → PartyOf B → ℕ
number_of (Site p) = actor_of p.place
number_of (Node p) = node_of p.place
number_of (Client p) = p.place

-- what the bank was set up with
abbrev pub setup_of : {B : Type 0} → PartyOf B → Setup
setup_of (Site p) = p.setup
setup_of (Node p) = p.setup
setup_of (Client p) = p.setup

-- what a site's cell holds; a node and a client have none
abbrev pub held_of : {B : Type 0} → Cell B → PartyOf B → Option Boot
held_of c (Site p) = Some (c.held p.now.cell)
held_of c (Node p) = None
held_of c (Client p) = None

-- an actor over another cell, where it has one
abbrev pub party_over : {B D : Type 0} → PartyOf B → D → PartyOf D
party_over (Site p) cell = Site (made_over p cell)
party_over (Node p) cell = Node p
party_over (Client p) cell = Client p

-- a site opens over what its cell held, a node and a client over nothing
abbrev pub Opens : {B : Type 0} → PartyOf B → Option Boot → PartyState → Type 0
Opens (Site p) (Some boot) (AtSite x) = sites.Opens book (made_site p) boot x
Opens (Node p) None (AtNode x) = nodes.Opens (made_node p) x
Opens (Client p) None (AtClient x) = clients.Opens (made_client p) x
Opens _ _ _ = ⊥

abbrev pub Shows : {B : Type 0} → Cell B → PartyOf B → PartyState → Type 0
Shows c (Site p) (AtSite x) = sites.Shows book c p.now x
Shows c (Node p) (AtNode x) = x ≡ p.now
Shows c (Client p) (AtClient x) = x ≡ p.now
Shows _ _ _ = ⊥

-- an event of another kind of actor is a stray
abbrev pub Comes : PartyState → PartyEvent → PartyOutcome → Type 0
Comes (AtSite x) (OfSite event) (SiteTold came) = sites.Comes book x event came
Comes (AtNode x) (OfNode event) (NodeTold told) = nodes.Comes x event told
Comes (AtClient x) (OfClient event) (ClientTold told) = clients.Comes x event told
Comes (AtSite x) (OfNode event) Stray = Unit {0}
Comes (AtSite x) (OfClient event) Stray = Unit {0}
Comes (AtNode x) (OfSite event) Stray = Unit {0}
Comes (AtNode x) (OfClient event) Stray = Unit {0}
Comes (AtClient x) (OfSite event) Stray = Unit {0}
Comes (AtClient x) (OfNode event) Stray = Unit {0}
Comes _ _ _ = ⊥

-- a stray changes nothing
abbrev pub after : PartyState → PartyEvent → PartyOutcome → PartyState
after (AtSite x) (OfSite event) (SiteTold came) = AtSite (sites.after x event came)
after (AtNode x) (OfNode event) (NodeTold told) = AtNode (nodes.after x event told)
after (AtClient x) (OfClient event) (ClientTold told) = AtClient (clients.after x event told)
after x _ _ = x

-- what the actor's reading calls show is of this state
abbrev pub Reads : {B : Type 0} → Cell B → PartyOf B → PartyState → Type 0
Reads c (Site p) (AtSite x) = sites.Reads c p.now x
Reads c (Node p) (AtNode x) = nodes.Reads p.now x
Reads c (Client p) (AtClient x) = clients.Reads p.now x
Reads _ _ _ = ⊥

-- a fall or a lack of memory of an actor has its cause; a stray changes nothing
abbrev pub Tells : {B : Type 0} → Cell B → PartyOutcome → PartyOf B → PartyOf B → PartyEvent → Type 0
Tells c Stray old new event = new ≡ old
Tells c (SiteTold came) (Site p) (Site q) (OfSite event) = sites.Tells book c p.now q.now event came
Tells c (NodeTold told) (Node p) (Node q) (OfNode event) = nodes.Tells p.now q.now event told
Tells c (ClientTold told) (Client p) (Client q) (OfClient event) = clients.Tells p.now q.now event told
Tells _ _ _ _ _ = ⊥

-- a copy of an envelope takes memory
abbrev pub Brings : PartyEvent → Type 0
Brings (OfSite event) = sites.Brings event
Brings (OfNode event) = nodes.Brings event
Brings (OfClient event) = clients.Brings event

-- a turn's event
abbrev pub event_of : Turn → PartyEvent
event_of (SiteTurn site event) = OfSite event
event_of (NodeTurn ccy event) = OfNode event
event_of (ClientTurn number event) = OfClient event

-- an envelope comes as to the kind of actor that it is addressed to
abbrev pub delivery_event : Envelope → PartyEvent
delivery_event envelope = event_of (delivery envelope)

-- what an event delivers
abbrev pub delivers : PartyEvent → Option Envelope
delivers (OfSite (Deliver envelope)) = Some envelope
delivers (OfNode (ToNode envelope)) = Some envelope
delivers (OfClient (ToClient envelope)) = Some envelope
delivers _ = None

-- what an outcome sent
abbrev pub sent_envelopes : PartyOutcome → List Envelope
sent_envelopes (SiteTold (Did envelopes dropped)) = envelopes
sent_envelopes (NodeTold (Ok envelopes)) = envelopes
sent_envelopes (ClientTold (Ok envelopes)) = envelopes
sent_envelopes _ = []

-- A client takes only what is addressed to its own number. A site and a node see to that themselves.
abbrev pub is_for : {B : Type 0} → PartyOf B → PartyEvent → Bool
is_for (Client p) event = option_map_or (λ envelope. envelope.to == p.place) (delivers event) true
is_for _ _ = true
