-- Whether a step has this outcome in the bank to which a list leads, and whether an event comes out at a world's actor
-- as it is recorded.
use Rattle.std.specs.Prelude.{◌≡◌, ◌↔◌, ℕ, IsTrue, Bool, List, ◌++◌, slice_get, Option, Some, Result}
use Rattle.pvp_types.specs.declared.setup.Setup.{Setup}
use Rattle.pvp_types.specs.declared.command.Cmd.{Cmd}
use Rattle.pvp_types.specs.declared.command.Reply.{Reply as Answer}
use Rattle.pvp_types.specs.declared.command.PayOrder.{PayOrder as PaymentOrder}
use Rattle.pvp_types.specs.declared.step.Step.{Step}
use Rattle.pvp_types.specs.Setup.{faults}
use Rattle.vr_types.specs.declared.cell.Boot.{Boot}
use Rattle.vr_types.specs.declared.cell.MemCell.{MemCell}
use Rattle.vr_types.specs.declared.event.EventOf.{EventOf}
use Rattle.vr_types.specs.declared.event.Why.{Why}
use Rattle.vr_types.specs.Choice.{Choice}
use Rattle.vr_types.specs.Site.{Site}
use Rattle.pvp_book.specs.Ledger.{Ledger, opening}
use Rattle.rtgs_node.specs.declared.event.NodeEvent.{NodeEvent}
use Rattle.rtgs_node.specs.declared.fault.NodeFault.{NodeFault}
use Rattle.rtgs_node.specs.Node.{Envelope, Node}
use Rattle.rtgs_node.specs.Shown.{ShownNode}
use Rattle.headline.specs.declared.step.ClientEvent.{ClientEvent}
use Rattle.headline.specs.declared.step.ClientFault.{ClientFault}
use Rattle.headline.specs.Machine.{book}
use Rattle.headline.specs.Client.{Client}
use Rattle.headline.specs.Bank.{Bank}
use Rattle.headline.specs.Legal.{LegalList, Steps, Fails}
use Rattle.pvp_world.specs.Client.{ShownClient}
use Rattle.pvp_world.specs.World.{ShownWorld, OfTrail}
use Rattle.pvp_world.specs.Steps.{dropped_in}
use Rattle.pvp_rooms.specs.declared.message.Recorded.{Recorded}
use Rattle.pvp_rooms.specs.declared.site.CameOf.{CameOf}
use Rattle.pvp_rooms.specs.Sites as sites
use Rattle.pvp_rooms.specs.Nodes as nodes
use Rattle.pvp_rooms.specs.Clients as clients
use Rattle.pvp_parties.specs.declared.party.PartyOf.TheVariants as party_of
use Rattle.pvp_parties.specs.declared.party.PartyEvent.{PartyEvent}
use Rattle.pvp_parties.specs.declared.party.PartyOutcome.{PartyOutcome}
use Rattle.pvp_parties.specs.Parties.{Party, PartyState, AtSite, AtNode, AtClient, Comes}

-- WHAT A BANK DOES WITH A STEP

-- it takes the step, sends this, and drops the event for this reason
pub record StepsSo {setup : Setup} (list : LegalList setup (faults setup)) (step : Step) (sent : List Envelope)
    (dropped : Option Why) : Type 0 where
  pub after : Bank
  pub leads : Steps setup list.choose (faults setup) list.bank step after
  pub sends : after.post ≡ list.bank.post ++ sent
  pub drops : dropped_in setup list.choose (faults setup) list.bank leads.turn_is after leads.acts ≡ dropped

-- the site whose turn the step is falls in place of it, over a cell that holds this
abbrev pub FallsSo : {setup : Setup} → LegalList setup (faults setup) → Step → Boot → Type 0
FallsSo {setup} list step cell = (after : Bank) × Fails setup list.choose (faults setup) list.bank step cell after

-- THE STATES OF THE ACTORS OF A BANK

module _ (setup : Setup) (choose : Choice Cmd) where
  abbrev pub site_at : ℕ → Site Cmd → sites.SiteState Ledger Cmd
  site_at place x = record { f = faults setup; me = place; start = opening setup; choose = choose; site = x }

  abbrev pub node_at : ℕ → Node → ShownNode
  node_at place x = record { setup = setup; ccy = place; node = x }

  abbrev pub client_at : ℕ → Client → ShownClient
  client_at place x = record { f = faults setup; me = place; client = x }

  -- the bank's actor of this one's kind and place is in this state
  abbrev pub IsThere : Bank → Party → PartyState → Type 0
  IsThere bank (party_of.Site p) x =
      (y : Site Cmd) × (x ≡ AtSite (site_at p.place y)) × (slice_get bank.sites p.place ≡ Some y)
  IsThere bank (party_of.Node p) x =
      (y : Node) × (x ≡ AtNode (node_at p.place y)) × (slice_get bank.nodes p.place ≡ Some y)
  IsThere bank (party_of.Client p) x =
      (y : Client) × (x ≡ AtClient (client_at p.place y)) × (slice_get bank.clients p.place ≡ Some y)

-- WHETHER AN EVENT COMES OUT SO at an actor of a world, whatever right choices its sites take

abbrev pub SiteComes : ShownWorld MemCell → ℕ → EventOf Cmd Answer PaymentOrder → CameOf Cmd Answer PaymentOrder → Bool
    → Type 0
SiteComes world place event came can =
    OfTrail world (λ list. (y : Site Cmd) → slice_get list.bank.sites place ≡ Some y
    → IsTrue can ↔ sites.Comes book (site_at world.setup list.choose place y) event came)

abbrev pub NodeComes : ShownWorld MemCell → ℕ → NodeEvent → Result (List Envelope) NodeFault → Bool → Type 0
NodeComes world place event told can =
    OfTrail world (λ list. (y : Node) → slice_get list.bank.nodes place ≡ Some y
    → IsTrue can ↔ nodes.Comes (node_at world.setup list.choose place y) event told)

abbrev pub ClientComes : ShownWorld MemCell → ℕ → ClientEvent → Result (List Envelope) ClientFault → Bool → Type 0
ClientComes world place event told can =
    OfTrail world (λ list. (y : Client) → slice_get list.bank.clients place ≡ Some y
    → IsTrue can ↔ clients.Comes (client_at world.setup list.choose place y) event told)

abbrev pub ComesSo : ShownWorld MemCell → Party → Recorded PartyEvent PartyOutcome → Bool → Type 0
ComesSo world end r can =
    OfTrail world (λ list. (x : PartyState) → IsThere world.setup list.choose list.bank end x
    → IsTrue can ↔ Comes x r.event r.outcome)
