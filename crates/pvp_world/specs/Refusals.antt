-- Why a bank refuses a step where nothing hinders it, by the bank and the step alone; and what hinders a step.
use Rattle.std.specs.Prelude.{◌≡◌, ℕ, Bool, true, false, slice_get, Option, Some, None, option_map}
use Rattle.pvp_types.specs.declared.setup.Setup.{Setup}
use Rattle.pvp_types.specs.Setup.{faults}
use Rattle.pvp_types.specs.declared.command.Cmd.{Cmd}
use Rattle.pvp_types.specs.declared.command.Reply.{Reply as Answer}
use Rattle.pvp_types.specs.declared.command.PayOrder.{PayOrder as PaymentOrder}
use Rattle.pvp_types.specs.declared.step.Step.{Step}
use Rattle.vr_types.specs.declared.event.EventOf.{EventOf}
use Rattle.vr_types.specs.declared.event.SiteFault.{SiteFault}
use Rattle.vr_types.specs.declared.event.SiteFault.TheVariants as site
use Rattle.vr_types.specs.Site.{Site}
use Rattle.vr_types.specs.Handling.{refusal}
use Rattle.rtgs_node.specs.declared.event.NodeEvent.{NodeEvent}
use Rattle.rtgs_node.specs.declared.fault.NodeFault.{NodeFault}
use Rattle.rtgs_node.specs.declared.fault.NodeFault.TheVariants as node
use Rattle.rtgs_node.specs.Node.{Node, node_step}
use Rattle.headline.specs.declared.step.ClientEvent.{ClientEvent}
use Rattle.headline.specs.declared.step.Turn.{Turn}
use Rattle.headline.specs.declared.step.Turn.TheVariants.{OfSite, OfNode, OfClient}
use Rattle.headline.specs.Client.{Client, client_step}
use Rattle.headline.specs.declared.step.Move.{Move}
use Rattle.headline.specs.Bank.{Bank, turn}
use Rattle.headline.specs.Legal.{LegalList, Leads}
use Rattle.pvp_world.specs.declared.fault.WorldFault.{WorldFault}
use Rattle.pvp_world.specs.declared.fault.WorldFault.TheVariants as fault
use Rattle.pvp_world.specs.declared.fault.FallFault.{FallFault}
use Rattle.pvp_world.specs.declared.fault.FallFault.TheVariants as fall_fault
use Rattle.pvp_world.specs.World.{ShownWorld}
use Rattle.pvp_world.specs.Steps.{told_as}

-- an actor's own reason, where the actor is there
abbrev pub site_refuses : ℕ → ℕ → EventOf Cmd Answer PaymentOrder → Option (Site Cmd) → Option WorldFault
site_refuses f i event None = Some fault.NoSuchActor
site_refuses f i event (Some x) =
    option_map (λ why. fault.Site why) (refusal {R = Answer} {O = PaymentOrder} f i x event)

abbrev pub node_refuses : Setup → ℕ → ℕ → NodeEvent → Option Node → Option WorldFault
node_refuses setup f c event None = Some fault.NoSuchActor
node_refuses setup f c event (Some x) = option_map (λ why. fault.Node why) (node_step setup f c x event).fault

abbrev pub client_refuses : ℕ → ℕ → ClientEvent → Option Client → Option WorldFault
client_refuses f k event None = Some fault.NoSuchActor
client_refuses f k event (Some x) = option_map told_as (client_step f k x event).fault

abbrev pub turn_refuses : Setup → ℕ → Bank → Option Turn → Option WorldFault
turn_refuses setup f bank None = Some fault.NoSuchEnvelope
turn_refuses setup f bank (Some (OfSite i event)) = site_refuses f i event (slice_get bank.sites i)
turn_refuses setup f bank (Some (OfNode c event)) = node_refuses setup f c event (slice_get bank.nodes c)
turn_refuses setup f bank (Some (OfClient k event)) = client_refuses f k event (slice_get bank.clients k)

-- WHY A STEP IS REFUSED, if it is: no envelope has the number, then the actor is not there, then the actor's own reason
abbrev pub bank_refuses : Setup → ℕ → Bank → Step → Option WorldFault
bank_refuses setup f bank step = turn_refuses setup f bank (turn bank.post step)

-- WHAT HINDERS A STEP

-- a site's faults that are falls
abbrev pub hinders_site : SiteFault → Bool
hinders_site site.NoMemory = true
hinders_site site.CellFault = true
hinders_site site.NotUp = false
hinders_site site.AlreadyUp = false
hinders_site site.ViewsSpent = false
hinders_site site.BootsSpent = false
hinders_site site.NotMine = false

abbrev pub hinders_node : NodeFault → Bool
hinders_node node.NoMemory = true
hinders_node node.Short = false
hinders_node node.UnknownMember = false
hinders_node node.BadAmount = false
hinders_node node.Spent = false
hinders_node node.NotMine = false
hinders_node node.Closed = false

-- memory was refused, or a save failed
abbrev pub hinders : WorldFault → Bool
hinders fault.NoSuchEnvelope = false
hinders fault.NoSuchActor = false
hinders fault.Outstanding = false
hinders (fault.Site why) = hinders_site why
hinders (fault.Node why) = hinders_node why
hinders fault.Spent = false
hinders fault.NoMemory = true

-- memory was refused

abbrev pub wants_site : SiteFault → Bool
wants_site site.NoMemory = true
wants_site site.CellFault = false
wants_site site.NotUp = false
wants_site site.AlreadyUp = false
wants_site site.ViewsSpent = false
wants_site site.BootsSpent = false
wants_site site.NotMine = false

abbrev pub wants : WorldFault → Bool
wants fault.NoSuchEnvelope = false
wants fault.NoSuchActor = false
wants fault.Outstanding = false
wants (fault.Site why) = wants_site why
wants (fault.Node why) = hinders_node why
wants fault.Spent = false
wants fault.NoMemory = true

abbrev pub wants_fall : FallFault → Bool
wants_fall (fall_fault.Step why) = wants why
wants_fall fall_fault.Elsewhere = false

-- A MOVE THAT A WORLD'S TRAIL ALLOWS: the trail is a legal list over the first values of its cells, and the move can
-- follow it
pub record IsAllowed {B : Type 0} (world : ShownWorld B) (move : Move) : Type 0 where
  pub list : LegalList world.setup (faults world.setup)
  pub cells : list.cells ≡ world.opening
  pub moves : list.moves ≡ world.trail
  pub after : Bank
  pub leads : Leads world.setup list.choose (faults world.setup) list.bank move after
