-- How an actor's journal is spelled in bytes. All numbers are big-endian.
use Rattle.std.specs.Prelude.{ℕ, ◌+◌, ◌-◌, List, [], ◌∷◌, ◌++◌, length, Option, Some, None, Ok, Err}
use Rattle.byteorder.specs.Endian.{big_number}
use Rattle.sha2.specs.Sha256.{sha256}
use Rattle.pvp_types.specs.declared.command.Cmd.{Cmd}
use Rattle.pvp_types.specs.declared.command.PayOrder as orders
use Rattle.pvp_types.specs.declared.command.Reply as replies
use Rattle.vr_types.specs.declared.cell.Boot.{Boot}
use Rattle.vr_types.specs.declared.event.EventOf.TheVariants.{Deliver, Timer, Beat, Crash, Restart}
use Rattle.vr_types.specs.declared.event.SiteFault.{SiteFault}
use Rattle.vr_types.specs.declared.event.SiteFault.TheVariants as site
use Rattle.vr_types.specs.declared.event.Why.{Why}
use Rattle.vr_types.specs.declared.event.Why.TheVariants as why
use Rattle.vr_types.specs.declared.message.EnvelopeOf.{EnvelopeOf}
use Rattle.vr_types.specs.declared.message.MsgOf.TheVariants.{Request}
use Rattle.vr_types.specs.declared.actors.TheConstants.{FIRST_SITE}
use Rattle.rtgs_node.specs.declared.event.NodeEvent.TheVariants as node_event
use Rattle.rtgs_node.specs.declared.fault.NodeFault.{NodeFault}
use Rattle.rtgs_node.specs.declared.fault.NodeFault.TheVariants as node
use Rattle.headline.specs.declared.step.ClientEvent.TheVariants as client_event
use Rattle.headline.specs.declared.step.ClientFault.{ClientFault}
use Rattle.headline.specs.declared.step.ClientFault.TheVariants as client
use Rattle.pvp_wire.specs.declared.stamped.Stamp.{Stamp}
use Rattle.pvp_wire.specs.declared.stamped.Stamped.{Stamped}
use Rattle.pvp_wire.specs.Spelling.{number, spelling}
use Rattle.pvp_rooms.specs.declared.message.Recorded.{Recorded}
use Rattle.pvp_rooms.specs.declared.site.CameOf.TheVariants.{Did, Refused, Fell}
use Rattle.pvp_parties.specs.declared.party.PartyEvent.{PartyEvent}
use Rattle.pvp_parties.specs.declared.party.PartyEvent.TheVariants.{OfSite, OfNode, OfClient}
use Rattle.pvp_parties.specs.declared.party.PartyOutcome.{PartyOutcome}
use Rattle.pvp_parties.specs.declared.party.PartyOutcome.TheVariants.{OfSite as SiteTold, OfNode as NodeTold, OfClient as ClientTold, Stray}
use Rattle.pvp_journal.specs.declared.head.Head.{Head}
use Rattle.pvp_journal.specs.declared.head.Version.{Version}
use Rattle.pvp_journal.specs.declared.head.Version.TheVariants.{One, Two}
use Rattle.pvp_journal.specs.declared.summary.Summary.{Summary}
use Rattle.pvp_journal.specs.declared.summary.Summary.TheVariants.{Whole, Sent}

-- what a journal keeps of one event: its clock, what happened, the stamp of what was delivered, and a summary of how it
-- came out
abbrev pub Entry : Type 0
Entry = Recorded PartyEvent Summary

abbrev pub Envelope : Type 0
Envelope = EnvelopeOf Cmd replies.Reply orders.PayOrder

-- THE CHECKSUM of bytes, going on from another: the first eight bytes of a SHA-256
unfoldable pub checksum : ℕ → List ℕ → ℕ
checksum before bytes = big_number 8 (sha256 (number 8 before ++ bytes))

-- ---- the head

-- the four letters PVPJ
abbrev pub magic : ℕ
magic = 0x5056504a

-- the versions of this format
abbrev pub version_number : Version → ℕ
version_number One = 1
version_number Two = 2

-- 0, or 1 and the boots that a site's cell held
abbrev pub opening_text : Option Boot → List ℕ
opening_text None = 0 ∷ []
opening_text (Some boot) = 1 ∷ number 4 boot.boots

-- THE HEAD: the version, whose journal it is, what it opened over, the bank's id
abbrev pub head_text : Head → List ℕ
head_text head =
    number 4 magic ++ (version_number head.version ∷ []) ++ number 2 head.actor ++ opening_text head.opening
    ++ head.bank

-- ---- events, each kind by a tag of its own

-- an envelope with the stamp of this actor at this clock, at a place among those that it sent then
abbrev pub stamped_envelope : ℕ → ℕ → ℕ → Envelope → Stamped
stamped_envelope me clock place envelope =
    record { stamp = record { actor = me; clock = clock; index = place }; envelope = envelope }

-- a client's command as a request of number 0, which no client sends
abbrev pub command_request : ℕ → ℕ → Cmd → Stamped
command_request me clock cmd =
    stamped_envelope me clock 0 (record {
      from = me;
      to = FIRST_SITE;
      msg = Request (record { number = 0; cmd = cmd });
    })

-- the frame of what was delivered, which has a stamp
abbrev pub delivery_text : Option Stamp → Envelope → List ℕ
delivery_text None envelope = []
delivery_text (Some stamp) envelope = spelling (record { stamp = stamp; envelope = envelope })

abbrev pub event_text : ℕ → ℕ → Option Stamp → PartyEvent → List ℕ
event_text me clock stamp (OfSite (Deliver envelope)) = 1 ∷ delivery_text stamp envelope
event_text me clock stamp (OfSite Timer) = 2 ∷ []
event_text me clock stamp (OfSite Beat) = 3 ∷ []
event_text me clock stamp (OfSite Crash) = 4 ∷ []
event_text me clock stamp (OfSite Restart) = 5 ∷ []
event_text me clock stamp (OfNode (node_event.Takes envelope)) = 6 ∷ delivery_text stamp envelope
event_text me clock stamp (OfNode node_event.Beats) = 7 ∷ []
event_text me clock stamp (OfNode (node_event.PaysIn member amt)) = 8 ∷ number 2 member ++ number 8 amt
event_text me clock stamp (OfNode (node_event.Closes member)) = 9 ∷ number 2 member
event_text me clock stamp (OfClient (client_event.Takes envelope)) = 10 ∷ delivery_text stamp envelope
event_text me clock stamp (OfClient client_event.Beats) = 11 ∷ []
event_text me clock stamp (OfClient (client_event.Submits cmd)) = 12 ∷ spelling (command_request me clock cmd)

-- ---- outcomes, each kind by a tag of its own

-- the numbers of the faults' codes: S1 to S7, N1 to N7; a client's are numbered here
abbrev pub site_number : SiteFault → ℕ
site_number site.NoMemory = 1
site_number site.CellFault = 2
site_number site.NotUp = 3
site_number site.AlreadyUp = 4
site_number site.ViewsSpent = 5
site_number site.BootsSpent = 6
site_number site.NotMine = 7

abbrev pub node_number : NodeFault → ℕ
node_number node.Short = 1
node_number node.UnknownMember = 2
node_number node.BadAmount = 3
node_number node.NoMemory = 4
node_number node.Spent = 5
node_number node.NotMine = 6
node_number node.Closed = 7

abbrev pub client_number : ClientFault → ℕ
client_number client.Outstanding = 1
client_number client.Spent = 2
client_number client.NoMemory = 3

-- 0, or why an event was dropped
abbrev pub why_number : Option Why → ℕ
why_number None = 0
why_number (Some why.Status) = 1
why_number (Some why.View) = 2
why_number (Some why.NotPrimary) = 3
why_number (Some why.Known) = 4
why_number (Some why.Stale) = 5
why_number (Some why.Full) = 6

-- the frames of what was sent, from a place on
abbrev pub frames_text : ℕ → ℕ → ℕ → List Envelope → List ℕ
frames_text me clock place [] = []
frames_text me clock place (envelope ∷ more) =
    spelling (stamped_envelope me clock place envelope) ++ frames_text me clock (place + 1) more

-- how many, and their frames
abbrev pub sent_text : ℕ → ℕ → List Envelope → List ℕ
sent_text me clock sent = number 4 (length sent) ++ frames_text me clock 0 sent

abbrev pub outcome_text : ℕ → ℕ → PartyOutcome → List ℕ
outcome_text me clock (SiteTold (Did sent dropped)) = 1 ∷ sent_text me clock sent ++ why_number dropped ∷ []
outcome_text me clock (SiteTold (Refused fault)) = 2 ∷ site_number fault ∷ []
outcome_text me clock (SiteTold (Fell fault cell)) = 3 ∷ site_number fault ∷ number 4 cell.boots
outcome_text me clock (NodeTold (Ok sent)) = 4 ∷ sent_text me clock sent
outcome_text me clock (NodeTold (Err fault)) = 5 ∷ node_number fault ∷ []
outcome_text me clock (ClientTold (Ok sent)) = 6 ∷ sent_text me clock sent
outcome_text me clock (ClientTold (Err fault)) = 7 ∷ client_number fault ∷ []
outcome_text me clock Stray = 8 ∷ []

-- a whole outcome, or how much was sent and why the event was dropped
abbrev pub summary_text : ℕ → ℕ → Summary → List ℕ
summary_text me clock (Whole outcome) = outcome_text me clock outcome
summary_text me clock (Sent count dropped) = 9 ∷ count ∷ why_number dropped ∷ []

-- ---- records

-- what a record says: the clock, the event, the summary
abbrev pub body_text : ℕ → Entry → List ℕ
body_text me r = number 8 r.clock ++ event_text me r.clock r.stamp r.event ++ summary_text me r.clock r.outcome

-- the greatest number of four bytes
abbrev pub greatest_u32 : ℕ
greatest_u32 = 4294967295

-- a length, the same complemented, and that many bytes
abbrev pub with_length : List ℕ → List ℕ
with_length body = number 4 (length body) ++ number 4 (greatest_u32 - length body) ++ body

-- these and their checksum, which goes on from the one before
abbrev pub with_checksum : ℕ → List ℕ → List ℕ
with_checksum before body = with_length body ++ number 8 (checksum before (with_length body))

-- THE RECORD of an event, behind one with this checksum
abbrev pub record_text : ℕ → ℕ → Entry → List ℕ
record_text me before r = with_checksum before (body_text me r)

-- its checksum
abbrev pub record_sum : ℕ → ℕ → Entry → ℕ
record_sum me before r = checksum before (with_length (body_text me r))

-- records one after the other, and the checksum after them
abbrev pub records_text : ℕ → ℕ → List Entry → List ℕ
records_text me before [] = []
records_text me before (r ∷ more) = record_text me before r ++ records_text me (record_sum me before r) more

abbrev pub records_sum : ℕ → ℕ → List Entry → ℕ
records_sum me before [] = before
records_sum me before (r ∷ more) = records_sum me (record_sum me before r) more

-- the checksum of a head
abbrev pub head_sum : Head → ℕ
head_sum head = checksum 0 (head_text head)

-- THE JOURNAL: a head, and the records of a history
abbrev pub journal_text : Head → List Entry → List ℕ
journal_text head history = head_text head ++ records_text head.actor (head_sum head) history

-- the checksum of its last record, from which the next one goes on
abbrev pub journal_sum : Head → List Entry → ℕ
journal_sum head history = records_sum head.actor (head_sum head) history
