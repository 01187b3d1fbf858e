-- What can be journaled is read again from what it is spelled as, whatever follows it.
use Rattle.std.proofs.Common.{◌≡◌, ℕ, ◌+◌, ◌==◌, true, List, [], ◌∷◌, ◌++◌, length, Option, Some, None, Ok, Err, refl, sym, ap, ◌∙◌, append_assoc}
use Rattle.std.proofs.lemmas.Bool.{eq-eqb}
use Rattle.std.proofs.lemmas.List.{append-nil, drop_at}
use Rattle.pvp_types.specs.declared.command.Cmd.{Cmd}
use Rattle.vr_types.specs.declared.event.EventOf.TheVariants.{Deliver, Timer, Beat, Crash, Restart}
use Rattle.vr_types.specs.declared.event.SiteFault.{SiteFault}
use Rattle.vr_types.specs.declared.event.SiteFault.TheVariants as site
use Rattle.vr_types.specs.declared.event.Why.{Why}
use Rattle.vr_types.specs.declared.event.Why.TheVariants as why
use Rattle.rtgs_node.specs.declared.event.NodeEvent.TheVariants as node_event
use Rattle.rtgs_node.specs.declared.fault.NodeFault.{NodeFault}
use Rattle.rtgs_node.specs.declared.fault.NodeFault.TheVariants as node
use Rattle.headline.specs.declared.step.ClientEvent.TheVariants as client_event
use Rattle.headline.specs.declared.step.ClientFault.{ClientFault}
use Rattle.headline.specs.declared.step.ClientFault.TheVariants as client
use Rattle.pvp_wire.specs.declared.stamped.Stamp.{Stamp}
use Rattle.pvp_wire.specs.declared.stamped.Stamped.{Stamped}
use Rattle.pvp_wire.specs.Spelling.{number, spelling}
use Rattle.pvp_wire.specs.Fits.{IsSpelled}
use Rattle.pvp_wire.specs.Reading.{◌>>=◌, Reads}
use Rattle.pvp_wire.proofs.Formats.{again1, again2}
use Rattle.pvp_wire.proofs.Parts.{n2, n4, n8}
use Rattle.pvp_wire.proofs.Frames.{frame-again}
use Rattle.pvp_rooms.specs.declared.site.CameOf.TheVariants.{Did, Refused, Fell}
use Rattle.pvp_parties.specs.declared.party.PartyEvent.{PartyEvent}
use Rattle.pvp_parties.specs.declared.party.PartyEvent.TheVariants.{OfSite, OfNode, OfClient}
use Rattle.pvp_parties.specs.declared.party.PartyOutcome.{PartyOutcome}
use Rattle.pvp_parties.specs.declared.party.PartyOutcome.TheVariants.{OfSite as SiteTold, OfNode as NodeTold, OfClient as ClientTold, Stray}
use Rattle.pvp_journal.specs.declared.summary.Summary.{Summary}
use Rattle.pvp_journal.specs.declared.summary.Summary.TheVariants.{Whole, Sent}
use Rattle.pvp_journal.specs.Spelling.{Entry, Envelope, stamped_envelope, command_request, delivery_text, event_text, site_number, node_number, client_number, why_number, frames_text, sent_text, outcome_text, summary_text, body_text}
use Rattle.pvp_journal.specs.Fits.{DeliveryFits, EventFits, FramesFit, SentFits, OutcomeFits, SummaryFits, BodyFits}
use Rattle.pvp_journal.specs.Reading.{Happened, stamped_at, sent_at, frames_from, all_sent_at, delivered_at, submitted_at, event_at, site_fault_at, node_fault_at, client_fault_at, why_at, outcome_at, summary_at, entry_at, body_at}

pub stamped-again : (s : Stamped) (rest : List ℕ) → IsSpelled s → stamped_at (spelling s ++ rest) ≡ Ok (s, rest)
unfolding stamped_at
stamped-again s rest h =
    let found = frame-again s rest h in
    rw (found, drop_at (spelling s) rest (length (spelling s)) refl) refl

same : (n : ℕ) → (n == n) ≡ true
same n = eq-eqb n n refl

sent-again : (me clock place : ℕ) (envelope : Envelope) (rest : List ℕ) → IsSpelled (stamped_envelope me clock place envelope)
    → sent_at me clock place (spelling (stamped_envelope me clock place envelope) ++ rest) ≡ Ok (envelope, rest)
unfolding sent_at
sent-again me clock place envelope rest h =
    let found = stamped-again (stamped_envelope me clock place envelope) rest h in
    rw (found, same me, same clock, same place) refl

frames-again : (me clock place : ℕ) (sent : List Envelope) (rest : List ℕ) → FramesFit me clock place sent
    → frames_from me clock (length sent) place (frames_text me clock place sent ++ rest) ≡ Ok (sent, rest)
unfolding frames_from
frames-again me clock place [] rest h = refl
frames-again me clock place (envelope ∷ more) rest h =
    let text = spelling (stamped_envelope me clock place envelope) in
    let others = frames_text me clock (place + 1) more in
    let first = sent-again me clock place envelope (others ++ rest) h.0 in
    let then = frames-again me clock (place + 1) more rest h.1 in
    ap (frames_from me clock (length (envelope ∷ more)) place) (append_assoc text others rest) ∙ rw (first, then) refl

pub all_sent-again : (me clock : ℕ) (sent : List Envelope) (rest : List ℕ) → SentFits me clock sent
    → all_sent_at me clock (sent_text me clock sent ++ rest) ≡ Ok (sent, rest)
unfolding all_sent_at
all_sent-again me clock sent rest h =
    let frames = frames_text me clock 0 sent in
    let count = n4.again (length sent) (frames ++ rest) h.0 in
    let all = frames-again me clock 0 sent rest h.1 in
    ap (all_sent_at me clock) (append_assoc (number 4 (length sent)) frames rest) ∙ rw (count, all) refl

-- ---- events

delivered-again : (event : Envelope → PartyEvent) (stamp : Option Stamp) (envelope : Envelope) (rest : List ℕ) → DeliveryFits stamp envelope
    → delivered_at event (delivery_text stamp envelope ++ rest) ≡ Ok ((event envelope, stamp), rest)
delivered-again event None envelope rest h = absurd h
delivered-again event (Some stamp) envelope rest h =
    let found = stamped-again (record { stamp = stamp; envelope = envelope }) rest h in
    rw found refl

pub submitted-again : (me clock : ℕ) (cmd : Cmd) (rest : List ℕ) → IsSpelled (command_request me clock cmd)
    → submitted_at me clock (spelling (command_request me clock cmd) ++ rest) ≡ Ok (cmd, rest)
unfolding submitted_at
submitted-again me clock cmd rest h =
    let found = sent-again me clock 0 (command_request me clock cmd).envelope rest h in
    rw found refl

abbrev happened : Happened × List ℕ → Reads Happened
happened x = Ok x

plain : (event : PartyEvent) (stamp : Option Stamp) (rest : List ℕ) → stamp ≡ None → happened ((event, None), rest) ≡ happened ((event, stamp), rest)
plain event stamp rest e = ap (λ (s : Option Stamp). happened ((event, s), rest)) (sym e)

event-again : (me clock : ℕ) (stamp : Option Stamp) (event : PartyEvent) (rest : List ℕ) → EventFits me clock stamp event
    → event_at me clock (event_text me clock stamp event ++ rest) ≡ happened ((event, stamp), rest)
unfolding event_at
event-again me clock stamp (OfSite (Deliver envelope)) rest h = delivered-again (λ x. OfSite (Deliver x)) stamp envelope rest h
event-again me clock stamp (OfSite Timer) rest h = plain (OfSite Timer) stamp rest h
event-again me clock stamp (OfSite Beat) rest h = plain (OfSite Beat) stamp rest h
event-again me clock stamp (OfSite Crash) rest h = plain (OfSite Crash) stamp rest h
event-again me clock stamp (OfSite Restart) rest h = plain (OfSite Restart) stamp rest h
event-again me clock stamp (OfNode (node_event.Takes envelope)) rest h = delivered-again (λ x. OfNode (node_event.Takes x)) stamp envelope rest h
event-again me clock stamp (OfNode node_event.Beats) rest h = plain (OfNode node_event.Beats) stamp rest h
event-again me clock stamp (OfNode (node_event.PaysIn member amt)) rest h =
    again2 n2 n8 (λ m a. (OfNode (node_event.PaysIn m a), None)) member amt rest h.1 h.2 ∙ plain (OfNode (node_event.PaysIn member amt)) stamp rest h.0
event-again me clock stamp (OfNode (node_event.Closes member)) rest h =
    again1 n2 (λ m. (OfNode (node_event.Closes m), None)) member rest h.1 ∙ plain (OfNode (node_event.Closes member)) stamp rest h.0
event-again me clock stamp (OfClient (client_event.Takes envelope)) rest h = delivered-again (λ x. OfClient (client_event.Takes x)) stamp envelope rest h
event-again me clock stamp (OfClient client_event.Beats) rest h = plain (OfClient client_event.Beats) stamp rest h
event-again me clock stamp (OfClient (client_event.Submits cmd)) rest h =
    let found = submitted-again me clock cmd rest h.1 in
    rw found (plain (OfClient (client_event.Submits cmd)) stamp rest h.0)

-- ---- outcomes

pub site-again : (fault : SiteFault) (rest : List ℕ) → site_fault_at (site_number fault ∷ rest) ≡ Ok (fault, rest)
unfolding site_fault_at
site-again site.NoMemory rest = refl
site-again site.CellFault rest = refl
site-again site.NotUp rest = refl
site-again site.AlreadyUp rest = refl
site-again site.ViewsSpent rest = refl
site-again site.BootsSpent rest = refl
site-again site.NotMine rest = refl

pub node-again : (fault : NodeFault) (rest : List ℕ) → node_fault_at (node_number fault ∷ rest) ≡ Ok (fault, rest)
unfolding node_fault_at
node-again node.Short rest = refl
node-again node.UnknownMember rest = refl
node-again node.BadAmount rest = refl
node-again node.NoMemory rest = refl
node-again node.Spent rest = refl
node-again node.NotMine rest = refl
node-again node.Closed rest = refl

pub client-again : (fault : ClientFault) (rest : List ℕ) → client_fault_at (client_number fault ∷ rest) ≡ Ok (fault, rest)
unfolding client_fault_at
client-again client.Outstanding rest = refl
client-again client.Spent rest = refl
client-again client.NoMemory rest = refl

pub why-again : (dropped : Option Why) (rest : List ℕ) → why_at (why_number dropped ∷ rest) ≡ Ok (dropped, rest)
unfolding why_at
why-again None rest = refl
why-again (Some why.Status) rest = refl
why-again (Some why.View) rest = refl
why-again (Some why.NotPrimary) rest = refl
why-again (Some why.Known) rest = refl
why-again (Some why.Stale) rest = refl
why-again (Some why.Full) rest = refl

outcome-again : (me clock : ℕ) (outcome : PartyOutcome) (rest : List ℕ) → OutcomeFits me clock outcome
    → outcome_at me clock (outcome_text me clock outcome ++ rest) ≡ Ok (outcome, rest)
unfolding outcome_at
outcome-again me clock (SiteTold (Did sent dropped)) rest h =
    let regrouped = append_assoc (sent_text me clock sent) (why_number dropped ∷ []) rest in
    let all = all_sent-again me clock sent (why_number dropped ∷ rest) h in
    let last = why-again dropped rest in
    ap (λ (x : List ℕ). outcome_at me clock (1 ∷ x)) regrouped ∙ rw (all, last) refl
outcome-again me clock (SiteTold (Refused fault)) rest h = rw (site-again fault rest) refl
outcome-again me clock (SiteTold (Fell fault cell)) rest h =
    let first = site-again fault (number 4 cell.boots ++ rest) in
    let then = n4.again cell.boots rest h in
    rw (first, then) refl
outcome-again me clock (NodeTold (Ok sent)) rest h = rw (all_sent-again me clock sent rest h) refl
outcome-again me clock (NodeTold (Err fault)) rest h = rw (node-again fault rest) refl
outcome-again me clock (ClientTold (Ok sent)) rest h = rw (all_sent-again me clock sent rest h) refl
outcome-again me clock (ClientTold (Err fault)) rest h = rw (client-again fault rest) refl
outcome-again me clock Stray rest h = refl

-- ---- summaries

abbrev whole : Reads PartyOutcome → Reads Summary
whole read = read >>= λ found. Ok (Whole found.0, found.1)

summary-again : (me clock : ℕ) (summary : Summary) (rest : List ℕ) → SummaryFits me clock summary
    → summary_at me clock (summary_text me clock summary ++ rest) ≡ Ok (summary, rest)
unfolding summary_at
summary-again me clock (Sent count dropped) rest h = rw (why-again dropped rest) refl
summary-again me clock (Whole (SiteTold (Did sent dropped))) rest h = ap whole (outcome-again me clock (SiteTold (Did sent dropped)) rest h)
summary-again me clock (Whole (SiteTold (Refused fault))) rest h = ap whole (outcome-again me clock (SiteTold (Refused fault)) rest h)
summary-again me clock (Whole (SiteTold (Fell fault cell))) rest h = ap whole (outcome-again me clock (SiteTold (Fell fault cell)) rest h)
summary-again me clock (Whole (NodeTold (Ok sent))) rest h = ap whole (outcome-again me clock (NodeTold (Ok sent)) rest h)
summary-again me clock (Whole (NodeTold (Err fault))) rest h = ap whole (outcome-again me clock (NodeTold (Err fault)) rest h)
summary-again me clock (Whole (ClientTold (Ok sent))) rest h = ap whole (outcome-again me clock (ClientTold (Ok sent)) rest h)
summary-again me clock (Whole (ClientTold (Err fault))) rest h = ap whole (outcome-again me clock (ClientTold (Err fault)) rest h)
summary-again me clock (Whole Stray) rest h = ap whole (outcome-again me clock Stray rest h)

-- ---- what a record says

entry-again : (me : ℕ) (r : Entry) (rest : List ℕ) → BodyFits me r → entry_at me (body_text me r ++ rest) ≡ Ok (r, rest)
unfolding entry_at
entry-again me r rest h =
    let event = event_text me r.clock r.stamp r.event in
    let summary = summary_text me r.clock r.outcome in
    let regrouped = append_assoc (number 8 r.clock ++ event) summary rest ∙ append_assoc (number 8 r.clock) event (summary ++ rest) in
    let first = n8.again r.clock (event ++ (summary ++ rest)) h.0 in
    let second = event-again me r.clock r.stamp r.event (summary ++ rest) h.1 in
    let third = summary-again me r.clock r.outcome rest h.2 in
    ap (entry_at me) regrouped ∙ rw (first, second, third) refl

pub body-again : (me : ℕ) (r : Entry) → BodyFits me r → body_at me (body_text me r) ≡ Ok r
unfolding body_at
body-again me r h =
    let whole = ap (entry_at me) (sym (append-nil (body_text me r))) ∙ entry-again me r [] h in
    rw whole refl
