-- How the head of a journal and what a record says are read: which fault comes first, and what is read where none
-- comes.
use Rattle.std.specs.Prelude.{◌≡◌, ◌⊎◌, ℕ, zero, suc, ◌+◌, ◌==◌, ◌&&◌, Bool, not, nat_lt, nat_le, List, [], ◌∷◌, length, take, drop, Option, Some, None, Result, Ok, Err, if◌then◌else◌}
use Rattle.byteorder.specs.Endian.{big_number}
use Rattle.pvp_types.specs.declared.command.Cmd.{Cmd}
use Rattle.vr_types.specs.declared.cell.Boot.{Boot}
use Rattle.vr_types.specs.declared.event.EventOf.TheVariants.{Deliver, Timer, Beat, Crash, Restart}
use Rattle.vr_types.specs.declared.event.SiteFault.{SiteFault}
use Rattle.vr_types.specs.declared.event.SiteFault.TheVariants as site
use Rattle.vr_types.specs.declared.event.Why.{Why}
use Rattle.vr_types.specs.declared.event.Why.TheVariants as why
use Rattle.vr_types.specs.declared.message.MsgOf.TheVariants.{Request}
use Rattle.vr_types.specs.declared.actors.TheConstants.{FIRST_SITE}
use Rattle.rtgs_node.specs.declared.event.NodeEvent.TheVariants as node_event
use Rattle.rtgs_node.specs.declared.fault.NodeFault.{NodeFault}
use Rattle.rtgs_node.specs.declared.fault.NodeFault.TheVariants as node
use Rattle.headline.specs.declared.step.ClientEvent.TheVariants as client_event
use Rattle.headline.specs.declared.step.ClientFault.{ClientFault}
use Rattle.headline.specs.declared.step.ClientFault.TheVariants as client
use Rattle.pvp_wire.specs.declared.fault.WireFault.{WireFault}
use Rattle.pvp_wire.specs.declared.fault.WireFault.TheVariants.{Field, Length, NoMemory}
use Rattle.pvp_wire.specs.declared.stamped.Stamp.{Stamp}
use Rattle.pvp_wire.specs.declared.stamped.Stamped.{Stamped}
use Rattle.pvp_wire.specs.Spelling.{BankMsg}
use Rattle.pvp_wire.specs.Reading.{◌>>=◌, Reads, number_at, frame_at}
use Rattle.pvp_rooms.specs.declared.site.CameOf.TheVariants.{Did, Refused, Fell}
use Rattle.pvp_parties.specs.declared.party.PartyEvent.{PartyEvent}
use Rattle.pvp_parties.specs.declared.party.PartyEvent.TheVariants.{OfSite, OfNode, OfClient}
use Rattle.pvp_parties.specs.declared.party.PartyOutcome.{PartyOutcome}
use Rattle.pvp_parties.specs.declared.party.PartyOutcome.TheVariants.{OfSite as SiteTold, OfNode as NodeTold, OfClient as ClientTold, Stray}
use Rattle.pvp_journal.specs.declared.fault.JournalWhy.{JournalWhy}
use Rattle.pvp_journal.specs.declared.fault.JournalWhy.TheVariants as whys
use Rattle.pvp_journal.specs.declared.head.Head.{Head}
use Rattle.pvp_journal.specs.declared.head.Version.{Version}
use Rattle.pvp_journal.specs.declared.head.Version.TheVariants.{One, Two}
use Rattle.pvp_journal.specs.declared.summary.Summary.{Summary}
use Rattle.pvp_journal.specs.declared.summary.Summary.TheVariants.{Whole, Sent}
use Rattle.pvp_journal.specs.Spelling.{Entry, Envelope, magic}

-- ---- the head

-- 0, or 1 and the boots that a site's cell held
unfoldable pub opening_at : List ℕ → Reads (Option Boot)
opening_at [] = Err Length
opening_at (flag ∷ bytes) =
    if flag == 0 then Ok (None, bytes)
    else if flag == 1 then (number_at 4 bytes >>= λ n. Ok (Some (record { boots = n.0 }), n.1))
    else Err Field

-- the bank's id
abbrev pub bank_at : List ℕ → Reads (List ℕ)
bank_at bytes = if nat_lt (length bytes) 32 then Err Length else Ok (take 32 bytes, drop 32 bytes)

-- what stands behind the version
unfoldable pub fields_at : Version → List ℕ → Reads Head
fields_at version bytes = do
  actor ← number_at 2 bytes
  opening ← opening_at actor.1
  bank ← bank_at opening.1
  Ok (record { version = version; actor = actor.0; opening = opening.0; bank = bank.0 }, bank.1)

-- this number of so many bytes stands in front
abbrev pub begins_with : ℕ → ℕ → List ℕ → Bool
begins_with n x bytes = nat_le n (length bytes) && (big_number n bytes == x)

-- a fault within the head
abbrev pub in_head : Reads Head → Result (Head × List ℕ) JournalWhy
in_head (Ok found) = Ok found
in_head (Err fault) = Err whys.Head

-- the version, and what stands behind it
unfoldable pub versioned_at : List ℕ → Result (Head × List ℕ) JournalWhy
versioned_at [] = Err whys.Version
versioned_at (n ∷ bytes) =
    if n == 1 then in_head (fields_at One bytes)
    else if n == 2 then in_head (fields_at Two bytes)
    else Err whys.Version

-- THE HEAD at the front of bytes, and the bytes after it; else what is wrong, the first of these tests that fails
unfoldable pub head_at : List ℕ → Result (Head × List ℕ) JournalWhy
head_at bytes =
    if not (begins_with 4 magic bytes) then Err whys.Magic
    else versioned_at (drop 4 bytes)

-- ---- frames

-- the frame in front, and the bytes after it
unfoldable pub stamped_at : List ℕ → Reads Stamped
stamped_at bytes = frame_at bytes >>= λ found. Ok (found.0, drop found.1 bytes)

-- the stamp is this actor's of this clock and place
abbrev pub is_of : ℕ → ℕ → ℕ → Stamp → Bool
is_of me clock place stamp = (stamp.actor == me) && ((stamp.clock == clock) && (stamp.index == place))

-- the frame of what this actor sent then, at this place
unfoldable pub sent_at : ℕ → ℕ → ℕ → List ℕ → Reads Envelope
sent_at me clock place bytes =
    stamped_at bytes >>= λ found. if is_of me clock place found.0.stamp then Ok (found.0.envelope, found.1)
    else Err Field

-- so many of them, from a place on
unfoldable pub frames_from : ℕ → ℕ → ℕ → ℕ → List ℕ → Reads (List Envelope)
frames_from me clock zero place bytes = Ok ([], bytes)
frames_from me clock (suc count) place bytes = do
  first ← sent_at me clock place bytes
  others ← frames_from me clock count (place + 1) first.1
  Ok (first.0 ∷ others.0, others.1)

-- how many, and their frames
unfoldable pub all_sent_at : ℕ → ℕ → List ℕ → Reads (List Envelope)
all_sent_at me clock bytes = number_at 4 bytes >>= λ count. frames_from me clock count.0 0 count.1

-- ---- events, by their tags; with the stamp of what was delivered

abbrev pub Happened : Type 0
Happened = PartyEvent × Option Stamp

-- what was delivered, as this kind of event
abbrev pub delivered_at : (Envelope → PartyEvent) → List ℕ → Reads Happened
delivered_at event bytes = stamped_at bytes >>= λ found. Ok ((event found.0.envelope, Some found.0.stamp), found.1)

-- the command of a request of number 0 that goes to the first site
abbrev pub command_in : ℕ → BankMsg → Result Cmd WireFault
command_in to (Request msg) = if (msg.number == 0) && (to == FIRST_SITE) then Ok msg.cmd else Err Field
command_in to _ = Err Field

unfoldable pub submitted_at : ℕ → ℕ → List ℕ → Reads Cmd
submitted_at me clock bytes = do
  envelope ← sent_at me clock 0 bytes
  cmd ← command_in envelope.0.to envelope.0.msg
  Ok (cmd, envelope.1)

abbrev pub pays_in_at : List ℕ → Reads Happened
pays_in_at bytes = do
  member ← number_at 2 bytes
  amt ← number_at 8 member.1
  Ok ((OfNode (node_event.PaysIn member.0 amt.0), None), amt.1)

abbrev pub closes_at : List ℕ → Reads Happened
closes_at bytes = number_at 2 bytes >>= λ member. Ok ((OfNode (node_event.Closes member.0), None), member.1)

abbrev pub submits_at : ℕ → ℕ → List ℕ → Reads Happened
submits_at me clock bytes =
    submitted_at me clock bytes >>= λ cmd. Ok ((OfClient (client_event.Submits cmd.0), None), cmd.1)

unfoldable pub event_at : ℕ → ℕ → List ℕ → Reads Happened
event_at me clock [] = Err Length
event_at me clock (tag ∷ bytes) =
    if tag == 1 then delivered_at (λ envelope. OfSite (Deliver envelope)) bytes
    else if tag == 2 then Ok ((OfSite Timer, None), bytes)
    else if tag == 3 then Ok ((OfSite Beat, None), bytes)
    else if tag == 4 then Ok ((OfSite Crash, None), bytes)
    else if tag == 5 then Ok ((OfSite Restart, None), bytes)
    else if tag == 6 then delivered_at (λ envelope. OfNode (node_event.Takes envelope)) bytes
    else if tag == 7 then Ok ((OfNode node_event.Beats, None), bytes)
    else if tag == 8 then pays_in_at bytes
    else if tag == 9 then closes_at bytes
    else if tag == 10 then delivered_at (λ envelope. OfClient (client_event.Takes envelope)) bytes
    else if tag == 11 then Ok ((OfClient client_event.Beats, None), bytes)
    else if tag == 12 then submits_at me clock bytes
    else Err Field

-- ---- outcomes, by their tags

unfoldable pub site_fault_at : List ℕ → Reads SiteFault
site_fault_at [] = Err Length
site_fault_at (n ∷ bytes) =
    if n == 1 then Ok (site.NoMemory, bytes)
    else if n == 2 then Ok (site.CellFault, bytes)
    else if n == 3 then Ok (site.NotUp, bytes)
    else if n == 4 then Ok (site.AlreadyUp, bytes)
    else if n == 5 then Ok (site.ViewsSpent, bytes)
    else if n == 6 then Ok (site.BootsSpent, bytes)
    else if n == 7 then Ok (site.NotMine, bytes)
    else Err Field

unfoldable pub node_fault_at : List ℕ → Reads NodeFault
node_fault_at [] = Err Length
node_fault_at (n ∷ bytes) =
    if n == 1 then Ok (node.Short, bytes)
    else if n == 2 then Ok (node.UnknownMember, bytes)
    else if n == 3 then Ok (node.BadAmount, bytes)
    else if n == 4 then Ok (node.NoMemory, bytes)
    else if n == 5 then Ok (node.Spent, bytes)
    else if n == 6 then Ok (node.NotMine, bytes)
    else if n == 7 then Ok (node.Closed, bytes)
    else Err Field

unfoldable pub client_fault_at : List ℕ → Reads ClientFault
client_fault_at [] = Err Length
client_fault_at (n ∷ bytes) =
    if n == 1 then Ok (client.Outstanding, bytes)
    else if n == 2 then Ok (client.Spent, bytes)
    else if n == 3 then Ok (client.NoMemory, bytes)
    else Err Field

unfoldable pub why_at : List ℕ → Reads (Option Why)
why_at [] = Err Length
why_at (n ∷ bytes) =
    if n == 0 then Ok (None, bytes)
    else if n == 1 then Ok (Some why.Status, bytes)
    else if n == 2 then Ok (Some why.View, bytes)
    else if n == 3 then Ok (Some why.NotPrimary, bytes)
    else if n == 4 then Ok (Some why.Known, bytes)
    else if n == 5 then Ok (Some why.Stale, bytes)
    else if n == 6 then Ok (Some why.Full, bytes)
    else Err Field

abbrev pub did_at : ℕ → ℕ → List ℕ → Reads PartyOutcome
did_at me clock bytes = do
  sent ← all_sent_at me clock bytes
  dropped ← why_at sent.1
  Ok (SiteTold (Did sent.0 dropped.0), dropped.1)

abbrev pub fell_at : List ℕ → Reads PartyOutcome
fell_at bytes = do
  fault ← site_fault_at bytes
  boots ← number_at 4 fault.1
  Ok (SiteTold (Fell fault.0 (record { boots = boots.0 })), boots.1)

abbrev pub refused_at : List ℕ → Reads PartyOutcome
refused_at bytes = site_fault_at bytes >>= λ fault. Ok (SiteTold (Refused fault.0), fault.1)

abbrev pub node_told_at : ℕ → ℕ → List ℕ → Reads PartyOutcome
node_told_at me clock bytes = all_sent_at me clock bytes >>= λ sent. Ok (NodeTold (Ok sent.0), sent.1)

abbrev pub node_refused_at : List ℕ → Reads PartyOutcome
node_refused_at bytes = node_fault_at bytes >>= λ fault. Ok (NodeTold (Err fault.0), fault.1)

abbrev pub client_told_at : ℕ → ℕ → List ℕ → Reads PartyOutcome
client_told_at me clock bytes = all_sent_at me clock bytes >>= λ sent. Ok (ClientTold (Ok sent.0), sent.1)

abbrev pub client_refused_at : List ℕ → Reads PartyOutcome
client_refused_at bytes = client_fault_at bytes >>= λ fault. Ok (ClientTold (Err fault.0), fault.1)

unfoldable pub outcome_at : ℕ → ℕ → List ℕ → Reads PartyOutcome
outcome_at me clock [] = Err Length
outcome_at me clock (tag ∷ bytes) =
    if tag == 1 then did_at me clock bytes
    else if tag == 2 then refused_at bytes
    else if tag == 3 then fell_at bytes
    else if tag == 4 then node_told_at me clock bytes
    else if tag == 5 then node_refused_at bytes
    else if tag == 6 then client_told_at me clock bytes
    else if tag == 7 then client_refused_at bytes
    else if tag == 8 then Ok (Stray, bytes)
    else Err Field

-- how much was sent, and why the event was dropped
abbrev pub summed_at : List ℕ → Reads Summary
summed_at [] = Err Length
summed_at (count ∷ bytes) = why_at bytes >>= λ dropped. Ok (Sent count dropped.0, dropped.1)

-- that, or a whole outcome
unfoldable pub summary_at : ℕ → ℕ → List ℕ → Reads Summary
summary_at me clock [] = Err Length
summary_at me clock (tag ∷ bytes) =
    if tag == 9 then summed_at bytes
    else (outcome_at me clock (tag ∷ bytes) >>= λ found. Ok (Whole found.0, found.1))

-- ---- what a record says

-- nothing may be left of it
abbrev pub all_read : {A : Type 0} → A × List ℕ → Result A WireFault
all_read x = if length x.1 == 0 then Ok x.0 else Err Length

-- its clock, its event, its summary
unfoldable pub entry_at : ℕ → List ℕ → Reads Entry
entry_at me bytes = do
  clock ← number_at 8 bytes
  event ← event_at me clock.0 clock.1
  summary ← summary_at me clock.0 event.1
  Ok (record { event = event.0.0; stamp = event.0.1; clock = clock.0; outcome = summary.0 }, summary.1)

-- WHAT THESE BYTES SAY, all of them
unfoldable pub body_at : ℕ → List ℕ → Result Entry WireFault
body_at me bytes = entry_at me bytes >>= all_read

-- ---- what a function returned

-- What a function that takes memory returned, seen by view, is what reading gives: only where it was refused may
-- another fault be returned.
abbrev pub Tells : {X Y : Type 0} → (X → Y) → Result X WireFault → Result Y WireFault → Type 0
Tells view (Ok x) read = read ≡ Ok (view x)
Tells view (Err fault) read = (read ≡ Err fault) ⊎ (fault ≡ NoMemory)
