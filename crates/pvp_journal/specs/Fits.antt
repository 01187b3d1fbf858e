-- What can be journaled.
use Rattle.std.specs.Prelude.{◌≡◌, ℕ, ◌+◌, ◌<◌, All, List, [], ◌∷◌, length, Option, Some, None, Ok, Err}
use Rattle.vr_types.specs.declared.cell.Boot.{Boot}
use Rattle.vr_types.specs.declared.event.EventOf.TheVariants.{Deliver, Timer, Beat, Crash, Restart}
use Rattle.rtgs_node.specs.declared.event.NodeEvent.TheVariants as node_event
use Rattle.headline.specs.declared.step.ClientEvent.TheVariants as client_event
use Rattle.pvp_wire.specs.declared.stamped.Stamp.{Stamp}
use Rattle.pvp_wire.specs.Fits.{Fits, IsSpelled}
use Rattle.pvp_rooms.specs.declared.site.CameOf.TheVariants.{Did, Refused, Fell}
use Rattle.pvp_parties.specs.declared.party.PartyEvent.{PartyEvent}
use Rattle.pvp_parties.specs.declared.party.PartyEvent.TheVariants.{OfSite, OfNode, OfClient}
use Rattle.pvp_parties.specs.declared.party.PartyOutcome.{PartyOutcome}
use Rattle.pvp_parties.specs.declared.party.PartyOutcome.TheVariants.{OfSite as SiteTold, OfNode as NodeTold, OfClient as ClientTold, Stray}
use Rattle.pvp_journal.specs.declared.head.Head.{Head}
use Rattle.pvp_journal.specs.declared.summary.Summary.{Summary}
use Rattle.pvp_journal.specs.declared.summary.Summary.TheVariants.{Whole, Sent}
use Rattle.pvp_journal.specs.Spelling.{Entry, Envelope, stamped_envelope, command_request, body_text}

abbrev pub OpeningFits : Option Boot → Type 0
OpeningFits None = Unit {0}
OpeningFits (Some boot) = Fits 4 boot.boots

-- what is a head: the bank's id has 32 bytes
pub record IsHead (head : Head) : Type 0 where
  pub actor : Fits 2 head.actor
  pub opening : OpeningFits head.opening
  pub bank : length head.bank ≡ 32

-- what was delivered has a stamp, and a frame has its spelling
abbrev pub DeliveryFits : Option Stamp → Envelope → Type 0
DeliveryFits None envelope = ⊥
DeliveryFits (Some stamp) envelope = IsSpelled (record { stamp = stamp; envelope = envelope })

-- nothing else has a stamp
abbrev pub EventFits : ℕ → ℕ → Option Stamp → PartyEvent → Type 0
EventFits me clock stamp (OfSite (Deliver envelope)) = DeliveryFits stamp envelope
EventFits me clock stamp (OfSite Timer) = stamp ≡ None
EventFits me clock stamp (OfSite Beat) = stamp ≡ None
EventFits me clock stamp (OfSite Crash) = stamp ≡ None
EventFits me clock stamp (OfSite Restart) = stamp ≡ None
EventFits me clock stamp (OfNode (node_event.Takes envelope)) = DeliveryFits stamp envelope
EventFits me clock stamp (OfNode node_event.Beats) = stamp ≡ None
EventFits me clock stamp (OfNode (node_event.PaysIn member amt)) = (stamp ≡ None) × Fits 2 member × Fits 8 amt
EventFits me clock stamp (OfNode (node_event.Closes member)) = (stamp ≡ None) × Fits 2 member
EventFits me clock stamp (OfClient (client_event.Takes envelope)) = DeliveryFits stamp envelope
EventFits me clock stamp (OfClient client_event.Beats) = stamp ≡ None
EventFits me clock stamp (OfClient (client_event.Submits cmd)) =
    (stamp ≡ None) × IsSpelled (command_request me clock cmd)

-- each frame of what was sent has its spelling
abbrev pub FramesFit : ℕ → ℕ → ℕ → List Envelope → Type 0
FramesFit me clock place [] = Unit {0}
FramesFit me clock place (envelope ∷ more) =
    IsSpelled (stamped_envelope me clock place envelope) × FramesFit me clock (place + 1) more

abbrev pub SentFits : ℕ → ℕ → List Envelope → Type 0
SentFits me clock sent = Fits 4 (length sent) × FramesFit me clock 0 sent

abbrev pub OutcomeFits : ℕ → ℕ → PartyOutcome → Type 0
OutcomeFits me clock (SiteTold (Did sent dropped)) = SentFits me clock sent
OutcomeFits me clock (SiteTold (Refused fault)) = Unit {0}
OutcomeFits me clock (SiteTold (Fell fault cell)) = Fits 4 cell.boots
OutcomeFits me clock (NodeTold (Ok sent)) = SentFits me clock sent
OutcomeFits me clock (NodeTold (Err fault)) = Unit {0}
OutcomeFits me clock (ClientTold (Ok sent)) = SentFits me clock sent
OutcomeFits me clock (ClientTold (Err fault)) = Unit {0}
OutcomeFits me clock Stray = Unit {0}

abbrev pub SummaryFits : ℕ → ℕ → Summary → Type 0
SummaryFits me clock (Whole outcome) = OutcomeFits me clock outcome
SummaryFits me clock (Sent count dropped) = count < 256

-- what a record says fits: the clock, the event, the summary
abbrev pub BodyFits : ℕ → Entry → Type 0
BodyFits me r = Fits 8 r.clock × EventFits me r.clock r.stamp r.event × SummaryFits me r.clock r.outcome

-- WHAT CAN BE JOURNALED by an actor: what stands there of the event and of the outcome has a spelling, and the whole is
-- not too long
pub record IsJournalable (me : ℕ) (r : Entry) : Type 0 where
  pub fits : BodyFits me r
  pub short : Fits 4 (length (body_text me r))

-- a head and a history that can be journaled
pub record AreJournalable (head : Head) (history : List Entry) : Type 0 where
  pub is_head : IsHead head
  pub each : All (IsJournalable head.actor) history
