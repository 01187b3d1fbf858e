-- What a journal says of how an event came out, and how that is taken again.
use Rattle.std.specs.Prelude.{◌≡◌, ℕ, min, List, [], ◌∷◌, length, Option, Some, None, Ok, Err}
use Rattle.rtgs_node.specs.declared.fault.NodeFault.TheVariants as node
use Rattle.headline.specs.declared.step.ClientFault.TheVariants as client
use Rattle.pvp_rooms.specs.declared.message.Recorded.{Recorded}
use Rattle.pvp_rooms.specs.declared.site.CameOf.TheVariants.{Did, Refused, Fell}
use Rattle.pvp_rooms.specs.Histories.{Takes}
use Rattle.pvp_parties.specs.declared.party.PartyEvent.{PartyEvent}
use Rattle.pvp_parties.specs.declared.party.PartyOutcome.{PartyOutcome}
use Rattle.pvp_parties.specs.declared.party.PartyOutcome.TheVariants.{OfSite, OfNode, OfClient, Stray}
use Rattle.pvp_parties.specs.Parties.{PartyState, Comes, after}
use Rattle.pvp_journal.specs.declared.summary.Summary.{Summary}
use Rattle.pvp_journal.specs.declared.summary.Summary.TheVariants.{Whole, Sent}
use Rattle.pvp_journal.specs.Spelling.{Entry, Envelope}

-- an event that an actor took, and how it came out
abbrev pub Taken : Type 0
Taken = Recorded PartyEvent PartyOutcome

-- how many envelopes were sent: 255 stands for as many or more
abbrev pub count_of : List Envelope → ℕ
count_of sent = min (length sent) 255

-- THE SUMMARY OF AN OUTCOME: of a step that was taken how much it sent, and why it dropped the event; what else came
-- out stands there whole
abbrev pub summary_of : PartyOutcome → Summary
summary_of (OfSite (Did sent dropped)) = Sent (count_of sent) dropped
summary_of (OfSite (Refused fault)) = Whole (OfSite (Refused fault))
summary_of (OfSite (Fell fault cell)) = Whole (OfSite (Fell fault cell))
summary_of (OfNode (Ok sent)) = Sent (count_of sent) None
summary_of (OfNode (Err fault)) = Whole (OfNode (Err fault))
summary_of (OfClient (Ok sent)) = Sent (count_of sent) None
summary_of (OfClient (Err fault)) = Whole (OfClient (Err fault))
summary_of Stray = Whole Stray

-- WHAT A JOURNAL KEEPS of an event that was taken
abbrev pub entry_of : Taken → Entry
entry_of r = record { event = r.event; stamp = r.stamp; clock = r.clock; outcome = summary_of r.outcome }

-- a summary is one of an outcome
abbrev pub SumsUp : Summary → PartyOutcome → Type 0
SumsUp (Whole told) outcome = outcome ≡ told
SumsUp (Sent count dropped) outcome = summary_of outcome ≡ Sent count dropped

-- an entry is one of an event that was taken
pub record IsEntryOf (entry : Entry) (r : Taken) : Type 0 where
  pub event : r.event ≡ entry.event
  pub stamp : r.stamp ≡ entry.stamp
  pub clock : r.clock ≡ entry.clock
  pub outcome : SumsUp entry.outcome r.outcome

-- so is each, one after the other
abbrev pub AreEntriesOf : List Entry → List Taken → Type 0
AreEntriesOf [] [] = Unit {0}
AreEntriesOf (entry ∷ entries) (r ∷ more) = IsEntryOf entry r × AreEntriesOf entries more
AreEntriesOf _ _ = ⊥

-- WHAT TAKING AN EVENT AGAIN FINDS of which this is the summary: how it came out; or that nothing that can come of it
-- is summed up so
abbrev pub Retakes : PartyState → PartyEvent → Summary → Option PartyOutcome → (PartyState → Type 0) → Type 0
Retakes x event summary (Some outcome) shown = Takes Comes after x event outcome shown
Retakes x event summary None shown = (outcome : PartyOutcome) → SumsUp summary outcome → ¬ Comes x event outcome

-- a fall, or a lack of memory, which may come at any time
abbrev pub IsWant : PartyOutcome → Type 0
IsWant (OfSite (Did sent dropped)) = ⊥
IsWant (OfSite (Refused fault)) = ⊥
IsWant (OfSite (Fell fault cell)) = Unit {0}
IsWant (OfNode (Ok sent)) = ⊥
IsWant (OfNode (Err fault)) = fault ≡ node.NoMemory
IsWant (OfClient (Ok sent)) = ⊥
IsWant (OfClient (Err fault)) = fault ≡ client.NoMemory
IsWant Stray = ⊥
