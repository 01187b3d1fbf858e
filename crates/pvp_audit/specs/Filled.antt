-- A history that is filled in from the entries of a journal.
use Rattle.std.specs.Prelude.{◌≡◌, ◌⊎◌, List, [], ◌∷◌, Err}
use Rattle.vr_types.specs.declared.event.SiteFault.TheVariants as site
use Rattle.rtgs_node.specs.declared.fault.NodeFault.TheVariants as node
use Rattle.pvp_rooms.specs.declared.site.CameOf.TheVariants.{Refused}
use Rattle.pvp_parties.specs.declared.party.PartyEvent.{PartyEvent}
use Rattle.pvp_parties.specs.declared.party.PartyEvent.TheVariants as of
use Rattle.pvp_parties.specs.declared.party.PartyOutcome.{PartyOutcome}
use Rattle.pvp_parties.specs.declared.party.PartyOutcome.TheVariants.{OfSite, OfNode}
use Rattle.pvp_parties.specs.Parties.{PartyState, Comes, after}
use Rattle.pvp_journal.specs.declared.summary.Summary.{Summary}
use Rattle.pvp_journal.specs.Spelling.{Entry}
use Rattle.pvp_journal.specs.Summaries.{Taken, SumsUp}

-- the event of an entry, with its stamp and its clock
pub record IsEventOf (entry : Entry) (r : Taken) : Type 0 where
  pub event : r.event ≡ entry.event
  pub stamp : r.stamp ≡ entry.stamp
  pub clock : r.clock ≡ entry.clock

-- so of each, one after the other
abbrev pub AreEventsOf : List Entry → List Taken → Type 0
AreEventsOf [] [] = Unit {0}
AreEventsOf (entry ∷ entries) (r ∷ more) = IsEventOf entry r × AreEventsOf entries more
AreEventsOf _ _ = ⊥

-- an outcome that cannot come of an event
abbrev pub no_outcome : PartyEvent → PartyOutcome
no_outcome (of.OfSite event) = OfNode (Err node.NoMemory)
no_outcome (of.OfNode event) = OfSite (Refused site.NotMine)
no_outcome (of.OfClient event) = OfSite (Refused site.NotMine)

-- these have such outcomes
abbrev pub AreLost : List Taken → Type 0
AreLost [] = Unit {0}
AreLost (r ∷ more) = (r.outcome ≡ no_outcome r.event) × AreLost more

-- WHAT IS FILLED IN FOR AN EVENT in a state: an outcome that its summary is one of and that can come of it; or, where
-- there is none, one that cannot come
abbrev pub FillsIn : PartyState → Summary → PartyEvent → PartyOutcome → Type 0
FillsIn x summary event outcome =
    (SumsUp summary outcome × Comes x event outcome)
    ⊎ ((outcome ≡ no_outcome event) × ((other : PartyOutcome) → SumsUp summary other → ¬ Comes x event other))

-- so for each event, as far as they can have come so, and what is behind that is lost
abbrev pub AreFilledIn : PartyState → List Entry → List Taken → Type 0
AreFilledIn x [] [] = Unit {0}
AreFilledIn x (entry ∷ entries) (r ∷ more) =
    FillsIn x entry.outcome r.event r.outcome
    × (Comes x r.event r.outcome → AreFilledIn (after x r.event r.outcome) entries more)
    × (¬ Comes x r.event r.outcome → AreLost more)
AreFilledIn x _ _ = ⊥
