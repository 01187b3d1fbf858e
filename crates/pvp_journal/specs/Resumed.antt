-- A replayed history, and the room that continues behind it.
use Rattle.std.specs.Prelude.{◌≡◌, ◌==◌, ℕ, ◌+◌, ◌-◌, nat_lt, Bool, true, false, not, List, [], ◌∷◌, ◌++◌, map, Option, Some, None, if◌then◌else◌}
use Rattle.std.specs.List.{range_with_len}
use Rattle.vr_types.specs.declared.cell.Boot.{Boot}
use Rattle.vr_types.specs.declared.event.EventOf.TheVariants.{Crash, Restart}
use Rattle.vr_types.specs.declared.event.SiteFault.TheVariants.{CellFault}
use Rattle.vr_types.specs.Site.{is_down}
use Rattle.pvp_rooms.specs.declared.site.CameOf.TheVariants.{Fell}
use Rattle.pvp_rooms.specs.declared.actor.Actor.{Ghosts}
use Rattle.pvp_rooms.specs.declared.message.Recorded.{Recorded}
use Rattle.pvp_rooms.specs.Histories.{Takes, replay, AreSteps, IsRising, last_clock}
use Rattle.pvp_rooms.specs.Rooms.{IsRoom}
use Rattle.pvp_parties.specs.declared.party.PartyOf.{PartyOf}
use Rattle.pvp_parties.specs.declared.party.PartyOf.TheVariants.{Site, Node, Client}
use Rattle.pvp_parties.specs.declared.party.PartyEvent.{PartyEvent}
use Rattle.pvp_parties.specs.declared.party.PartyEvent.TheVariants.{OfSite}
use Rattle.pvp_parties.specs.declared.party.PartyOutcome.{PartyOutcome}
use Rattle.pvp_parties.specs.declared.party.PartyOutcome.TheVariants.{OfSite as SiteTold}
use Rattle.pvp_parties.specs.Made.{memory}
use Rattle.pvp_parties.specs.Parties.{Party, PartyState, Opens, Shows, Comes, Reads, Tells, Brings, after, party_over}
use Rattle.pvp_journal.specs.declared.summary.Summary.{Summary}
use Rattle.pvp_journal.specs.Spelling.{Entry}
use Rattle.pvp_journal.specs.Summaries.{Taken, SumsUp, AreEntriesOf}
use Rattle.pvp_journal.specs.declared.resume.Replayed.{Replayed}
use Rattle.pvp_journal.specs.declared.ways.WayBack.{WayBack}
use Rattle.pvp_journal.specs.declared.ways.WayBack.TheVariants.{Again, Restarts, FellAndRestarts}
use Rattle.pvp_journal.specs.Rooms.{Held, Mark}

-- an actor took a history: from each state that it showed, each event can come out as it is recorded, and it shows the
-- state after them all; and it is still what it was opened as
pub record TookAll {A N E O : Type 0} (m : Ghosts A N E O) (old new : A) (history : List (Recorded E O)) : Type 0 where
  pub steps : (x : m.State) → m.shows old x
      → AreSteps m.comes m.after history x × m.shows new (replay m.after history x)
  pub opens : (opening : N) (x : m.State) → m.opens new opening x → m.opens old opening x

-- each event can come out as it is recorded, and the clocks rise
abbrev pub CanHaveCome : {A N E O : Type 0} → (m : Ghosts A N E O) → List (Recorded E O) → m.State → Type 0
CanHaveCome m history x = AreSteps m.comes m.after history x × IsRising history 0

-- the ghost members of an actor of the bank over a cell in memory
abbrev pub in_memory : Ghosts Party (Option Boot) PartyEvent PartyOutcome
in_memory =
    record {
      State = PartyState;
      opens = Opens;
      shows = Shows memory;
      comes = Comes;
      after = after;
      reads = Reads memory;
      tells = λ old new event told. Tells memory told old new event;
      brings = Brings;
    }

-- an event came out as a journal says, and the actor took it so; or nothing that is summed up so can come of it
abbrev pub ComesAgain : Party → PartyEvent → Summary → Party → Bool → Type 0
ComesAgain old event summary new true = (outcome : PartyOutcome) × SumsUp summary outcome
    × ((x : PartyState) → Shows memory old x → Takes Comes after x event outcome (Shows memory new))
ComesAgain old event summary new false = (outcome : PartyOutcome) → SumsUp summary outcome
    → (x : PartyState) → Shows memory old x → ¬ Comes x event outcome

-- an actor took events of which these are the entries
pub record TookEntries (old new : Party) (entries : List Entry) : Type 0 where
  pub history : List Taken
  pub entries_of : AreEntriesOf entries history
  pub took : TookAll in_memory old new history

-- WHAT TAKING THE EVENTS OF A JOURNAL AGAIN FINDS: the actor after them, and its last clock; or that no history of
-- which these are the entries can have come so from any state that the actor showed
abbrev pub Replays : Party → List Entry → Option (Replayed Party) → Type 0
Replays old entries (Some again) =
    TookEntries old again.actor entries × IsRising entries 0 × (last_clock entries 0 ≡ again.clock)
Replays old entries None = (history : List Taken) → AreEntriesOf entries history
    → (x : PartyState) → Shows memory old x → ¬ CanHaveCome in_memory history x

-- an actor as it opened shows each state in which it opens
abbrev pub IsOpened : {A N E O : Type 0} → Ghosts A N E O → A → N → Type 0
IsOpened m actor opening = (x : m.State) → m.opens actor opening x → m.shows actor x

-- the actor is the replay of a history, and its clock the last
abbrev pub IsAgain : {A N E O : Type 0} → Ghosts A N E O → N → Replayed A → List (Recorded E O) → Type 0
IsAgain m opening again history =
    IsRoom m (record { opening = opening; actor = again.actor; clock = again.clock; history = history })

-- so of a history of which these are the entries
pub record IsAgainOf (opening : Option Boot) (again : Replayed Party) (entries : List Entry) : Type 0 where
  pub history : List Taken
  pub entries_of : AreEntriesOf entries history
  pub is_again : IsAgain in_memory opening again history

-- what a room holds that goes on: nothing is in its batch, and nothing waits
abbrev pub resumed_room : {N A O L : Type 0} → ℕ → N → Replayed A → L → ℕ → Held N A O L
resumed_room number opening again log sum = record {
  number = number;
  opening = opening;
  actor = again.actor;
  clock = again.clock;
  log = log;
  sum = sum;
  batch = [];
  waiting = [];
}

-- a room of the same actor over another cell
abbrev pub room_over : {N B D O L : Type 0} → Held N (PartyOf B) O L → D → Held N (PartyOf D) O L
room_over room cell = record {
  number = room.number;
  opening = room.opening;
  actor = party_over room.actor cell;
  clock = room.clock;
  log = room.log;
  sum = room.sum;
  batch = room.batch;
  waiting = room.waiting;
}

-- HOW A SITE COMES BACK: its journal knows of so many boots, and its cell holds so many. A restart saves before it is
-- recorded, and a journal may lose its end, so the cell may be ahead. One that is behind is another site's, or older.
abbrev pub way_back : Boot → Boot → Bool → Option WayBack
way_back known held trusted =
    if held.boots == known.boots then Some (if trusted then Again else Restarts)
    else if nat_lt known.boots held.boots then Some FellAndRestarts
    else None

abbrev pub is_again : WayBack → Bool
is_again Again = true
is_again Restarts = false
is_again FellAndRestarts = false

-- this is a way back for an actor whose own cell holds this, over one that holds that; who has no cell only goes on
abbrev pub IsWay : WayBack → Option Boot → Boot → Type 0
IsWay way (Some known) held = way_back known held (is_again way) ≡ Some way
IsWay way None held = way ≡ Again

-- an actor is a site that is not down
abbrev pub is_up : {B : Type 0} → PartyOf B → Bool
is_up (Site p) = not (is_down p.now.volatile.status)
is_up (Node p) = false
is_up (Client p) = false

-- a crash of a site that is up
abbrev pub crash_of : Bool → List (Mark PartyEvent PartyOutcome)
crash_of up = if up then record { event = OfSite Crash; came = None } ∷ [] else []

-- a restart, however it comes out
abbrev pub a_restart : Mark PartyEvent PartyOutcome
a_restart = record { event = OfSite Restart; came = None }

-- a restart that saved this and fell
abbrev pub a_fall : Boot → Mark PartyEvent PartyOutcome
a_fall held = record { event = OfSite Restart; came = Some (SiteTold (Fell CellFault held)) }

-- behind so many boots, up to so many, each restart saved and fell
abbrev pub falls_between : ℕ → ℕ → List (Mark PartyEvent PartyOutcome)
falls_between known held = map (λ n. a_fall (record { boots = n })) (range_with_len (known + 1) (held - known))

-- of so many boots an actor knows that comes over a cell which holds this; who has no cell has missed none
abbrev pub boots_known : Option Boot → Boot → ℕ
boots_known (Some known) held = known.boots
boots_known None held = held.boots

-- THE EVENTS BY WHICH A SITE COMES BACK, whose own cell holds this, over one that holds that
abbrev pub events_back : WayBack → Bool → Option Boot → Boot → List (Mark PartyEvent PartyOutcome)
events_back Again up known held = []
events_back Restarts up known held = crash_of up ++ a_restart ∷ []
events_back FellAndRestarts up known held =
    crash_of up ++ (falls_between (boots_known known held) held.boots ++ a_restart ∷ [])
