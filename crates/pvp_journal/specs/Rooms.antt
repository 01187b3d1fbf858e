-- A room whose history is in a journal.
use Rattle.std.specs.Prelude.{◌≡◌, ◌⊎◌, ℕ, List, [], ◌∷◌, ◌++◌, map, Option, Some, None, IfSome, IsSome, unwrap_or}
use Rattle.pvp_rooms.specs.declared.actor.Actor.{Ghosts}
use Rattle.pvp_rooms.specs.declared.message.Input.{Input}
use Rattle.pvp_rooms.specs.declared.message.Recorded.{Recorded}
use Rattle.pvp_rooms.specs.Histories.{Takes}
use Rattle.pvp_rooms.specs.Rooms.{ShownRoom, IsRoom, Took, receipt, clock_after}
use Rattle.pvp_parties.specs.declared.party.PartyEvent.{PartyEvent}
use Rattle.pvp_parties.specs.declared.party.PartyOutcome.{PartyOutcome}
use Rattle.pvp_journal.specs.Spelling.{record_text, record_sum}
use Rattle.pvp_journal.specs.Summaries.{entry_of}
use Rattle.pvp_journal.specs.declared.room.Letter.{Letter}
use Rattle.pvp_journal.specs.declared.room.Posted.{Posted}
use Rattle.pvp_journal.specs.declared.room.Posted.TheVariants.{Done, NoMemory, ClockSpent}

-- the text of a record behind a checksum, and its own checksum
pub record Texts (E O : Type 0) : Type 0 where
  pub record_of : ℕ → Recorded E O → List ℕ
  pub sum_of : ℕ → Recorded E O → ℕ

-- the texts of the bank's journals: those of their entries
abbrev pub bank_texts : ℕ → Texts PartyEvent PartyOutcome
bank_texts me = record {
  record_of = λ before r. record_text me before (entry_of r);
  sum_of = λ before r. record_sum me before (entry_of r);
}

-- records one behind another, and the checksum after them
abbrev pub records : {E O : Type 0} → Texts E O → ℕ → List (Recorded E O) → List ℕ
records t before [] = []
records t before (r ∷ more) = t.record_of before r ++ records t (t.sum_of before r) more

abbrev pub sum_after : {E O : Type 0} → Texts E O → ℕ → List (Recorded E O) → ℕ
sum_after t before [] = before
sum_after t before (r ∷ more) = sum_after t (t.sum_of before r) more

-- what is to be sent of an event: at which clock, and how it came out
abbrev pub letter : {E O : Type 0} → Recorded E O → Letter O
letter r = record { clock = r.clock; outcome = r.outcome }

-- what a room holds in memory
pub record Held (N A O L : Type 0) : Type 0 where
  pub number : ℕ
  pub opening : N
  pub actor : A
  pub clock : ℕ
  pub log : L
  pub sum : ℕ
  pub batch : List ℕ
  pub waiting : List (Letter O)

-- a history: what stands in the log already, with its checksum, and the events that are journaled there; what is
-- written behind it, and what is in the batch
pub record Past (E O : Type 0) : Type 0 where
  pub head : List ℕ
  pub start : ℕ
  pub earlier : List (Recorded E O)
  pub written : List (Recorded E O)
  pub pending : List (Recorded E O)

-- the room of such a history
abbrev pub shown_room : {N A E O L : Type 0} → Held N A O L → Past E O → ShownRoom N A E O
shown_room room past =
    record {
      opening = room.opening;
      actor = room.actor;
      clock = room.clock;
      history = past.earlier ++ (past.written ++ past.pending);
    }

-- WHAT A ROOM KEEPS of a history: its actor is the replay of it; the log, where it is known, has what stood there and
-- behind it the records that are written, and the batch has those that are not; and what those sent waits
pub record Keeps {N A E O L : Type 0} (m : Ghosts A N E O) (texts : ℕ → Texts E O) (seen : L → Option (List ℕ))
    (room : Held N A O L) (past : Past E O) : Type 0 where
  pub sound : IsRoom m (shown_room room past)
  pub log : IfSome (seen room.log) (λ bytes. bytes ≡ past.head ++ records (texts room.number) past.start past.written)
  pub batch : room.batch ≡ records (texts room.number)
      (sum_after (texts room.number) past.start past.written) past.pending
  pub sum : room.sum ≡ sum_after (texts room.number) past.start (past.written ++ past.pending)
  pub waiting : room.waiting ≡ map letter past.pending

-- the history of a room over a log that has this already, with this checksum: the events that are journaled there
abbrev pub past_of : {E O : Type 0} → List (Recorded E O) → Option (List ℕ) → ℕ → Past E O
past_of earlier seen start =
    record { head = unwrap_or seen []; start = start; earlier = earlier; written = []; pending = [] }

-- one event more in the batch
abbrev pub with_pending : {E O : Type 0} → Past E O → Recorded E O → Past E O
with_pending past r = record past { pending = past.pending ++ r ∷ [] }

-- and all of it written
abbrev pub all_written : {E O : Type 0} → Past E O → Past E O
all_written past = record past { written = past.written ++ past.pending; pending = [] }

-- a room took an input: it goes on by one event
abbrev pub TookOne : {N A E O L : Type 0} → Ghosts A N E O → (ℕ → Texts E O) → (L → Option (List ℕ)) → Input E
    → Held N A O L → Held N A O L → Past E O → ℕ → Type 0
TookOne {O = O} m texts seen input old new past clock = (outcome : O)
    × Took m input (shown_room old past) (shown_room new (with_pending past (receipt input clock outcome))) clock
    outcome
    × Keeps m texts seen new (with_pending past (receipt input clock outcome))

-- WHAT AN ANSWER TELLS of a room before and after, whatever history it has kept
abbrev pub Steps : {N A E O L : Type 0} → Ghosts A N E O → (ℕ → Texts E O) → (L → Option (List ℕ)) → Input E
    → Held N A O L → Held N A O L → Posted → Type 0
Steps {E = E} {O = O} m texts seen input old new (Done clock) =
    (past : Past E O) → Keeps m texts seen old past → TookOne m texts seen input old new past clock
Steps m texts seen input old new NoMemory = (new ≡ old) × IsSome (clock_after old.clock input.stamp)
Steps m texts seen input old new ClockSpent = (new ≡ old) × (clock_after old.clock input.stamp ≡ None)

-- a room took an input, and the record of how it came out has no text
abbrev pub HasNoText : {N A E O L : Type 0} → Ghosts A N E O → (ℕ → Recorded E O → Type 0) → Input E → Held N A O L
    → Type 0
HasNoText {O = O} m fits input old = (clock : ℕ) × (outcome : O) × (clock_after old.clock input.stamp ≡ Some clock)
    × ((x : m.State) → m.shows old.actor x → m.comes x input.event outcome)
    × ¬ (fits old.number (receipt input clock outcome))

-- WHAT A FLUSH HANDS OUT: what waited of the batch, whose records now stand in the log
abbrev pub Flushes : {N A E O L : Type 0} → Ghosts A N E O → (ℕ → Texts E O) → (L → Option (List ℕ)) → Held N A O L
    → Held N A O L → List (Letter O) → Type 0
Flushes {E = E} {O = O} m texts seen old new letters =
    (past : Past E O) → Keeps m texts seen old past
    → (letters ≡ map letter past.pending) × Keeps m texts seen new (all_written past)

-- an event without a stamp that came out so
abbrev pub unstamped_record : {E O : Type 0} → E → ℕ → O → Recorded E O
unstamped_record event clock outcome = record { event = event; stamp = None; clock = clock; outcome = outcome }

-- a room noted such an event: its actor goes on by it, and whatever history the room has kept, by its record
pub record NotedOne {N A E O L : Type 0} (m : Ghosts A N E O) (texts : ℕ → Texts E O) (seen : L → Option (List ℕ))
    (event : E) (outcome : O) (old new : Held N A O L) : Type 0 where
  pub number : new.number ≡ old.number
  pub opening : new.opening ≡ old.opening
  pub log : new.log ≡ old.log
  pub next : clock_after old.clock None ≡ Some new.clock
  pub step : (x : m.State) → m.shows old.actor x → Takes m.comes m.after x event outcome (m.shows new.actor)
  pub keeps : (past : Past E O) → Keeps m texts seen old past
      → Keeps m texts seen new (with_pending past (unstamped_record event new.clock outcome))

-- WHAT NOTING AN EVENT TELLS: it is in the history; or it cannot have come out so, or there is no greater clock
abbrev pub Notes : {N A E O L : Type 0} → Ghosts A N E O → (ℕ → Texts E O) → (L → Option (List ℕ)) → E → O
    → Held N A O L → Option (Held N A O L) → Type 0
Notes m texts seen event outcome old (Some new) = NotedOne m texts seen event outcome old new
Notes m texts seen event outcome old None =
    (clock_after old.clock None ≡ None) ⊎ ((x : m.State) → m.shows old.actor x → ¬ m.comes x event outcome)

-- an event without a stamp, and how it comes out where that is said
pub record Mark (E O : Type 0) : Type 0 where
  pub event : E
  pub came : Option O

abbrev pub AreMarked : {E O : Type 0} → List (Recorded E O) → List (Mark E O) → Type 0
AreMarked [] [] = Unit {0}
AreMarked (r ∷ more) (mark ∷ marks) =
    (r.event ≡ mark.event) × (r.stamp ≡ None) × IfSome mark.came (λ came. r.outcome ≡ came) × AreMarked more marks
AreMarked [] (mark ∷ marks) = ⊥
AreMarked (r ∷ more) [] = ⊥

-- more events in the batch
abbrev pub with_all : {E O : Type 0} → Past E O → List (Recorded E O) → Past E O
with_all past more = record past { pending = past.pending ++ more }

-- a room went on by these events, behind a history that it kept
pub record WentOn {N A B E O L : Type 0} (n : Ghosts B N E O) (texts : ℕ → Texts E O) (seen : L → Option (List ℕ))
    (old : Held N A O L) (new : Held N B O L) (past : Past E O) (marks : List (Mark E O)) : Type 0 where
  pub more : List (Recorded E O)
  pub are : AreMarked more marks
  pub opening : new.opening ≡ old.opening
  pub keeps : Keeps n texts seen new (with_all past more)

-- A ROOM GOES ON BY THESE EVENTS, over another actor: whatever history it has kept is the front of the one that it
-- keeps
abbrev pub GoesOn : {N A B E O L : Type 0} → Ghosts A N E O → Ghosts B N E O → (ℕ → Texts E O) → (L → Option (List ℕ))
    → Held N A O L → Held N B O L → List (Mark E O) → Type 0
GoesOn {E = E} {O = O} m n texts seen old new marks =
    (past : Past E O) → Keeps m texts seen old past → WentOn n texts seen old new past marks
