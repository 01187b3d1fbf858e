-- What a room shows, what it keeps, and what its answers mean.
use Rattle.std.specs.Prelude.{◌≡◌, ℕ, ◌+◌, ◌^◌, max, nat_lt, List, [], ◌∷◌, ◌++◌, Option, Some, None, IsSome, if◌then◌else◌}
use Rattle.pvp_wire.specs.declared.stamped.Stamp.{Stamp}
use Rattle.pvp_rooms.specs.declared.message.Input.{Input}
use Rattle.pvp_rooms.specs.declared.message.Recorded.{Recorded}
use Rattle.pvp_rooms.specs.declared.message.Answer.{Answer}
use Rattle.pvp_rooms.specs.declared.message.Answer.TheVariants.{Done, NoMemory, ClockSpent}
use Rattle.pvp_rooms.specs.declared.actor.Actor.{Ghosts}
use Rattle.pvp_rooms.specs.Histories.{Takes, replay, AreSteps, IsRising, last_clock, stamp_clock}

-- what a room shows: A is the type of actors, N that of their openings
pub record ShownRoom (N A E O : Type 0) : Type 0 where
  pub opening : N
  pub actor : A
  pub clock : ℕ
  pub history : List (Recorded E O)

-- THE ACTOR IS THE REPLAY OF THE HISTORY: from each state in which the actor opens, each event can come out as it is
-- recorded, and the actor shows the state after them all
abbrev pub IsReplayed : {A N E O : Type 0} → Ghosts A N E O → N → A → List (Recorded E O) → Type 0
IsReplayed m opening actor history =
    (x : m.State) → m.opens actor opening x
    → AreSteps m.comes m.after history x × m.shows actor (replay m.after history x)

-- what each room keeps: its actor is the replay of its history, and the clocks rise up to its own
pub record IsRoom {A N E O : Type 0} (m : Ghosts A N E O) (room : ShownRoom N A E O) : Type 0 where
  pub replayed : IsReplayed m room.opening room.actor room.history
  pub rising : IsRising room.history 0
  pub last : last_clock room.history 0 ≡ room.clock

-- the clock after an event with this stamp: the greater of its own and the stamp's, plus 1, where that is a clock
abbrev pub clock_after : ℕ → Option Stamp → Option ℕ
clock_after own stamp =
    let next = max own (stamp_clock stamp) + 1 in
    if nat_lt next (2 ^ 64) then Some next else None

-- an input with the clock at which it was taken, and how it came out
abbrev pub receipt : {E O : Type 0} → Input E → ℕ → O → Recorded E O
receipt input clock outcome = record { event = input.event; stamp = input.stamp; clock = clock; outcome = outcome }

-- what an actor did with an event: it can come out so, and the actor shows the state after it, and is still what it was
-- opened as; and where it fell or wanted memory, that has its cause
pub record Acted {A N E O : Type 0} (m : Ghosts A N E O) (old new : A) (event : E) (outcome : O) : Type 0 where
  pub step : (x : m.State) → m.shows old x → Takes m.comes m.after x event outcome (m.shows new)
  pub opens : (opening : N) (x : m.State) → m.opens new opening x → m.opens old opening x
  pub told : m.tells old new event outcome

-- a room took an input
pub record Took {A N E O : Type 0} (m : Ghosts A N E O) (input : Input E) (old new : ShownRoom N A E O) (clock : ℕ)
    (outcome : O) : Type 0 where
  pub opening : new.opening ≡ old.opening
  pub next : clock_after old.clock input.stamp ≡ Some clock
  pub clock_is : new.clock ≡ clock
  pub history : new.history ≡ old.history ++ receipt input clock outcome ∷ []
  pub acted : Acted m old.actor new.actor input.event outcome

-- WHAT AN ANSWER TELLS of a room before and after
abbrev pub Told : {A N E O : Type 0} → Ghosts A N E O → Input E → ShownRoom N A E O → ShownRoom N A E O → Answer O
    → Type 0
Told m input old new (Done clock outcome) = Took m input old new clock outcome
Told m input old new NoMemory = (new ≡ old) × IsSome (clock_after old.clock input.stamp)
Told m input old new ClockSpent = (new ≡ old) × (clock_after old.clock input.stamp ≡ None)

-- the receipts after an answer: one more where the input was taken
abbrev pub receipts_after : {E O : Type 0} → Input E → List (Recorded E O) → Answer O → List (Recorded E O)
receipts_after input before (Done clock outcome) = before ++ receipt input clock outcome ∷ []
receipts_after input before NoMemory = before
receipts_after input before ClockSpent = before
