-- What a seat shows, and what the answer to a post says of the actor.
use Rattle.std.specs.Prelude.{ℕ, List, [], ◌∷◌, ◌++◌}
use Rattle.pvp_rooms.specs.declared.message.Input.{Input}
use Rattle.pvp_rooms.specs.declared.message.Recorded.{Recorded}
use Rattle.pvp_rooms.specs.declared.message.Answer.{Answer}
use Rattle.pvp_rooms.specs.declared.message.Answer.TheVariants.{Done, NoMemory, ClockSpent}
use Rattle.pvp_rooms.specs.declared.actor.Actor.{Ghosts}
use Rattle.pvp_rooms.specs.Histories.{IsRising}
use Rattle.pvp_rooms.specs.Rooms.{IsReplayed, receipt}

-- what a cell shows, apart from what is under its lock: the actor's number, and how many seats it has
pub record Place : Type 0 where
  pub number : ℕ
  pub seats : ℕ

-- what a seat shows
pub record Held (E O : Type 0) : Type 0 where
  pub actor : ℕ
  pub number : ℕ
  pub receipts : List (Recorded E O)

-- the event is the last of a history that some actor is the replay of, and by it that actor became what it is
pub record WasTaken {A N E O : Type 0} (m : Ghosts A N E O) (r : Recorded E O) : Type 0 where
  pub opening : N
  pub before : A
  pub actor : A
  pub history : List (Recorded E O)
  pub was : IsReplayed m opening before history
  pub replayed : IsReplayed m opening actor (history ++ r ∷ [])
  pub told : m.tells before actor r.event r.outcome
  pub rising : IsRising (history ++ r ∷ []) 0

-- what was answered was taken
abbrev pub AnswersStep : {A N E O : Type 0} → Ghosts A N E O → Input E → Answer O → Type 0
AnswersStep m input (Done clock outcome) = WasTaken m (receipt input clock outcome)
AnswersStep m input NoMemory = Unit {0}
AnswersStep m input ClockSpent = Unit {0}
