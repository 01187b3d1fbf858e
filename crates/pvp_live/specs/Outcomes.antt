-- The outcome of a line's event, in words.
use Rattle.std.specs.Prelude.{ℕ, List, [], ◌++◌, Option, Some, None, codes, decimal}
use Rattle.pvp_types.specs.declared.setup.Setup.{Setup}
use Rattle.pvp_trace.specs.Names.{actor_text}
use Rattle.pvp_rooms.specs.declared.message.Answer.{Answer}
use Rattle.pvp_rooms.specs.declared.message.Answer.TheVariants.{Done, NoMemory, ClockSpent}
use Rattle.pvp_parties.specs.declared.party.PartyOutcome.{PartyOutcome}
use Rattle.pvp_live.specs.Effects.{line_effect}
use Rattle.pvp_live.specs.Notes.{effect_text}

-- at which clock an event was taken, and what it did; or why it was not taken
abbrev pub clock_text : Option (Answer PartyOutcome) → List ℕ
clock_text (Some (Done clock outcome)) = codes " at clock " ++ decimal clock
clock_text (Some NoMemory) = []
clock_text (Some ClockSpent) = []
clock_text None = []

abbrev pub answer_text : Option (Answer PartyOutcome) → List ℕ
answer_text answer = clock_text answer ++ codes ": " ++ effect_text (line_effect answer)

-- the outcome of the event that a line posted at an actor
abbrev pub posted_text : Setup → ℕ → ℕ → Option (Answer PartyOutcome) → List ℕ
posted_text setup line actor answer =
    codes "line " ++ decimal line ++ codes ": " ++ actor_text setup actor ++ answer_text answer ++ codes "\n"
