-- What a gate hears of the steps of actors.
use Rattle.std.specs.Prelude.{ℕ, List, [], ◌∷◌, ◌++◌}
use Rattle.pvp_rooms.specs.declared.message.Answer.{Answer}
use Rattle.pvp_rooms.specs.declared.message.Answer.TheVariants.{Done, NoMemory, ClockSpent}

-- A step of an actor begins. Or it has ended: an event was taken, memory was refused, or there is no greater clock.
pub data Passing : Type 0 where
  Enters : ℕ → Passing
  Took : ℕ → Passing
  Wanted : ℕ → Passing
  Spent : ℕ → Passing

-- how a step ended that was answered so
abbrev pub left_with : {O : Type 0} → ℕ → Answer O → Passing
left_with actor (Done clock outcome) = Took actor
left_with actor NoMemory = Wanted actor
left_with actor ClockSpent = Spent actor

-- a step from its beginning to its end
abbrev pub passage : {O : Type 0} → ℕ → Answer O → List Passing
passage actor answer = Enters actor ∷ left_with actor answer ∷ []

-- whatever was heard before, this came behind it, and nothing else
abbrev pub Hears : {G X : Type 0} → (G → List X → Type 0) → G → G → List X → Type 0
Hears {G} {X} heard old new more = (before : List X) → heard old before → heard new (before ++ more)
