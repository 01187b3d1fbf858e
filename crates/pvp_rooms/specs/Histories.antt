-- Histories of an actor. An actor's step has two words: whether an event can come out so, and the state after it.
use Rattle.std.specs.Prelude.{ℕ, ◌<◌, List, [], ◌∷◌, Option, Some, None}
use Rattle.pvp_wire.specs.declared.stamped.Stamp.{Stamp}
use Rattle.pvp_rooms.specs.declared.message.Recorded.{Recorded}

-- the event can come out so, and what is there then is shown
abbrev pub Takes : {S E O : Type 0} → (S → E → O → Type 0) → (S → E → O → S) → S → E → O → (S → Type 0) → Type 0
Takes comes after x event outcome shown = comes x event outcome × shown (after x event outcome)

-- the state after a history
abbrev pub replay : {S E O : Type 0} → (S → E → O → S) → List (Recorded E O) → S → S
replay after [] x = x
replay after (r ∷ more) x = replay after more (after x r.event r.outcome)

-- each event of a history can come out as it is recorded
abbrev pub AreSteps : {S E O : Type 0} → (S → E → O → Type 0) → (S → E → O → S) → List (Recorded E O) → S → Type 0
AreSteps comes after [] x = Unit {0}
AreSteps comes after (r ∷ more) x = comes x r.event r.outcome × AreSteps comes after more (after x r.event r.outcome)

-- the clock of a stamp, 0 for none
abbrev pub stamp_clock : Option Stamp → ℕ
stamp_clock None = 0
stamp_clock (Some stamp) = stamp.clock

-- each clock is above the one before it and above its stamp's
abbrev pub IsRising : {E O : Type 0} → List (Recorded E O) → ℕ → Type 0
IsRising [] last = Unit {0}
IsRising (r ∷ more) last = (last < r.clock) × (stamp_clock r.stamp < r.clock) × IsRising more r.clock

-- the last clock
abbrev pub last_clock : {E O : Type 0} → List (Recorded E O) → ℕ → ℕ
last_clock [] last = last
last_clock (r ∷ more) last = last_clock more r.clock
