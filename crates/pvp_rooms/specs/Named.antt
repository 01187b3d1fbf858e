-- What the first events of each history sent: at says how many.
use Rattle.std.specs.Prelude.{◌≡◌, ◌⊎◌, ℕ, ◌<◌, List, Bool, true, slice_get, slice_index, Option, Some, None}
use Rattle.pvp_wire.specs.declared.stamped.Stamp.{Stamp}
use Rattle.pvp_rooms.specs.declared.message.Recorded.{Recorded}
use Rattle.pvp_rooms.specs.declared.cell.Closed.{Closed}
use Rattle.pvp_rooms.specs.Runs.{Sends}

-- what has this key in a list stands there, if anywhere
abbrev pub IsPlaceOf : {X : Type 0} → (X → ℕ) → List X → ℕ → ℕ → Type 0
IsPlaceOf {X} key xs t at = (place : ℕ) (x : X) → slice_get xs place ≡ Some x → key x ≡ t → place ≡ at

pub record IsSentBy {E O L : Type 0} (delivers : E → Option L) (sent : O → List L) (history : List (Recorded E O))
    (upto : ℕ) (stamp : Stamp) (event : E) : Type 0 where
  pub place : ℕ
  pub what : Recorded E O
  pub within : place < upto
  pub there : slice_get history place ≡ Some what
  pub clock : what.clock ≡ stamp.clock
  pub sends : Sends delivers sent event what.outcome stamp.index

pub record IsSent {A N E O L : Type 0} (delivers : E → Option L) (sent : O → List L) (closed : List (Closed A N E O))
    (at : List ℕ) (stamp : Stamp) (event : E) : Type 0 where
  pub by : ℕ
  pub who : Closed A N E O
  pub is : slice_get closed by ≡ Some who
  pub number : who.number ≡ stamp.actor
  pub there : IsSentBy delivers sent who.history.items (slice_index at by) stamp event

abbrev pub IsNamed : {A N E O L : Type 0} → (E → Option L) → (O → List L) → (A → E → Bool) → List (Closed A N E O)
    → List ℕ → A → Recorded E O → Type 0
IsNamed delivers sent is_for closed at actor r =
    (delivers r.event ≡ None) ⊎ ((stamp : Stamp) × (r.stamp ≡ Some stamp) × (is_for actor r.event ≡ true)
    × IsSent delivers sent closed at stamp r.event)
