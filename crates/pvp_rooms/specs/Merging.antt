-- How far the merged list was followed.
use Rattle.std.specs.Prelude.{◌≡◌, ℕ, ◌<◌, ◌≤◌, List, Bool, Option, Some, length, take, slice_get, slice_index}
use Rattle.pvp_rooms.specs.declared.message.Recorded.{Recorded}
use Rattle.pvp_rooms.specs.declared.actor.Actor.{Ghosts}
use Rattle.pvp_rooms.specs.declared.cell.Closed.{Closed}
use Rattle.pvp_rooms.specs.declared.verdict.AuditTest.{AuditTest}
use Rattle.pvp_rooms.specs.declared.verdict.AuditTest.TheVariants.{Stamped, Clock, Answered, End, Receipts, NoMemory}
use Rattle.pvp_rooms.specs.Runs.{Tagged, own_events, history_of, IsBefore, AreBefore, IsSorted, IsRun}
use Rattle.pvp_rooms.specs.Verdicts.{FailsAt, CannotArrive, CannotCome}

-- No actor's next event comes before that of the one at this place.
pub record IsNextActor {A N E O : Type 0} (closed : List (Closed A N E O)) (at : List ℕ) (k : ℕ) : Type 0 where
  pub within : k < length closed
  pub what : Recorded E O
  pub next : slice_get (history_of closed k) (slice_index at k) ≡ Some what
  pub first : (j : ℕ) (r : Recorded E O) → slice_get (history_of closed j) (slice_index at j) ≡ Some r
      → ¬ IsBefore closed (record { by = j; what = r }) (record { by = k; what = what })

-- THESE ARE THE FIRST EVENTS OF THE MERGED LIST, the newest first: of each history as many as at says.
pub record IsMerged {A N E O : Type 0} (closed : List (Closed A N E O)) (run : List (Tagged E O)) (at : List ℕ)
    : Type 0 where
  pub sorted : IsSorted closed run
  pub each : (k : ℕ) → own_events run k ≡ take (slice_index at k) (history_of closed k)
  pub ahead : (k i : ℕ) (r : Recorded E O) → slice_index at k ≤ i → slice_get (history_of closed k) i ≡ Some r
      → AreBefore closed run (record { by = k; what = r })

-- The first events of each history, as many as at says, are the first of the merged list, and they are a run.
pub record IsProgress {A N E O L : Type 0} (m : Ghosts A N E O) (delivers : E → Option L) (sent : O → List L)
    (is_for : A → E → Bool) (closed : List (Closed A N E O)) (start : ℕ → m.State) (at : List ℕ) : Type 0 where
  pub run : List (Tagged E O)
  pub merged : IsMerged closed run at
  pub legal : IsRun m delivers sent is_for closed start run

-- a test of the merged list fails at an event of the actor at a place
abbrev pub HasFailed : {A N E O L : Type 0} → (m : Ghosts A N E O) → (E → Option L) → (O → List L) → (A → E → Bool)
    → List (Closed A N E O) → (ℕ → m.State) → ℕ → ℕ → AuditTest → Type 0
HasFailed m delivers sent is_for closed start place event Stamped =
    FailsAt m delivers sent is_for closed start place event (CannotArrive delivers sent is_for closed)
HasFailed m delivers sent is_for closed start place event Answered =
    FailsAt m delivers sent is_for closed start place event (CannotCome m delivers sent is_for closed start)
HasFailed m delivers sent is_for closed start place event Receipts = ⊥
HasFailed m delivers sent is_for closed start place event Clock = ⊥
HasFailed m delivers sent is_for closed start place event End = ⊥
HasFailed m delivers sent is_for closed start place event NoMemory = ⊥
