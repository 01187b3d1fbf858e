-- Runs of actors: all events, ordered by clock and then by actor number, in which what is delivered was sent before.
use Rattle.std.specs.Prelude.{◌≡◌, ◌⊎◌, ℕ, ◌<◌, ◌≤◌, ◌==◌, List, [], ◌∷◌, ◌++◌, Bool, true, false, length, slice_get, slice_index, take, Option, Some, None, if◌then◌else◌}
use Rattle.pvp_wire.specs.declared.stamped.Stamp.{Stamp}
use Rattle.pvp_rooms.specs.declared.message.Recorded.{Recorded}
use Rattle.pvp_rooms.specs.declared.actor.Actor.{Ghosts}
use Rattle.pvp_rooms.specs.Histories.{Takes, replay}
use Rattle.pvp_rooms.specs.declared.cell.Closed.{Closed}

-- the event can come out so exactly where the answer is true
abbrev pub Follows : {S E O : Type 0} → (S → E → O → Type 0) → (S → E → O → S) → S → E → O → (S → Type 0) → Bool
    → Type 0
Follows comes after x event outcome shown true = Takes comes after x event outcome shown
Follows comes after x event outcome shown false = ¬ comes x event outcome

abbrev pub is_some : {X : Type 0} → Option X → Bool
is_some None = false
is_some (Some x) = true

-- the event delivers what the outcome sent at this place
abbrev pub Sends : {E O L : Type 0} → (E → Option L) → (O → List L) → E → O → ℕ → Type 0
Sends {L = L} delivers sent event outcome at =
    (letter : L) × (delivers event ≡ Some letter) × (slice_get (sent outcome) at ≡ Some letter)

-- an event, and the place of its actor
pub record Tagged (E O : Type 0) : Type 0 where
  pub by : ℕ
  pub what : Recorded E O

-- the events of one actor in a run, oldest first; a run has its newest event first
abbrev pub own_events : {E O : Type 0} → List (Tagged E O) → ℕ → List (Recorded E O)
own_events [] k = []
own_events (t ∷ past) k = own_events past k ++ (if t.by == k then t.what ∷ [] else [])

abbrev pub history_in : {A N E O : Type 0} → Option (Closed A N E O) → List (Recorded E O)
history_in None = []
history_in (Some c) = c.history.items

-- the history of the actor at a place, empty where there is none
abbrev pub history_of : {A N E O : Type 0} → List (Closed A N E O) → ℕ → List (Recorded E O)
history_of closed k = history_in (slice_get closed k)

abbrev pub number_in : {A N E O : Type 0} → Option (Closed A N E O) → ℕ
number_in None = 0
number_in (Some c) = c.number

-- the number of the actor at a place
abbrev pub number_at : {A N E O : Type 0} → List (Closed A N E O) → ℕ → ℕ
number_at closed k = number_in (slice_get closed k)

-- the actors stand in order of number, each once
abbrev pub AreInOrder : {A N E O : Type 0} → List (Closed A N E O) → Type 0
AreInOrder closed = (i j : ℕ) → i < j → j < length closed → number_at closed i < number_at closed j

-- an event of one actor comes before an event of another: by clock, and then by actor number
abbrev pub IsBefore : {A N E O : Type 0} → List (Closed A N E O) → Tagged E O → Tagged E O → Type 0
IsBefore closed s t =
    (s.what.clock < t.what.clock) ⊎ ((s.what.clock ≡ t.what.clock) × (number_at closed s.by < number_at closed t.by))

-- these events come before an event
abbrev pub AreBefore : {A N E O : Type 0} → List (Closed A N E O) → List (Tagged E O) → Tagged E O → Type 0
AreBefore closed [] t = Unit {0}
AreBefore closed (s ∷ past) t = IsBefore closed s t × AreBefore closed past t

-- each event comes after those before it
abbrev pub IsSorted : {A N E O : Type 0} → List (Closed A N E O) → List (Tagged E O) → Type 0
IsSorted closed [] = Unit {0}
IsSorted closed (t ∷ past) = IsSorted closed past × AreBefore closed past t

-- What the event delivers was sent: an actor of the stamp's number took an event at the stamp's clock, and sent it at
-- the stamp's place.
pub record WasSent {A N E O L : Type 0} (delivers : E → Option L) (sent : O → List L) (closed : List (Closed A N E O))
    (past : List (Tagged E O)) (stamp : Stamp) (event : E) : Type 0 where
  pub by : ℕ
  pub place : ℕ
  pub what : Recorded E O
  pub there : slice_get (own_events past by) place ≡ Some what
  pub number : number_at closed by ≡ stamp.actor
  pub clock : what.clock ≡ stamp.clock
  pub sends : Sends delivers sent event what.outcome stamp.index

-- An event delivers nothing, or it may come to its actor, and its stamp names what it delivers.
abbrev pub Arrives : {A N E O L : Type 0} → (E → Option L) → (O → List L) → (A → E → Bool) → List (Closed A N E O)
    → List (Tagged E O) → A → Recorded E O → Type 0
Arrives delivers sent is_for closed past actor r =
    (delivers r.event ≡ None) ⊎ ((stamp : Stamp) × (r.stamp ≡ Some stamp) × (is_for actor r.event ≡ true)
    × WasSent delivers sent closed past stamp r.event)

-- An actor can take the event as its next, and it comes out so. start has the states in which the actors opened.
pub record CanCome {A N E O L : Type 0} (m : Ghosts A N E O) (delivers : E → Option L) (sent : O → List L)
    (is_for : A → E → Bool) (closed : List (Closed A N E O)) (start : ℕ → m.State) (past : List (Tagged E O))
    (t : Tagged E O) : Type 0 where
  pub who : Closed A N E O
  pub is : slice_get closed t.by ≡ Some who
  pub arrives : Arrives delivers sent is_for closed past who.end t.what
  pub comes : m.comes (replay m.after (own_events past t.by) (start t.by)) t.what.event t.what.outcome

-- each event can come after those before it
abbrev pub IsRun : {A N E O L : Type 0} → (m : Ghosts A N E O) → (E → Option L) → (O → List L) → (A → E → Bool)
    → List (Closed A N E O) → (ℕ → m.State) → List (Tagged E O) → Type 0
IsRun m delivers sent is_for closed start [] = Unit {0}
IsRun m delivers sent is_for closed start (t ∷ past) =
    IsRun m delivers sent is_for closed start past × CanCome m delivers sent is_for closed start past t

-- these are states in which the actors opened
abbrev pub AreOpenings : {A N E O : Type 0} → (m : Ghosts A N E O) → List (Closed A N E O) → (ℕ → m.State) → Type 0
AreOpenings {A} {N} {E} {O} m closed start =
    (k : ℕ) (c : Closed A N E O) → slice_get closed k ≡ Some c → m.opens c.end c.opening (start k)

-- THE MERGED LIST IS LEGAL: all events of all histories, ordered by clock and actor number, are a run.
pub record IsLegal {A N E O L : Type 0} (m : Ghosts A N E O) (delivers : E → Option L) (sent : O → List L)
    (is_for : A → E → Bool) (closed : List (Closed A N E O)) (start : ℕ → m.State) : Type 0 where
  pub run : List (Tagged E O)
  pub sorted : IsSorted closed run
  pub each : (k : ℕ) → own_events run k ≡ history_of closed k
  pub legal : IsRun m delivers sent is_for closed start run

-- An event of the merged list, where the events before it were a run: past has just the events that come before it, in
-- order; at says how many of each history.
pub record IsReached {A N E O L : Type 0} (m : Ghosts A N E O) (delivers : E → Option L) (sent : O → List L)
    (is_for : A → E → Bool) (closed : List (Closed A N E O)) (start : ℕ → m.State) (past : List (Tagged E O))
    (at : List ℕ) (t : Tagged E O) : Type 0 where
  pub sorted : IsSorted closed past
  pub legal : IsRun m delivers sent is_for closed start past
  pub before : AreBefore closed past t
  pub each : (k : ℕ) → own_events past k ≡ take (slice_index at k) (history_of closed k)
  pub not_before : (k i : ℕ) (r : Recorded E O) → slice_index at k ≤ i → slice_get (history_of closed k) i ≡ Some r
      → ¬ IsBefore closed (record { by = k; what = r }) t
