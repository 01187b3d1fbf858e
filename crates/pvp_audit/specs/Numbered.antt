-- Which numbers the envelopes have that a run sends: the post has what each event sent, the oldest first.
use Rattle.std.specs.Prelude.{◌≡◌, ◌⊎◌, ℕ, ◌+◌, ◌<◌, ◌==◌, ◌^◌, List, [], ◌∷◌, ◌++◌, length, slice_get, unwrap_or, Option, Some, None, if◌then◌else◌}
use Rattle.pvp_wire.specs.declared.stamped.Stamp.{Stamp}
use Rattle.pvp_rooms.specs.declared.message.Recorded.{Recorded}
use Rattle.pvp_rooms.specs.declared.cell.Closed.{Closed}
use Rattle.pvp_rooms.specs.Runs.{Tagged}

-- THE POST OF A RUN: what its events sent, the oldest first
abbrev pub post_of : {E O L : Type 0} → (O → List L) → List (Tagged E O) → List L
post_of sent [] = []
post_of sent (t ∷ past) = post_of sent past ++ sent t.what.outcome

-- of each event of one actor, the number of the first envelope that it sent: one more than all events before it sent
abbrev pub firsts_of : {E O L : Type 0} → (O → List L) → List (Tagged E O) → ℕ → List ℕ
firsts_of sent [] k = []
firsts_of sent (t ∷ past) k = firsts_of sent past k ++ (if t.by == k then (length (post_of sent past) + 1) ∷ [] else [])

-- what was noted of the actor at a place, nothing where there is none
abbrev pub noted_of : List (List ℕ) → ℕ → List ℕ
noted_of numbers k = unwrap_or (slice_get numbers k) []

-- THE NUMBERS THAT WERE NOTED ARE THOSE OF A RUN
abbrev pub AreNumbered : {E O L : Type 0} → (O → List L) → List (Tagged E O) → List (List ℕ) → Type 0
AreNumbered sent run numbers = (k : ℕ) → noted_of numbers k ≡ firsts_of sent run k

-- the event of an actor that a stamp names: the actor has its number, and the event its clock
pub record IsEventOf {A N E O : Type 0} (closed : List (Closed A N E O)) (stamp : Stamp) (by place : ℕ) : Type 0 where
  pub who : Closed A N E O
  pub is : slice_get closed by ≡ Some who
  pub actor : who.number ≡ stamp.actor
  pub what : Recorded E O
  pub there : slice_get who.history.items place ≡ Some what
  pub clock : what.clock ≡ stamp.clock

-- THE NUMBER THAT A STAMP NAMES: its index on from the number that was noted of the event that it names
pub record IsNumber {A N E O : Type 0} (closed : List (Closed A N E O)) (numbers : List (List ℕ)) (stamp : Stamp)
    (number : ℕ) : Type 0 where
  pub by : ℕ
  pub place : ℕ
  pub event : IsEventOf closed stamp by place
  pub first : ℕ
  pub noted : slice_get (noted_of numbers by) place ≡ Some first
  pub counts : number ≡ first + stamp.index

-- it names none
abbrev pub NamesNone : {A N E O : Type 0} → List (Closed A N E O) → List (List ℕ) → Stamp → Type 0
NamesNone closed numbers stamp = (number : ℕ) → number < 2 ^ 64 → ¬ IsNumber closed numbers stamp number

-- what is found is the number that the stamp names, and 0 exactly where there is none
abbrev pub IsFound : {A N E O : Type 0} → List (Closed A N E O) → List (List ℕ) → Option Stamp → ℕ → Type 0
IsFound closed numbers None number = number ≡ 0
IsFound closed numbers (Some stamp) number =
    IsNumber closed numbers stamp number ⊎ ((number ≡ 0) × NamesNone closed numbers stamp)
