-- Lists that are together one list.
use Rattle.std.specs.Prelude.{◌≡◌, ℕ, ◌<◌, ◌==◌, List, [], ◌∷◌, length, take, ◌≤◌, slice_get, slice_index, Option, Some, None, if◌then◌else◌}
use Rattle.pvp_rooms.specs.declared.message.Recorded.{Recorded}
use Rattle.pvp_rooms.specs.Seats.{Held}

-- the items that come from a source
abbrev pub picked_items : {X : Type 0} → List ℕ → List X → ℕ → List X
picked_items [] xs k = []
picked_items (f ∷ fs) [] k = []
picked_items (f ∷ fs) (x ∷ xs) k = if f == k then x ∷ picked_items fs xs k else picked_items fs xs k

abbrev pub receipts_in : {E O : Type 0} → Option (Held E O) → List (Recorded E O)
receipts_in None = []
receipts_in (Some s) = s.receipts

-- a seat's receipts, none where there is no such seat
abbrev pub receipts_of : {E O : Type 0} → List (Held E O) → ℕ → List (Recorded E O)
receipts_of seats k = receipts_in (slice_get seats k)

-- The events so far come from the seats, of each the first receipts, as many as are used of it.
pub record AreUsed {E O : Type 0} (taken : List (Recorded E O)) (seats : List (Held E O)) (at : List ℕ) : Type 0 where
  pub from : List ℕ
  pub each : length from ≡ length taken
  pub own : (k : ℕ) → picked_items from taken k ≡ take (slice_index at k) (receipts_of seats k)
  pub few : (k : ℕ) → slice_index at k ≤ length taken

-- Each event of the history comes from one seat, and the events of each seat are its receipts, in its order.
pub record AreTogether {E O : Type 0} (history : List (Recorded E O)) (seats : List (Held E O)) : Type 0 where
  pub from : List ℕ
  pub each : length from ≡ length history
  pub own : (k : ℕ) → picked_items from history k ≡ receipts_of seats k

-- the event is the next receipt of a seat of which so many are used
pub record IsNext {E O : Type 0} (seats : List (Held E O)) (at : List ℕ) (event : Recorded E O) (k : ℕ) : Type 0 where
  pub seat : k < length seats
  pub next : slice_get (receipts_of seats k) (slice_index at k) ≡ Some event
