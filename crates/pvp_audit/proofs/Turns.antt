-- The event that a pass takes next, as it is read.
use Rattle.std.proofs.Common.{◌≡◌, ℕ, ◌+◌, ◌<◌, List, length, get_or, slice_get, slice_index, slice_set, Some, sym, subst, arith}
use Rattle.pvp_rooms.specs.declared.message.Recorded.{Recorded}
use Rattle.pvp_rooms.specs.declared.cell.Closed.{Closed}
use Rattle.pvp_rooms.specs.Merging.{IsNextActor}
use Rattle.pvp_rooms.proofs.Together.{stepped, IsStepped}
use Rattle.pvp_rooms.proofs.Grows.{events_left, left_less, next_place, event_is}
use Rattle.pvp_rooms.proofs.Looks.{history_read}

-- it is the event at this place of the history of the actor at that one
pub record IsTurn {A N E O : Type 0} (closed : List (Closed A N E O)) (at : List ℕ) (k place : ℕ) (one : Closed A N E O) : Type 0 where
  pub next : IsNextActor closed at k
  pub is : slice_get closed k ≡ Some one
  pub here : slice_index at k ≡ place
  pub there : slice_get one.history.items place ≡ Some next.what
  pub low : place < length one.history.items
  pub less : events_left closed (slice_set at k (place + 1)) < events_left closed at
  pub steps : IsStepped at (slice_set at k (place + 1)) k

module _ {A N E O : Type 0} (closed : List (Closed A N E O)) (at : List ℕ) (k place : ℕ) (one : Closed A N E O) where
  -- at was read as a slice
  pub turn : (slice : List ℕ) → slice ≡ at → length at ≡ length closed → IsNextActor closed slice k → one ≡ get_or closed k one → place ≡ get_or at k place
      → IsTurn closed at k place one
  turn slice same many next_slice read at_k =
      let next : IsNextActor closed at k = subst (λ l. IsNextActor closed l k) same next_slice in
      let p = next_place closed at k place one many next read at_k in
      let w = next.within in
      let low = p.3 in
      let h = history_read closed k one w read in
      record {
        next = next;
        is = p.0;
        here = p.1;
        there = p.2;
        low = p.3;
        less = left_less closed at k place (omega (arith, w, many)) w p.1 (subst (λ l. place < length l) (sym h) low);
        steps = stepped at k place (omega (arith, w, many)) at_k;
      }

  module _ (t : IsTurn closed at k place one) (list : List (Recorded E O)) (same : list ≡ one.history.items) where
    pub place_low : place < length list
    place_low = subst (λ l. place < length l) (sym same) t.low

    pub event_read : (r : Recorded E O) → r ≡ get_or list place r → t.next.what ≡ r
    event_read r read = event_is closed at k place one t.next list r t.there same read
