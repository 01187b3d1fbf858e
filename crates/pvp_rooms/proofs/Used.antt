-- How the receipts of an actor are used up, event by event.
use Rattle.std.proofs.Common.{◌≡◌, ℕ, ◌+◌, ◌<◌, ◌≤◌, ◌==◌, Bool, true, false, arith, List, [], ◌∷◌, ◌++◌, length, take, slice_index, slice_set, get_or, refl, sym, subst}
use Rattle.std.proofs.lemmas.Option.{get_or_from_slice_get, slice_get_read, slice_get_within}
use Rattle.std.proofs.lemmas.Bool.{eqb-true, eqb-false}
use Rattle.pvp_rooms.specs.declared.message.Recorded.{Recorded}
use Rattle.pvp_rooms.specs.Seats.{Held}
use Rattle.pvp_rooms.specs.Together.{IsNext, receipts_of}
use Rattle.pvp_rooms.specs.Verdicts.{IsLowest, AreUsedUp}
use Rattle.pvp_rooms.proofs.Together.{take_next, IsStepped, stepped}

pub used_up-push : {E O : Type 0} (seats : List (Held E O)) (at : List ℕ) (events : List (Recorded E O)) (event : Recorded E O) (now : List ℕ) (k : ℕ)
    → AreUsedUp seats at events now → IsLowest seats now event k → AreUsedUp seats at (events ++ event ∷ []) (slice_set now k (slice_index now k + 1))
used_up-push seats at [] event now k used low = let P : List ℕ → Type 0 = λ l. AreUsedUp seats l (event ∷ []) (slice_set now k (slice_index now k + 1)) in
    subst P used (k, low, refl)
used_up-push seats at (e ∷ es) event now k used low =
    (used.0, used.1, used_up-push seats (slice_set at used.0 (slice_index at used.0 + 1)) es event now k used.2 low)

-- an event more is used up
pub used_up_more : {E O : Type 0} (history : List (Recorded E O)) (seats : List (Held E O)) (first at : List ℕ) (done k v : ℕ) (r : Recorded E O)
    → done < length history → r ≡ get_or history done r → k < length at → v ≡ get_or at k v → AreUsedUp seats first (take done history) at
    → IsLowest seats at r k
    → AreUsedUp seats first (take (done + 1) history) (slice_set at k (v + 1))
used_up_more history seats first at done k v r h e within is used low =
    let n : slice_index at k ≡ v = get_or_from_slice_get at k v 0 (slice_get_read at (length at) k v refl within is) in
    let got = slice_get_read history (length history) done r refl h e in
    subst (λ l. AreUsedUp seats first l (slice_set at k (v + 1))) (sym (take_next history done r got))
    (subst (λ m. AreUsedUp seats first (take done history ++ r ∷ []) (slice_set at k (m + 1))) n (used_up-push seats first (take done history) r at k used low))

-- of no seat more receipts are used than it has
pub few_more : {E O : Type 0} (seats : List (Held E O)) (at : List ℕ) (k v : ℕ) (r : Recorded E O) → ((j : ℕ) → slice_index at j ≤ length (receipts_of seats j))
    → IsNext seats at r k → k < length at → v ≡ get_or at k v → (j : ℕ) → slice_index (slice_set at k (v + 1)) j ≤ length (receipts_of seats j)
few_more seats at k v r few next within is j = go (k == j) refl
  where
    s : IsStepped at (slice_set at k (v + 1)) k
    s = stepped at k v within is

    go : (b : Bool) → (k == j) ≡ b → slice_index (slice_set at k (v + 1)) j ≤ length (receipts_of seats j)
    go true e =
        let P : ℕ → Type 0 = λ n. slice_index (slice_set at k (v + 1)) n ≤ length (receipts_of seats n) in
        let w = slice_get_within (receipts_of seats k) (slice_index at k) r next.next in
        let h = s.here in
        subst P (eqb-true k j e) (omega (arith, h, w))
    go false e =
        let o = s.others j (eqb-false k j e) in
        let f = few j in
        omega (arith, o, f)
