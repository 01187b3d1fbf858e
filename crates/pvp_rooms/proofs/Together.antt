-- Lists that are together one list.
use Rattle.std.proofs.Common.{◌≡◌, ◌≢◌, ℕ, ◌+◌, ◌<◌, ◌≤◌, ◌==◌, List, [], ◌∷◌, ◌++◌, Bool, true, false, take, length, Option, Some, None, slice_get, slice_index, slice_set, get_or, refl, ap, subst, sym, ◌∙◌, arith, append-nil, length-append, if◌then◌else◌}
use Rattle.std.proofs.lemmas.Bool.{eqb-true, eqb-false}
use Rattle.std.proofs.lemmas.List.{take_more, take_all, get_or-set_same, get_or-set_other}
use Rattle.std.proofs.lemmas.Option.{slice_get_within, get_or_from_slice_get, slice_get_read}
use Rattle.pvp_rooms.specs.declared.message.Recorded.{Recorded}
use Rattle.pvp_rooms.specs.Seats.{Held}
use Rattle.pvp_rooms.specs.Together.{picked_items, receipts_of, receipts_in, AreUsed, AreTogether, IsNext}

pub take_next : {X : Type 0} (xs : List X) (n : ℕ) (x : X) → slice_get xs n ≡ Some x → take (n + 1) xs ≡ take n xs ++ x ∷ []
take_next xs n x h = take_more xs n x (slice_get_within xs n x h) ∙ ap (λ y. take n xs ++ y ∷ []) (get_or_from_slice_get xs n x x h)

-- one item more, from a source
pub picked-push : {X : Type 0} (fs : List ℕ) (xs : List X) (f : ℕ) (x : X) (k : ℕ) → length fs ≡ length xs
    → picked_items (fs ++ f ∷ []) (xs ++ x ∷ []) k ≡ picked_items fs xs k ++ (if f == k then x ∷ [] else [])
picked-push [] [] f x k e = refl
picked-push [] (y ∷ ys) f x k e = absurd (omega arith)
picked-push (g ∷ gs) [] f x k e = absurd (omega arith)
picked-push (g ∷ gs) (y ∷ ys) f x k e = go (g == k) (picked-push gs ys f x k (omega arith))
  where
    go : (b : Bool) → picked_items (gs ++ f ∷ []) (ys ++ x ∷ []) k ≡ picked_items gs ys k ++ (if f == k then x ∷ [] else [])
        → (if b then y ∷ picked_items (gs ++ f ∷ []) (ys ++ x ∷ []) k else picked_items (gs ++ f ∷ []) (ys ++ x ∷ []) k)
        ≡ (if b then y ∷ picked_items gs ys k else picked_items gs ys k) ++ (if f == k then x ∷ [] else [])
    go true more = ap (λ l. y ∷ l) more
    go false more = more

-- what one more step of a source does to the numbers of steps
pub record IsStepped (at now : List ℕ) (k : ℕ) : Type 0 where
  pub here : slice_index now k ≡ slice_index at k + 1
  pub others : (j : ℕ) → k ≢ j → slice_index now j ≡ slice_index at j

pub used_next : {E O : Type 0} (taken : List (Recorded E O)) (seats : List (Held E O)) (at now : List ℕ) (r : Recorded E O) (k : ℕ) → AreUsed taken seats at
    → IsNext seats at r k → IsStepped at now k → AreUsed (taken ++ r ∷ []) seats now
used_next taken seats at now r k used next stepped = record {
  from = used.from ++ k ∷ [];
  each = length-append used.from (k ∷ []) ∙ ap (λ n. n + 1) used.each ∙ sym (length-append taken (r ∷ []));
  own = λ j. picked-push used.from taken k r j used.each ∙ go j (k == j) refl;
  few = λ j. few j (k == j) refl;
}
  where
    go : (j : ℕ) (b : Bool) → (k == j) ≡ b → picked_items used.from taken j ++ (if b then r ∷ [] else []) ≡ take (slice_index now j) (receipts_of seats j)
    go j true e =
        let is : k ≡ j = eqb-true k j e in
        let P : ℕ → Type 0 = λ n. picked_items used.from taken n ++ r ∷ [] ≡ take (slice_index now n) (receipts_of seats n) in
        subst P is (ap (λ l. l ++ r ∷ []) (used.own k) ∙ sym (take_next (receipts_of seats k) (slice_index at k) r next.next)
        ∙ ap (λ n. take n (receipts_of seats k)) (sym stepped.here))
    go j false e = append-nil (picked_items used.from taken j) ∙ used.own j ∙ ap (λ n. take n (receipts_of seats j)) (sym (stepped.others j (eqb-false k j e)))

    few : (j : ℕ) (b : Bool) → (k == j) ≡ b → slice_index now j ≤ length (taken ++ r ∷ [])
    few j true e =
        let is : k ≡ j = eqb-true k j e in
        let P : ℕ → Type 0 = λ n. slice_index now n ≤ length (taken ++ r ∷ []) in
        let u = used.few k in
        subst P is (omega (arith, stepped.here, u, length-append taken (r ∷ [])))
    few j false e =
        let u = used.few j in
        let o = stepped.others j (eqb-false k j e) in
        omega (arith, o, u, length-append taken (r ∷ []))

-- all is used at last
pub used_all : {E O : Type 0} (history : List (Recorded E O)) (seats : List (Held E O)) (at : List ℕ) → AreUsed history seats at
    → ((k : ℕ) → k < length seats → slice_index at k ≡ length (receipts_of seats k)) → AreTogether history seats
used_all {E = E} {O = O} history seats at used all = record { from = used.from; each = used.each; own = λ k. used.own k ∙ part k (slice_get seats k) refl }
  where
    part : (k : ℕ) (o : Option (Held E O)) → slice_get seats k ≡ o → take (slice_index at k) (receipts_of seats k) ≡ receipts_of seats k
    part k None e = let none : length (receipts_of seats k) ≡ 0 = ap (λ o. length (receipts_in o)) e in take_all _ _ (omega (arith, none))
    part k (Some s) e = let full = all k (slice_get_within seats k s e) in take_all _ _ (omega (arith, full))

-- a count goes up by one
pub stepped : (at : List ℕ) (k v : ℕ) → k < length at → v ≡ get_or at k v → IsStepped at (slice_set at k (v + 1)) k
stepped at k v h e = record {
  here = get_or-set_same at k (v + 1) 0 h ∙ ap (λ n. n + 1) (sym (get_or_from_slice_get at k v 0 (slice_get_read at (length at) k v refl h e)));
  others = λ j ne. get_or-set_other at k j (v + 1) 0 (λ e. ne (sym e));
}

-- an event more is a seat's next receipt
pub used_more : {E O : Type 0} (history : List (Recorded E O)) (seats : List (Held E O)) (at : List ℕ) (done k v : ℕ) (r : Recorded E O) → done < length history
    → r ≡ get_or history done r → length at ≡ length seats → AreUsed (take done history) seats at → IsNext seats at r k → v ≡ get_or at k v
    → AreUsed (take (done + 1) history) seats (slice_set at k (v + 1))
used_more history seats at done k v r h e same used next is =
    let within : k < length at = let n = next.seat in omega (arith, same, n) in
    subst (λ l. AreUsed l seats (slice_set at k (v + 1))) (sym (take_next history done r (slice_get_read history (length history) done r refl h e)))
    (used_next (take done history) seats at (slice_set at k (v + 1)) r k used next (stepped at k v within is))

-- a seat more is used up
pub full_more : {E O : Type 0} (seats : List (Held E O)) (at : List ℕ) (k v : ℕ) (s : Held E O) → length at ≡ length seats
    → ((j : ℕ) → j < k → slice_index at j ≡ length (receipts_of seats j)) → k < length seats → s ≡ get_or seats k s → v ≡ get_or at k v → v ≡ length s.receipts
    → (j : ℕ) → j < k + 1 → slice_index at j ≡ length (receipts_of seats j)
full_more seats at k v s same so within e is full j h = go (k == j) refl
  where
    here : slice_index at k ≡ length s.receipts
    here = get_or_from_slice_get at k v 0 (slice_get_read at (length at) k v refl (omega (arith, same, within)) is) ∙ full

    go : (b : Bool) → (k == j) ≡ b → slice_index at j ≡ length (receipts_of seats j)
    go true is =
        let P : ℕ → Type 0 = λ i. slice_index at i ≡ length (receipts_of seats i) in
        subst P (eqb-true k j is) (here ∙ ap (λ o. length (receipts_in o)) (sym (slice_get_read seats (length seats) k s refl within e)))
    go false is = let ne = eqb-false k j is in so j (omega (arith, ne))
