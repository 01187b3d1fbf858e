-- The merged list with one event more.
use Rattle.std.proofs.Common.{◌≡◌, inl, inr, ℕ, zero, suc, ◌+◌, ◌-◌, ◌<◌, ◌≤◌, ◌==◌, Bool, true, false, List, [], ◌∷◌, ◌++◌, length, replicate, take, get_or, Option, Some, slice_get, slice_index, slice_set, refl, sym, ap, subst, ◌∙◌, arith, append-nil, if◌then◌else◌}
use Rattle.std.proofs.lemmas.Bool.{eqb-true, eqb-false}
use Rattle.std.proofs.lemmas.Option.{slice_get_within, slice_get_read, get_or_from_slice_get}
use Rattle.std.proofs.lemmas.List.{take_all}
use Rattle.pvp_wire.specs.declared.stamped.Stamp.{Stamp}
use Rattle.pvp_rooms.specs.declared.message.Recorded.{Recorded}
use Rattle.pvp_rooms.specs.declared.actor.Actor.{Ghosts}
use Rattle.pvp_rooms.specs.Histories.{replay}
use Rattle.pvp_rooms.specs.declared.cell.Closed.{Closed}
use Rattle.pvp_rooms.specs.Runs.{Tagged, own_events, history_in, history_of, number_in, AreInOrder, AreBefore, WasSent, Arrives, IsReached}
use Rattle.pvp_rooms.specs.Named.{IsSent, IsNamed}
use Rattle.pvp_rooms.specs.Verdicts.{ClocksRise, FailsAt, CannotArrive, CannotCome}
use Rattle.pvp_rooms.specs.Merging.{IsNextActor, IsMerged, IsProgress}
use Rattle.pvp_rooms.proofs.Together.{take_next, IsStepped}
use Rattle.pvp_rooms.proofs.Looks.{slice_get-first}
use Rattle.pvp_rooms.proofs.Order.{same_some, who_took, not_earlier, is_after, is_after_own}

-- an item of the first n is below n, and is there
first_below : {X : Type 0} (xs : List X) (n i : ℕ) (x : X) → slice_get (take n xs) i ≡ Some x → i < n
first_below [] zero i x e = cc
first_below [] (suc n) i x e = cc
first_below (y ∷ xs) zero i x e = cc
first_below (y ∷ xs) (suc n) zero x e = omega arith
first_below (y ∷ xs) (suc n) (suc i) x e = let h = first_below xs n i x e in omega (arith, h)

module _ {A N E O L : Type 0} (delivers : E → Option L) (sent : O → List L) (is_for : A → E → Bool) (closed : List (Closed A N E O)) (at : List ℕ)
    (run : List (Tagged E O)) (each : (k : ℕ) → own_events run k ≡ take (slice_index at k) (history_of closed k)) where
  named_sent : (stamp : Stamp) (event : E) → IsSent delivers sent closed at stamp event → WasSent delivers sent closed run stamp event
  named_sent stamp event f = record {
    by = f.by;
    place = f.there.place;
    what = f.there.what;
    there =
        ap (λ l. slice_get l f.there.place) (each f.by) ∙ slice_get-first (history_of closed f.by) (slice_index at f.by) f.there.place f.there.within
        ∙ ap (λ o. slice_get (history_in o) f.there.place) f.is ∙ f.there.there;
    number = ap number_in f.is ∙ f.number;
    clock = f.there.clock;
    sends = f.there.sends;
  }

  sent_named : (stamp : Stamp) (event : E) → WasSent delivers sent closed run stamp event → IsSent delivers sent closed at stamp event
  sent_named stamp event w =
      let there : slice_get (take (slice_index at w.by) (history_of closed w.by)) w.place ≡ Some w.what =
      ap (λ l. slice_get l w.place) (sym (each w.by)) ∙ w.there in
      let below = first_below (history_of closed w.by) (slice_index at w.by) w.place w.what there in
      let got : slice_get (history_of closed w.by) w.place ≡ Some w.what =
      sym (slice_get-first (history_of closed w.by) (slice_index at w.by) w.place below) ∙ there in
      let who = who_took closed w.by w.place w.what got in
      record {
        by = w.by;
        who = who.0;
        is = who.1;
        number = sym (ap number_in who.1) ∙ w.number;
        there = record { place = w.place; what = w.what; within = below; there = who.2; clock = w.clock; sends = w.sends };
      }

  pub named_arrives : (actor : A) (r : Recorded E O) → IsNamed delivers sent is_for closed at actor r → Arrives delivers sent is_for closed run actor r
  named_arrives actor r n = elim n [ inl e ↦ inl e | inr w ↦ inr (w.0, w.1, w.2, named_sent w.0 r.event w.3) ]

  pub arrives_named : (actor : A) (r : Recorded E O) → Arrives delivers sent is_for closed run actor r → IsNamed delivers sent is_for closed at actor r
  arrives_named actor r n = elim n [ inl e ↦ inl e | inr w ↦ inr (w.0, w.1, w.2, sent_named w.0 r.event w.3) ]

-- THE NEXT EVENT OF ALL IS THE MERGED LIST'S NEXT
module _ {A N E O : Type 0} (closed : List (Closed A N E O)) (order : AreInOrder closed) (clocks : ClocksRise closed) (at : List ℕ) (run : List (Tagged E O))
    (merged : IsMerged closed run at) where
  module _ (k : ℕ) (next : IsNextActor closed at k) (now : List ℕ) (stepped : IsStepped at now k) where
    each_next : (j : ℕ) (b : Bool) → (k == j) ≡ b → own_events run j ++ (if b then next.what ∷ [] else []) ≡ take (slice_index now j) (history_of closed j)
    each_next j true e =
        let P : ℕ → Type 0 = λ n. own_events run n ++ next.what ∷ [] ≡ take (slice_index now n) (history_of closed n) in
        subst P (eqb-true k j e) (ap (λ l. l ++ next.what ∷ []) (merged.each k) ∙ sym (take_next (history_of closed k) (slice_index at k) next.what next.next)
        ∙ ap (λ n. take n (history_of closed k)) (sym stepped.here))
    each_next j false e = append-nil (own_events run j) ∙ merged.each j ∙ ap (λ n. take n (history_of closed j)) (sym (stepped.others j (eqb-false k j e)))

    ahead_next : (j i : ℕ) (r : Recorded E O) (b : Bool) → (k == j) ≡ b → slice_index now j ≤ i → slice_get (history_of closed j) i ≡ Some r
        → AreBefore closed (record { by = k; what = next.what } ∷ run) (record { by = j; what = r })
    ahead_next j i r true e =
        let P : ℕ → Type 0 =
        λ n. slice_index now n ≤ i → slice_get (history_of closed n) i ≡ Some r
        → AreBefore closed (record { by = k; what = next.what } ∷ run) (record { by = n; what = r }) in
        subst P (eqb-true k j e) (λ low there. (let h = stepped.here in
        (is_after_own closed clocks at k next i r (omega (arith, low, h)) there, merged.ahead k i r (omega (arith, low, h)) there)))
    ahead_next j i r false e = λ low there.
        let other = eqb-false k j e in
        let o = stepped.others j other in
        let low2 : slice_index at j ≤ i = omega (arith, low, o) in
        (is_after closed clocks at k next order j i r other low2 there, merged.ahead j i r low2 there)

    pub merged_next : IsMerged closed (record { by = k; what = next.what } ∷ run) now
    merged_next = record {
      sorted = (merged.sorted, merged.ahead k (slice_index at k) next.what (omega arith) next.next);
      each = λ j. each_next j (k == j) refl;
      ahead = λ j i r low there. ahead_next j i r (k == j) refl low there;
    }

  -- at the end of all histories
  pub merged_all : ((k : ℕ) → length (history_of closed k) ≤ slice_index at k) → (k : ℕ) → own_events run k ≡ history_of closed k
  merged_all done k = merged.each k ∙ take_all (slice_index at k) (history_of closed k) (done k)

-- at the beginning
pub merged_none : {A N E O : Type 0} (closed : List (Closed A N E O)) (at : List ℕ) → ((k : ℕ) → slice_index at k ≡ 0) → IsMerged closed [] at
merged_none closed at none = record {
  sorted = tt;
  each = λ k. sym (ap (λ n. take n (history_of closed k)) (none k));
  ahead = λ k i r low there. tt;
}

module _ {A N E O L : Type 0} (m : Ghosts A N E O) (delivers : E → Option L) (sent : O → List L) (is_for : A → E → Bool) (closed : List (Closed A N E O))
    (clocks : ClocksRise closed) (start : ℕ → m.State) (at : List ℕ) (p : IsProgress m delivers sent is_for closed start at) where
  module _ (k : ℕ) (next : IsNextActor closed at k) where
    pub reached : IsReached m delivers sent is_for closed start p.run at (record { by = k; what = next.what })
    reached = record {
      sorted = p.merged.sorted;
      legal = p.legal;
      before = p.merged.ahead k (slice_index at k) next.what (omega arith) next.next;
      each = p.merged.each;
      not_before = not_earlier closed clocks at k next;
    }

    module _ (c : Closed A N E O) (is : slice_get closed k ≡ Some c) where
      next_is : slice_get c.history.items (slice_index at k) ≡ Some next.what
      next_is = ap (λ o. slice_get (history_in o) (slice_index at k)) (sym is) ∙ next.next

      own_is : own_events p.run k ≡ take (slice_index at k) c.history.items
      own_is = p.merged.each k ∙ ap (λ o. take (slice_index at k) (history_in o)) is

      pub cannot_arrive : (event : ℕ) → event ≡ slice_index at k + 1 → ¬ IsNamed delivers sent is_for closed at c.end next.what
          → FailsAt m delivers sent is_for closed start k event (CannotArrive delivers sent is_for closed)
      cannot_arrive event count never =
          record {
            who = c;
            is = is;
            what = next.what;
            past = p.run;
            at = at;
            count = count;
            next = next_is;
            reached = reached;
            fails = λ a. never (arrives_named delivers sent is_for closed at p.run p.merged.each c.end next.what a);
          }

      pub cannot_come : (event : ℕ) → event ≡ slice_index at k + 1 → IsNamed delivers sent is_for closed at c.end next.what
          → ¬ m.comes (replay m.after (take (slice_index at k) c.history.items) (start k)) next.what.event next.what.outcome
          → FailsAt m delivers sent is_for closed start k event (CannotCome m delivers sent is_for closed start)
      cannot_come event count named never = record {
        who = c;
        is = is;
        what = next.what;
        past = p.run;
        at = at;
        count = count;
        next = next_is;
        reached = reached;
        fails = (
          named_arrives delivers sent is_for closed at p.run p.merged.each c.end next.what named,
          λ comes.
              never (subst (λ h. m.comes (replay m.after h (start k)) next.what.event next.what.outcome) own_is comes),
        );
      }

-- how many events are left
abbrev pub events_left : {A N E O : Type 0} → List (Closed A N E O) → List ℕ → ℕ
events_left [] at = 0
events_left (c ∷ cs) [] = length c.history.items + events_left cs []
events_left (c ∷ cs) (n ∷ at) = (length c.history.items - n) + events_left cs at

pub left_less : {A N E O : Type 0} (closed : List (Closed A N E O)) (at : List ℕ) (k v : ℕ) → k < length at → k < length closed → slice_index at k ≡ v
    → v < length (history_of closed k) → events_left closed (slice_set at k (v + 1)) < events_left closed at
left_less [] at k v h w is more = absurd (omega (arith, w))
left_less (c ∷ cs) [] k v h w is more = absurd (omega (arith, h))
left_less (c ∷ cs) (n ∷ at) zero v h w is more = omega (arith, is, more)
left_less (c ∷ cs) (n ∷ at) (suc k) v h w is more = let ih = left_less cs at k v (omega (arith, h)) (omega (arith, w)) is more in omega (arith, ih)

-- the next event, as it is read
pub next_place : {A N E O : Type 0} (closed : List (Closed A N E O)) (at : List ℕ) (k place : ℕ) (one : Closed A N E O) → length at ≡ length closed
    → (next : IsNextActor closed at k) → one ≡ get_or closed k one → place ≡ get_or at k place
    → (slice_get closed k ≡ Some one) × (slice_index at k ≡ place) × (slice_get one.history.items place ≡ Some next.what) × (place < length one.history.items)
next_place closed at k place one same next c p =
    let low = next.within in
    let is = slice_get_read closed (length closed) k one refl low c in
    let v : slice_index at k ≡ place = get_or_from_slice_get at k place 0 (slice_get_read at (length at) k place refl (omega (arith, low, same)) p) in
    let got : slice_get one.history.items place ≡ Some next.what =
    ap (λ o. slice_get (history_in o) place) (sym is) ∙ ap (slice_get (history_of closed k)) (sym v) ∙ next.next in
    (is, v, got, slice_get_within one.history.items place next.what got)

pub event_is : {A N E O : Type 0} (closed : List (Closed A N E O)) (at : List ℕ) (k place : ℕ) (one : Closed A N E O) (next : IsNextActor closed at k)
    (list : List (Recorded E O)) (r : Recorded E O) → slice_get one.history.items place ≡ Some next.what → list ≡ one.history.items → r ≡ get_or list place r
    → next.what ≡ r
event_is closed at k place one next list r got same e =
    let in_list : slice_get list place ≡ Some next.what = ap (λ l. slice_get l place) same ∙ got in
    same_some next.what r (sym in_list ∙ slice_get_read list (length list) place r refl (slice_get_within list place next.what in_list) e)

pub zeros_none : (n k : ℕ) → slice_index (replicate n 0) k ≡ 0
zeros_none zero k = refl
zeros_none (suc n) zero = refl
zeros_none (suc n) (suc k) = zeros_none n k

pub zeros_many : (n : ℕ) → length {A = ℕ} (replicate n 0) ≡ n
zeros_many zero = refl
zeros_many (suc n) = ap suc (zeros_many n)
