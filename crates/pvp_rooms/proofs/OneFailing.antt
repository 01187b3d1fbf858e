-- At one event at most a merged list fails, by one test, and none of a legal one does.
use Rattle.std.proofs.Common.{◌≡◌, ◌⊎◌, inl, inr, ℕ, zero, suc, ◌+◌, ◌<◌, ◌≤◌, ◌==◌, Bool, true, false, if◌then◌else◌, List, [], ◌∷◌, ◌++◌, length, take, Option, Some, slice_get, slice_index, refl, sym, ap, subst, ◌∙◌, arith, append-nil, length-append}
use Rattle.std.proofs.lemmas.Bool.{cases_order, eqb-true, eqb-false}
use Rattle.std.proofs.lemmas.List.{take_all}
use Rattle.std.proofs.lemmas.Option.{slice_get_within}
use Rattle.pvp_rooms.specs.declared.message.Recorded.{Recorded}
use Rattle.pvp_rooms.specs.declared.actor.Actor.{Ghosts}
use Rattle.pvp_rooms.specs.declared.cell.Closed.{Closed}
use Rattle.pvp_rooms.specs.Runs.{Tagged, own_events, history_in, history_of, AreInOrder, IsBefore, AreBefore, IsSorted, IsRun, IsLegal, IsReached, CanCome}
use Rattle.pvp_rooms.specs.Verdicts.{ClocksRise}
use Rattle.pvp_rooms.specs.Merging.{IsNextActor}
use Rattle.pvp_rooms.proofs.Together.{take_next}
use Rattle.pvp_rooms.proofs.Looks.{slice_get-first}
use Rattle.pvp_rooms.proofs.Order.{same_some, is_greater, is_after, is_after_own}
use Rattle.pvp_rooms.proofs.Lists.{take_none}
use Rattle.pvp_rooms.proofs.Endings.{own_in, before_in, ends_run}

-- LISTS

-- of the first so many the first so many others, where no item lies between
take_within : {X : Type 0} (xs : List X) (n m : ℕ) → ((i : ℕ) (x : X) → i < n → slice_get xs i ≡ Some x → i < m) → take n xs ≡ take n (take m xs)
take_within [] n m low = take_none n ∙ sym (ap (take n) (take_none m) ∙ take_none n)
take_within (x ∷ xs) zero m low = refl
take_within (x ∷ xs) (suc n) zero low = let h = low 0 x (omega arith) refl in absurd (omega (arith, h))
take_within (x ∷ xs) (suc n) (suc m) low =
    ap (λ l. x ∷ l) (take_within xs n m (λ i y small there. (let h = low (suc i) y (omega (arith, small)) there in omega (arith, h))))

of_front : {X : Type 0} (xs : List X) (n i : ℕ) (x : X) → slice_get (take n xs) i ≡ Some x → slice_get xs i ≡ Some x
of_front [] zero i x e = e
of_front [] (suc n) i x e = e
of_front (y ∷ xs) zero i x e = cc
of_front (y ∷ xs) (suc n) zero x e = e
of_front (y ∷ xs) (suc n) (suc i) x e = of_front xs n i x e

-- two lists that end one another are one
pub one_end : {X : Type 0} (xs ys more other : List X) → xs ≡ more ++ ys → ys ≡ other ++ xs → xs ≡ ys
one_end xs ys [] other e f = e
one_end xs ys (x ∷ more) other e f =
    let a = ap length e ∙ length-append (x ∷ more) ys in
    let b = ap length f ∙ length-append other xs in
    absurd (omega (arith, a, b))

module _ {A N E O : Type 0} (closed : List (Closed A N E O)) where
  through : (s t u : Tagged E O) → IsBefore closed s t → IsBefore closed t u → IsBefore closed s u
  through s t u (inl a) (inl b) = inl (omega (arith, a, b))
  through s t u (inl a) (inr b) = let e = b.0 in inl (omega (arith, a, e))
  through s t u (inr a) (inl b) = let e = a.0 in inl (omega (arith, b, e))
  through s t u (inr a) (inr b) = let l = a.1 in let m = b.1 in inr (a.0 ∙ b.0, omega (arith, l, m))

  all_through : (past : List (Tagged E O)) (t u : Tagged E O) → AreBefore closed past t → IsBefore closed t u → AreBefore closed past u
  all_through [] t u p b = tt
  all_through (s ∷ past) t u p b = (through s t u p.0 b, all_through past t u p.1 b)

  -- THE FIRST EVENTS OF THE MERGED LIST, so many of each history
  record AreFirst (run : List (Tagged E O)) (n : ℕ → ℕ) : Type 0 where
    pub sorted : IsSorted closed run
    pub each : (k : ℕ) → own_events run k ≡ take (n k) (history_of closed k)
    pub ahead : (k i : ℕ) (r : Recorded E O) → n k ≤ i → slice_get (history_of closed k) i ≡ Some r → AreBefore closed run (record { by = k; what = r })

  -- end every list in order that has these and perhaps others
  first_end : (run all : List (Tagged E O)) (n m : ℕ → ℕ) → AreFirst run n → IsSorted closed all
      → ((k : ℕ) → own_events all k ≡ take (m k) (history_of closed k))
      → ((k i : ℕ) (r : Recorded E O) → i < n k → slice_get (history_of closed k) i ≡ Some r → i < m k)
      → (more : List (Tagged E O)) × (all ≡ more ++ run)
  first_end run all n m first sorted each covers =
      ends_run closed all run n sorted first.sorted
      (λ k. first.each k ∙ take_within (history_of closed k) (n k) (m k) (covers k) ∙ ap (take (n k)) (sym (each k)))
      (λ k i r low there. first.ahead k i r low (of_front (history_of closed k) (m k) i r (ap (λ l. slice_get l i) (sym (each k)) ∙ there)))

module _ {A N E O L : Type 0} (m : Ghosts A N E O) (delivers : E → Option L) (sent : O → List L) (is_for : A → E → Bool) (closed : List (Closed A N E O))
    (start : ℕ → m.State) (order : AreInOrder closed) (clocks : ClocksRise closed) where
  run_ends : (more run : List (Tagged E O)) → IsRun m delivers sent is_for closed start (more ++ run) → IsRun m delivers sent is_for closed start run
  run_ends [] run p = p
  run_ends (t ∷ more) run p = run_ends more run p.0

  module _ (place : ℕ) (who : Closed A N E O) (is : slice_get closed place ≡ Some who) (what : Recorded E O) (past : List (Tagged E O)) (at : List ℕ)
      (next : slice_get who.history.items (slice_index at place) ≡ Some what)
      (reached : IsReached m delivers sent is_for closed start past at (record { by = place; what = what })) where
    abbrev this : Tagged E O
    this = record { by = place; what = what }

    abbrev count : ℕ → ℕ
    count k = slice_index at k

    abbrev more_count : ℕ → ℕ
    more_count k = slice_index at k + (if place == k then 1 else 0)

    here : slice_get (history_of closed place) (slice_index at place) ≡ Some what
    here = ap (λ o. slice_get (history_in o) (slice_index at place)) is ∙ next

    abbrev is_next : IsNextActor closed at place
    is_next = record {
      within = slice_get_within closed place who is;
      what = what;
      next = here;
      first = λ j r there. reached.not_before j (slice_index at j) r (omega arith) there;
    }

    ahead : (k i : ℕ) (r : Recorded E O) → slice_index at k ≤ i → slice_get (history_of closed k) i ≡ Some r
        → AreBefore closed past (record { by = k; what = r })
    ahead k i r low there = by_place (place == k) refl
      where
        by_place : (b : Bool) → (place == k) ≡ b → AreBefore closed past (record { by = k; what = r })
        by_place false e =
            all_through closed past this (record { by = k; what = r }) reached.before
            (is_after closed clocks at place is_next order k i r (eqb-false place k e) low there)
        by_place true e = own_event (eqb-true place k e)
          where
            own_event : place ≡ k → AreBefore closed past (record { by = k; what = r })
            own_event same = elim (cases_order i (slice_index at k)) [
              | inl one ↦ (let is_what : what ≡ r =
                  same_some what r (sym here ∙ ap (λ j. slice_get (history_of closed j) (slice_index at j)) same
                  ∙ ap (slice_get (history_of closed k)) (sym one) ∙ there) in
                  subst (λ (t : Tagged E O). AreBefore closed past t) (λ j. record { by = same j; what = is_what j }) reached.before)
              | inr w ↦ elim w [
                | inl less ↦ absurd (omega (arith, less, low))
                | inr more ↦ all_through closed past this (record { by = k; what = r }) reached.before
                    (subst (λ (j : ℕ). slice_index at j + 1 ≤ i → slice_get (history_of closed j) i ≡ Some r
                    → IsBefore closed this (record { by = j; what = r })) same
                    (λ far got. is_after_own closed clocks at place is_next i r far got) (omega (arith, more)) there)
              ]
            ]

    first_past : AreFirst closed past count
    first_past = record { sorted = reached.sorted; each = reached.each; ahead = ahead }

    first_with : AreFirst closed (this ∷ past) more_count
    first_with = record {
      sorted = (reached.sorted, reached.before);
      each = λ k. each k (place == k) refl;
      ahead = λ k i r low there. further k i r (place == k) refl low there;
    }
      where
        each : (k : ℕ) (b : Bool) → (place == k) ≡ b
            → own_events past k ++ (if b then what ∷ [] else []) ≡ take (slice_index at k + (if b then 1 else 0)) (history_of closed k)
        each k true e =
            let there : slice_get (history_of closed k) (slice_index at k) ≡ Some what =
            subst (λ (j : ℕ). slice_get (history_of closed j) (slice_index at j) ≡ Some what) (eqb-true place k e) here in
            ap (λ l. l ++ what ∷ []) (reached.each k) ∙ sym (take_next (history_of closed k) (slice_index at k) what there)
        each k false e = append-nil (own_events past k) ∙ reached.each k ∙ ap (λ n. take n (history_of closed k)) (zero_more (slice_index at k))
          where
            zero_more : (n : ℕ) → n ≡ n + 0
            zero_more n = omega arith

        further : (k i : ℕ) (r : Recorded E O) (b : Bool) → (place == k) ≡ b → slice_index at k + (if b then 1 else 0) ≤ i
            → slice_get (history_of closed k) i ≡ Some r
            → AreBefore closed (this ∷ past) (record { by = k; what = r })
        further k i r true e low there = (
          subst (λ (j : ℕ). slice_index at j + 1 ≤ i → slice_get (history_of closed j) i ≡ Some r
              → IsBefore closed this (record { by = j; what = r })) (eqb-true place k e)
              (λ far got. is_after_own closed clocks at place is_next i r far got) low there,
          ahead k i r (omega (arith, low)) there,
        )
        further k i r false e low there = (
          is_after closed clocks at place is_next order k i r (eqb-false place k e) (omega (arith, low)) there,
          ahead k i r (omega (arith, low)) there,
        )

    -- of a run that goes on it could come
    could : (all : List (Tagged E O)) (most : ℕ → ℕ) → IsSorted closed all → ((k : ℕ) → own_events all k ≡ take (most k) (history_of closed k))
        → ((k i : ℕ) (r : Recorded E O) → i < more_count k → slice_get (history_of closed k) i ≡ Some r → i < most k)
        → IsRun m delivers sent is_for closed start all → CanCome m delivers sent is_for closed start past this
    could all most sorted each covers run =
        let ends = first_end closed (this ∷ past) all more_count most first_with sorted each covers in
        let part : IsRun m delivers sent is_for closed start (this ∷ past) =
        run_ends ends.0 (this ∷ past) (subst (λ (l : List (Tagged E O)). IsRun m delivers sent is_for closed start l) ends.1 run) in
        part.1

    pub legal_could : IsLegal m delivers sent is_for closed start → CanCome m delivers sent is_for closed start past this
    legal_could legal =
        could legal.run (λ k. length (history_of closed k)) legal.sorted
        (λ k. legal.each k ∙ sym (take_all (length (history_of closed k)) (history_of closed k) (omega arith)))
        (λ k i r low there. slice_get_within (history_of closed k) i r there) legal.legal

    -- what is among the events before one is before what those are before
    past_before : (u : Tagged E O) → AreBefore closed past u → (k i : ℕ) (r : Recorded E O) → i < slice_index at k → slice_get (history_of closed k) i ≡ Some r
        → IsBefore closed (record { by = k; what = r }) u
    past_before u before k i r low there =
        before_in closed past (record { by = k; what = r }) u before
        (own_in closed past k i r (ap (λ l. slice_get l i) (reached.each k) ∙ slice_get-first (history_of closed k) (slice_index at k) i low ∙ there))

    with_before : (u : Tagged E O) → IsBefore closed this u → (k i : ℕ) (r : Recorded E O) → i < more_count k → slice_get (history_of closed k) i ≡ Some r
        → IsBefore closed (record { by = k; what = r }) u
    with_before u before k i r low there =
        before_in closed (this ∷ past) (record { by = k; what = r }) u (before, all_through closed past this u reached.before before)
        (own_in closed (this ∷ past) k i r (ap (λ l. slice_get l i) (first_with.each k) ∙ slice_get-first (history_of closed k) (more_count k) i low ∙ there))

  -- TWO EVENTS THAT WERE REACHED
  module _ (p q : ℕ) (who_p who_q : Closed A N E O) (is_p : slice_get closed p ≡ Some who_p) (is_q : slice_get closed q ≡ Some who_q) (r s : Recorded E O)
      (past_p past_q : List (Tagged E O)) (at_p at_q : List ℕ) (next_p : slice_get who_p.history.items (slice_index at_p p) ≡ Some r)
      (next_q : slice_get who_q.history.items (slice_index at_q q) ≡ Some s)
      (reached_p : IsReached m delivers sent is_for closed start past_p at_p (record { by = p; what = r }))
      (reached_q : IsReached m delivers sent is_for closed start past_q at_q (record { by = q; what = s })) where
    -- the earlier one could come
    pub earlier_could : IsBefore closed (record { by = p; what = r }) (record { by = q; what = s })
        → CanCome m delivers sent is_for closed start past_p (record { by = p; what = r })
    earlier_could before =
        could p who_p is_p r past_p at_p next_p reached_p past_q (λ k. slice_index at_q k) reached_q.sorted reached_q.each covers reached_q.legal
      where
        covers : (k i : ℕ) (x : Recorded E O) → i < more_count p who_p is_p r past_p at_p next_p reached_p k → slice_get (history_of closed k) i ≡ Some x
            → i < slice_index at_q k
        covers k i x low there = elim (cases_order i (slice_index at_q k)) [
          | inl same ↦ absurd (reached_q.not_before k i x (omega (arith, same)) there
              (with_before p who_p is_p r past_p at_p next_p reached_p (record { by = q; what = s }) before k i x low there))
          | inr w ↦ elim w [
            | inl less ↦ less
            | inr more ↦ absurd (reached_q.not_before k i x (omega (arith, more)) there
                (with_before p who_p is_p r past_p at_p next_p reached_p (record { by = q; what = s }) before k i x low there))
          ]
        ]

    -- one event has one past
    pub past_ends : ◌≡◌ {A = Tagged E O} (record { by = p; what = r }) (record { by = q; what = s }) → (more : List (Tagged E O)) × (past_q ≡ more ++ past_p)
    past_ends same =
        first_end closed past_p past_q (λ k. slice_index at_p k) (λ k. slice_index at_q k) (first_past p who_p is_p r past_p at_p next_p reached_p)
        reached_q.sorted reached_q.each covers
      where
        before : AreBefore closed past_p (record { by = q; what = s })
        before = subst (λ (t : Tagged E O). AreBefore closed past_p t) same reached_p.before

        covers : (k i : ℕ) (x : Recorded E O) → i < slice_index at_p k → slice_get (history_of closed k) i ≡ Some x → i < slice_index at_q k
        covers k i x low there = elim (cases_order i (slice_index at_q k)) [
          | inl e ↦ absurd (reached_q.not_before k i x (omega (arith, e)) there
              (past_before p who_p is_p r past_p at_p next_p reached_p (record { by = q; what = s }) before k i x low there))
          | inr w ↦ elim w [
            | inl less ↦ less
            | inr more ↦ absurd (reached_q.not_before k i x (omega (arith, more)) there
                (past_before p who_p is_p r past_p at_p next_p reached_p (record { by = q; what = s }) before k i x low there))
          ]
        ]

    -- they come one after the other, or are one
    abbrev Ordered : Type 0
    Ordered =
        IsBefore closed (record { by = p; what = r }) (record { by = q; what = s })
        ⊎ (IsBefore closed (record { by = q; what = s }) (record { by = p; what = r })
        ⊎ ((p ≡ q) × (r ≡ s) × (slice_index at_p p ≡ slice_index at_q q)))

    pub in_order : Ordered
    in_order = by_clock (cases_order r.clock s.clock)
      where
        there_p : slice_get (history_of closed p) (slice_index at_p p) ≡ Some r
        there_p = ap (λ o. slice_get (history_in o) (slice_index at_p p)) is_p ∙ next_p

        there_q : slice_get (history_of closed q) (slice_index at_q q) ≡ Some s
        there_q = ap (λ o. slice_get (history_in o) (slice_index at_q q)) is_q ∙ next_q

        one : r.clock ≡ s.clock → p ≡ q → Ordered
        one clock same =
            let got : slice_get (history_of closed p) (slice_index at_q q) ≡ Some s =
            ap (λ j. slice_get (history_of closed j) (slice_index at_q q)) same ∙ there_q in
            elim (cases_order (slice_index at_p p) (slice_index at_q q)) [
              | inl e ↦ inr (inr (same, same_some r s (sym there_p ∙ ap (slice_get (history_of closed p)) e ∙ got), e))
              | inr w ↦ elim w [
                | inl less ↦ (let h = is_greater closed clocks p (slice_index at_p p) (slice_index at_q q) r s less there_p got in
                    absurd (omega (arith, h, clock)))
                | inr more ↦ (let h = is_greater closed clocks p (slice_index at_q q) (slice_index at_p p) s r more got there_p in
                    absurd (omega (arith, h, clock)))
              ]
            ]

        by_place : r.clock ≡ s.clock → (p ≡ q) ⊎ ((p < q) ⊎ (q < p)) → Ordered
        by_place clock (inl same) = one clock same
        by_place clock (inr (inl less)) = inl (inr (clock, order p q less (slice_get_within closed q who_q is_q)))
        by_place clock (inr (inr more)) = inr (inl (inr (sym clock, order q p more (slice_get_within closed p who_p is_p))))

        by_clock : (r.clock ≡ s.clock) ⊎ ((r.clock < s.clock) ⊎ (s.clock < r.clock)) → Ordered
        by_clock (inl same) = by_place same (cases_order p q)
        by_clock (inr (inl less)) = inl (inl less)
        by_clock (inr (inr more)) = inr (inl (inl more))
