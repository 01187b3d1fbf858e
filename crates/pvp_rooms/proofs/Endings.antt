-- A merged list of some first events of each history ends any with more of them: what came in the one comes in the other.
use Rattle.std.proofs.Common.{◌≡◌, ◌⊎◌, inl, inr, ℕ, zero, suc, ◌<◌, ◌≤◌, ◌==◌, Bool, true, false, nat_lt, if◌then◌else◌, List, [], ◌∷◌, ◌++◌, length, take, slice_get, Some, refl, sym, ap, subst, ◌∙◌, arith, append-nil}
use Rattle.std.proofs.lemmas.Bool.{eqb-true, eq-eqb}
use Rattle.std.proofs.lemmas.Bool.Decides.{nat_tests}
use Rattle.std.proofs.lemmas.List.{take_all, take-append-le, append_cancel_right}
use Rattle.pvp_rooms.specs.declared.message.Recorded.{Recorded}
use Rattle.pvp_rooms.specs.declared.cell.Closed.{Closed}
use Rattle.pvp_rooms.specs.Runs.{Tagged, own_events, IsBefore, AreBefore, IsSorted}
use Rattle.pvp_rooms.proofs.Lists.{none_some, take_none, push_cases, push_last, push_keep, push_length}

-- LISTS

there_is : {X : Type 0} (xs : List X) (i : ℕ) → i < length xs → (x : X) × (slice_get xs i ≡ Some x)
there_is [] i low = absurd (omega arith)
there_is (x ∷ xs) zero low = (x, refl)
there_is (x ∷ xs) (suc i) low = there_is xs i (omega arith)

module _ {A N E O : Type 0} (closed : List (Closed A N E O)) where
  -- EVENTS OF A RUN

  -- it is one of these
  abbrev pub In : List (Tagged E O) → Tagged E O → Type 0
  In [] t = ⊥
  In (s ∷ past) t = (s ≡ t) ⊎ In past t

  tagged : (t : Tagged E O) (k : ℕ) (r : Recorded E O) → t.by ≡ k → t.what ≡ r → t ≡ record { by = k; what = r }
  tagged t k r b w = λ i. record { by = b i; what = w i }

  -- what an actor took in a run is of the run
  pub own_in : (run : List (Tagged E O)) (k i : ℕ) (r : Recorded E O) → slice_get (own_events run k) i ≡ Some r → In run (record { by = k; what = r })
  own_in [] k i r e = absurd (none_some r e)
  own_in (t ∷ past) k i r e = go (own_in past k i r) (t.by == k) refl e
    where
      go : (slice_get (own_events past k) i ≡ Some r → In past (record { by = k; what = r })) → (b : Bool) → (t.by == k) ≡ b
          → slice_get (own_events past k ++ (if b then t.what ∷ [] else [])) i ≡ Some r → In (t ∷ past) (record { by = k; what = r })
      go before true is h = elim (push_cases (own_events past k) t.what i r h) [ inl g ↦ inr (before g) | inr g ↦ inl (tagged t k r (eqb-true t.by k is) g) ]
      go before false is h = inr (before (subst (λ l. slice_get l i ≡ Some r) (append-nil (own_events past k)) h))

  -- the newest event is the last of its actor's
  newest : (t : Tagged E O) (past : List (Tagged E O)) → slice_get (own_events (t ∷ past) t.by) (length (own_events past t.by)) ≡ Some t.what
  newest t past =
      ap (λ (b : Bool). slice_get (own_events past t.by ++ (if b then t.what ∷ [] else [])) (length (own_events past t.by))) (eq-eqb t.by t.by refl)
      ∙ push_last (own_events past t.by) t.what

  in_own : (run : List (Tagged E O)) (t : Tagged E O) → In run t → (i : ℕ) × (slice_get (own_events run t.by) i ≡ Some t.what)
  in_own [] t h = absurd h
  in_own (s ∷ past) t (inl e) = (
    length (own_events past t.by),
    subst (λ (u : Tagged E O). slice_get (own_events (u ∷ past) t.by) (length (own_events past t.by)) ≡ Some t.what) (sym e)
        (newest t past),
  )
  in_own (s ∷ past) t (inr h) = let rest = in_own past t h in
      (rest.0, push_keep (own_events past t.by) (if s.by == t.by then s.what ∷ [] else []) rest.0 t.what rest.1)

  -- runs in which each actor took the same
  pub moved : (a b : List (Tagged E O)) → ((k : ℕ) → own_events a k ≡ own_events b k) → (t : Tagged E O) → In a t → In b t
  moved a b same t h = let o = in_own a t h in own_in b t.by o.0 t.what (ap (λ l. slice_get l o.0) (sym (same t.by)) ∙ o.1)

  -- THEIR ORDER

  pub before_in : (run : List (Tagged E O)) (s t : Tagged E O) → AreBefore closed run t → In run s → IsBefore closed s t
  before_in [] s t all h = absurd h
  before_in (r ∷ past) s t all (inl e) = subst (λ (u : Tagged E O). IsBefore closed u t) e all.0
  before_in (r ∷ past) s t all (inr h) = before_in past s t all.1 h

  pub never_both : (s t : Tagged E O) → IsBefore closed s t → IsBefore closed t s → ⊥
  never_both s t (inl a) (inl b) = omega (arith, a, b)
  never_both s t (inl a) (inr b) = let e = b.0 in omega (arith, a, e)
  never_both s t (inr a) (inl b) = let e = a.0 in omega (arith, b, e)
  never_both s t (inr a) (inr b) = let l = a.1 in let m = b.1 in omega (arith, l, m)

  -- in order, and each actor took the same: one run
  one_order : (a b : List (Tagged E O)) → IsSorted closed a → IsSorted closed b → ((k : ℕ) → own_events a k ≡ own_events b k) → a ≡ b
  one_order [] [] p q same = refl
  one_order [] (t ∷ b) p q same = absurd (moved (t ∷ b) [] (λ k. sym (same k)) t (inl refl))
  one_order (t ∷ a) [] p q same = absurd (moved (t ∷ a) [] same t (inl refl))
  one_order (t ∷ a) (u ∷ b) p q same = let rest = one_order a b p.0 q.0 others in λ i. heads i ∷ rest i
    where
      heads : t ≡ u
      heads = elim (moved (t ∷ a) (u ∷ b) same t (inl refl)) [
        | inl e ↦ sym e
        | inr h ↦ elim (moved (u ∷ b) (t ∷ a) (λ k. sym (same k)) u (inl refl)) [
          | inl e ↦ e
          | inr g ↦ absurd (never_both t u (before_in b t u q.1 h) (before_in a u t p.1 g))
        ]
      ]

      others : (k : ℕ) → own_events a k ≡ own_events b k
      others k = append_cancel_right (own_events a k) (own_events b k) (if u.by == k then u.what ∷ [] else [])
          (subst (λ (s : Tagged E O). own_events (s ∷ a) k ≡ own_events (u ∷ b) k) heads (same k))

  -- so many first events of each actor of a run, in order, with all others after them: the run's end
  pub ends_run : (all run : List (Tagged E O)) (n : ℕ → ℕ) → IsSorted closed all → IsSorted closed run
      → ((k : ℕ) → own_events run k ≡ take (n k) (own_events all k))
      → ((k i : ℕ) (r : Recorded E O) → n k ≤ i → slice_get (own_events all k) i ≡ Some r → AreBefore closed run (record { by = k; what = r }))
      → (more : List (Tagged E O)) × (all ≡ more ++ run)
  ends_run [] run n p q each ahead = ([], sym (one_order run [] q p (λ k. each k ∙ take_none (n k))))
  ends_run (t ∷ past) run n p q each ahead = go (ends_run past run n p.0 q) (nat_lt (n t.by) (length (own_events (t ∷ past) t.by))) refl
    where
      all : List (Tagged E O)
      all = t ∷ past

      shorter : (k : ℕ) (b : Bool) → (t.by == k) ≡ b → n t.by < length (own_events all t.by)
          → take (n k) (own_events past k ++ (if b then t.what ∷ [] else [])) ≡ take (n k) (own_events past k)
      shorter k true is low =
          let is_k = eqb-true t.by k is in
          let own_k : n k < length (own_events all k) = subst (λ j. n j < length (own_events all j)) is_k low in
          let many : length (own_events all k) ≡ suc (length (own_events past k)) =
          ap (λ (b : Bool). length (own_events past k ++ (if b then t.what ∷ [] else []))) is ∙ push_length (own_events past k) t.what in
          take-append-le (n k) (own_events past k) (t.what ∷ []) (omega (arith, own_k, many))
      shorter k false is low = ap (λ l. take (n k) l) (append-nil (own_events past k))

      high_in : length (own_events all t.by) ≤ n t.by → In run t
      high_in high = own_in run t.by (length (own_events past t.by)) t.what
          (ap (λ l. slice_get l (length (own_events past t.by))) (each t.by ∙ take_all (n t.by) (own_events all t.by) high) ∙ newest t past)

      full : length (own_events all t.by) ≤ n t.by → (k : ℕ) (b : Bool) → nat_lt (n k) (length (own_events all k)) ≡ b → length (own_events all k) ≤ n k
      full high k false is = grind (arith, nat_tests)
      full high k true is =
          let low : n k < length (own_events all k) = grind (arith, nat_tests) in
          let r = there_is (own_events all k) (n k) low in
          let late : Tagged E O = record { by = k; what = r.0 } in
          let after : IsBefore closed t late = before_in run t late (ahead k (n k) r.0 (omega arith) r.1) (high_in high) in
          elim (own_in all k (n k) r.0 r.1) [
            | inl e
                ↦ absurd (never_both t late after (subst (λ (s : Tagged E O). IsBefore closed s t) e
                (subst (λ (s : Tagged E O). IsBefore closed t s) (sym e) after)))
            | inr h ↦ absurd (never_both t late after (before_in past late t p.1 h))
          ]

      go : (((k : ℕ) → own_events run k ≡ take (n k) (own_events past k))
          → ((k i : ℕ) (r : Recorded E O) → n k ≤ i → slice_get (own_events past k) i ≡ Some r → AreBefore closed run (record { by = k; what = r }))
          → (more : List (Tagged E O)) × (past ≡ more ++ run))
          → (b : Bool) → nat_lt (n t.by) (length (own_events all t.by)) ≡ b → (more : List (Tagged E O)) × (all ≡ more ++ run)
      go before true is =
          let low : n t.by < length (own_events all t.by) = grind (arith, nat_tests) in
          let rest = before (λ k. each k ∙ shorter k (t.by == k) refl low)
          (λ k i r past_n there. ahead k i r past_n (push_keep (own_events past k) (if t.by == k then t.what ∷ [] else []) i r there)) in
          (t ∷ rest.0, ap (λ l. t ∷ l) rest.1)
      go before false is =
          let high : length (own_events all t.by) ≤ n t.by = grind (arith, nat_tests) in
          ([], sym (one_order run all q p (λ k. each k ∙ take_all (n k) (own_events all k) (full high k (nat_lt (n k) (length (own_events all k))) refl))))
