-- The next event of all actors up to a place.
use Rattle.std.proofs.Common.{◌≡◌, ◌⊎◌, inl, inr, ℕ, ◌+◌, ◌<◌, ◌≤◌, ◌==◌, Bool, true, false, List, length, Some, None, Option, IfSome, IfNone, slice_get, slice_index, refl, sym, ap, subst, ◌∙◌, arith}
use Rattle.std.proofs.lemmas.Bool.{cases_order, eqb-true, eqb-false}
use Rattle.std.proofs.lemmas.Option.{slice_get_within}
use Rattle.pvp_rooms.specs.declared.message.Recorded.{Recorded}
use Rattle.pvp_rooms.specs.declared.cell.Closed.{Closed}
use Rattle.pvp_rooms.specs.Runs.{history_in, history_of, number_at, AreInOrder}
use Rattle.pvp_rooms.specs.Merging.{IsNextActor}
use Rattle.pvp_rooms.proofs.Order.{same_some, who_took}

abbrev pub NoneLeft : {A N E O : Type 0} → List (Closed A N E O) → List ℕ → ℕ → Type 0
NoneLeft closed at upto = (j : ℕ) → j < upto → length (history_of closed j) ≤ slice_index at j

pub record IsLeast {A N E O : Type 0} (closed : List (Closed A N E O)) (at : List ℕ) (upto least f : ℕ) : Type 0 where
  pub below : f < upto
  pub what : Recorded E O
  pub there : slice_get (history_of closed f) (slice_index at f) ≡ Some what
  pub clock : what.clock ≡ least
  pub least_of : (j : ℕ) (r : Recorded E O) → j < upto → slice_get (history_of closed j) (slice_index at j) ≡ Some r
      → (least < r.clock) ⊎ ((least ≡ r.clock) × (f ≤ j))

pub record SoFar {A N E O : Type 0} (closed : List (Closed A N E O)) (at : List ℕ) (upto least : ℕ) (o : Option ℕ) : Type 0 where
  pub found : IfSome o (IsLeast closed at upto least)
  pub none : IfNone o (NoneLeft closed at upto)

module _ {A N E O : Type 0} (closed : List (Closed A N E O)) (at : List ℕ) (k : ℕ) where
  -- the next event of the actor at k comes first
  pub take_new_first : (r : Recorded E O) → slice_get (history_of closed k) (slice_index at k) ≡ Some r → NoneLeft closed at k
      → IsLeast closed at (k + 1) r.clock k
  take_new_first r there none = record { below = omega arith; what = r; there = there; clock = refl; least_of = λ j q low is. go j q low is (k == j) refl }
    where
      go : (j : ℕ) (q : Recorded E O) → j < k + 1 → slice_get (history_of closed j) (slice_index at j) ≡ Some q → (b : Bool) → (k == j) ≡ b
          → (r.clock < q.clock) ⊎ ((r.clock ≡ q.clock) × (k ≤ j))
      go j q low is true e = let same = eqb-true k j e in
          inr (
            ap (λ (t : Recorded E O). t.clock) (same_some r q (sym there ∙ ap (λ n. slice_get (history_of closed n) (slice_index at n)) same ∙ is)),
            omega (arith, same),
          )
      go j q low is false e = let ne = eqb-false k j e in let n = none j (omega (arith, low, ne)) in
          let w = slice_get_within (history_of closed j) (slice_index at j) q is in absurd (omega (arith, n, w))

  pub take_new_less : (r : Recorded E O) (least f : ℕ) → slice_get (history_of closed k) (slice_index at k) ≡ Some r → IsLeast closed at k least f
      → r.clock < least → IsLeast closed at (k + 1) r.clock k
  take_new_less r least f there old less =
      record { below = omega arith; what = r; there = there; clock = refl; least_of = λ j q low is. go j q low is (k == j) refl }
    where
      go : (j : ℕ) (q : Recorded E O) → j < k + 1 → slice_get (history_of closed j) (slice_index at j) ≡ Some q → (b : Bool) → (k == j) ≡ b
          → (r.clock < q.clock) ⊎ ((r.clock ≡ q.clock) × (k ≤ j))
      go j q low is true e = let same = eqb-true k j e in
          inr (
            ap (λ (t : Recorded E O). t.clock) (same_some r q (sym there ∙ ap (λ n. slice_get (history_of closed n) (slice_index at n)) same ∙ is)),
            omega (arith, same),
          )
      go j q low is false e = let ne = eqb-false k j e in
          elim (old.least_of j q (omega (arith, low, ne)) is) [ inl w ↦ inl (omega (arith, w, less)) | inr w ↦ (let s = w.0 in inl (omega (arith, s, less))) ]

  pub keep_old : (r : Recorded E O) (least f : ℕ) → slice_get (history_of closed k) (slice_index at k) ≡ Some r → IsLeast closed at k least f → least ≤ r.clock
      → IsLeast closed at (k + 1) least f
  keep_old r least f there old more =
      record {
        below = (let b = old.below in omega (arith, b));
        what = old.what;
        there = old.there;
        clock = old.clock;
        least_of = λ j q low is. go j q low is (k == j) refl;
      }
    where
      here : (q : Recorded E O) → r ≡ q → (j : ℕ) → k ≡ j → (least < q.clock) ⊎ ((least ≡ q.clock) × (f ≤ j))
      here q one j same =
          let c : r.clock ≡ q.clock = ap (λ (t : Recorded E O). t.clock) one in
          let b = old.below in
          elim (cases_order least q.clock) [
            | inl e ↦ inr (e, omega (arith, b, same))
            | inr w ↦ elim w [ inl l ↦ inl l | inr g ↦ absurd (omega (arith, g, more, c)) ]
          ]

      go : (j : ℕ) (q : Recorded E O) → j < k + 1 → slice_get (history_of closed j) (slice_index at j) ≡ Some q → (b : Bool) → (k == j) ≡ b
          → (least < q.clock) ⊎ ((least ≡ q.clock) × (f ≤ j))
      go j q low is true e = let same = eqb-true k j e in
          here q (same_some r q (sym there ∙ ap (λ n. slice_get (history_of closed n) (slice_index at n)) same ∙ is)) j same
      go j q low is false e = let ne = eqb-false k j e in old.least_of j q (omega (arith, low, ne)) is

  -- the actor at k has no event left
  pub skip_one : (least f : ℕ) → length (history_of closed k) ≤ slice_index at k → IsLeast closed at k least f → IsLeast closed at (k + 1) least f
  skip_one least f past old =
      record {
        below = (let b = old.below in omega (arith, b));
        what = old.what;
        there = old.there;
        clock = old.clock;
        least_of = λ j q low is. go j q low is (k == j) refl;
      }
    where
      go : (j : ℕ) (q : Recorded E O) → j < k + 1 → slice_get (history_of closed j) (slice_index at j) ≡ Some q → (b : Bool) → (k == j) ≡ b
          → (least < q.clock) ⊎ ((least ≡ q.clock) × (f ≤ j))
      go j q low is true e =
          let same = eqb-true k j e in
          let w = slice_get_within (history_of closed k) (slice_index at k) q (ap (λ n. slice_get (history_of closed n) (slice_index at n)) same ∙ is) in
          absurd (omega (arith, w, past))
      go j q low is false e = let ne = eqb-false k j e in old.least_of j q (omega (arith, low, ne)) is

  pub none_more : length (history_of closed k) ≤ slice_index at k → NoneLeft closed at k → NoneLeft closed at (k + 1)
  none_more past none j low = go (k == j) refl
    where
      go : (b : Bool) → (k == j) ≡ b → length (history_of closed j) ≤ slice_index at j
      go true e = subst (λ n. length (history_of closed n) ≤ slice_index at n) (eqb-true k j e) past
      go false e = let ne = eqb-false k j e in none j (omega (arith, low, ne))

-- the one that comes first of all
pub next_of_all : {A N E O : Type 0} (closed : List (Closed A N E O)) (at : List ℕ) (upto least f : ℕ) → AreInOrder closed → upto ≡ length closed
    → IsLeast closed at upto least f → IsNextActor closed at f
next_of_all closed at upto least f order all old = record {
  within = (let b = old.below in omega (arith, b, all));
  what = old.what;
  next = old.there;
  first = λ j r there early.
      let w = who_took closed j (slice_index at j) r there in
      let low = slice_get_within closed j w.0 w.1 in
      let c = old.clock in
      let b = old.below in
      elim (old.least_of j r (omega (arith, low, all)) there) [
        | inl less ↦ elim early [ inl l ↦ absurd (omega (arith, l, less, c)) | inr v ↦ (let s = v.0 in absurd (omega (arith, s, less, c))) ]
        | inr u ↦ (let same = u.0 in let below = u.1 in elim early [
          | inl l ↦ absurd (omega (arith, l, same, c))
          | inr v ↦ elim (cases_order f j) [
            | inl e ↦ (let n = ap (λ i. number_at closed i) e in let lower = v.1 in absurd (omega (arith, n, lower)))
            | inr t ↦ elim t [
              | inl less ↦ (let n = order f j less low in let lower = v.1 in absurd (omega (arith, n, lower)))
              | inr more ↦ absurd (omega (arith, more, below))
            ]
          ]
        ])
      ];
}

-- nobody has an event left
pub none_of_all : {A N E O : Type 0} (closed : List (Closed A N E O)) (at : List ℕ) (upto : ℕ) → upto ≡ length closed → NoneLeft closed at upto → (k : ℕ)
    → length (history_of closed k) ≤ slice_index at k
none_of_all {A = A} {N = N} {E = E} {O = O} closed at upto all none k = go (slice_get closed k) refl
  where
    go : (o : Option (Closed A N E O)) → slice_get closed k ≡ o → length (history_of closed k) ≤ slice_index at k
    go None is = let n : length (history_of closed k) ≡ 0 = ap (λ o. length (history_in o)) is in omega (arith, n)
    go (Some c) is = let w = slice_get_within closed k c is in none k (omega (arith, w, all))

-- nothing was found so far, or something was
pub one_past : {A N E O : Type 0} (closed : List (Closed A N E O)) (at : List ℕ) (k least : ℕ) (o : Option ℕ) → length (history_of closed k) ≤ slice_index at k
    → SoFar closed at k least o → SoFar closed at (k + 1) least o
one_past closed at k least None past so = record { found = tt; none = none_more closed at k past so.none }
one_past closed at k least (Some f) past so = record { found = skip_one closed at k least f past so.found; none = tt }

pub some_next : {A N E O : Type 0} (closed : List (Closed A N E O)) (at : List ℕ) (upto least : ℕ) (o : Option ℕ) → AreInOrder closed → upto ≡ length closed
    → SoFar closed at upto least o → IfSome o (λ f. IsNextActor closed at f)
some_next closed at upto least None order all so = tt
some_next closed at upto least (Some f) order all so = next_of_all closed at upto least f order all so.found

pub none_next : {A N E O : Type 0} (closed : List (Closed A N E O)) (at : List ℕ) (upto least : ℕ) (o : Option ℕ) → upto ≡ length closed
    → SoFar closed at upto least o → IfNone o ((k : ℕ) → length (history_of closed k) ≤ slice_index at k)
none_next closed at upto least None all so = none_of_all closed at upto all so.none
none_next closed at upto least (Some f) all so = tt
