-- Acknowledgements as one number a site: what they sum up, and the largest place that has support.
use Rattle.std.proofs.Common.{below_more, ◌≡◌, ◌≢◌, ℕ, zero, suc, ◌+◌, ◌<◌, ◌≤◌, ◌==◌, ◌&&◌, ◌||◌, List, [], ◌∷◌, ◌++◌, length, min, max, Bool, true, false, cond, nat_le, count_by, refl, sym, ap, ◌∙◌, arith, slice_index, slice_set, get_or, get_or-set_same, get_or-set_other, inl, inr, ◌⊎◌, IsTrue, true≢false}
use Rattle.std.specs.List.{list_any}
use Rattle.std.proofs.lemmas.Bool.Decides.{nat_tests, eqb_tells, leb_tells}
use Rattle.std.proofs.lemmas.List.{get_or_past}
use Rattle.std.proofs.lemmas.List.Folds.{list_any-append}
use Rattle.std.proofs.lemmas.List.Sums.{sum_by-cons, sum_by-append}
use Rattle.std.proofs.lemmas.Bool.{le-leb, lt-leb}
use Rattle.std.proofs.lemmas.Option.{slice_get-get_or}
use Rattle.vr_types.specs.Group.{others}
use Rattle.vr_types.specs.Site.{Ack}
use Rattle.vr_types.specs.Choice.{IsLargest, has_acknowledged, IsCommitPlace}
use Rattle.vr_types.proofs.ChoosingPlace.{others_are_many, count_by-all, count_by-none}
use Rattle.vr_log.specs.Running.{SumUp}
use Rattle.vr_log.proofs.Others.{others_below, others_below-other, others_below-me}
use Rattle.vr_normal.specs.Support.{has_support}

-- the default doesn't matter where there is an element
pub get_or-any : {X : Type 0} (xs : List X) (i : ℕ) (d e : X) → i < length xs → get_or xs i d ≡ get_or xs i e
get_or-any xs i d e h =
    let a = slice_get-get_or xs i d h in
    let b = slice_get-get_or xs i e h in
    cc

-- elements that a test tells alike count alike
pub count_by-same : {X : Type 0} (p q : X → Bool) (xs : List X) → ((x : X) → p x ≡ q x) → count_by p xs ≡ count_by q xs
count_by-same p q [] e = refl
count_by-same p q (x ∷ xs) e =
    sum_by-cons (λ y. cond (p y) 1 0) x xs ∙ ap (λ b. cond b 1 0 + count_by p xs) (e x) ∙ ap (λ n. cond (q x) 1 0 + n) (count_by-same p q xs e)
    ∙ sym (sum_by-cons (λ y. cond (q y) 1 0) x xs)

-- what the messages say, the numbers say
pub IsLargest-summed : (f me : ℕ) (acked : List ℕ) (acks : List Ack) (place : ℕ) → SumUp acked acks → IsLargest (λ n. IsTrue (has_support f me acked n)) place
    → IsCommitPlace f me acks place
IsLargest-summed f me acked acks place s h = record {
  holds = let e = same place in let t = h.holds in grind (arith, nat_tests, e, t);
  largest = λ n k. let e = same n in h.largest n (grind (arith, nat_tests, e, k));
}
  where
    same : (n : ℕ) → count_by (has_acknowledged acks n) (others f me) ≡ count_by (λ j. nat_le n (slice_index acked j)) (others f me)
    same n = count_by-same _ _ (others f me) (λ j. s j n)

-- one more acknowledgement raises its sender's number
pub SumUp-more : (acked : List ℕ) (acks : List Ack) (from place rows : ℕ) → SumUp acked acks → from < length acked
    → SumUp (slice_set acked from (max (slice_index acked from) (min place rows))) (acks ++ record { from = from; place = place; rows = rows } ∷ [])
SumUp-more acked acks from place rows s within = λ j n.
    ap (λ b. (n == 0) || b) (list_any-append (λ (ack : Ack). (ack.from == j) && nat_le n (min ack.place ack.rows)) acks
    (record { from = from; place = place; rows = rows } ∷ []))
    ∙ regroup (n == 0) (list_any (λ (ack : Ack). (ack.from == j) && nat_le n (min ack.place ack.rows)) acks) ((from == j) && nat_le n (min place rows))
    ∙ ap (λ b. b || ((from == j) && nat_le n (min place rows))) (s j n) ∙ by_site j n (eqb_tells from j)
  where
    regroup : (a b c : Bool) → (a || (b || (c || false))) ≡ ((a || b) || c)
    regroup true b c = refl
    regroup false true c = refl
    regroup false false true = refl
    regroup false false false = refl

    or_max : (n a b : ℕ) → (nat_le n a || nat_le n b) ≡ nat_le n (max a b)
    or_max n a b = grind (arith, nat_tests)

    no_more : (b : Bool) → (b || false) ≡ b
    no_more true = refl
    no_more false = refl

    by_site : (j n : ℕ) → ((from == j) ≡ true) × (from ≡ j) ⊎ ((from == j) ≡ false) × (from ≢ j)
        → (nat_le n (slice_index acked j) || ((from == j) && nat_le n (min place rows)))
        ≡ nat_le n (slice_index (slice_set acked from (max (slice_index acked from) (min place rows))) j)
    by_site j n (inl h) =
        rw (h.0) (rw (← h.1) (or_max n (slice_index acked from) (min place rows) ∙ ap (nat_le n) (sym (get_or-set_same acked from _ 0 within))))
    by_site j n (inr h) = rw (h.0) (no_more (nat_le n (slice_index acked j)) ∙ ap (nat_le n) (sym (get_or-set_other acked from j _ 0 (λ e. h.1 (sym e)))))

-- one more site: it counts, where it isn't this one and its number is at least the place
count_next : (n me place : ℕ) (acked : List ℕ) → n ≢ me
    → count_by (λ j. nat_le place (slice_index acked j)) (others_below (n + 1) me) ≡ count_by (λ j. nat_le place (slice_index acked j))
    (others_below n me) + (cond (nat_le place (slice_index acked n)) 1 0)
count_next n me place acked ne =
    ap (count_by (λ j. nat_le place (slice_index acked j))) (others_below-other n me ne)
    ∙ sum_by-append (λ j. cond (nat_le place (slice_index acked j)) 1 0) (others_below n me) (n ∷ [])
    ∙ ap (λ k. count_by (λ j. nat_le place (slice_index acked j)) (others_below n me) + k)
    (sum_by-cons (λ j. cond (nat_le place (slice_index acked j)) 1 0) n [] ∙ omega arith)

pub count_yes : (n me place : ℕ) (acked : List ℕ) → n ≢ me → place ≤ slice_index acked n
    → count_by (λ j. nat_le place (slice_index acked j)) (others_below (n + 1) me) ≡ count_by (λ j. nat_le place (slice_index acked j)) (others_below n me) + 1
count_yes n me place acked ne h =
    count_next n me place acked ne ∙ ap (λ b. count_by (λ j. nat_le place (slice_index acked j)) (others_below n me) + cond b 1 0)
    (le-leb place (slice_index acked n) h)

pub count_no : (n me place : ℕ) (acked : List ℕ) → n ≢ me → slice_index acked n < place
    → count_by (λ j. nat_le place (slice_index acked j)) (others_below (n + 1) me) ≡ count_by (λ j. nat_le place (slice_index acked j)) (others_below n me)
count_no n me place acked ne h =
    count_next n me place acked ne ∙ ap (λ b. count_by (λ j. nat_le place (slice_index acked j)) (others_below n me) + cond b 1 0)
    (lt-leb place (slice_index acked n) h) ∙ omega arith

pub count_me : (n me place : ℕ) (acked : List ℕ) → n ≡ me
    → count_by (λ j. nat_le place (slice_index acked j)) (others_below (n + 1) me) ≡ count_by (λ j. nat_le place (slice_index acked j)) (others_below n me)
count_me n me place acked e = ap (count_by (λ j. nat_le place (slice_index acked j))) (others_below-me n me e)

-- a bound of all numbers
bound_of : (xs : List ℕ) → (b : ℕ) × ((j : ℕ) → slice_index xs j ≤ b)
bound_of [] = (0, λ j. omega arith)
bound_of (x ∷ xs) = let rest = bound_of xs in (max x rest.0, by_place x rest.0 rest.1)
  where
    by_place : (x b : ℕ) → ((j : ℕ) → slice_index xs j ≤ b) → (j : ℕ) → slice_index (x ∷ xs) j ≤ max x b
    by_place x b h zero = omega arith
    by_place x b h (suc j) = let low = h j in omega arith

-- where nobody stands at n, as many stand above it as at it
none_at : (acked : List ℕ) (n : ℕ) (xs : List ℕ) → list_any (λ j. slice_index acked j == n) xs ≡ false
    → count_by (λ j. nat_le n (slice_index acked j)) xs ≡ count_by (λ j. nat_le (n + 1) (slice_index acked j)) xs
none_at acked n [] e = refl
none_at acked n (x ∷ xs) e =
    sum_by-cons (λ j. cond (nat_le n (slice_index acked j)) 1 0) x xs
    ∙ ap (λ b. cond b 1 0 + count_by (λ j. nat_le n (slice_index acked j)) xs)
    (here (slice_index acked x) (neither (slice_index acked x == n) (list_any (λ j. slice_index acked j == n) xs) e).0)
    ∙ ap (λ k. cond (nat_le (n + 1) (slice_index acked x)) 1 0 + k)
    (none_at acked n xs (neither (slice_index acked x == n) (list_any (λ j. slice_index acked j == n) xs) e).1)
    ∙ sym (sum_by-cons (λ j. cond (nat_le (n + 1) (slice_index acked j)) 1 0) x xs)
  where
    neither : (a b : Bool) → (a || b) ≡ false → (a ≡ false) × (b ≡ false)
    neither true b h = absurd (true≢false h)
    neither false b h = (refl, h)

    here : (a : ℕ) → (a == n) ≡ false → nat_le n a ≡ nat_le (n + 1) a
    here a h = grind (arith, nat_tests, h)

-- one of these stands at n
stands_at : (acked : List ℕ) (n : ℕ) (xs : List ℕ) → list_any (λ j. slice_index acked j == n) xs ≡ true → (j : ℕ) × (slice_index acked j ≡ n)
stands_at acked n [] e = absurd (true≢false (sym e))
stands_at acked n (x ∷ xs) e = by_test (eqb_tells (slice_index acked x) n) e (λ h. stands_at acked n xs h)
  where
    by_test : ((slice_index acked x == n) ≡ true) × (slice_index acked x ≡ n) ⊎ ((slice_index acked x == n) ≡ false) × (slice_index acked x ≢ n)
        → ((slice_index acked x == n) || list_any (λ j. slice_index acked j == n) xs) ≡ true
        → (list_any (λ j. slice_index acked j == n) xs ≡ true → (j : ℕ) × (slice_index acked j ≡ n)) → (j : ℕ) × (slice_index acked j ≡ n)
    by_test (inl h) e rest = (x, h.1)
    by_test (inr h) e rest = rest (ap (λ b. b || list_any (λ j. slice_index acked j == n) xs) (sym h.0) ∙ e)

-- a place with support isn't above all numbers with support
above_all : (f me : ℕ) (acked : List ℕ) (place bound : ℕ) → 1 ≤ f → ((j : ℕ) → slice_index acked j ≤ bound)
    → ((j : ℕ) → has_support f me acked (slice_index acked j) ≡ true → slice_index acked j ≤ place)
    → (gap n : ℕ) → bound < n + gap → place < n → has_support f me acked n ≡ true → ⊥
above_all f me acked place bound some low most zero n far above h =
    let none : count_by (λ j. nat_le n (slice_index acked j)) (others f me) ≡ 0 =
    count_by-none (λ j. nat_le n (slice_index acked j)) (others f me) (λ j. lt-leb n (slice_index acked j) (let l = low j in omega arith)) in
    true≢false (sym h ∙ ap (nat_le f) none ∙ lt-leb f 0 some)
above_all f me acked place bound some low most (suc gap) n far above h =
    by_test (list_any (λ j. slice_index acked j == n) (others f me)) refl
    (λ e. above_all f me acked place bound some low most gap (n + 1) (omega arith) (omega arith)
    (ap (nat_le f) (sym (none_at acked n (others f me) e)) ∙ h))
  where
    by_test : (b : Bool) → list_any (λ j. slice_index acked j == n) (others f me) ≡ b → (list_any (λ j. slice_index acked j == n) (others f me) ≡ false → ⊥) → ⊥
    by_test false e rest = rest e
    by_test true e rest =
        let at = stands_at acked n (others f me) e in
        let up : slice_index acked at.0 ≤ place = most at.0 (ap (has_support f me acked) at.1 ∙ h) in
        let is = at.1 in
        omega arith

-- the largest of the numbers with support is the largest place with support
pub IsLargest-candidate : (f me : ℕ) (acked : List ℕ) (place : ℕ) → 1 ≤ f → has_support f me acked place ≡ true
    → ((j : ℕ) → has_support f me acked (slice_index acked j) ≡ true → slice_index acked j ≤ place) → IsLargest (λ n. IsTrue (has_support f me acked n)) place
IsLargest-candidate f me acked place some here most = record {
  holds = grind (arith, nat_tests, here);
  largest = λ n t.
      let bound = bound_of acked in
      let h : has_support f me acked n ≡ true = grind (arith, nat_tests, t) in
      let not_above : place < n → ⊥ = (λ above. above_all f me acked place bound.0 some bound.1 most (bound.0 + 1) n (omega arith) above h) in
      omega arith;
}

-- no rows have support
pub supports_none : (f me : ℕ) (acked : List ℕ) → has_support f me acked 0 ≡ true
supports_none f me acked =
    let all = count_by-all (λ j. nat_le 0 (slice_index acked j)) (others f me) (λ j. le-leb 0 (slice_index acked j) (omega arith)) in
    let many = others_are_many f me in
    le-leb f _ (omega arith)

-- of the first numbers with support this is the greatest
pub record IsBest (f me : ℕ) (acked : List ℕ) (count place : ℕ) : Type 0 where
  pub supported : has_support f me acked place ≡ true
  pub greatest : (j : ℕ) → j < count → has_support f me acked (slice_index acked j) ≡ true → slice_index acked j ≤ place

pub best_none : (f me : ℕ) (acked : List ℕ) → IsBest f me acked 0 0
best_none f me acked = record { supported = supports_none f me acked; greatest = λ j low h. absurd (omega arith) }

pub best_taken : (f me : ℕ) (acked : List ℕ) (i place : ℕ) → IsBest f me acked i place → has_support f me acked (slice_index acked i) ≡ true
    → place < slice_index acked i → IsBest f me acked (i + 1) (slice_index acked i)
best_taken f me acked i place best h above = record {
  supported = h;
  greatest = below_more _ i (λ j low s. let under = best.greatest j low s in omega arith) (λ s. omega arith);
}

pub best_kept : (f me : ℕ) (acked : List ℕ) (i place : ℕ) → IsBest f me acked i place
    → (has_support f me acked (slice_index acked i) ≡ true → slice_index acked i ≤ place) → IsBest f me acked (i + 1) place
best_kept f me acked i place best h = record { supported = best.supported; greatest = below_more _ i best.greatest h }

pub best_is_largest : (f me : ℕ) (acked : List ℕ) (place : ℕ) → 1 ≤ f → IsBest f me acked (length acked) place
    → IsLargest (λ n. IsTrue (has_support f me acked n)) place
best_is_largest f me acked place some best = IsLargest-candidate f me acked place some best.supported (λ j s. by_place j s (leb_tells (length acked) j))
  where
    by_place : (j : ℕ) → has_support f me acked (slice_index acked j) ≡ true
        → ((nat_le (length acked) j ≡ true) × (length acked ≤ j)) ⊎ ((nat_le (length acked) j ≡ false) × (j < length acked)) → slice_index acked j ≤ place
    by_place j s (inl p) = let past = get_or_past acked j 0 p.1 in omega arith
    by_place j s (inr p) = best.greatest j p.1 s
