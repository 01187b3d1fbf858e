-- The open orders of a currency: what a search by number finds among them, and what an entry makes of them.
use Rattle.std.proofs.Common.{◌≡◌, ℕ, suc, zero, ◌+◌, ◌<◌, ◌≤◌, Bool, true, false, cond, List, [], ◌∷◌, ◌++◌, length, filter, take, drop, get_or, slice_get, slice_index_or, slice_set, arith, refl, ap, sym, subst, ◌∙◌, ◌^◌, Some, Ok, Err, ◌⊎◌, inl, inr}
use Rattle.std.specs.Prelude.{not, ◌==◌, ◌&&◌}
use Rattle.std.specs.Option.{option_map_or}
use Rattle.std.specs.List.Sorted.{IsBinarySearchResult, IsNonDecreasingBy}
use Rattle.std.specs.Ordering.{nat_cmp, ordering_index}
use Rattle.std.proofs.lemmas.Cmp.{ranked}
use Rattle.std.proofs.lemmas.Bool.{ne_eqb, eq-eqb, cases_eq}
use Rattle.std.proofs.lemmas.Bool.Decides.{nat_tests}
use Rattle.std.proofs.lemmas.List.Sorted.{IsNonDecreasingBy-from_default}
use Rattle.pvp_types.specs.declared.command.PayOrder.{PayOrder}
use Rattle.pvp_book.specs.OrderTable.{AreAscending}

-- a test that all pass leaves all
filter-all : {X : Type 0} (test : X → Bool) (xs : List X) → ((k : ℕ) (d : X) → k < length xs → test (get_or xs k d) ≡ true) → xs ≡ filter test xs
filter-all test [] pass = refl
filter-all test (x ∷ xs) pass =
    ap (λ ys. x ∷ ys) (filter-all test xs (λ k d within. pass (suc k) d (omega arith)))
    ∙ ap (λ b. cond b (x ∷ filter test xs) (filter test xs)) (sym (pass 0 x (omega arith)))

-- one that all but one pass leaves it out
filter-but : {X : Type 0} (test : X → Bool) (xs : List X) (i : ℕ) → i < length xs → ((d : X) → test (get_or xs i d) ≡ false)
    → ((k : ℕ) (d : X) → k < length xs → (k ≡ i → ⊥) → test (get_or xs k d) ≡ true) → take i xs ++ drop (suc i) xs ≡ filter test xs
filter-but test [] i within fails pass = absurd (omega arith)
filter-but test (x ∷ xs) zero within fails pass =
    filter-all test xs (λ k d inside. pass (suc k) d (omega arith) (λ e. omega arith))
    ∙ ap (λ b. cond b (x ∷ filter test xs) (filter test xs)) (sym (fails x))
filter-but test (x ∷ xs) (suc i) within fails pass =
    ap (λ ys. x ∷ ys) (filter-but test xs i (omega arith) fails (λ k d inside other. pass (suc k) d (omega arith) (λ e. other (omega arith))))
    ∙ ap (λ b. cond b (x ∷ filter test xs) (filter test xs)) (sym (pass 0 x (omega arith) (λ e. omega arith)))

pub nobody : PayOrder
nobody = record { ccy = 0; out = 0; member = 0; amt = 0 }

-- a search by number among orders in ascending order
module _ (os : List PayOrder) (n : ℕ) (ascending : AreAscending os) where
  rises : IsNonDecreasingBy (λ (o : PayOrder). ordering_index (nat_cmp o.out n)) os
  rises = IsNonDecreasingBy-from_default (λ (o : PayOrder). ordering_index (nat_cmp o.out n)) os nobody (λ i j le within.
      let up : (get_or os i nobody).out ≤ (get_or os j nobody).out =
      grind (arith, ascending i j nobody, λ (same : i ≡ j). ap (λ k. (get_or os k nobody).out) same) in
      grind (arith, nat_tests))

  other : (k : ℕ) (d : PayOrder) → ((get_or os k d).out ≡ n → ⊥) → not (n == (get_or os k d).out) ≡ true
  other k d differs = ap not (ne_eqb n (get_or os k d).out (λ e. differs (sym e)))

  -- the order that it finds is the only one of that number
  pub found-one : (i : ℕ) → i < length os → IsBinarySearchResult (λ (o : PayOrder). nat_cmp o.out n) os (Ok i)
      → take i os ++ drop (suc i) os ≡ filter (λ (o : PayOrder). not (n == o.out)) os
  found-one i within equal =
      filter-but (λ (o : PayOrder). not (n == o.out)) os i within
      (λ d. ap not (eq-eqb n (get_or os i d).out (sym (ranked (get_or os i d).out n _ (sym (equal d))))))
      (λ k d inside differs. other k d (λ same. let here = ranked (get_or os i d).out n _ (sym (equal d)) in let before = ascending k i d in
      let later = ascending i k d in grind (arith, same, here, before, later)))

  -- where it finds none there is none
  pub found-none : (i : ℕ) → IsBinarySearchResult (λ (o : PayOrder). nat_cmp o.out n) os (Err i) → os ≡ filter (λ (o : PayOrder). not (n == o.out)) os
  found-none i parted =
      filter-all (λ (o : PayOrder). not (n == o.out)) os
      (λ k d within. other k d (λ same. by k d within same))
    where
      by : (k : ℕ) (d : PayOrder) → k < length os → (get_or os k d).out ≡ n → ⊥
      by k d within same =
          let low = λ (lt : k < i). ranked (get_or os k d).out n _ (sym ((parted rises).0 k d (omega arith) lt)) in
          let high = λ (le : i ≤ k). ranked (get_or os k d).out n _ (sym ((parted rises).1 k d le within)) in
          grind (arith, same, low, high)

-- what is read at one place of a list, where one is set
module _ {Q Y : Type 0} (f : Q → Y) (none : Y) where
  at-place : (qs : List Q) (k : ℕ) (d : Q) → k < length qs → option_map_or f (slice_get qs k) none ≡ f (slice_index_or qs k d)
  at-place [] k d within = absurd (omega arith)
  at-place (q ∷ qs) zero d within = refl
  at-place (q ∷ qs) (suc k) d within = at-place qs k d (omega arith)

  at-set-same : (qs : List Q) (k : ℕ) (q : Q) → k < length qs → option_map_or f (slice_get (slice_set qs k q) k) none ≡ f q
  at-set-same [] k q within = absurd (omega arith)
  at-set-same (x ∷ qs) zero q within = refl
  at-set-same (x ∷ qs) (suc k) q within = at-set-same qs k q (omega arith)

  at-set-other : (qs : List Q) (k c : ℕ) (q : Q) → (k ≡ c → ⊥) → option_map_or f (slice_get (slice_set qs k q) c) none ≡ option_map_or f (slice_get qs c) none
  at-set-other (x ∷ qs) zero zero q differs = absurd (differs refl)
  at-set-other (x ∷ qs) (suc k) (suc c) q differs = at-set-other qs k c q (λ e. differs (ap suc e))
  at-set-other _ _ _ q differs = refl

pub queue-here : {Q X : Type 0} (items : Q → List X) (qs : List Q) (k : ℕ) (d : Q) → k < length qs → (c : ℕ) → k ≡ c
    → items (slice_index_or qs k d) ≡ option_map_or items (slice_get qs c) []
queue-here items qs k d within c same = sym (at-place items [] qs k d within) ∙ ap (λ i. option_map_or items (slice_get qs i) []) same

-- lists by currency, once that of one is another: what is so of its list before and after is so of each
pub queues-put : {Q X : Type 0} (items : Q → List X) (R : Bool → List X → List X → Type 0) → ((xs : List X) → R false xs xs)
    → (qs : List Q) (k : ℕ) (q d : Q) → k < length qs → (ccy : ℕ) → k ≡ ccy → R true (items (slice_index_or qs k d)) (items q)
    → (c : ℕ) → R (ccy == c) (option_map_or items (slice_get qs c) []) (option_map_or items (slice_get (slice_set qs k q) c) [])
queues-put {Q} {X} items R still qs k q d within ccy named here c = subst (λ n. R (n == c) (before c) (now c)) named (by (cases_eq k c))
  where
    before : ℕ → List X
    before c = option_map_or items (slice_get qs c) []

    now : ℕ → List X
    now c = option_map_or items (slice_get (slice_set qs k q) c) []

    by : (k ≡ c) ⊎ (k ≡ c → ⊥) → R (k == c) (before c) (now c)
    by (inl same) =
        subst (λ b. R b (before c) (now c)) (sym (eq-eqb k c same))
        (subst (λ xs. R true xs (now c)) (queue-here items qs k d within c same)
        (subst (R true (items (slice_index_or qs k d))) (sym (ap now (sym same) ∙ at-set-same items [] qs k q within)) here))
    by (inr other) =
        subst (λ b. R b (before c) (now c)) (sym (ne_eqb k c other))
        (subst (R false (before c)) (sym (at-set-other items [] qs k c q other)) (still (before c)))

-- the open orders of a currency but the one of a number
abbrev pub AreLess : ℕ → Bool → List PayOrder → List PayOrder → Type 0
AreLess out ends old new = new ≡ filter (λ (o : PayOrder). not (ends && (out == o.out))) old

pub none-less : (out : ℕ) (os : List PayOrder) → AreLess out false os os
none-less out os = filter-all (λ o. true) os (λ j o inside. refl)

-- what is left of a list from a place on
pub drop-next : {X : Type 0} (xs : List X) (i : ℕ) (x : X) → slice_get xs i ≡ Some x → drop i xs ≡ x ∷ drop (i + 1) xs
drop-next [] i x found = absurd (cc found)
drop-next (y ∷ ys) zero x found = let same : y ≡ x = cc in ap (λ z. z ∷ ys) same
drop-next (y ∷ ys) (suc i) x found = let same : suc (i + 1) ≡ suc i + 1 = omega arith in drop-next ys i x found ∙ ap (λ k. x ∷ drop k (y ∷ ys)) same

pub drop-past : {X : Type 0} (xs : List X) (i : ℕ) → length xs ≤ i → drop i xs ≡ []
drop-past [] zero past = refl
drop-past [] (suc i) past = refl
drop-past (x ∷ xs) zero past = absurd (omega arith)
drop-past (x ∷ xs) (suc i) past = drop-past xs i (omega arith)

-- no queue is longer than memory
pub queue-small : {Q : Type 0} (items : Q → List PayOrder) → ((q : Q) → length (items q) < 2 ^ 63) → (qs : List Q) (c : ℕ)
    → length (option_map_or items (slice_get qs c) []) < 2 ^ 63
queue-small items small [] c = omega arith
queue-small items small (q ∷ qs) zero = small q
queue-small items small (q ∷ qs) (suc c) = queue-small items small qs c
