-- How many of the sites a test tells.
use Rattle.std.proofs.Common.{◌≡◌, ℕ, suc, zero, ◌+◌, ◌<◌, ◌≤◌, ◌==◌, ◌&&◌, ◌||◌, Bool, true, false, not, cond, List, [], ◌∷◌, ◌++◌, filter, count_by, refl, sym, ap, ◌∙◌, arith, if◌then◌else◌, eqb→eq, subst}
use Rattle.std.proofs.lemmas.Bool.{ne_eqb}
use Rattle.std.specs.List.{range_with_len}
use Rattle.std.proofs.lemmas.List.Sums.{sum_by-cons, sum_by-append}
use Rattle.vr_types.specs.Group.{sites, others}
use Rattle.vr_log.proofs.Rows.{range_more}

-- one more site
pub count_next : (p : ℕ → Bool) (n : ℕ) (b : Bool) → p n ≡ b → count_by p (range_with_len 0 (n + 1)) ≡ count_by p (range_with_len 0 n) + cond b 1 0
count_next p n b e =
    let last : 0 + n ≡ n = omega arith in
    ap (count_by p) (range_more 0 n ∙ ap (λ k. range_with_len 0 n ++ k ∷ []) last)
    ∙ sum_by-append (λ j. cond (p j) 1 0) (range_with_len 0 n) (n ∷ [])
    ∙ ap (λ k. count_by p (range_with_len 0 n) + k) (sum_by-cons (λ j. cond (p j) 1 0) n [] ∙ zero_more (cond (p n) 1 0) ∙ ap (λ t. cond t 1 0) e)
  where
    zero_more : (k : ℕ) → k + 0 ≡ k
    zero_more k = omega arith

-- of those that a filter leaves
pub count_by-filter : {X : Type 0} (p q : X → Bool) (xs : List X) → count_by p (filter q xs) ≡ count_by (λ x. q x && p x) xs
count_by-filter p q [] = refl
count_by-filter {X} p q (x ∷ xs) = by_test (q x) (count_by-filter p q xs) ∙ sym (sum_by-cons (λ y. cond (q y && p y) 1 0) x xs)
  where
    by_test : (b : Bool) → count_by p (filter q xs) ≡ count_by (λ y. q y && p y) xs
        → count_by p (if b then x ∷ filter q xs else filter q xs) ≡ cond (b && p x) 1 0 + count_by (λ y. q y && p y) xs
    by_test true e = sum_by-cons (λ y. cond (p y) 1 0) x (filter q xs) ∙ ap (λ n. cond (p x) 1 0 + n) e
    by_test false e = e ∙ none_more (count_by (λ y. q y && p y) xs)
      where
        none_more : (n : ℕ) → n ≡ 0 + n
        none_more n = omega arith

pub count_others : (f me : ℕ) (p : ℕ → Bool) → count_by p (others f me) ≡ count_by (λ j. not (j == me) && p j) (sites f)
count_others f me p = count_by-filter p (λ j. not (j == me)) (sites f)

-- tests that tell the same count the same
pub count_same : {X : Type 0} (p q : X → Bool) (xs : List X) → ((x : X) → p x ≡ q x) → count_by p xs ≡ count_by q xs
count_same p q [] e = refl
count_same p q (x ∷ xs) e =
    sum_by-cons (λ y. cond (p y) 1 0) x xs ∙ ap (λ b. cond b 1 0 + count_by p xs) (e x) ∙ ap (λ n. cond (q x) 1 0 + n) (count_same p q xs e)
    ∙ sym (sum_by-cons (λ y. cond (q y) 1 0) x xs)

-- no site above this one is it
none_above : (k a n : ℕ) → k < a → count_by (λ j. (k == j) || false) (range_with_len a n) ≡ 0
none_above k a zero low = refl
none_above k a (suc n) low =
    sum_by-cons (λ j. cond ((k == j) || false) 1 0) a (range_with_len (a + 1) n)
    ∙ ap (λ b. cond (b || false) 1 0 + count_by (λ j. (k == j) || false) (range_with_len (a + 1) n)) (ne_eqb k a (λ e. absurd (omega arith)))
    ∙ ap (λ m. 0 + m) (none_above k (a + 1) n (omega arith))

-- one site is it, or none
pub at_most_one : (k a n : ℕ) → count_by (λ j. (k == j) || false) (range_with_len a n) ≤ 1
at_most_one k a zero = omega arith
at_most_one k a (suc n) =
    subst (λ m. m ≤ 1) (sym (sum_by-cons (λ j. cond ((k == j) || false) 1 0) a (range_with_len (a + 1) n)))
    (by_test (k == a) refl (at_most_one k (a + 1) n))
  where
    by_test : (b : Bool) → (k == a) ≡ b → count_by (λ j. (k == j) || false) (range_with_len (a + 1) n) ≤ 1
        → cond (b || false) 1 0 + count_by (λ j. (k == j) || false) (range_with_len (a + 1) n) ≤ 1
    by_test true e rest =
        let same : k ≡ a = eqb→eq k a (rw e tt) in
        let none = none_above k (a + 1) n (omega arith) in
        omega arith
    by_test false e rest = omega arith
