-- Counts over the sites of a group.
use Rattle.std.proofs.Common.{◌≡◌, ◌≢◌, ◌⊎◌, inl, inr, ℕ, zero, suc, ◌+◌, ◌*◌, ◌<◌, ◌≤◌, Bool, true, false, not, ◌==◌, cond, List, [], ◌∷◌, count_by, refl, sym, ap, ◌∙◌, subst, arith, true≢false}
use Rattle.std.specs.Prelude.{Contains}
use Rattle.std.specs.List.{range_with_len, filter}
use Rattle.std.proofs.lemmas.List.Sums.{sum_by-cons}
use Rattle.vr_types.specs.Group.{sites, others}
use Rattle.vr_types.proofs.ChoosingPick.{Contains-here, Contains-there, Contains-cases, Contains-none}
use Rattle.agreement.proofs.Tests.{ne_of}

pub in_range : (a n j : ℕ) → a ≤ j → j < a + n → Contains (range_with_len a n) j
in_range a zero j low high = absurd (omega arith)
in_range a (suc n) j low high = by_place (j == a) refl (λ d. in_range (a + 1) n j (omega arith) (omega arith))
  where
    by_place : (b : Bool) → (j == a) ≡ b → (j ≢ a → Contains (range_with_len (a + 1) n) j) → Contains (a ∷ range_with_len (a + 1) n) j
    by_place true e rest =
        subst (λ (k : ℕ). Contains (a ∷ range_with_len (a + 1) n) k) (let d : a ≡ j = grind (arith, e) in d) (Contains-here a (range_with_len (a + 1) n))
    by_place false e rest = Contains-there a j (range_with_len (a + 1) n) (rest (ne_of j a e))

-- each number below 2f+1 is a site's
pub has_site : (f j : ℕ) → j < 2 * f + 1 → Contains (sites f) j
has_site f j small = in_range 0 (2 * f + 1) j (omega arith) (omega arith)

counted : (p : ℕ → Bool) (x : ℕ) (xs : List ℕ) → count_by p (x ∷ xs) ≡ cond (p x) 1 0 + count_by p xs
counted p x xs = sum_by-cons (λ y. cond (p y) 1 0) x xs

-- where none of a range passes
none_from : (p : ℕ → Bool) (a n : ℕ) → ((j : ℕ) → a ≤ j → p j ≡ false) → count_by p (range_with_len a n) ≡ 0
none_from p a zero none = refl
none_from p a (suc n) none =
    let e = counted p a (range_with_len (a + 1) n) in
    let h : cond {A = ℕ} (p a) 1 0 ≡ 0 = ap (λ (b : Bool). cond {A = ℕ} b 1 0) (none a (omega arith)) in
    let r = none_from p (a + 1) n (λ j low. none j (omega arith)) in
    omega arith

-- where one alone may pass, at most one does
one_from : (p : ℕ → Bool) (i a n : ℕ) → ((j : ℕ) → p j ≡ true → j ≡ i) → count_by p (range_with_len a n) ≤ 1
one_from p i a zero one = omega arith
one_from p i a (suc n) one = by_test (p a) refl (one_from p i (a + 1) n one)
  where
    e : count_by p (a ∷ range_with_len (a + 1) n) ≡ cond (p a) 1 0 + count_by p (range_with_len (a + 1) n)
    e = counted p a (range_with_len (a + 1) n)

    later : p a ≡ true → (j : ℕ) → a + 1 ≤ j → (b : Bool) → p j ≡ b → b ≡ false
    later here j low false d = refl
    later here j low true d = absurd (let x = one a here in let y = one j d in omega arith)

    by_test : (b : Bool) → p a ≡ b → count_by p (range_with_len (a + 1) n) ≤ 1 → count_by p (a ∷ range_with_len (a + 1) n) ≤ 1
    by_test true d ih =
        let h : cond {A = ℕ} (p a) 1 0 ≡ 1 = ap (λ (b : Bool). cond {A = ℕ} b 1 0) d in
        let r = none_from p (a + 1) n (λ j low. later d j low (p j) refl) in
        let s = e in omega arith
    by_test false d ih =
        let h : cond {A = ℕ} (p a) 1 0 ≡ 0 = ap (λ (b : Bool). cond {A = ℕ} b 1 0) d in
        let s = e in omega arith

pub one_at_most : (f i : ℕ) (p : ℕ → Bool) → ((j : ℕ) → p j ≡ true → j ≡ i) → count_by p (sites f) ≤ 1
one_at_most f i p one = one_from p i 0 (2 * f + 1) one

-- of those that pass, all but one are others
others_from : (p q : ℕ → Bool) (me : ℕ) (xs : List ℕ) → ((j : ℕ) → j ≢ me → p j ≡ true → q j ≡ true)
    → count_by p xs ≤ count_by (λ j. j == me) xs + count_by q (filter (λ j. not (j == me)) xs)
others_from p q me [] more = omega arith
others_from p q me (x ∷ xs) more = by_test (x == me) (p x) (q x) refl refl refl (others_from p q me xs more)
  where
    ep : count_by p (x ∷ xs) ≡ cond (p x) 1 0 + count_by p xs
    ep = counted p x xs

    em : count_by (λ j. j == me) (x ∷ xs) ≡ cond (x == me) 1 0 + count_by (λ j. j == me) xs
    em = counted (λ j. j == me) x xs

    at_most : (b : Bool) → cond b 1 0 ≤ 1
    at_most true = omega arith
    at_most false = omega arith

    by_test : (t b c : Bool) → (x == me) ≡ t → p x ≡ b → q x ≡ c → count_by p xs ≤ count_by (λ j. j == me) xs + count_by q (filter (λ j. not (j == me)) xs)
        → count_by p (x ∷ xs) ≤ count_by (λ j. j == me) (x ∷ xs) + count_by q
        (cond (not (x == me)) (x ∷ filter (λ j. not (j == me)) xs) (filter (λ j. not (j == me)) xs))
    by_test true b c t d e i =
        let a : cond {A = ℕ} (x == me) 1 0 ≡ 1 = ap (λ (u : Bool). cond {A = ℕ} u 1 0) t in
        let same : count_by q (cond (not (x == me)) (x ∷ filter (λ j. not (j == me)) xs) (filter (λ j. not (j == me)) xs))
        ≡ count_by q (filter (λ j. not (j == me)) xs) =
        ap (λ u. count_by q (cond (not u) (x ∷ filter (λ j. not (j == me)) xs) (filter (λ j. not (j == me)) xs))) t in
        let h = at_most (p x) in
        let j = ep in let k = em in omega arith
    by_test false true false t d e i = absurd (true≢false (sym (more x (ne_of x me t) d) ∙ e))
    by_test false true true t d e i =
        let a : cond {A = ℕ} (x == me) 1 0 ≡ 0 = ap (λ (u : Bool). cond {A = ℕ} u 1 0) t in
        let same : count_by q (cond (not (x == me)) (x ∷ filter (λ j. not (j == me)) xs) (filter (λ j. not (j == me)) xs))
        ≡ count_by q (x ∷ filter (λ j. not (j == me)) xs) =
        ap (λ u. count_by q (cond (not u) (x ∷ filter (λ j. not (j == me)) xs) (filter (λ j. not (j == me)) xs))) t in
        let one_p : cond {A = ℕ} (p x) 1 0 ≡ 1 = ap (λ (u : Bool). cond {A = ℕ} u 1 0) d in
        let one_q : cond {A = ℕ} (q x) 1 0 ≡ 1 = ap (λ (u : Bool). cond {A = ℕ} u 1 0) e in
        let cq = counted q x (filter (λ j. not (j == me)) xs) in
        let j = ep in let k = em in omega arith
    by_test false false c t d e i =
        let a : cond {A = ℕ} (x == me) 1 0 ≡ 0 = ap (λ (u : Bool). cond {A = ℕ} u 1 0) t in
        let same : count_by q (cond (not (x == me)) (x ∷ filter (λ j. not (j == me)) xs) (filter (λ j. not (j == me)) xs))
        ≡ count_by q (x ∷ filter (λ j. not (j == me)) xs) =
        ap (λ u. count_by q (cond (not u) (x ∷ filter (λ j. not (j == me)) xs) (filter (λ j. not (j == me)) xs))) t in
        let none_p : cond {A = ℕ} (p x) 1 0 ≡ 0 = ap (λ (u : Bool). cond {A = ℕ} u 1 0) d in
        let cq = counted q x (filter (λ j. not (j == me)) xs) in
        let j = ep in let k = em in omega arith

-- where f+1 sites pass, f others do
pub others_enough : (f me : ℕ) (p q : ℕ → Bool) → f < count_by p (sites f) → ((j : ℕ) → j ≢ me → p j ≡ true → q j ≡ true) → f ≤ count_by q (others f me)
others_enough f me p q many more =
    let a = others_from p q me (sites f) more in
    let b = one_at_most f me (λ j. j == me) (λ j e. grind (arith, e)) in
    omega arith

-- where more pass than there were
more_from : (p q : ℕ → Bool) (xs : List ℕ) → ((j : ℕ) → p j ≡ true → q j ≡ true) → count_by p xs ≤ count_by q xs
more_from p q [] more = omega arith
more_from p q (x ∷ xs) more = by_test (p x) (q x) refl refl (more_from p q xs more)
  where
    by_test : (b c : Bool) → p x ≡ b → q x ≡ c → count_by p xs ≤ count_by q xs → count_by p (x ∷ xs) ≤ count_by q (x ∷ xs)
    by_test true false d e h = absurd (true≢false (sym (more x d) ∙ e))
    by_test true true d e h =
        let cp = counted p x xs in let cq = counted q x xs in
        let a : cond {A = ℕ} (p x) 1 0 ≡ 1 = ap (λ (u : Bool). cond {A = ℕ} u 1 0) d in
        let b : cond {A = ℕ} (q x) 1 0 ≡ 1 = ap (λ (u : Bool). cond {A = ℕ} u 1 0) e in
        omega arith
    by_test false c d e h =
        let cp = counted p x xs in let cq = counted q x xs in
        let a : cond {A = ℕ} (p x) 1 0 ≡ 0 = ap (λ (u : Bool). cond {A = ℕ} u 1 0) d in
        omega arith

pub sites_more : (f : ℕ) (p q : ℕ → Bool) → ((j : ℕ) → p j ≡ true → q j ≡ true) → count_by p (sites f) ≤ count_by q (sites f)
sites_more f p q more = more_from p q (sites f) more

-- where none passes
pub none_counted : (p : ℕ → Bool) (xs : List ℕ) → ((j : ℕ) → p j ≡ false) → count_by p xs ≡ 0
none_counted p [] none = refl
none_counted p (x ∷ xs) none =
    let e = counted p x xs in
    let h : cond {A = ℕ} (p x) 1 0 ≡ 0 = ap (λ (b : Bool). cond {A = ℕ} b 1 0) (none x) in
    let r = none_counted p xs none in
    omega arith

-- the numbers of a range
range_upto : (a n j : ℕ) → Contains (range_with_len a n) j → j < a + n
range_upto a zero j in' = absurd (Contains-none j in')
range_upto a (suc n) j in' = by_place (Contains-cases a j (range_with_len (a + 1) n) in') (range_upto (a + 1) n j)
  where
    by_place : (a ≡ j) ⊎ Contains (range_with_len (a + 1) n) j → (Contains (range_with_len (a + 1) n) j → j < (a + 1) + n) → j < a + suc n
    by_place (inl e) rest = omega arith
    by_place (inr there) rest = let h = rest there in omega arith

pub site_small : (f j : ℕ) → Contains (sites f) j → j < 2 * f + 1
site_small f j in' = let h = range_upto 0 (2 * f + 1) j in' in omega arith

-- where some pass there is one
pub some_counted : (p : ℕ → Bool) (xs : List ℕ) → 0 < count_by p xs → (x : ℕ) × Contains xs x × (p x ≡ true)
some_counted p [] more = absurd (omega arith)
some_counted p (x ∷ xs) more = by_test (p x) refl (λ low. some_counted p xs low)
  where
    by_test : (b : Bool) → p x ≡ b → (0 < count_by p xs → (y : ℕ) × Contains xs y × (p y ≡ true)) → (y : ℕ) × Contains (x ∷ xs) y × (p y ≡ true)
    by_test true e rest = (x, Contains-here x xs, e)
    by_test false e rest =
        let c = counted p x xs in
        let h : cond {A = ℕ} (p x) 1 0 ≡ 0 = ap (λ (b : Bool). cond {A = ℕ} b 1 0) e in
        let r = rest (omega arith) in
        (r.0, Contains-there x r.0 xs r.1, r.2)
