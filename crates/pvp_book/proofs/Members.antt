-- Sums over all members.
use Rattle.std.proofs.Common.{◌≡◌, ℕ, suc, zero, ◌+◌, ◌≤◌, ◌<◌, Bool, true, false, List, [], ◌∷◌, length, arith, refl, ap, sym, ◌∙◌, sum_by, ◌⊎◌, inl, inr}
use Rattle.std.specs.Prelude.{◌&&◌, ◌==◌, if◌then◌else◌}
use Rattle.std.proofs.lemmas.Bool.{and_parts, leb-true, ne_eqb, eq-eqb, cases_eq}
use Rattle.std.proofs.lemmas.List.Sums.{sum_by-cons}
use Rattle.pvp_types.specs.declared.setup.Setup.{Setup}
use Rattle.pvp_book.specs.Answer.{has_member}

-- the sum of a function at 1, 2, .. n
unfoldable pub upto : (ℕ → ℕ) → ℕ → ℕ
upto f zero = 0
upto f (suc n) = upto f n + f (suc n)

pub upto-add : (f g : ℕ → ℕ) (n : ℕ) → upto (λ m. f m + g m) n ≡ upto f n + upto g n
unfolding upto
upto-add f g zero = refl
upto-add f g (suc n) = let rest = upto-add f g n in omega arith

pub upto-none : (n : ℕ) → upto (λ _. 0) n ≡ 0
unfolding upto
upto-none zero = refl
upto-none (suc n) = let rest = upto-none n in omega arith

pub upto-same : (f g : ℕ → ℕ) (n : ℕ) → ((m : ℕ) → f m ≡ g m) → upto f n ≡ upto g n
unfolding upto
upto-same f g zero same = refl
upto-same f g (suc n) same = let rest = upto-same f g n same in let here = same (suc n) in omega arith

-- an amount that stands at one number
pick-past : (k amt : ℕ) (b : Bool) (n : ℕ) → n < k → upto (λ m. if (k == m) && b then amt else 0) n ≡ 0
unfolding upto
pick-past k amt b zero past = refl
pick-past k amt b (suc n) past =
    let rest = pick-past k amt b n (omega arith) in
    let here = ap (λ e. if e && b then amt else 0) (ne_eqb k (suc n) (λ same. absurd (omega arith))) in
    omega arith

pub pick : (k amt : ℕ) (b : Bool) (n : ℕ) → 1 ≤ k → k ≤ n → upto (λ m. if (k == m) && b then amt else 0) n ≡ (if b then amt else 0)
unfolding upto
pick k amt b zero low high = absurd (omega arith)
pick k amt b (suc n) low high = by (cases_eq (suc n) k) (λ within. pick k amt b n low within)
  where
    by : (suc n ≡ k) ⊎ (suc n ≡ k → ⊥) → (k ≤ n → upto (λ m. if (k == m) && b then amt else 0) n ≡ (if b then amt else 0))
        → upto (λ m. if (k == m) && b then amt else 0) n + (if (k == suc n) && b then amt else 0) ≡ (if b then amt else 0)
    by (inl last) more =
        let before = pick-past k amt b n (omega arith) in
        let here = ap (λ e. if e && b then amt else 0) (eq-eqb k (suc n) (sym last)) in
        omega arith
    by (inr other) more =
        let past = ap (λ e. if e && b then amt else 0) (ne_eqb k (suc n) (λ same. other (sym same))) in
        let before = more (omega (arith, other)) in
        omega arith

pub is-member : (setup : Setup) (m : ℕ) → has_member setup m ≡ true → (1 ≤ m) × (m ≤ length setup.members)
is-member setup m is = let both = and_parts _ _ is in (leb-true 1 m both.0, leb-true m (length setup.members) both.1)

-- sums in either order
pub upto-sum : {X : Type 0} (f : ℕ → X → ℕ) (xs : List X) (n : ℕ) → upto (λ m. sum_by (f m) xs) n ≡ sum_by (λ x. upto (λ m. f m x) n) xs
upto-sum f [] n = upto-none n
upto-sum f (x ∷ xs) n =
    let each = upto-same (λ m. sum_by (f m) (x ∷ xs)) (λ m. f m x + sum_by (f m) xs) n (λ m. sum_by-cons (f m) x xs) in
    let both = upto-add (λ m. f m x) (λ m. sum_by (f m) xs) n in
    let rest = upto-sum f xs n in
    let all = sum_by-cons (λ y. upto (λ m. f m y) n) x xs in
    omega arith

-- the same, of any number
pub pick-one : (k amt n : ℕ) → 1 ≤ k → k ≤ n → upto (λ m. if k == m then amt else 0) n ≡ amt
pick-one k amt n low high =
    upto-same (λ m. if k == m then amt else 0) (λ m. if (k == m) && true then amt else 0) n (λ m. by (k == m)) ∙ pick k amt true n low high
  where
    by : (b : Bool) → (if b then amt else 0) ≡ (if b && true then amt else 0)
    by true = refl
    by false = refl
