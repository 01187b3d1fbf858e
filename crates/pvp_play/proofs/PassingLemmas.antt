-- The envelopes that the cursor passed, one after another, and those of them that a cut held back.
use Rattle.std.proofs.Common.{◌≡◌, ◌≢◌, ℕ, zero, suc, ◌+◌, ◌-◌, ◌<◌, ◌≤◌, Bool, true, false, if◌then◌else◌, List, [], ◌∷◌, ◌++◌, sym, ap, ◌∙◌, subst, arith, append-nil}
use Rattle.std.specs.Prelude.{filter}
use Rattle.std.specs.List.{range_with_len}
use Rattle.std.proofs.lemmas.List.Elements.{filter-append}
use Rattle.pvp_play.specs.Passing.{passed_numbers}

-- the numbers from one on, and one more
range-more : (a n j : ℕ) → a + n ≡ j → range_with_len a (suc n) ≡ range_with_len a n ++ j ∷ []
range-more a zero j is = ap (λ k. k ∷ []) (omega arith)
range-more a (suc n) j is = ap (λ ks. a ∷ ks) (range-more (a + 1) n j (omega arith))

passed-more : (from place : ℕ) → from ≤ place → passed_numbers from (place + 1) ≡ passed_numbers from place ++ (place + 1) ∷ []
passed-more from place low =
    let size : place + 1 - from ≡ suc (place - from) = omega (arith, low) in
    ap (λ n. range_with_len (from + 1) n) size ∙ range-more (from + 1) (place - from) (place + 1) (omega (arith, low))

-- of a list that has an element where a test is so
no-first : (b : Bool) (x : ℕ) (xs : List ℕ) → b ≡ true → (if b then x ∷ xs else xs) ≢ []
no-first true x xs is none = cc
no-first false x xs is none = cc

no-rest : (b : Bool) (x : ℕ) (xs : List ℕ) → (if b then x ∷ xs else xs) ≡ [] → xs ≡ []
no-rest true x xs none = cc
no-rest false x xs none = none

some-held : (held : ℕ → Bool) (a n k j : ℕ) → k < n → a + k ≡ j → held j ≡ true → filter held (range_with_len a n) ≢ []
some-held held a zero k j within at is none = absurd (omega arith)
some-held held a (suc n) zero j within at is none =
    let here : j ≡ a = omega (arith, at) in
    no-first (held a) a (filter held (range_with_len (a + 1) n)) (subst (λ (i : ℕ). held i ≡ true) here is) none
some-held held a (suc n) (suc k) j within at is none =
    some-held held (a + 1) n k j (omega (arith, within)) (omega (arith, at)) is (no-rest (held a) a (filter held (range_with_len (a + 1) n)) none)

module _ (held : ℕ → Bool) (from : ℕ) where
  -- those that are held, up to a place
  abbrev pub held_up_to : ℕ → List ℕ
  held_up_to place = filter held (passed_numbers from place)

  pub held-none : held_up_to from ≡ []
  held-none = let none : from - from ≡ 0 = omega arith in ap (λ n. filter held (range_with_len (from + 1) n)) none

  next : (place : ℕ) → from ≤ place → held_up_to (place + 1) ≡ held_up_to place ++ (if held (place + 1) then (place + 1) ∷ [] else [])
  next place low = ap (filter held) (passed-more from place low) ∙ filter-append held (passed_numbers from place) ((place + 1) ∷ [])

  -- the next one is held
  pub held-more : (place : ℕ) (numbers more : List ℕ) → from ≤ place → held (place + 1) ≡ true → more ≡ numbers ++ (place + 1) ∷ []
      → numbers ≡ held_up_to place → more ≡ held_up_to (place + 1)
  held-more place numbers more low is pushed before =
      pushed ∙ ap (λ ns. ns ++ (place + 1) ∷ []) before
      ∙ ap (λ (b : Bool). held_up_to place ++ (if b then (place + 1) ∷ [] else [])) (sym is) ∙ sym (next place low)

  -- it is not
  pub held-same : (place : ℕ) (numbers : List ℕ) → from ≤ place → held (place + 1) ≡ false → numbers ≡ held_up_to place → numbers ≡ held_up_to (place + 1)
  held-same place numbers low is before =
      before ∙ sym (append-nil (held_up_to place))
      ∙ ap (λ (b : Bool). held_up_to place ++ (if b then (place + 1) ∷ [] else [])) (sym is) ∙ sym (next place low)

  -- one of them is
  pub held-some : (place end : ℕ) → from ≤ place → place < end → held (place + 1) ≡ true → held_up_to end ≢ []
  held-some place end low high is = some-held held (from + 1) (end - from) (place - from) (place + 1) (omega (arith, low, high)) (omega (arith, low)) is

  -- those up to the same place
  pub held-all : (place end : ℕ) → place - from ≡ end - from → held_up_to place ≡ held_up_to end
  held-all place end same = ap (λ n. filter held (range_with_len (from + 1) n)) same
