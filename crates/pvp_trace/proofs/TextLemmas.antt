-- A text that grows by one word after another.
use Rattle.std.proofs.Common.{◌≡◌, ℕ, zero, suc, ◌+◌, ◌≤◌, List, [], ◌∷◌, ◌++◌, length, take, Result, Ok, Err, OnOk, sym, ap, ◌∙◌, append_assoc, arith}
use Rattle.std.specs.Prelude.{is_ok, if◌then◌else◌}
use Rattle.std.specs.List.{flat_map, range_with_len}
use Rattle.std.proofs.lemmas.Grind.{flat_map-append}
use Rattle.std.proofs.lemmas.List.{append-nil, take_all}

-- one word more was written after those before it
pub word-more : (new old start before word : List ℕ) → new ≡ old ++ word → old ≡ start ++ before → new ≡ start ++ (before ++ word)
word-more new old start before word written was = written ∙ ap (λ t. t ++ word) was ∙ append_assoc start before word

-- and the last of them, where there was memory for it
pub last-word : {T E : Type 0} (result : Result T E) (new old start before word : List ℕ)
    → new ≡ (if is_ok result then old ++ word else old) → old ≡ start ++ before
    → OnOk result (new ≡ start ++ (before ++ word))
last-word (Ok done) new old start before word written was = word-more new old start before word written was
last-word (Err fault) new old start before word written was = tt

module _ {A : Type 0} (word : A → List ℕ) (head : List ℕ) (xs : List A) where
  -- what was written with the words of the first n
  abbrev pub so_far : ℕ → List ℕ
  so_far n = head ++ flat_map word (take n xs)

  -- one word more was written
  pub one-more : (new old start : List ℕ) (n : ℕ) (x : A) → take (n + 1) xs ≡ take n xs ++ x ∷ []
      → new ≡ old ++ word x → old ≡ start ++ so_far n → new ≡ start ++ so_far (n + 1)
  one-more new old start n x next written before =
      written ∙ ap (λ t. t ++ word x) before ∙ append_assoc start (so_far n) (word x)
      ∙ ap (λ t. start ++ t) (append_assoc head (flat_map word (take n xs)) (word x)
      ∙ ap (λ t. head ++ t) (ap (λ t. flat_map word (take n xs) ++ t) (sym (append-nil (word x)))
      ∙ sym (flat_map-append word (take n xs) (x ∷ [])) ∙ ap (flat_map word) (sym next)))

  -- all words were
  pub all-written : (new start : List ℕ) (n : ℕ) → length xs ≤ n → new ≡ start ++ so_far n → new ≡ start ++ (head ++ flat_map word xs)
  all-written new start n all before = before ∙ ap (λ ys. start ++ (head ++ flat_map word ys)) (take_all n xs all)

-- the numbers from one on, one more
numbers-more : (from n : ℕ) → range_with_len from (suc n) ≡ range_with_len from n ++ (from + n) ∷ []
numbers-more from zero = ap (λ k. k ∷ []) (omega arith)
numbers-more from (suc n) = ap (λ t. from ∷ t) (numbers-more (from + 1) n ∙ ap (λ k. range_with_len (from + 1) n ++ k ∷ []) (omega arith))

module _ (word : ℕ → List ℕ) (first : ℕ) where
  -- what was written with the words of so many numbers
  abbrev pub with_numbers : ℕ → List ℕ
  with_numbers n = flat_map word (range_with_len first n)

  -- one word more was written
  pub one_number-more : (new old start : List ℕ) (n m : ℕ) → m ≡ suc n → new ≡ old ++ word (first + n) → old ≡ start ++ with_numbers n
      → new ≡ start ++ with_numbers m
  one_number-more new old start n m next written before =
      written ∙ ap (λ t. t ++ word (first + n)) before ∙ append_assoc start (with_numbers n) (word (first + n))
      ∙ ap (λ t. start ++ t) (ap (λ t. with_numbers n ++ t) (sym (append-nil (word (first + n))))
      ∙ sym (flat_map-append word (range_with_len first n) ((first + n) ∷ []))
      ∙ ap (flat_map word) (sym (numbers-more first n) ∙ ap (range_with_len first) (sym next)))
