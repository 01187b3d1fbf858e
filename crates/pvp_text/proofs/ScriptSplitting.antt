-- A text is its first line and the lines after it, and a line its first word and the words after it.
use Rattle.std.proofs.Common.{◌≡◌, ℕ, suc, ◌+◌, ◌≤◌, Bool, true, false, cond, eqb, not, List, [], ◌∷◌, length, refl, ap, ◌∙◌, arith, inl, inr}
use Rattle.std.specs.Prelude.{filter}
use Rattle.std.specs.List.{onto_first, slice_split, position_or_len, before_first, after_first}
use Rattle.std.proofs.lemmas.Bool.{cases_Bool, cases_lt}
use Rattle.std.proofs.lemmas.List.{take_all, drop_all}
use Rattle.std.proofs.lemmas.List.Splits.{slice_split_first}
use Rattle.pvp_text.specs.ScriptWords.{is_empty, lines, words}

abbrev pub is_byte : ℕ → ℕ → Bool
is_byte byte b = eqb b byte

-- a cut behind the first byte
before_first-cons : (byte b : ℕ) (bs : List ℕ) → eqb b byte ≡ false → before_first (is_byte byte) (b ∷ bs) ≡ b ∷ before_first (is_byte byte) bs
before_first-cons byte b bs is_not =
    let n = position_or_len (is_byte byte) bs in
    let more : 1 + n ≡ suc n = omega arith in
    rw (is_not, more) refl

after_first-cons : (byte b : ℕ) (bs : List ℕ) → eqb b byte ≡ false → after_first (is_byte byte) (b ∷ bs) ≡ after_first (is_byte byte) bs
after_first-cons byte b bs is_not =
    let n = position_or_len (is_byte byte) bs in
    let more : 1 + n + 1 ≡ suc (n + 1) = omega arith in
    rw (is_not, more) refl

-- ---- lines

line_ends : (b : ℕ) (bs : List ℕ) → eqb b 10 ≡ true → lines (b ∷ bs) ≡ before_first (is_byte 10) (b ∷ bs) ∷ lines (after_first (is_byte 10) (b ∷ bs))
line_ends b bs is = rw is refl

line_goes_on : (b : ℕ) (bs : List ℕ) → eqb b 10 ≡ false → onto_first b (lines bs) ≡ (b ∷ before_first (is_byte 10) bs) ∷ lines (after_first (is_byte 10) bs)
    → lines (b ∷ bs) ≡ before_first (is_byte 10) (b ∷ bs) ∷ lines (after_first (is_byte 10) (b ∷ bs))
line_goes_on b bs is_not e = rw (before_first-cons 10 b bs is_not, after_first-cons 10 b bs is_not, is_not) e

pub lines_cut : (b : ℕ) (bs : List ℕ) → lines (b ∷ bs) ≡ before_first (is_byte 10) (b ∷ bs) ∷ lines (after_first (is_byte 10) (b ∷ bs))
lines_cut b [] =
    elim (cases_Bool (eqb b 10)) [
      | inl is ↦ line_ends b [] is
      | inr is_not ↦ line_goes_on b [] is_not refl
    ]
lines_cut b (c ∷ cs) =
    elim (cases_Bool (eqb b 10)) [
      | inl is ↦ line_ends b (c ∷ cs) is
      | inr is_not ↦ line_goes_on b (c ∷ cs) is_not (ap (onto_first b) (lines_cut c cs))
    ]

-- ---- words

-- a word in front, where it is one
abbrev pub with_word : List ℕ → List (List ℕ) → List (List ℕ)
with_word word others = cond (not (is_empty word)) (word ∷ others) others

split_whole : (byte : ℕ) (bs : List ℕ) → length bs ≤ position_or_len (is_byte byte) bs → slice_split (is_byte byte) bs ≡ bs ∷ []
split_whole byte [] le = refl
split_whole byte (b ∷ bs) le =
    elim (cases_Bool (eqb b byte)) [
      | inl is ↦ let none : length (b ∷ bs) ≤ 0 = rw is at le in absurd (omega arith)
      | inr is_not ↦
          let more : length (b ∷ bs) ≤ 1 + position_or_len (is_byte byte) bs = rw is_not at le in
          rw is_not (ap (onto_first b) (split_whole byte bs (omega arith)))
    ]

pub words_cut : (bs : List ℕ) → words bs ≡ with_word (before_first (is_byte 32) bs) (words (after_first (is_byte 32) bs))
words_cut bs =
    let n = position_or_len (is_byte 32) bs in
    elim (cases_lt n (length bs)) [
      | inl lt ↦ ap (filter (λ word. not (is_empty word))) (slice_split_first (is_byte 32) bs 0 lt)
      | inr le ↦
          let before : before_first (is_byte 32) bs ≡ bs = take_all n bs le in
          let after : after_first (is_byte 32) bs ≡ [] = drop_all (n + 1) bs (omega arith) in
          rw (before, after) (ap (filter (λ word. not (is_empty word))) (split_whole 32 bs le))
    ]

-- ---- the same of what a cut gave

pub first_line : (text before after : List ℕ) → eqb (length text) 0 ≡ false → before ≡ before_first (is_byte 10) text → after ≡ after_first (is_byte 10) text
    → lines text ≡ before ∷ lines after
first_line [] before after some _ _ = absurd cc
first_line (b ∷ bs) before after some p q = rw (p, q) (lines_cut b bs)

pub first_word : (line before after : List ℕ) → eqb (length before) 0 ≡ false → before ≡ before_first (is_byte 32) line → after ≡ after_first (is_byte 32) line
    → words line ≡ before ∷ words after
first_word line [] after some _ _ = absurd cc
first_word line (b ∷ bs) after some p q = words_cut line ∙ rw (← p, ← q) refl
