-- What `parse` gives for a word of digits.
use Rattle.std.proofs.Common.{sym, ◌≡◌, ℕ, ◌^◌, ◌<◌, ◌≤◌, Bool, true, false, not, ◌&&◌, ◌||◌, List, length, Result, Ok, Err, refl, arith, rules, inl, inr}
use Rattle.std.specs.Prelude.{IsUtf8}
use Rattle.std.specs.Result.{result_or}
use Rattle.std.specs.declared.num.ParseIntError.{ParseIntError}
use Rattle.std.specs.Char.{is_ascii_digit}
use Rattle.std.specs.List.{list_all}
use Rattle.std.specs.Str.Parse.{ParsesUnsigned, digits_value}
use Rattle.std.proofs.lemmas.Bool.{cases_lt, eqb-false, lt-ltb, le-ltb}
use Rattle.std.proofs.lemmas.Fmt.{IsAscii-from_digits}
use Rattle.std.proofs.lemmas.Str.{IsUtf8-from_ascii}
use Rattle.std.proofs.lemmas.Str.Parse.{IsNumeralModel, numerals_by_value, parse_digits}
use Rattle.pvp_text.specs.declared.script.LineCode.TheVariants.{Number}
use Rattle.pvp_text.specs.ScriptFields.{is_number, number_at}

digits : IsNumeralModel (λ ds. list_all is_ascii_digit ds ≡ true) (digits_value 10)
digits = numerals_by_value _ (search rules)

is_all : (a b : Bool) → (a && b) ≡ true → b ≡ true
is_all true b h = h
is_all false b h = absurd cc

-- digits are text
pub no_text : (word : List ℕ) → is_number word ≡ true → ¬ (IsUtf8 word) → ⊥
no_text word h not_text = not_text (IsUtf8-from_ascii word (IsAscii-from_digits word (digits.to word (is_all _ _ h))))

below : (word : List ℕ) (limit : ℕ) → is_number word ≡ true → digits_value 10 word < limit → number_at limit word ≡ Ok (digits_value 10 word)
below word limit h lt = rw (h, lt-ltb _ _ lt) refl

above : (word : List ℕ) (limit : ℕ) → is_number word ≡ true → limit ≤ digits_value 10 word → number_at limit word ≡ Err Number
above word limit h le = rw (h, le-ltb _ _ le) refl

has_digit : (none padded all : Bool) → (not (none || padded) && all) ≡ true → none ≡ false
has_digit true padded all h = absurd cc
has_digit false padded all h = refl

-- the number that `parse` gives, and where it gives none, the number is too large
pub parsed : (word : List ℕ) (read : Result ℕ ParseIntError) → is_number word ≡ true → ParsesUnsigned 64 10 word read
    → result_or read (Err Number) ≡ number_at (2 ^ 64) word
parsed word (Ok n) h p =
    let g = parse_digits digits {E = ParseIntError} 64 word (Ok n) p (is_all _ _ h) in
    rw g.1 (sym (below word (2 ^ 64) h g.0.1))
parsed word (Err e) h p =
    let some : 0 < length word = omega (arith, eqb-false (length word) 0 (has_digit _ _ _ h)) in
    let g = parse_digits digits {E = ParseIntError} 64 word (Err e) p (is_all _ _ h) in
    elim (cases_lt (digits_value 10 word) (2 ^ 64)) [
      | inl lt ↦ absurd (g (some, lt))
      | inr le ↦ sym (above word (2 ^ 64) h le)
    ]
