-- Where the reader of lines fails at a byte, one is found.
use Rattle.std.proofs.Common.{◌≡◌, ◌≤◌, ℕ, Bool, true, false, not, List, [], ◌∷◌, length, Option, Some, None, Result, Ok, Err, refl, arith, inl, inr}
use Rattle.std.specs.Prelude.{nat_lt, if◌then◌else◌}
use Rattle.std.specs.List.{list_all, position_or_len}
use Rattle.std.proofs.lemmas.Bool.{cases_Bool, ltb-false}
use Rattle.pvp_types.specs.declared.setup.Setup.{Setup}
use Rattle.pvp_text.specs.declared.script.Kind.{Kind}
use Rattle.pvp_text.specs.declared.script.LineCode.{LineCode}
use Rattle.pvp_text.specs.declared.script.LineCode.TheVariants.{Byte, LineLength}
use Rattle.pvp_text.specs.Reading.{◌>>=◌}
use Rattle.pvp_text.specs.ScriptWords.{words}
use Rattle.pvp_text.specs.Script.{is_printable, is_skipped, statement_at, line_at}
use Rattle.pvp_text.specs.declared.script.table.Field.{Field}
use Rattle.pvp_text.specs.ScriptTable.{form_of, form_fields}
use Rattle.pvp_codes.specs.Broken.{breaks, first_broken}
use Rattle.pvp_codes.specs.Finding.{FindsAByte}
use Rattle.pvp_codes.proofs.Finding.{not_so, statement_fine}

-- where no byte is found, each is a printed character
all_printed : (line : List ℕ) → length line ≤ position_or_len (λ byte. not (is_printable byte)) line → list_all is_printable line ≡ true
all_printed [] past = refl
all_printed (b ∷ bs) past =
    elim (cases_Bool (is_printable b)) [
      | inl printed ↦ let later = rw printed at past in rw printed (all_printed bs (omega (arith, later)))
      | inr unprinted ↦ let here = rw unprinted at past in absurd (omega (arith, here))
    ]

-- no word breaks the rule of bytes
none_breaks : (kind : Kind) (setup : Setup) (form : List Field) (said : List (List ℕ)) → first_broken (breaks Byte kind setup) form said ≡ None
none_breaks kind setup (field ∷ form) (word ∷ said) = none_breaks kind setup form said
none_breaks kind setup _ _ = refl

no_words : (kind : Kind) (setup : Setup) → statement_at kind setup [] ≡ Err Byte → ⊥
unfolding statement_at
no_words kind setup fails = absurd cc

-- so the reader of words never answers that code
never : (kind : Kind) (setup : Setup) (said : List (List ℕ)) → statement_at kind setup said ≡ Err Byte → ⊥
never kind setup [] fails = no_words kind setup fails
never kind setup (first ∷ rest) fails =
    not_so Byte (statement_at kind setup (first ∷ rest))
    (statement_fine Byte kind setup first rest (λ same. absurd cc) (none_breaks kind setup (form_fields (form_of (first ∷ rest))) (first ∷ rest))) fails

not_kept : {A : Type 0} (read : Result A LineCode) → (read ≡ Err Byte → ⊥) → (read >>= λ x. Ok (Some x)) ≡ Err Byte → ⊥
not_kept (Ok x) never fails = absurd cc
not_kept (Err code) never fails = never cc

-- ---- a line

past : (place size : ℕ) → (if nat_lt place size then Some place else None) ≡ None → size ≤ place
past place size none =
    elim (cases_Bool (nat_lt place size)) [
      | inl within ↦ let bad = rw within at none in absurd cc
      | inr beyond ↦ ltb-false place size beyond
    ]

by_tests : {A : Type 0} (skipped long printed : Bool) (read : Result (Option A) LineCode) → printed ≡ true → (read ≡ Err Byte → ⊥)
    → (if skipped then Ok None else if long then Err LineLength else if not printed then Err Byte else read) ≡ Err Byte → ⊥
by_tests true long printed read is never fails = absurd cc
by_tests false true printed read is never fails = absurd cc
by_tests false false true read is never fails = never fails
by_tests false false false read is never fails = absurd cc

pub finds_a_byte : FindsAByte
unfolding line_at
finds_a_byte kind setup line fails none =
    by_tests (is_skipped line) (nat_lt 256 (length line)) (list_all is_printable line)
    (statement_at kind setup (words line) >>= λ statement. Ok (Some statement))
    (all_printed line (past (position_or_len (λ byte. not (is_printable byte)) line) (length line) none))
    (not_kept (statement_at kind setup (words line)) (never kind setup (words line))) fails
