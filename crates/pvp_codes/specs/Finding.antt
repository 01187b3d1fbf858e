-- What holds of the word, the byte or the part of a setup that an explanation finds.
use Rattle.std.specs.Prelude.{◌≡◌, ◌≢◌, ℕ, true, List, ◌∷◌, length, Option, Some, None, Ok, Err}
use Rattle.pvp_types.specs.declared.setup.Setup.{Setup}
use Rattle.pvp_types.specs.Setup.{is_among}
use Rattle.pvp_text.specs.declared.script.Kind.{Kind}
use Rattle.pvp_text.specs.declared.script.LineCode.{LineCode}
use Rattle.pvp_text.specs.declared.script.LineCode.TheVariants.{Byte, WordCount}
use Rattle.pvp_text.specs.Script.{statement_at, line_at}
use Rattle.pvp_text.specs.SetupText.{setup_text, parts_where}
use Rattle.pvp_text.specs.declared.setup.TextFault.TheVariants.{BadMember}
use Rattle.pvp_codes.specs.declared.broken.Breach.{Breach}
use Rattle.pvp_text.specs.ScriptTable.{form_of, form_fields}
use Rattle.pvp_codes.specs.Broken.{breaks, first_broken}
use Rattle.pvp_codes.specs.Tree.{wrong_in}
use Rattle.pvp_codes.specs.Explained.{first_unprinted}

-- the word that is found for a code in the words of a line, and why
abbrev pub found_in : LineCode → Kind → Setup → List (List ℕ) → Option (List ℕ × Breach)
found_in code kind setup said = first_broken (breaks code kind setup) (form_fields (form_of said)) said

-- it is one of them
abbrev pub IsAWord : Type 0
IsAWord = (code : LineCode) (kind : Kind) (setup : Setup) (said : List (List ℕ)) (word : List ℕ) (why : Breach)
    → found_in code kind setup said ≡ Some (word, why) → is_among word said ≡ true

-- WHERE THE READER OF LINES FAILS at a word, one is found: of a line with words it answers no code, but that of their
-- count, whose rule no word breaks
abbrev pub FindsWhereItFails : Type 0
FindsWhereItFails = (code : LineCode) (kind : Kind) (setup : Setup) (first : List ℕ) (rest : List (List ℕ))
    → code ≢ WordCount → statement_at kind setup (first ∷ rest) ≡ Err code
    → found_in code kind setup (first ∷ rest) ≢ None

-- WHERE IT FAILS by the count of words, there are more than the form has, or fewer
abbrev pub CountsWhereItFails : Type 0
CountsWhereItFails = (kind : Kind) (setup : Setup) (first : List ℕ) (rest : List (List ℕ))
    → statement_at kind setup (first ∷ rest) ≡ Err WordCount
    → length (first ∷ rest) ≢ length (form_fields (form_of (first ∷ rest)))

-- WHERE IT FAILS by a byte that is no printed character, one is found
abbrev pub FindsAByte : Type 0
FindsAByte = (kind : Kind) (setup : Setup) (line : List ℕ) → line_at kind setup line ≡ Err Byte
    → first_unprinted line ≢ None

-- WHERE THE READER OF SETUPS FAILS at a part that is missing or of the wrong type, one is found
abbrev pub FindsAPart : Type 0
FindsAPart = (bytes : List ℕ) → setup_text bytes ≡ Err BadMember → wrong_in bytes ≢ None

-- where it reads the parts, none is
abbrev pub FindsNoPart : Type 0
FindsNoPart = (bytes : List ℕ) (setup : Setup) → parts_where None bytes ≡ Ok setup → wrong_in bytes ≡ None
