-- What holds of the values of a line's words.
use Rattle.std.specs.Prelude.{◌≡◌, ℕ, Bool, true, false, List, [], ◌∷◌, Ok}
use Rattle.pvp_types.specs.declared.setup.Setup.{Setup}
use Rattle.pvp_text.specs.declared.script.Kind.{Kind}
use Rattle.pvp_text.specs.declared.script.fields.Value.{Value}
use Rattle.pvp_text.specs.declared.script.fields.Value.TheVariants as values
use Rattle.pvp_text.specs.declared.script.table.Field.{Field}
use Rattle.pvp_text.specs.declared.script.table.Field.TheVariants as fields
use Rattle.pvp_text.specs.declared.script.table.Word.{Word}
use Rattle.pvp_text.specs.ScriptTable.{fields_of}
use Rattle.pvp_text.specs.Script.{line_values, statement_of}

-- a value of the kind that a word is to be
abbrev pub is_of : Field → Value → Bool
is_of fields.First values.None = true
is_of fields.Command values.None = true
is_of fields.Amount (values.Amount n) = true
is_of fields.Number (values.Number n) = true
is_of fields.Turns (values.Number n) = true
is_of fields.Sender (values.Actor n) = true
is_of fields.Client (values.Actor n) = true
is_of fields.Currency (values.Currency n) = true
is_of fields.Actor (values.Actor n) = true
is_of fields.Site (values.Actor n) = true
is_of _ _ = false

-- one of each word's kind, in order, and no more
abbrev pub AreOf : List Field → List Value → Type 0
AreOf [] [] = Unit {0}
AreOf (field ∷ fields) (value ∷ values) = (is_of field value ≡ true) × AreOf fields values
AreOf _ _ = ⊥

-- NO VALUE IS MISSING, AND NONE IS OF ANOTHER KIND than the word from which it is read
abbrev pub HaveTheirValues : Type 0
HaveTheirValues =
    (kind : Kind) (setup : Setup) (fields : List Field) (said : List (List ℕ)) (values : List Value)
    → line_values kind setup fields said ≡ Ok values → AreOf fields values

-- NOTHING THAT A LINE SAYS IS LOST: two lines of one form that mean the same have the same values
abbrev pub MeanWhatTheySay : Type 0
MeanWhatTheySay =
    (word : Word) (one other : List Value) → AreOf (fields_of word) one → AreOf (fields_of word) other
    → statement_of word one ≡ statement_of word other → one ≡ other
