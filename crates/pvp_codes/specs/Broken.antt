-- Which word of a script's line breaks the rule of the line's fault, and why.
use Rattle.std.specs.Prelude.{ℕ, List, [], ◌∷◌, ◌++◌, Option, Some, None, Result, Ok, Err, codes, if◌then◌else◌}
use Rattle.pvp_types.specs.declared.setup.Setup.{Setup}
use Rattle.pvp_text.specs.declared.script.Kind.{Kind}
use Rattle.pvp_text.specs.declared.script.LineCode.{LineCode}
use Rattle.pvp_text.specs.declared.script.LineCode.TheVariants as line
use Rattle.pvp_text.specs.ScriptFields.{value_at, is_of_name, word_fault_text}
use Rattle.pvp_text.specs.declared.script.fields.Value.{Value}
use Rattle.pvp_text.specs.declared.script.fields.WordFault.{WordFault}
use Rattle.pvp_text.specs.declared.script.table.Field.{Field}
use Rattle.pvp_text.specs.declared.script.table.Field.TheVariants.{First, Command}
use Rattle.pvp_text.specs.declared.script.table.Kinds.{Kinds}
use Rattle.pvp_text.specs.declared.script.table.Word.{Word}
use Rattle.pvp_text.specs.ScriptTable.{text_of, kinds_of, has, firsts, commands, find_word, kind_text, kinds_text}
use Rattle.pvp_codes.specs.Near.{near_word}
use Rattle.pvp_codes.specs.declared.broken.Breach.{Breach}
use Rattle.pvp_codes.specs.declared.broken.Breach.TheVariants.{BeginsNoLine, OtherKind, NoCommand, Wrong}

-- ---- a word that is unknown

-- a word that begins lines, but of other kinds of script
abbrev pub other_kind : Kinds → Kind → Option Breach
other_kind kinds kind = if has kinds kind then None else Some (OtherKind kinds kind)

-- a first word, given which begins lines and which may have been meant
abbrev pub unknown_first : Kind → Option Word → Option Word → Option Breach
unknown_first kind (Some known) near = other_kind (kinds_of known) kind
unknown_first kind None near = Some (BeginsNoLine near)

-- a command likewise
abbrev pub unknown_command : Option Word → Option Word → Option Breach
unknown_command (Some known) near = None
unknown_command None near = Some (NoCommand near)

abbrev pub unknown_word : Kind → Field → List ℕ → Option Breach
unknown_word kind First word = unknown_first kind (find_word word firsts) (near_word word firsts)
unknown_word kind Command word = unknown_command (find_word word commands) (near_word word commands)
unknown_word kind _ word = None

-- ---- a word that may not stand in its form

-- a malformed number, or one too large
abbrev pub number_fault : Result Value WordFault → Option Breach
number_fault (Ok value) = None
number_fault (Err fault) = if is_of_name fault then None else Some (Wrong fault)

-- a name that nothing has which may stand there
abbrev pub name_fault : Result Value WordFault → Option Breach
name_fault (Ok value) = None
name_fault (Err fault) = if is_of_name fault then Some (Wrong fault) else None

-- ---- the first word that breaks the rule

-- why a word breaks the rule of a code where it stands
abbrev pub breaks : LineCode → Kind → Setup → Field → List ℕ → Option Breach
breaks line.UnknownWord kind setup field word = unknown_word kind field word
breaks line.Number kind setup field word = number_fault (value_at kind setup field word)
breaks line.UnknownName kind setup field word = name_fault (value_at kind setup field word)
breaks _ kind setup field word = None

-- this word, or else what comes later
abbrev pub this_or : List ℕ → Option Breach → Option (List ℕ × Breach) → Option (List ℕ × Breach)
this_or word (Some why) later = Some (word, why)
this_or word None later = later

-- THE FIRST WORD from the left that breaks a rule, and why
abbrev pub first_broken : (Field → List ℕ → Option Breach) → List Field → List (List ℕ) → Option (List ℕ × Breach)
first_broken breaks (field ∷ fields) (word ∷ words) =
    this_or word (breaks field word) (first_broken breaks fields words)
first_broken breaks _ _ = None

-- ---- in words

-- the word that may have been meant
abbrev pub near_text : Option Word → List ℕ
near_text None = []
near_text (Some known) = codes ": did you mean " ++ text_of known ++ codes "?"

abbrev pub why_text : Breach → List ℕ
why_text (BeginsNoLine near) = codes "begins no line of such a script" ++ near_text near
why_text (OtherKind kinds kind) = codes "is a line of " ++ kinds_text kinds ++ codes ", not of " ++ kind_text kind
why_text (NoCommand near) = codes "is no command" ++ near_text near
why_text (Wrong fault) = word_fault_text fault
