-- A fault of a setup or of a script in words: the rule, and what broke it.
use Rattle.std.specs.Prelude.{◌≡◌, ℕ, zero, suc, ◌+◌, ◌-◌, ◌==◌, ◌&&◌, Bool, true, false, not, List, [], ◌∷◌, ◌++◌, length, slice_index, position, nat_le, nat_lt, decimal, Option, Some, None, Result, Ok, Err, codes, if◌then◌else◌}
use Rattle.std.specs.List.{list_all, before_first, after_first}
use Rattle.pvp_types.specs.Setup.{is_between}
use Rattle.pvp_types.specs.declared.setup.Setup.{Setup}
use Rattle.pvp_text.specs.ScriptWords.{lines, words}
use Rattle.pvp_text.specs.declared.script.Kind.{Kind}
use Rattle.pvp_types.specs.declared.setup.Currency.{Currency}
use Rattle.pvp_types.specs.declared.setup.Member.{Member}
use Rattle.pvp_types.specs.declared.setup.SetupFault.{SetupFault}
use Rattle.pvp_types.specs.declared.setup.SetupFault.TheVariants.{SiteCount, CurrencyCount, CurrencyCode, Rate, Haircut, MemberCount, MemberName, ListLength, Limit}
use Rattle.pvp_text.specs.SetupText.{parts_where}
use Rattle.pvp_text.specs.declared.setup.TextFault.{TextFault}
use Rattle.pvp_text.specs.declared.setup.TextFault.TheVariants.{BadMember, BadSetup}
use Rattle.pvp_text.specs.declared.script.LineFault.{LineFault}
use Rattle.pvp_text.specs.declared.script.LineCode.{LineCode}
use Rattle.pvp_text.specs.declared.script.LineCode.TheVariants.{Byte, UnknownWord, WordCount, Number, UnknownName, LineLength, LineCount, NoMemory}
use Rattle.pvp_codes.specs.Meanings.{text_meaning, line_meaning}
use Rattle.pvp_text.specs.ScriptTable.{form_of, form_fields}
use Rattle.pvp_codes.specs.Broken.{breaks, first_broken, why_text}
use Rattle.pvp_codes.specs.Tree.{Found, wrong_in, path_told, flaw_text}
use Rattle.pvp_codes.specs.Parts.{currency_fault, member_fault, first_part, part_text}
use Rattle.pvp_codes.specs.declared.parts.PartWhy.{PartWhy}
use Rattle.pvp_text.specs.declared.script.table.Field.{Field}
use Rattle.pvp_codes.specs.declared.broken.Breach.{Breach}

-- the byte that ends a line
abbrev pub is_end : ℕ → Bool
is_end byte = byte == 10

-- what stands after so many lines of a text
abbrev pub after_lines : ℕ → List ℕ → List ℕ
after_lines zero text = text
after_lines (suc n) text = after_first is_end (after_lines n text)

-- the line of a number, counted from 1; nothing where there is none
abbrev pub line_of : ℕ → List ℕ → List ℕ
line_of number text = before_first is_end (after_lines (number - 1) text)

-- what can be shown on a line of its own: not too much, and no byte that is no printed character
abbrev pub is_shown : List ℕ → Bool
is_shown text = is_between 1 256 (length text) && list_all (is_between 32 126) text

-- a fault that is of a line's words
abbrev pub is_of_words : LineCode → Bool
is_of_words Byte = false
is_of_words UnknownWord = true
is_of_words WordCount = true
is_of_words Number = true
is_of_words UnknownName = true
is_of_words LineLength = false
is_of_words LineCount = false
is_of_words NoMemory = false

-- a word that is quoted, and why it may not stand where it does
abbrev pub broken_told : List ℕ × Breach → List ℕ
broken_told broken = codes "\"" ++ broken.0 ++ codes "\" " ++ why_text broken.1

-- which it is of too many or too few words, where the form has so many
abbrev pub which_told : ℕ → List (List ℕ) → List ℕ
which_told count said = if nat_lt count (length said) then codes "too many words" else codes "too few words"

abbrev pub counted_told : ℕ → List (List ℕ) → List ℕ
counted_told count said = which_told count said ++ codes ", the form has " ++ decimal count

-- too few words may have no form
abbrev pub count_told : List Field → List (List ℕ) → List ℕ
count_told [] said = codes "too few words"
count_told (field ∷ form) said = counted_told (length (field ∷ form)) said

-- the rule of a line's words; for their count it is said which it is
abbrev pub rule_told : LineCode → List (List ℕ) → List ℕ
rule_told Byte said = line_meaning Byte
rule_told UnknownWord said = line_meaning UnknownWord
rule_told WordCount said = count_told (form_fields (form_of said)) said
rule_told Number said = line_meaning Number
rule_told UnknownName said = line_meaning UnknownName
rule_told LineLength said = line_meaning LineLength
rule_told LineCount said = line_meaning LineCount
rule_told NoMemory said = line_meaning NoMemory

-- the word that broke the rule; where none is found, the rule and the line
abbrev pub found_told : LineCode → List ℕ → Option (List ℕ × Breach) → List ℕ
found_told code line (Some broken) = broken_told broken
found_told code line None = rule_told code (words line) ++ codes ": " ++ line

-- what a byte is that is no printed character
abbrev pub byte_name : ℕ → Bool → List ℕ
byte_name byte is_last =
    if byte == 9 then codes "a tab"
    else if byte == 13 && is_last then codes "a Windows line end"
    else codes "outside 32 to 126"

-- a byte in a column, and what it is
abbrev pub byte_told : ℕ → ℕ → Bool → List ℕ
byte_told byte column is_last =
    codes "byte " ++ decimal byte ++ codes " at column " ++ decimal column ++ codes ": " ++ byte_name byte is_last

-- where the first byte of a line stands that is no printed character
abbrev pub first_unprinted : List ℕ → Option ℕ
first_unprinted line = position (λ byte. not (is_between 32 126 byte)) line

-- a byte of a line by its place; columns are counted from 1
abbrev pub unprinted_told : List ℕ → Option ℕ → List ℕ
unprinted_told line (Some place) = byte_told (slice_index line place) (place + 1) (place + 1 == length line)
unprinted_told line None = line_meaning Byte

-- the rule of a line, and how long the line is
abbrev pub length_told : LineCode → ℕ → List ℕ
length_told code count = line_meaning code ++ codes ": " ++ decimal count

-- what is said of a line that does not concern a word of it: its first byte that is no printed character, or how long
-- it is
abbrev pub bytes_told : LineCode → List ℕ → List ℕ
bytes_told Byte line = unprinted_told line (first_unprinted line)
bytes_told LineLength line = length_told LineLength (length line)
bytes_told code line = line_meaning code

-- what is said of a line: its words where they are at fault and can be shown, else its bytes or the rule
abbrev pub line_told : LineCode → Kind → Setup → List ℕ → List ℕ
line_told code kind setup line =
    if is_of_words code && is_shown line
    then found_told code line (first_broken (breaks code kind setup) (form_fields (form_of (words line))) (words line))
    else bytes_told code line

-- THE FAULT OF A SCRIPT in words: its line's number, and what is said of the line
abbrev pub line_explained : LineFault → Kind → Setup → List ℕ → List ℕ
line_explained fault kind setup script =
    codes "line " ++ decimal fault.line ++ codes ": " ++ line_told fault.code kind setup
    (line_of fault.line script) ++ codes "\n"

-- ---- a setup

-- a name that can be shown, quoted
abbrev pub name_told : List ℕ → List ℕ
name_told name = if is_shown name then codes " \"" ++ name ++ codes "\"" else []

-- a rule of a setup
abbrev pub alone_told : TextFault → List ℕ
alone_told fault = codes "setup: " ++ text_meaning fault

-- the rule, and how many there are
abbrev pub amount_told : SetupFault → ℕ → List ℕ
amount_told rule amount = alone_told (BadSetup rule) ++ codes ": " ++ decimal amount

-- a currency by its number, as a script names it, and why it breaks the rule
abbrev pub currency_told : SetupFault → Option (ℕ × Currency × PartWhy) → List ℕ
currency_told rule (Some found) =
    codes "currency " ++ decimal found.0 ++ name_told found.1.code ++ codes ": " ++ part_text found.2
currency_told rule None = alone_told (BadSetup rule)

-- a member likewise: members are numbered from 1
abbrev pub member_told : SetupFault → Option (ℕ × Member × PartWhy) → List ℕ
member_told rule (Some found) =
    codes "member " ++ decimal (found.0 + 1) ++ name_told found.1.name ++ codes ": " ++ part_text found.2
member_told rule None = alone_told (BadSetup rule)

-- the part of a setup that broke a rule
abbrev pub part_told : SetupFault → Setup → List ℕ
part_told SiteCount setup = amount_told SiteCount setup.sites
part_told CurrencyCount setup = amount_told CurrencyCount (length setup.currencies)
part_told CurrencyCode setup = currency_told CurrencyCode (first_part (currency_fault CurrencyCode) [] setup.currencies)
part_told Rate setup = currency_told Rate (first_part (currency_fault Rate) [] setup.currencies)
part_told Haircut setup = currency_told Haircut (first_part (currency_fault Haircut) [] setup.currencies)
part_told MemberCount setup = amount_told MemberCount (length setup.members)
part_told MemberName setup = member_told MemberName (first_part (member_fault MemberName setup) [] setup.members)
part_told ListLength setup = member_told ListLength (first_part (member_fault ListLength setup) [] setup.members)
part_told Limit setup = member_told Limit (first_part (member_fault Limit setup) [] setup.members)

-- what broke a rule, given the parts of the text, which one without a tree has not
abbrev pub broken_part_told : SetupFault → Result Setup TextFault → List ℕ
broken_part_told rule (Ok parts) = part_told rule parts
broken_part_told rule (Err fault) = alone_told (BadSetup rule)

-- a part that is missing or of the wrong type, by the path to it, and what is wrong
abbrev pub wrong_told : Found → List ℕ
wrong_told (Some found) = codes "setup: " ++ path_told found.0 ++ flaw_text found.1
wrong_told None = alone_told BadMember

-- what is said of a text that is no setup
abbrev pub setup_told : TextFault → List ℕ → List ℕ
setup_told (BadSetup rule) bytes = broken_part_told rule (parts_where None bytes)
setup_told BadMember bytes = wrong_told (wrong_in bytes)
setup_told fault bytes = alone_told fault

-- THE FAULT OF A SETUP in words: what broke the rule, or the rule
abbrev pub setup_explained : TextFault → List ℕ → List ℕ
setup_explained fault bytes = setup_told fault bytes ++ codes "\n"

-- ---- what holds of the line of a number

-- one of some lines by its place, counted from 0; nothing where there is none
abbrev pub line_in : List (List ℕ) → ℕ → List ℕ
line_in [] place = []
line_in (line ∷ rest) zero = line
line_in (line ∷ rest) (suc place) = line_in rest place

-- it is the line that the reader of scripts counts so
abbrev pub IsLineCounted : Type 0
IsLineCounted = (place : ℕ) (text : List ℕ) → line_of (place + 1) text ≡ line_in (lines text) place
