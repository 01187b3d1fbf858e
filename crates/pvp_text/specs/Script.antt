-- What a script says.
use Rattle.std.specs.Prelude.{ℕ, ◌+◌, ◌==◌, ◌&&◌, ◌||◌, Bool, true, false, not, List, [], ◌∷◌, ◌++◌, length, slice_index, slice_index_or, Option, Some, None, option_map, option_to_list, Result, Ok, Err, codes, nat_lt, nat_le, if◌then◌else◌}
use Rattle.std.specs.Global.{Vec}
use Rattle.std.specs.List.{list_all}
use Rattle.pvp_types.specs.declared.command.Instruction.{Instruction}
use Rattle.pvp_types.specs.declared.command.Cmd.{Cmd}
use Rattle.pvp_types.specs.declared.command.Cmd.TheVariants.{Instruct, Rescind, Fund, Settle, PayOut, Paid, Returned}
use Rattle.pvp_types.specs.declared.setup.Setup.{Setup}
use Rattle.pvp_types.specs.declared.step.Step.{Step}
use Rattle.pvp_types.specs.declared.step.Step.TheVariants.{Deliver, PayIn, Close, Submit, Beat, Timer, Crash, Restart}
use Rattle.pvp_text.specs.declared.script.Kind.{Kind}
use Rattle.pvp_text.specs.declared.script.Line.{Line}
use Rattle.pvp_text.specs.declared.script.LineCode.{LineCode}
use Rattle.pvp_text.specs.declared.script.LineCode.TheVariants.{Byte, UnknownWord, WordCount, Number, UnknownName, LineLength, LineCount, NoMemory}
use Rattle.pvp_text.specs.declared.script.LineFault.{LineFault}
use Rattle.pvp_text.specs.declared.script.Statement.{Statement}
use Rattle.pvp_text.specs.declared.script.Statement.TheVariants.{Do, Print, Drain, Skip, Cut, Heal, Chaos, Rest}
use Rattle.pvp_text.specs.Reading.{◌>>=◌}
use Rattle.pvp_text.specs.declared.script.fields.Value.{Value}
use Rattle.pvp_text.specs.declared.script.fields.Value.TheVariants.{None as Nothing}
use Rattle.pvp_text.specs.declared.script.table.Field.{Field}
use Rattle.pvp_text.specs.declared.script.table.Form.{Form}
use Rattle.pvp_text.specs.declared.script.table.Form.TheVariants.{Of, NoCommand, NoLine, TooFew}
use Rattle.pvp_text.specs.declared.script.table.Word.{Word}
use Rattle.pvp_text.specs.declared.script.table.Word.TheVariants as word
use Rattle.pvp_text.specs.ScriptFields.{values_at, as_actor, as_currency, as_number, as_amount}
use Rattle.pvp_text.specs.ScriptTable.{fields_of, kinds_of, has, form_of}
use Rattle.pvp_text.specs.ScriptWords.{is_empty, lines, words}

-- what the word at a place of a line says, where the first word's place is 0
abbrev pub said_at : List Value → ℕ → Value
said_at values place = slice_index_or values place Nothing

-- what an instruction's line asks
abbrev pub instruction_of : List Value → Instruction
instruction_of values = record {
  reference = as_number (said_at values 3);
  other = as_actor (said_at values 4);
  sell = as_currency (said_at values 5);
  buy = as_currency (said_at values 7);
  sell_amt = as_amount (said_at values 6);
  buy_amt = as_amount (said_at values 8);
}

-- a command of the form of this word
abbrev pub command_of : Word → List Value → Cmd
command_of word.Rescind values = Rescind (as_number (said_at values 3))
command_of word.Settle values = Settle (as_number (said_at values 3))
command_of word.Fund values =
    Fund (as_currency (said_at values 3)) (as_number (said_at values 4)) (as_actor (said_at values 5))
    (as_amount (said_at values 6))
command_of word.PayOut values = PayOut (as_currency (said_at values 3)) (as_amount (said_at values 4))
command_of word.Paid values = Paid (as_currency (said_at values 3)) (as_number (said_at values 4))
command_of word.Returned values = Returned (as_currency (said_at values 3)) (as_number (said_at values 4))
command_of _ values = Instruct (instruction_of values)

-- a step of the form of this word: any other word is a client's command
abbrev pub step_of : Word → List Value → Step
step_of word.Deliver values = Deliver (as_number (said_at values 1))
step_of word.PayIn values =
    PayIn (as_currency (said_at values 2)) (as_actor (said_at values 1)) (as_amount (said_at values 3))
step_of word.Close values = Close (as_currency (said_at values 2)) (as_actor (said_at values 1))
step_of word.Beat values = Beat (as_actor (said_at values 1))
step_of word.Timer values = Timer (as_actor (said_at values 1))
step_of word.Crash values = Crash (as_actor (said_at values 1))
step_of word.Restart values = Restart (as_actor (said_at values 1))
step_of word values = Submit (as_actor (said_at values 1)) (command_of word values)

-- WHAT A LINE SAYS of the form of this word
abbrev pub statement_of : Word → List Value → Statement
statement_of word.Print values = Print
statement_of word.Drain values = Drain (as_number (said_at values 1))
statement_of word.Skip values = Skip (as_number (said_at values 1))
statement_of word.Cut values = Cut (as_actor (said_at values 1))
statement_of word.Heal values = Heal (as_actor (said_at values 1))
statement_of word.Chaos values = Chaos (as_amount (said_at values 1)) (as_number (said_at values 2))
statement_of word.Rest values = Rest (as_number (said_at values 1))
statement_of word values = Do (step_of word values)

-- ---- all lines

-- the word of a form, where scripts of this kind have its lines
abbrev pub known_in : Kind → Form → Result Word LineCode
known_in kind (Of word) = if has (kinds_of word) kind then Ok word else Err UnknownWord
known_in kind NoCommand = Err UnknownWord
known_in kind NoLine = Err UnknownWord
known_in kind TooFew = Err WordCount

-- what the words of a line say, which are to be as many as these
abbrev pub line_values : Kind → Setup → List Field → List (List ℕ) → Result (List Value) LineCode
line_values kind setup fields said =
    if length said == length fields then values_at kind setup fields said else Err WordCount

-- WHAT THE WORDS OF A LINE SAY: first its form is found, then its words are counted, then their numbers are read and
-- last their names looked up
unfoldable pub statement_at : Kind → Setup → List (List ℕ) → Result Statement LineCode
statement_at kind setup said = do
  word ← known_in kind (form_of said)
  values ← line_values kind setup (fields_of word) said
  Ok (statement_of word values)

-- a comment, whose first byte is `#`, or a line without words
abbrev pub is_skipped : List ℕ → Bool
is_skipped line = (slice_index line 0 == 35) || is_empty (words line)

abbrev pub is_printable : ℕ → Bool
is_printable b = nat_le 32 b && nat_le b 126

-- what a line says, or nothing where it is skipped
unfoldable pub line_at : Kind → Setup → List ℕ → Result (Option Statement) LineCode
line_at kind setup line =
    if is_skipped line then Ok None
    else if nat_lt 256 (length line) then Err LineLength
    else if not (list_all is_printable line) then Err Byte
    else (statement_at kind setup (words line) >>= λ statement. Ok (Some statement))

-- what a line says, or its number and what is wrong with it
abbrev pub of_line : {A : Type 0} → ℕ → Result A LineCode → Result A LineFault
of_line number (Ok x) = Ok x
of_line number (Err code) = Err (record { line = number; code = code })

-- the line that asks for something, or none
abbrev pub line_of : ℕ → Option Statement → List Line
line_of number said = option_to_list (option_map (λ statement. record { number = number; statement = statement }) said)

-- A line that asks for something is kept, which takes memory. Where that is refused to one line, the fault names it.
abbrev pub kept_line : Option LineFault → ℕ → Option Statement → Result (List Line) LineFault
kept_line None number said = Ok (line_of number said)
kept_line (Some refusal) number None = Ok []
kept_line (Some refusal) number (Some statement) =
    if refusal.line == number then Err refusal else Ok (line_of number (Some statement))

-- the lines that are not skipped, of those from a number on; else the first fault
unfoldable pub lines_at : Option LineFault → Kind → Setup → ℕ → List (List ℕ) → Result (List Line) LineFault
lines_at refused kind setup number [] = Ok []
lines_at refused kind setup number (line ∷ rest) = do
  said ← of_line number (line_at kind setup line)
  first ← kept_line refused number said
  others ← lines_at refused kind setup (number + 1) rest
  Ok (first ++ others)

-- all of a script, which has at most 65535 lines; where memory is refused so or not at all
unfoldable pub script_where : Option LineFault → Kind → Setup → List ℕ → Result (List Line) LineFault
script_where refused kind setup bytes =
    if nat_lt 65535 (length (lines bytes)) then Err (record { line = 65536; code = LineCount })
    else lines_at refused kind setup 1 (lines bytes)

-- ALL OF A SCRIPT, or its first fault
abbrev pub script_at : Kind → Setup → List ℕ → Result (List Line) LineFault
script_at kind setup bytes = script_where None kind setup bytes

abbrev pub is_memory_code : LineCode → Bool
is_memory_code NoMemory = true
is_memory_code _ = false

-- a fault for lack of memory
abbrev pub line_fault_is_memory : LineFault → Bool
line_fault_is_memory fault = is_memory_code fault.code

-- the lines in a vector
abbrev pub lines_in : Vec Line → List Line
lines_in found = found.items

-- what is printed of a code
abbrev pub line_code_text : LineCode → List ℕ
line_code_text Byte = codes "L1"
line_code_text UnknownWord = codes "L2"
line_code_text WordCount = codes "L3"
line_code_text Number = codes "L4"
line_code_text UnknownName = codes "L5"
line_code_text LineLength = codes "L6"
line_code_text LineCount = codes "L7"
line_code_text NoMemory = codes "L8"
