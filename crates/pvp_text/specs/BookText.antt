-- The printed text of a book. Every line ends with LF.
use Rattle.std.specs.Prelude.{ℕ, ◌+◌, List, [], ◌∷◌, ◌++◌, length, codes, decimal, take, ◌≡◌, ◌≢◌, ◌⊎◌, ◌<◌, ◌≤◌, true, Option, None, Result, Ok, Err}
use Rattle.std.specs.Fmt.{signed_decimal}
use Rattle.std.specs.List.{flat_map, range_with_len, enumerate_from}
use Rattle.pvp_types.specs.declared.setup.Setup.{Setup}
use Rattle.pvp_types.specs.declared.step.Step.TheVariants.{Submit}
use Rattle.pvp_types.specs.declared.setup.Member.{Member}
use Rattle.pvp_types.specs.declared.command.Cmd.{Cmd}
use Rattle.pvp_types.specs.Reply.{reply_text}
use Rattle.pvp_book.specs.Ledger.{Ledger, opening, balance, figure, outstanding_orders, pairs_in}
use Rattle.pvp_book.specs.declared.pair.PairState.TheVariants.{Unmatched, Matched, Settled, Rescinded}
use Rattle.pvp_book.specs.Answer.{answer_to, after}
use Rattle.std.specs.Global.{Vec}
use Rattle.std.specs.Io.KnownBytes.{Appends}
use Rattle.pvp_text.specs.declared.book.RunFault.{RunFault}
use Rattle.pvp_text.specs.declared.book.RunFault.TheVariants as RunFaults
use Rattle.pvp_text.specs.declared.script.Line.{Line}
use Rattle.pvp_text.specs.declared.script.LineFault.{LineFault}
use Rattle.pvp_text.specs.declared.script.Statement.{Statement}
use Rattle.pvp_text.specs.declared.script.Statement.TheVariants.{Do, Print}
use Rattle.pvp_text.specs.Reading.{Faults}
use Rattle.pvp_text.specs.Script.{line_fault_is_memory}

-- a space and a balance, for each currency
abbrev pub balances_text : Ledger → ℕ → ℕ → List ℕ
balances_text held m currencies =
    flat_map (λ c. 32 ∷ signed_decimal (balance held.setup held.entries m c)) (range_with_len 0 currencies)

-- a member's name and balances
abbrev pub member_line : List ℕ → Ledger → ℕ × Member → List ℕ
member_line indent held (m, member) =
    indent ++ member.name ++ balances_text held m (length held.setup.currencies) ++ codes "\n"

abbrev pub member_lines : List ℕ → Ledger → List ℕ
member_lines indent held = flat_map (member_line indent held) (enumerate_from 1 held.setup.members)

-- a space and how many pairs are in a state, for each state
abbrev pub counts_text : Ledger → List ℕ
counts_text held =
    flat_map (λ state. 32 ∷ decimal (length (pairs_in held.setup held.entries state)))
    (Unmatched ∷ Matched ∷ Settled ∷ Rescinded ∷ [])

abbrev pub pairs_line : List ℕ → Ledger → List ℕ
pairs_line indent held = indent ++ codes "pairs" ++ counts_text held ++ codes "\n"

-- a space and the bank's figure, for each currency
abbrev pub figures_text : Ledger → ℕ → List ℕ
figures_text held currencies =
    flat_map (λ c. 32 ∷ signed_decimal (figure held.setup held.entries c)) (range_with_len 0 currencies)

abbrev pub figure_line : List ℕ → Ledger → List ℕ
figure_line indent held = indent ++ codes "figure" ++ figures_text held (length held.setup.currencies) ++ codes "\n"

-- how many orders are neither paid nor returned
abbrev pub open_line : List ℕ → Ledger → List ℕ
open_line indent held =
    indent ++ codes "open " ++ decimal (length (outstanding_orders held.setup held.entries)) ++ codes "\n"

-- the block of a book, where each line begins with this indent
abbrev pub block : List ℕ → Ledger → List ℕ
block indent held =
    member_lines indent held ++ pairs_line indent held ++ figure_line indent held ++ open_line indent held

-- what `do` writes: the row's number, counted over all that were applied, and the answer
abbrev pub answer_line : Ledger → ℕ → Cmd → List ℕ
answer_line held client cmd =
    decimal (held.applied + 1) ++ codes " " ++ reply_text (answer_to held client cmd) ++ codes "\n"

-- what a line of a script writes: a line that no script of one book has writes nothing
abbrev pub statement_text : Ledger → Statement → List ℕ
statement_text held (Do (Submit client cmd)) = answer_line held client cmd
statement_text held Print = block [] held
statement_text held _ = []

-- what is held after it
abbrev pub after_statement : Ledger → Statement → Ledger
after_statement held (Do (Submit client cmd)) = after held client cmd
after_statement held _ = held

-- what the lines of a script write, one after another
abbrev pub text_of : Ledger → List Line → List ℕ
text_of held [] = []
text_of held (line ∷ lines) = statement_text held line.statement ++ text_of (after_statement held line.statement) lines

-- what the lines of a script write on a book of their own
abbrev pub book_text : Setup → List Line → List ℕ
book_text setup lines = text_of (opening setup) lines

-- How a run of lines ends: with what all of them write; or with what the first of them write, where memory was refused
-- for the next; or at a line that the writer failed to take. How much was written by then is not said.
abbrev pub LinesEnd : Ledger → List Line → Result (Unit {0}) RunFault → Option (List ℕ) → Option (List ℕ) → Type 0
LinesEnd held lines (Ok _) old new = Appends old new (text_of held lines)
LinesEnd held lines (Err RunFaults.NoMemory) old new =
    (n : ℕ) × (n < length lines) × Appends old new (text_of held (take n lines))
LinesEnd held lines (Err RunFaults.Output) old new = lines ≢ []
LinesEnd held lines (Err (RunFaults.Line fault)) old new = ⊥

-- how a script is read: where memory is refused to a line, which is reported, or where none is refused
abbrev pub ScriptReading : Type 0
ScriptReading = Option LineFault → Result (List Line) LineFault

-- reading the script may report that memory was refused
abbrev pub MayTellMemory : ScriptReading → Type 0
MayTellMemory read =
    (fault : LineFault) × (line_fault_is_memory fault ≡ true) × Faults line_fault_is_memory fault read

-- what is reported of a faulty script: its faulty line, or that memory was refused to one before it
abbrev pub Tells : ScriptReading → LineFault → Result (Unit {0}) RunFault → Type 0
Tells read fault (Ok _) = ⊥
Tells read fault (Err (RunFaults.Line told)) = told ≡ fault
Tells read fault (Err RunFaults.NoMemory) = MayTellMemory read
Tells read fault (Err RunFaults.Output) = ⊥

-- nothing was run, as memory was refused before, and nothing is written
abbrev pub IsNotBegun : {W : Type 0} → Result (Unit {0}) RunFault → W → W → Type 0
IsNotBegun result old new = (result ≡ Err RunFaults.NoMemory) × (new ≡ old)

-- how a run over what a script was read as ends: a faulty one leaves the writer as it was
abbrev pub RunsOver : {W : Type 0} → (W → Option (List ℕ)) → Setup → ScriptReading → Result (List Line) LineFault
    → Result (Unit {0}) RunFault → W → W → Type 0
RunsOver contents setup read (Ok lines) result old new =
    IsNotBegun result old new ⊎ LinesEnd (opening setup) lines result (contents old) (contents new)
RunsOver contents setup read (Err fault) result old new = Tells read fault result × (new ≡ old)

-- HOW A RUN of a script ends
abbrev pub RunEnds : {W : Type 0} → (W → Option (List ℕ)) → Setup → ScriptReading → Result (Unit {0}) RunFault → W → W
    → Type 0
RunEnds contents setup read result old new = RunsOver contents setup read (read None) result old new

-- what a script was read as: its lines, of which there are not too many for one book
abbrev pub ReadEnds : Result (Vec Line) RunFault → ScriptReading → Type 0
ReadEnds (Ok lines) read = (read None ≡ Ok lines.items) × (length lines.items ≤ 65535)
ReadEnds (Err (RunFaults.Line fault)) read = read None ≡ Err fault
ReadEnds (Err RunFaults.NoMemory) read = MayTellMemory read
ReadEnds (Err RunFaults.Output) read = ⊥
