-- What a request writes, and which fault it reports, where the bytes of its files are known.
use Rattle.std.specs.Prelude.{◌≡◌, ◌⊎◌, ℕ, List, Option, Some, None, Result, Ok, Err, codes, IsOk, IfSome}
use Rattle.std.specs.Io.KnownBytes.{Appends}
use Rattle.pvp_types.specs.declared.setup.Setup.{Setup}
use Rattle.pvp_text.specs.declared.script.Line.{Line}
use Rattle.pvp_text.specs.declared.script.LineFault.{LineFault}
use Rattle.pvp_text.specs.declared.script.Kind.{Kind}
use Rattle.pvp_text.specs.declared.script.Kind.TheVariants.{Book, Play}
use Rattle.pvp_text.specs.declared.book.RunFault.{RunFault}
use Rattle.pvp_text.specs.declared.book.RunFault.TheVariants as run
use Rattle.pvp_text.specs.declared.setup.TextFault.{TextFault}
use Rattle.pvp_text.specs.Reading.{Faults}
use Rattle.pvp_text.specs.SetupText.{setup_text, setup_where, text_fault_is_memory}
use Rattle.pvp_text.specs.Script.{script_at}
use Rattle.pvp_command.specs.declared.fault.Fault.{Fault}
use Rattle.pvp_command.specs.declared.fault.Fault.TheVariants.{Output}
use Rattle.pvp_command.specs.declared.files.FileFault.{FileFault}
use Rattle.pvp_command.specs.declared.files.Source.{Source}
use Rattle.pvp_command.specs.declared.files.Source.TheVariants.{Setup as OfSetup, Script as OfScript}
use Rattle.pvp_command.specs.Fault.{text_told, run_told, file_told}
use Rattle.pvp_text.specs.BookText.{book_text}
use Rattle.vr_types.specs.declared.cell.MemCell.{MemCell}
use Rattle.vr_types.specs.contracts.cell.MemCellBootCell.TheImpl.{ghosts as memory}
use Rattle.pvp_play.specs.declared.cells.Fail.{Fail}
use Rattle.pvp_play.specs.declared.notes.Telling.{Telling}
use Rattle.pvp_play.specs.Player.{Position}
use Rattle.pvp_play.specs.Lines.{IsOpening, ArePlayed}
use Rattle.pvp_picture.specs.declared.frame.Frame.{Frame}
use Rattle.pvp_command.specs.Shows.{unknown_in}
use Rattle.pvp_command.specs.declared.shows.Show.{Show}
use Rattle.pvp_command.specs.declared.shows.Show.TheVariants.{Told, Drawn}

-- a setup that meets the rules is reported so
abbrev pub CheckWrites : List ℕ → Option (List ℕ) → Option (List ℕ) → Type 0
CheckWrites setup old new = IsOk (setup_text setup) × Appends old new (codes "setup ok\n")

-- the text of one book over the script's lines
abbrev pub BooksScript : Setup → List ℕ → Option (List ℕ) → Option (List ℕ) → Type 0
BooksScript s script old new =
    (lines : List Line) × (script_at Book s script ≡ Ok lines) × Appends old new (book_text s lines)

abbrev pub BookWrites : List ℕ → List ℕ → Option (List ℕ) → Option (List ℕ) → Type 0
BookWrites setup script old new = (s : Setup) × (setup_text setup ≡ Ok s) × BooksScript s script old new

-- what the lines of a play write, from a new world of the setup on, over new cells of which these saves are to fail:
-- what they print, or the steps that they try
abbrev pub PlaysScript : Telling → Setup → List Fail → List ℕ → Option (List ℕ) → Option (List ℕ) → Type 0
PlaysScript telling s fails script old new =
    (lines : List Line) × (script_at Play s script ≡ Ok lines)
    × (first last : Position MemCell) × IsOpening s fails telling first
    × ArePlayed memory telling first lines last old new

-- some text over a script that reads right: what a picture shows is not said
abbrev pub DrawsScript : Setup → List ℕ → Option (List ℕ) → Option (List ℕ) → Type 0
DrawsScript s script old new =
    (lines : List Line) × (script_at Play s script ≡ Ok lines) × (text : List ℕ) × Appends old new text

-- the one or the other, as it is to be shown
abbrev pub ShowsScript : Show → Setup → List Fail → List ℕ → Option (List ℕ) → Option (List ℕ) → Type 0
ShowsScript (Told telling) s fails script old new = PlaysScript telling s fails script old new
ShowsScript (Drawn steps) s fails script old new = DrawsScript s script old new

-- the setup has each site of which a save is to fail, and each actor that is named for a picture
abbrev pub PlayWrites : Show → List ℕ → Frame → List Fail → List ℕ → Option (List ℕ) → Option (List ℕ) → Type 0
PlayWrites show setup frame fails script old new =
    (s : Setup) × (setup_text setup ≡ Ok s) × (unknown_in s fails frame ≡ None)
    × ShowsScript show s fails script old new

-- the fault of a file that may fail so
abbrev pub TellsFile : Source → (FileFault → Type 0) → Fault → Type 0
TellsFile source fails told = (fault : FileFault) × fails fault × (told ≡ file_told source fault)

-- the fault of a setup's text
abbrev pub TellsSetup : List ℕ → Fault → Type 0
TellsSetup setup told =
    (fault : TextFault) × Faults text_fault_is_memory fault (λ refused. setup_where refused setup)
    × (told ≡ text_told fault)

-- the fault of a check: its file's or its setup's, and then nothing is written; or that the writer failed
abbrev pub CheckTells : {W : Type 0} → (FileFault → Type 0) → List ℕ → W → W → Fault → Type 0
CheckTells fails setup old new told =
    ((TellsFile OfSetup fails told ⊎ TellsSetup setup told) × (new ≡ old)) ⊎ (IsOk (setup_text setup) × (told ≡ Output))

-- The fault of a run of what a script was read as: its first faulty line, and then nothing is written; of one that
-- reads right, that the writer failed; or lack of memory, which may come anywhere.
abbrev pub RunStops : {W : Type 0} → Result (List Line) LineFault → RunFault → W → W → Type 0
RunStops read (run.Line fault) old new = (read ≡ Err fault) × (new ≡ old)
RunStops read run.Output old new = IsOk read
RunStops read run.NoMemory old new = Unit {0}

abbrev pub TellsRun : {W : Type 0} → Result (List Line) LineFault → W → W → Fault → Type 0
TellsRun read old new told = (fault : RunFault) × (told ≡ run_told fault) × RunStops read fault old new

-- the fault of a script, where its bytes are known: its file's, and then nothing is written; or the run's
abbrev pub TellsScript : {W : Type 0} → (FileFault → Type 0) → Kind → Setup → Option (List ℕ) → W → W → Fault → Type 0
TellsScript fails kind s script old new told =
    (TellsFile OfScript fails told × (new ≡ old)) ⊎ IfSome script
    (λ bytes. TellsRun (script_at kind s bytes) old new told)

-- the fault of a script's run on one book: a file's or the setup's, and then nothing is written; or the script's
abbrev pub BookTells : {W : Type 0} → (FileFault → Type 0) → List ℕ → (FileFault → Type 0) → Option (List ℕ) → W → W
    → Fault → Type 0
BookTells fails setup script_fails script old new told =
    ((TellsFile OfSetup fails told ⊎ TellsSetup setup told) × (new ≡ old))
    ⊎ ((s : Setup) × (setup_text setup ≡ Ok s) × TellsScript script_fails Book s script old new told)

-- what the setup lacks is looked for before the script is read
abbrev pub TellsPlay : {W : Type 0} → Option Fault → (FileFault → Type 0) → Setup → Option (List ℕ) → W → W → Fault
    → Type 0
TellsPlay (Some lacking) script_fails s script old new told = (told ≡ lacking) × (new ≡ old)
TellsPlay None script_fails s script old new told = TellsScript script_fails Play s script old new told

-- the fault of a play: a file's or the setup's, and then nothing is written; that of a site or an actor that the setup
-- lacks; or the script's
abbrev pub PlayTells : {W : Type 0} → (FileFault → Type 0) → List ℕ → Frame → List Fail → (FileFault → Type 0)
    → Option (List ℕ) → W → W → Fault → Type 0
PlayTells fails setup frame saves script_fails script old new told =
    ((TellsFile OfSetup fails told ⊎ TellsSetup setup told) × (new ≡ old))
    ⊎ ((s : Setup) × (setup_text setup ≡ Ok s)
    × TellsPlay (unknown_in s saves frame) script_fails s script old new told)
