-- What the lines of a script play, and what they print.
use Rattle.std.specs.Prelude.{◌≡◌, ◌≢◌, ◌⊎◌, ℕ, ◌+◌, ◌*◌, ◌<◌, nat_lt, if◌then◌else◌, List, [], ◌∷◌, ◌++◌, length, take, replicate, slice_get, codes, decimal, Option, Some, None, is_some, Result, Ok, Err}
use Rattle.std.specs.Io.KnownBytes.{Appends}
use Rattle.pvp_types.specs.declared.setup.Setup.{Setup}
use Rattle.pvp_types.specs.declared.command.Cmd.{Cmd}
use Rattle.pvp_types.specs.Setup.{faults}
use Rattle.vr_types.specs.declared.cell.Boot.{Boot}
use Rattle.vr_types.specs.declared.cell.BootCell.{Ghosts as Cell}
use Rattle.vr_types.specs.declared.cell.MemCell.{MemCell}
use Rattle.vr_types.specs.declared.event.SiteFault.TheVariants.{CellFault}
use Rattle.vr_types.specs.contracts.cell.MemCellBootCell.TheImpl.{ghosts as memory}
use Rattle.vr_types.specs.Cell.{new_cell}
use Rattle.vr_types.specs.MemoryCell.{held_by}
use Rattle.vr_site.specs.Replica.{ShownSite}
use Rattle.pvp_world.specs.declared.fault.WorldFault.{WorldFault}
use Rattle.pvp_world.specs.declared.fault.WorldFault.TheVariants.{Site as OfSite}
use Rattle.pvp_world.specs.Fault.{fault_text}
use Rattle.pvp_world.specs.World.{ShownWorld, IsProved}
use Rattle.pvp_world.specs.Steps.{AreReliable}
use Rattle.pvp_text.specs.declared.book.RunFault.{RunFault}
use Rattle.pvp_text.specs.declared.book.RunFault.TheVariants as run
use Rattle.pvp_text.specs.declared.script.Line.{Line}
use Rattle.pvp_text.specs.declared.script.LineFault.{LineFault}
use Rattle.pvp_text.specs.declared.script.Statement.{Statement}
use Rattle.pvp_text.specs.declared.script.Statement.TheVariants.{Do, Print, Drain, Skip, Cut, Heal, Chaos, Rest}
use Rattle.pvp_text.specs.BookText.{ScriptReading, Tells, IsNotBegun}
use Rattle.pvp_trace.specs.declared.attempt.Attempt.{Attempt}
use Rattle.pvp_play.specs.declared.cells.Fail.{Fail}
use Rattle.pvp_play.specs.declared.notes.Telling.{Telling}
use Rattle.pvp_play.specs.declared.notes.Telling.TheVariants.{Books, Steps}
use Rattle.pvp_play.specs.BooksText.{books_text}
use Rattle.pvp_play.specs.Cells.{IsArmed}
use Rattle.pvp_play.specs.Chaos.{Rages, RageStops}
use Rattle.pvp_play.specs.Notes.{notes, notes_text}
use Rattle.pvp_play.specs.Passing.{passing_text}
use Rattle.pvp_play.specs.Player.{Position, beginning, Tries, Wants, Drains, DrainStops, after_skip, cut_off, cut_without, with_cut, unknown_actor, CutStops}

-- nothing was refused
abbrev pub IsTaken : Option WorldFault → Type 0
IsTaken told = told ≡ None

-- WHAT A LINE DOES, and why it was refused, if it was
abbrev pub Does : {B : Type 0} → Cell B → Statement → Position B → Position B → Option WorldFault → Type 0
Does c (Do step) old new told = Tries c old new step told
Does c Print old new told = (new ≡ old) × IsTaken told
Does c (Drain turns) old new told = Drains c turns old new × IsTaken told
Does c (Skip envelopes) old new told = (new ≡ after_skip old envelopes) × IsTaken told
Does c (Cut actor) old new told = (new ≡ with_cut old actor (cut_off old.cut actor)) × (told ≡ unknown_actor old actor)
Does c (Heal actor) old new told =
    (new ≡ with_cut old actor (cut_without old.cut actor)) × (told ≡ unknown_actor old actor)
Does c (Chaos seed turns) old new told = Rages c seed turns old new × IsTaken told
Does c (Rest milliseconds) old new told = (new ≡ old) × IsTaken told

-- memory was refused for what a line does
abbrev pub Stops : {B : Type 0} → Cell B → Statement → Position B → Position B → Type 0
Stops c (Do step) old new = Wants old new step
Stops c Print old new = ⊥
Stops c (Drain turns) old new = DrainStops c turns old new
Stops c (Skip envelopes) old new = ⊥
Stops c (Cut actor) old new = CutStops old new actor
Stops c (Heal actor) old new = ⊥
Stops c (Chaos seed turns) old new = RageStops c seed turns old new
Stops c (Rest milliseconds) old new = ⊥

-- WHAT IT PRINTS where books are asked for: what was refused, and by `print` the books

abbrev pub refused_text : ℕ → Option WorldFault → List ℕ
refused_text number None = []
refused_text number (Some fault) = codes "refused " ++ decimal number ++ codes " " ++ fault_text fault ++ codes "\n"

abbrev pub print_text : {B : Type 0} → (B → Boot) → Statement → ShownWorld B → List ℕ
print_text held Print world = books_text held world
print_text held _ world = []

-- WHERE STEPS ARE TOLD: each that was noted after so many before; and where none was, what was refused
abbrev pub steps_text : {B : Type 0} → ShownWorld B → ℕ → Option WorldFault → ℕ → List Attempt → List ℕ
steps_text world number told before noted =
    if nat_lt before (length noted) then notes_text world.setup world.post before noted else refused_text number told

-- the one or the other
abbrev pub line_text : {B : Type 0} → (B → Boot) → Telling → Line → Option WorldFault → Position B → Position B → List ℕ
line_text held Books line told old new = refused_text line.number told ++ print_text held line.statement new.world
line_text held Steps line told old new =
    steps_text new.world line.number told (length (notes old.noted)) (notes new.noted)
    ++ passing_text line.statement told old.cursor new

-- there is something to print
abbrev pub Prints : {B : Type 0} → Telling → Line → Option WorldFault → Position B → Position B → Type 0
Prints Books line told old new = (told ≢ None) ⊎ (line.statement ≡ Print)
Prints Steps line told old new =
    (told ≢ None) ⊎ (length (notes old.noted) < length (notes new.noted))
    ⊎ (passing_text line.statement told old.cursor new ≢ [])

-- A LINE IS PLAYED. Over cells whose saves do not fail it reports no failed save, and leaves them so.
pub record PlaysLine {B : Type 0} (c : Cell B) (telling : Telling) (line : Line) (old new : Position B) (text : List ℕ)
    : Type 0 where
  pub told : Option WorldFault
  pub does : Does c line.statement old new told
  pub prints : text ≡ line_text c.held telling line told old new
  pub reliable : AreReliable c old.world → AreReliable c new.world × (told ≢ Some (OfSite CellFault))

-- MEMORY WAS REFUSED FOR A LINE: for what it does, or for what it then prints
abbrev pub LineStops : {B : Type 0} → Cell B → Telling → Line → Position B → Position B → Type 0
LineStops c telling line old new =
    Stops c line.statement old new
    ⊎ ((told : Option WorldFault) × Does c line.statement old new told × Prints telling line told old new)

-- a line is played, and others after it
pub record PlaysBoth {B : Type 0} (First Others : Position B → Position B → List ℕ → Type 0) (old new : Position B)
    (text : List ℕ) : Type 0 where
  pub between : Position B
  pub before : List ℕ
  pub after : List ℕ
  pub first : First old between before
  pub others : Others between new after
  pub whole : text ≡ before ++ after

-- LINES ARE PLAYED one after another
abbrev pub Plays : {B : Type 0} → Cell B → Telling → List Line → Position B → Position B → List ℕ → Type 0
Plays c telling [] old new text = (new ≡ old) × (text ≡ [])
Plays c telling (line ∷ lines) old new text = PlaysBoth (PlaysLine c telling line) (Plays c telling lines) old new text

-- Lines were played up to here, and what they print was appended. Here the headline holds, cells whose saves do not
-- fail are so still, and notes are made where they were at first.
pub record ArePlayed {B : Type 0} (c : Cell B) (telling : Telling) (first : Position B) (lines : List Line)
    (end : Position B) (old new : Option (List ℕ)) : Type 0 where
  pub text : List ℕ
  pub plays : Plays c telling lines first end text
  pub written : Appends old new text
  pub headline : IsProved c.held end.world
  pub reliable : AreReliable c first.world → AreReliable c end.world
  pub noted : is_some end.noted ≡ is_some first.noted

-- Memory was refused for a line: those before it were played, and what they print was appended.
pub record AreStopped {B : Type 0} (c : Cell B) (telling : Telling) (first : Position B) (lines : List Line)
    (last : Position B) (old new : Option (List ℕ)) : Type 0 where
  pub count : ℕ
  pub line : Line
  pub is_next : slice_get lines count ≡ Some line
  pub between : Position B
  pub played : ArePlayed c telling first (take count lines) between old new
  pub stops : LineStops c telling line between last

-- How a run of lines ends, and where: with what all of them print; or with what the first of them print, where memory
-- was refused for the next; or at a line that the writer failed to take. How much was written by then is not said.
abbrev pub LinesEnd : {B : Type 0} → Cell B → Telling → Position B → List Line → Position B → Result (Unit {0}) RunFault
    → Option (List ℕ) → Option (List ℕ) → Type 0
LinesEnd c telling first lines last (Ok _) old new = ArePlayed c telling first lines last old new
LinesEnd c telling first lines last (Err run.NoMemory) old new = AreStopped c telling first lines last old new
LinesEnd c telling first lines last (Err run.Output) old new = lines ≢ []
LinesEnd c telling first lines last (Err (run.Line fault)) old new = ⊥

-- notes are made where steps are asked for, and there are none at first
abbrev pub no_notes : Telling → Option (List Attempt)
no_notes Books = None
no_notes Steps = Some []

-- A PLAYER OF A NEW WORLD: one of the setup over a cell for each site that was never saved, armed where a save of it is
-- to fail, where nothing was done
pub record IsOpening (made_from : Setup) (fails : List Fail) (telling : Telling) (p : Position MemCell) : Type 0 where
  pub setup : p.world.setup ≡ made_from
  pub cells : p.world.opening ≡ replicate (2 * faults made_from + 1) new_cell
  pub armed : (i : ℕ) (v : ShownSite Cmd Setup MemCell) → slice_get p.world.sites i ≡ Some v → IsArmed fails i v.cell
  pub trail : p.world.trail ≡ []
  pub headline : IsProved held_by p.world
  pub begins : p ≡ beginning (no_notes telling) p.world
  -- where none is to fail, no save does
  pub reliable : fails ≡ [] → AreReliable memory p.world

-- how a play of what a script was read as ends: a faulty one leaves the writer as it was
abbrev pub PlaysOver : {W : Type 0} → (W → Option (List ℕ)) → Setup → List Fail → Telling → ScriptReading
    → Result (List Line) LineFault
    → Result (Unit {0}) RunFault → W → W → Type 0
PlaysOver contents setup fails telling read (Ok lines) result old new =
    IsNotBegun result old new
    ⊎ ((first last : Position MemCell) × IsOpening setup fails telling first
    × LinesEnd memory telling first lines last result (contents old) (contents new))
PlaysOver contents setup fails telling read (Err fault) result old new = Tells read fault result × (new ≡ old)

-- HOW A PLAY of a script ends
abbrev pub PlayEnds : {W : Type 0} → (W → Option (List ℕ)) → Setup → List Fail → Telling → ScriptReading
    → Result (Unit {0}) RunFault → W → W → Type 0
PlayEnds contents setup fails telling read result old new =
    PlaysOver contents setup fails telling read (read None) result old new
