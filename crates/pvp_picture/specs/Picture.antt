-- What writing a picture comes to. What the picture shows is not said here.
use Rattle.std.specs.Prelude.{◌≡◌, ℕ, List, Option, None, Result, Ok, Err}
use Rattle.std.specs.Io.KnownBytes.{Appends}
use Rattle.pvp_text.specs.declared.book.RunFault.{RunFault}
use Rattle.pvp_text.specs.declared.book.RunFault.TheVariants as run
use Rattle.pvp_text.specs.declared.script.Line.{Line}
use Rattle.pvp_text.specs.declared.script.LineFault.{LineFault}
use Rattle.pvp_text.specs.BookText.{ScriptReading, Tells}

-- how a picture of what a script was read as ends: a text is written whole, or nothing where memory is refused, also
-- where the script is faulty; how much is written where the writer fails is not said
abbrev pub PictureOver : {W : Type 0} → (W → Option (List ℕ)) → ScriptReading → Result (List Line) LineFault
    → Result (Unit {0}) RunFault → W → W → Type 0
PictureOver contents read (Ok lines) (Ok _) old new = (text : List ℕ) × Appends (contents old) (contents new) text
PictureOver contents read (Ok lines) (Err run.NoMemory) old new = new ≡ old
PictureOver contents read (Ok lines) (Err run.Output) old new = Unit {0}
PictureOver contents read (Ok lines) (Err (run.Line fault)) old new = ⊥
PictureOver contents read (Err fault) result old new = Tells read fault result × (new ≡ old)

-- HOW A PICTURE of a script ends
abbrev pub PictureEnds : {W : Type 0} → (W → Option (List ℕ)) → ScriptReading → Result (Unit {0}) RunFault → W → W
    → Type 0
PictureEnds contents read result old new = PictureOver contents read (read None) result old new
