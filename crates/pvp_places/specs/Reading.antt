-- How the files of a process are read, line by line.
use Rattle.std.specs.Prelude.{◌≡◌, ◌⊎◌, ℕ, ◌+◌, List, [], ◌∷◌, Result, Ok, Err, if◌then◌else◌}
use Rattle.pvp_text.specs.Reading.{◌>>=◌}
use Rattle.pvp_text.specs.Script.{is_skipped}
use Rattle.pvp_text.specs.ScriptWords.{words}
use Rattle.pvp_places.specs.declared.fault.PlaceWhy.{PlaceWhy}
use Rattle.pvp_places.specs.declared.fault.PlaceWhy.TheVariants.{Form}
use Rattle.pvp_places.specs.declared.fault.LineFault.{LineFault}
use Rattle.pvp_places.specs.declared.fault.LineFault.TheVariants.{Wrong, NoMemory as Refused}
use Rattle.pvp_places.specs.declared.fault.PlaceFault.{PlaceFault}
use Rattle.pvp_places.specs.declared.fault.PlaceFault.TheVariants.{Line, NoMemory}

-- a line has two words
abbrev pub of_two : {X : Type 0} → (List ℕ → List ℕ → Result X PlaceWhy) → List (List ℕ) → Result X PlaceWhy
of_two says (first ∷ second ∷ []) = says first second
of_two says _ = Err Form

-- what is read once a line is read too, of which this is said by its two words
abbrev pub with_line : {X : Type 0} → (X → List ℕ → List ℕ → Result X PlaceWhy) → X → List ℕ → Result X PlaceWhy
with_line says x line = if is_skipped line then Ok x else of_two (says x) (words line)

-- or the line that is wrong, with its number
abbrev pub at_line : {X : Type 0} → ℕ → Result X PlaceWhy → Result X PlaceFault
at_line number (Ok x) = Ok x
at_line number (Err why) = Err (Line number why)

-- A FILE IS READ: each of its lines, from this number on, adds to what was read before it, up to the first that is
-- wrong
unfoldable pub read_from : {X : Type 0} → (X → List ℕ → List ℕ → Result X PlaceWhy) → X → ℕ → List (List ℕ)
    → Result X PlaceFault
read_from says x number [] = Ok x
read_from says x number (line ∷ more) =
    at_line number (with_line says x line) >>= λ now. read_from says now (number + 1) more

-- why a file is not read, where this is said of its line
abbrev pub fault_at : ℕ → LineFault → PlaceFault
fault_at number (Wrong why) = Line number why
fault_at number Refused = NoMemory

-- what a reader of a line returned is what the line adds to what was read, which it keeps, or what is wrong with it; or
-- memory was refused
abbrev pub AddsLine : {A X : Type 0} → Result A LineFault → X → Result X PlaceWhy → Type 0
AddsLine (Ok _) now read = read ≡ Ok now
AddsLine (Err (Wrong why)) now read = read ≡ Err why
AddsLine (Err Refused) now read = Unit {0}

-- what a reader of a file returned, seen by view, is what is read; or memory was refused
abbrev pub Reads : {X Y : Type 0} → (X → Y) → Result X PlaceFault → Result Y PlaceFault → Type 0
Reads view (Ok x) read = read ≡ Ok (view x)
Reads view (Err fault) read = (fault ≡ NoMemory) ⊎ (read ≡ Err fault)
