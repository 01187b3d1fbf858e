-- What an event does to a boot cell.
use Rattle.std.specs.Prelude.{◌≡◌, ◌≢◌, ◌⊎◌}
use Rattle.vr_types.specs.declared.cell.Boot.{Boot}
use Rattle.vr_types.specs.declared.cell.BootCell.{Ghosts}

-- the cell held another value, and one save of this one, failed or not, left the new cell
abbrev pub IsOneSave : {B : Type 0} → Ghosts B → B → Boot → B → Type 0
IsOneSave c old boot new = (c.held old ≢ boot) × c.saves old boot new

-- the cell is as it was, or this value, which it did not hold, was saved once
abbrev pub IsSavedAtMostOnce : {B : Type 0} → Ghosts B → B → Boot → B → Type 0
IsSavedAtMostOnce c old boot new = (new ≡ old) ⊎ IsOneSave c old boot new
