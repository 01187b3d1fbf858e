-- What a cell that is a file holds, and what a save does to the disk.
use Rattle.std.specs.Prelude.{◌≡◌, ◌<◌, ◌⊎◌, ℕ, Option}
use Rattle.vr_types.specs.declared.cell.Boot.{Boot}
use Rattle.vr_types.specs.Cell.{max_failures}
use Rattle.pvp_cell.specs.declared.file_cell.FileCell.{FileCell}
use Rattle.pvp_cell.specs.declared.fault.OpenFault.{OpenFault}
use Rattle.pvp_cell.specs.declared.fault.OpenFault.TheVariants.{Store, NoMemory}
use Rattle.pvp_cell.specs.Text.{cell_text}
use Rattle.pvp_cell.specs.Disk.{Disk, HasOldOr, Goes, Gets}

abbrev pub held_by : {S : Type 0} → FileCell S → Boot
held_by cell = cell.boot

-- how many of its saves failed
abbrev pub faults_of : {S : Type 0} → FileCell S → ℕ
faults_of cell = cell.failures

abbrev pub store_of : {S : Type 0} → FileCell S → S
store_of cell = cell.store

-- the store failed, or memory was refused: it says nothing of what is there
abbrev pub IsStoreFault : OpenFault → Type 0
IsStoreFault fault = (fault ≡ Store) ⊎ (fault ≡ NoMemory)

-- WHAT ONE SAVE of a boot leaves, failed or not, over a disk that is seen so
pub record Saves {S : Type 0} (disk : S → Option Disk) (old : FileCell S) (boot : Boot) (new : FileCell S)
    : Type 0 where
  pub holds : new.boot ≡ boot
  -- the text of the boot, or what was there
  pub leaves : Goes (HasOldOr (cell_text boot)) (disk old.store) (disk new.store)
  -- and that text alone after a save that was not counted as failed
  pub durable : new.failures ≡ old.failures → new.failures < max_failures
      → Gets (cell_text boot) (disk old.store) (disk new.store)
