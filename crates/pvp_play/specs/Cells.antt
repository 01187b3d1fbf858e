-- The cells of a new world, and which of their saves are to fail.
use Rattle.std.specs.Prelude.{◌≡◌, ℕ, ◌-◌, ◌==◌, List, Option, Some, None, find, option_and_then, if◌then◌else◌}
use Rattle.vr_types.specs.declared.cell.MemCell.{MemCell}
use Rattle.vr_types.specs.Cell.{new_cell}
use Rattle.vr_types.specs.MemoryCell.{held_by, faults_of, saves_before_fault, keeps_at_fault}
use Rattle.pvp_play.specs.declared.cells.Fail.{Fail}

-- what is to fail of a site, if anything is: the first that names it
abbrev pub fail_of : List Fail → ℕ → Option Fail
fail_of fails i = find (λ fail. fail.site == i) fails

-- how many saves come before the one that fails; at 0 none does
abbrev pub before_fault : Fail → Option ℕ
before_fault fail = if fail.at == 0 then None else Some (fail.at - 1)

-- a cell that was never saved, of which that save fails and no other
pub record IsArmed (fails : List Fail) (i : ℕ) (cell : MemCell) : Type 0 where
  pub held : held_by cell ≡ new_cell
  pub failures : faults_of cell ≡ 0
  pub before : saves_before_fault cell ≡ option_and_then before_fault (fail_of fails i)
  pub keeps : (fail : Fail) → fail_of fails i ≡ Some fail → keeps_at_fault cell ≡ fail.keep
