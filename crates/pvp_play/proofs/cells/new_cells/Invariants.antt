use Rattle.std.proofs.Common.{◌≡◌, ℕ, Some, length}
use Rattle.std.specs.Prelude.{map, replicate, slice_get}
use Rattle.vr_types.specs.declared.cell.MemCell.{MemCell}
use Rattle.vr_types.specs.Cell.{new_cell}
use Rattle.vr_types.specs.MemoryCell.{held_by}
use Rattle.pvp_play.specs.Cells.{IsArmed}
use Rattle.pvp_play.proofs.cells.new_cells.Given as goal

-- the cells so far
abbrev pub invariant-loop-site : goal.invariant-loop-site
invariant-loop-site l = record {
  new : map held_by l.cells.items ≡ replicate l.site new_cell;
  count : length l.cells.items ≡ l.site;
  armed : (i : ℕ) (cell : MemCell) → slice_get l.cells.items i ≡ Some cell → IsArmed l.fails i cell;
}
