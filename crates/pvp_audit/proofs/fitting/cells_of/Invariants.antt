use Rattle.std.proofs.Common.{◌≡◌, map, take}
use Rattle.vr_types.specs.MemoryCell.{held_by, IsReliable}
use Rattle.pvp_audit.specs.Judged.{openings}
use Rattle.pvp_audit.specs.Banked.{AllAre}
use Rattle.pvp_audit.proofs.fitting.cells_of.Given as goal

abbrev pub invariant-loop-k : goal.invariant-loop-k
invariant-loop-k l = record {
  held : map held_by l.cells.items ≡ openings (take l.k l.closed);
  reliable : AllAre IsReliable l.cells.items;
}
