use Rattle.pvp_audit.specs.Cells.{AreInMemory}
use Rattle.pvp_audit.proofs.cells.in_memory.Given as goal

-- those that were taken so far have their readings
abbrev pub invariant-loop-one : goal.invariant-loop-one
invariant-loop-one g l = AreInMemory g.C.BootCell l.yielded l.read.items
