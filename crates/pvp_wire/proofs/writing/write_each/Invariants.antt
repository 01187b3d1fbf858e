use Rattle.std.proofs.Common.{◌*◌, take}
use Rattle.std.specs.Io.KnownBytes.{Appends}
use Rattle.std.specs.List.{flat_map}
use Rattle.vr_types.specs.Pages.{page_rows}
use Rattle.pvp_wire.specs.Layout.{row}
use Rattle.pvp_wire.proofs.writing.write_each.Given as goal

-- the pages so far
abbrev pub invariant-loop-at : goal.invariant-loop-at
invariant-loop-at g l = Appends (g.W.Write.contents l.fn.writer) (g.W.Write.contents l.writer) (flat_map row.spell (take (page_rows * l.at) l.rows))
