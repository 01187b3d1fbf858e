use Rattle.std.proofs.Common.{◌≡◌, ◌*◌, ◌≤◌, length, take}
use Rattle.std.specs.List.{flat_map}
use Rattle.pvp_wire.specs.Layout.{row}
use Rattle.pvp_wire.specs.Spelling.{most_row}
use Rattle.pvp_wire.specs.Shape.{EachFits}
use Rattle.pvp_wire.proofs.writing.page_len.Given as goal

-- of the rows so far
abbrev pub invariant-loop-row : goal.invariant-loop-row
invariant-loop-row l =
    (l.len ≡ length (flat_map row.spell (take l.row-index l.page)))
    × (l.len ≤ most_row * l.row-index)
    × EachFits row.Fits (take l.row-index l.page)
