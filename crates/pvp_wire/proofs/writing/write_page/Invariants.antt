use Rattle.std.proofs.Common.{◌≡◌, ◌*◌, ◌≤◌, length, take}
use Rattle.std.specs.List.{flat_map}
use Rattle.pvp_wire.specs.Layout.{row}
use Rattle.pvp_wire.specs.Spelling.{most_row}
use Rattle.pvp_wire.proofs.writing.write_page.Given as goal

-- the rows so far
abbrev pub invariant-loop-row : goal.invariant-loop-row
invariant-loop-row g l =
    (l.page.items ≡ flat_map row.spell (take l.row-index l.rows))
    × (length l.page.items ≤ most_row * l.row-index)
