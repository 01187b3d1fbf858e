use Rattle.std.proofs.Common.{◌≡◌, ◌*◌, ◌≤◌, length, take}
use Rattle.std.specs.List.{flat_map}
use Rattle.vr_types.specs.Pages.{page_rows}
use Rattle.pvp_wire.specs.Layout.{row}
use Rattle.pvp_wire.specs.Spelling.{most_row}
use Rattle.pvp_wire.specs.Shape.{EachFits}
use Rattle.pvp_wire.proofs.writing.each_len.Given as goal

-- of the pages so far
abbrev pub invariant-loop-page : goal.invariant-loop-page
invariant-loop-page l =
    (l.len ≡ length (flat_map row.spell (take (page_rows * l.page) l.rows)))
    × (l.len ≤ most_row * length (take (page_rows * l.page) l.rows))
    × EachFits row.Fits (take (page_rows * l.page) l.rows)
