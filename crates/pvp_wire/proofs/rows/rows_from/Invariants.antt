use Rattle.std.proofs.Common.{◌≡◌, ◌-◌, false, length}
use Rattle.pvp_wire.specs.Layout.{row}
use Rattle.pvp_wire.specs.Shape.{items_from}
use Rattle.pvp_wire.proofs.Loop.{with_front, IsAsked}
use Rattle.pvp_wire.proofs.rows.rows_from.Given as goal

abbrev pub invariant-loop : goal.invariant-loop
invariant-loop l =
    (length l.rows ≡ l.counter)
    × (with_front l.rows (items_from (row.read false) false (l.count - l.counter) l.rest) ≡ items_from (row.read false) false l.count l.bytes)
    × IsAsked (row.read false) l.count l.counter l.rest l.bytes
