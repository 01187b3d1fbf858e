use Rattle.std.proofs.Common.{◌≡◌, ◌-◌, false, length}
use Rattle.pvp_wire.specs.Shape.{number_at, items_from}
use Rattle.pvp_wire.proofs.Loop.{with_front}
use Rattle.pvp_wire.proofs.boots.boots_from.Given as goal

-- so many boots were read, and with those that follow they are all
abbrev pub invariant-loop : goal.invariant-loop
invariant-loop l =
    (length l.known ≡ l.counter)
    × (with_front l.known (items_from (number_at 4) false (l.count - l.counter) l.rest) ≡ items_from (number_at 4) false l.count l.bytes)
