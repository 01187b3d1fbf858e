use Rattle.std.proofs.Common.{◌≡◌, ◌+◌, ◌*◌, ◌++◌, length, take}
use Rattle.std.specs.List.{flat_map}
use Rattle.pvp_wire.specs.Spelling.{number}
use Rattle.pvp_wire.specs.Shape.{Fits, EachFits}
use Rattle.pvp_wire.proofs.writing.push_boots.Given as goal

abbrev pub invariant-loop-site : goal.invariant-loop-site
invariant-loop-site l =
    (l.out.items ≡ l.fn.out.items ++ number 1 (length l.known) ++ flat_map (number 4) (take l.site l.known))
    × (length l.out.items ≡ length l.fn.out.items + 1 + 4 * l.site)
    × EachFits (Fits 4) (take l.site l.known)
