use Rattle.std.proofs.Common.{◌≡◌, ◌++◌, map, take, string_bytes}
use Rattle.std.specs.List.{flat_map, enumerate_from}
use Rattle.pvp_window.specs.Neighbours.{name_item}
use Rattle.pvp_window.proofs.window.push_names.Given as goal

-- the names so far
abbrev pub invariant-loop-at : goal.invariant-loop-at
invariant-loop-at l =
    string_bytes l.text ≡ string_bytes l.fn.text
    ++ flat_map name_item (enumerate_from 0 (map (λ name. name.now) (take l.at l.names)))
