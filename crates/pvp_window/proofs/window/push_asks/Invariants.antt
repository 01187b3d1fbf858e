use Rattle.std.proofs.Common.{◌≡◌, ◌++◌, map, take, string_bytes}
use Rattle.std.specs.List.{flat_map}
use Rattle.pvp_window.specs.Neighbours.{asks}
use Rattle.pvp_window.proofs.window.push_asks.Given as goal

-- the windows so far
abbrev pub invariant-loop-name : goal.invariant-loop-name
invariant-loop-name l =
    string_bytes l.text ≡ string_bytes l.fn.text ++ flat_map asks (map (λ name. name.now) (take l.name-index l.names))
