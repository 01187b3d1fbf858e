use Rattle.std.proofs.Common.{◌≡◌, map, take, string_bytes}
use Rattle.pvp_window.specs.Neighbours.{origin_of}
use Rattle.pvp_window.proofs.window.origins_of.Given as goal

-- the pages so far
abbrev pub invariant-loop-name : goal.invariant-loop-name
invariant-loop-name l =
    map (λ it. string_bytes it) l.origins.items ≡ map origin_of (map (λ name. name.now) (take l.name-index l.names))
