use Rattle.std.proofs.Common.{◌≡◌, ◌++◌, take, string_bytes}
use Rattle.std.specs.List.{flat_map, enumerate_from}
use Rattle.pvp_window.specs.Status.{stream_item}
use Rattle.pvp_window.proofs.seen.push_streams.Given as goal

-- the streams so far
abbrev pub invariant-loop-at : goal.invariant-loop-at
invariant-loop-at l =
    string_bytes l.text ≡ string_bytes l.fn.text ++ flat_map (stream_item l.setup) (enumerate_from 0 (take l.at l.streams))
