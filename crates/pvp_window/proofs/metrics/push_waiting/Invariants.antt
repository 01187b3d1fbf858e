use Rattle.std.proofs.Common.{◌≡◌, ◌++◌, take, string_bytes}
use Rattle.std.specs.List.{flat_map}
use Rattle.pvp_window.specs.Metrics.{stream_line}
use Rattle.pvp_window.proofs.metrics.push_waiting.Given as goal

-- the streams so far
abbrev pub invariant-loop-stream : goal.invariant-loop-stream
invariant-loop-stream l =
    string_bytes l.text ≡ string_bytes l.fn.text ++ flat_map (stream_line l.setup) (take l.stream-index l.streams)
