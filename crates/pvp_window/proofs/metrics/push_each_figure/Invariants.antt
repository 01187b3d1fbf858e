use Rattle.std.proofs.Common.{◌≡◌, ◌++◌, string_bytes}
use Rattle.std.specs.List.{flat_map, range_with_len}
use Rattle.pvp_window.specs.Metrics.{figure_line}
use Rattle.pvp_window.proofs.metrics.push_each_figure.Given as goal

-- the currencies so far
abbrev pub invariant-loop-c : goal.invariant-loop-c
invariant-loop-c l =
    string_bytes l.text ≡ string_bytes l.fn.text ++ flat_map (figure_line l.book) (range_with_len 0 l.c)
