use Rattle.std.proofs.Common.{◌≡◌, ◌++◌, string_bytes}
use Rattle.std.specs.List.{flat_map, range_with_len}
use Rattle.pvp_window.specs.Book.{entry_item}
use Rattle.pvp_window.proofs.book.push_some_entries.Given as goal

-- the entries so far
abbrev pub invariant-loop-at : goal.invariant-loop-at
invariant-loop-at l =
    string_bytes l.text ≡ string_bytes l.fn.text ++ flat_map (entry_item l.book l.from) (range_with_len 0 l.at)
