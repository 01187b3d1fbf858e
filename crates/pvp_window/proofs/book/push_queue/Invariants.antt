use Rattle.std.proofs.Common.{◌≡◌, ◌++◌, string_bytes}
use Rattle.std.specs.List.{flat_map, range_with_len}
use Rattle.pvp_window.specs.Book.{queue_item}
use Rattle.pvp_window.proofs.book.push_queue.Given as goal

-- the pairs so far
abbrev pub invariant-loop-at : goal.invariant-loop-at
invariant-loop-at l =
    string_bytes l.text ≡ string_bytes l.fn.text ++ flat_map (queue_item l.book) (range_with_len 0 l.at)
