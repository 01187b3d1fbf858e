use Rattle.std.proofs.Common.{◌≡◌, ◌++◌, string_bytes}
use Rattle.std.specs.List.{flat_map, range_with_len}
use Rattle.pvp_window.specs.Book.{balance_item}
use Rattle.pvp_window.proofs.book.push_balances.Given as goal

-- the currencies so far
abbrev pub invariant-loop-c : goal.invariant-loop-c
invariant-loop-c l =
    string_bytes l.text ≡ string_bytes l.fn.text ++ flat_map (balance_item l.book l.m l.member) (range_with_len 0 l.c)
