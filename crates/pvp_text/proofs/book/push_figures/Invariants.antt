use Rattle.std.proofs.Common.{◌≡◌, ◌++◌, string_bytes}
use Rattle.pvp_text.specs.BookText.{figures_text}
use Rattle.pvp_text.proofs.book.push_figures.Given as goal

-- the currencies so far
abbrev pub invariant-loop-c : goal.invariant-loop-c
invariant-loop-c l = string_bytes l.text ≡ string_bytes l.fn.text ++ figures_text l.book l.c
