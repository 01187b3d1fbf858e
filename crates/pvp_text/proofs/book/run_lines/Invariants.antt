use Rattle.std.proofs.Common.{◌≡◌, ◌+◌, ◌≤◌, take, drop, length}
use Rattle.std.specs.Io.KnownBytes.{Appends}
use Rattle.pvp_text.specs.BookText.{text_of}
use Rattle.pvp_text.proofs.BookTextLemmas.{after_lines}
use Rattle.pvp_text.proofs.book.run_lines.Given as goal

-- the lines so far were run, and what they write was written
abbrev pub invariant-loop-line : goal.invariant-loop-line
invariant-loop-line g l = record {
  ran : l.book ≡ after_lines l.fn.book (take l.line-index l.lines);
  written : Appends (g.W.Write.contents l.fn.writer) (g.W.Write.contents l.writer) (text_of l.fn.book (take l.line-index l.lines));
  room : l.book.applied + length (drop l.line-index l.lines) ≤ 65535;
}
