use Rattle.std.proofs.Common.{List, ℕ, take}
use Rattle.std.specs.Io.KnownBytes.{Appends}
use Rattle.pvp_play.specs.Lines.{Plays}
use Rattle.pvp_play.proofs.lines.play_lines.Given as goal

-- the lines so far were played, and what they print was written
abbrev pub invariant-loop-line : goal.invariant-loop-line
invariant-loop-line g l = (text : List ℕ) × Plays g.C.BootCell l.telling (take l.line-index l.lines) l.fn.player l.player text
    × Appends (g.W.Write.contents l.fn.writer) (g.W.Write.contents l.writer) text
