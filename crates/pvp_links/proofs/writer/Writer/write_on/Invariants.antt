use Rattle.pvp_links.specs.Writing.{HasWritten}
use Rattle.pvp_links.proofs.writer.Writer.write_on.Given as goal

-- some frames so far
abbrev pub invariant-loop : goal.invariant-loop
invariant-loop g l = HasWritten g.W.Write.contents l.fn.self.streams.items l.self.streams.items
