use Rattle.pvp_links.proofs.Written.{has_written_more}
use Rattle.pvp_links.proofs.writer.Writer.write_on.Goals as goal

pub loop-preserved : goal.loop-preserved
loop-preserved g c =
    has_written_more g.W.Write.contents c.in-Ok-Send.frame.stamped c.write.result c.args.self.now.streams.items c.loop.self.streams.items
    c.write.new.self.streams.items c.loop.invariant c.write.ensures
