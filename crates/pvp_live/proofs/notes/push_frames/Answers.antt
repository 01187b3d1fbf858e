use Rattle.std.proofs.Common.{append_assoc}
use Rattle.pvp_live.proofs.notes.push_frames.Goals as goal

pub returns : goal.returns
returns c = simp append_assoc c.write.ensures.bytes
