use Rattle.pvp_links.proofs.Wholes.{taken}
use Rattle.pvp_links.proofs.laws.frames_come_whole.Goals as goal

pub returns : goal.returns
returns g c = λ frames old new out written each in'. taken g.W.Write.contents frames old new written each out in'
