use Rattle.pvp_serve.proofs.Unowed.{lost_dropped}
use Rattle.pvp_serve.proofs.laws.lost_is_dropped.Goals as goal

pub returns : goal.returns
returns c = λ choose f me actor x m seen new old known some is. lost_dropped choose f me actor x m seen new old known some is
