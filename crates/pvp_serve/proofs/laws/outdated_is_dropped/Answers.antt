use Rattle.pvp_serve.proofs.Outdated.{outdated_dropped}
use Rattle.pvp_serve.proofs.laws.outdated_is_dropped.Goals as goal

pub returns : goal.returns
returns c = λ choose f me actor x msg standing status view late. outdated_dropped choose f me actor x msg _ standing.view view late
