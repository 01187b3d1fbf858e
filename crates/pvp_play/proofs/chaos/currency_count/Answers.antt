use Rattle.std.proofs.Common.{arith}
use Rattle.pvp_types.proofs.SetupLemmas.{valid-currencies}
use Rattle.pvp_play.proofs.chaos.currency_count.Goals as goal

pub returns-clause-some : goal.returns-clause-some
returns-clause-some c = let some = valid-currencies c.args.setup.now c.requires in omega arith
