use Rattle.pvp_journal.proofs.Recorded.{cut_journal}
use Rattle.pvp_journal.proofs.laws.cut.Goals as goal

pub returns : goal.returns
returns c = λ head history size h le. cut_journal head history size h le
