use Rattle.pvp_journal.proofs.Spelled.{read_spelled}
use Rattle.pvp_journal.proofs.laws.read.Goals as goal

pub returns : goal.returns
returns c = λ bytes head history end fits h. read_spelled bytes head history end fits h
