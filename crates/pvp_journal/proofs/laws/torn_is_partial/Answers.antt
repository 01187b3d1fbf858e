use Rattle.pvp_journal.proofs.Partial.{cut-partial, partial-cut}
use Rattle.pvp_journal.proofs.laws.torn_is_partial.Goals as goal

pub returns-clause-partial : goal.returns-clause-partial
returns-clause-partial c = λ before bytes fits e. cut-partial before bytes fits e

pub returns-clause-cut : goal.returns-clause-cut
returns-clause-cut c = λ before bytes p. partial-cut before bytes p
