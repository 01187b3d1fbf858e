use Rattle.pvp_journal.proofs.Recorded.{journal-more, journal_sum-more}
use Rattle.pvp_journal.proofs.laws.grows.Goals as goal

pub returns-clause-text : goal.returns-clause-text
returns-clause-text c = λ head history r. journal-more head history r

pub returns-clause-sum : goal.returns-clause-sum
returns-clause-sum c = λ head history r. journal_sum-more head history r
