use Rattle.pvp_journal.proofs.Recorded.{journal_whole}
use Rattle.pvp_journal.proofs.laws.whole_reads_back.Goals as goal

pub returns : goal.returns
returns c = journal_whole
