use Rattle.pvp_journal.proofs.Journals.{journal_goes_on}
use Rattle.pvp_journal.proofs.laws.what_goes_on.Goals as goal

pub returns : goal.returns
returns c = λ bytes journal later fits read whole. journal_goes_on bytes journal later fits read whole
