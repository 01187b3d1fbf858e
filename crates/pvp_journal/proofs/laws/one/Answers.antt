use Rattle.pvp_journal.proofs.Recorded.{one_text}
use Rattle.pvp_journal.proofs.laws.one.Goals as goal

pub returns : goal.returns
returns c = λ head other history more ha hb e. one_text head other history more ha hb e
