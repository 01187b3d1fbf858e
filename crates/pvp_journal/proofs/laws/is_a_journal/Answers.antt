use Rattle.std.proofs.Common.{ap, ◌++◌}
use Rattle.pvp_journal.specs.Spelling.{head_text, head_sum}
use Rattle.pvp_journal.proofs.Journals.{records-are}
use Rattle.pvp_journal.proofs.laws.is_a_journal.Goals as goal

pub returns : goal.returns
returns c = λ head history. ap (λ bytes. head_text head ++ bytes) (records-are head.actor (head_sum head) history)
