use Rattle.pvp_journal.proofs.Recorded.{one_reading, none_left, none_wrong}
use Rattle.pvp_journal.proofs.laws.only_one_reading.Goals as goal

pub returns-clause-reading : goal.returns-clause-reading
returns-clause-reading c = λ bytes head other history more end stop ra na rb nb. one_reading bytes head other history more end stop ra na rb nb

pub returns-clause-left : goal.returns-clause-left
returns-clause-left c = λ all me end left h. none_left all me end left h

pub returns-clause-wrong : goal.returns-clause-wrong
returns-clause-wrong c = λ me end fault other h. none_wrong me end fault other h
