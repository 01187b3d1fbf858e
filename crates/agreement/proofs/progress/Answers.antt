use Rattle.agreement.proofs.Onward as onward
use Rattle.agreement.proofs.progress.Goals as goal

pub returns-clause-progress : goal.returns-clause-progress
returns-clause-progress g c = λ f some list can. onward.progresses f some list can

pub returns-clause-serving : goal.returns-clause-serving
returns-clause-serving g c = λ f some list view log row working new. onward.served f some list view log row working new

pub returns-clause-repeating : goal.returns-clause-repeating
returns-clause-repeating g c = λ f some list view log row working new. onward.repeated f list view log row working new
