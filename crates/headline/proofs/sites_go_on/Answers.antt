use Rattle.headline.proofs.Onward as onward
use Rattle.headline.proofs.Resting as resting
use Rattle.headline.proofs.sites_go_on.Goals as goal

pub returns-clause-progress : goal.returns-clause-progress
returns-clause-progress c = λ setup f some list can. onward.sites_go_on setup f some list can

pub returns-clause-serving : goal.returns-clause-serving
returns-clause-serving c = λ setup f some list view log row working new posted. onward.serves setup f some list view log row working new posted

pub returns-clause-resting : goal.returns-clause-resting
returns-clause-resting c = λ setup f some list view log working room. resting.rests setup f some view list log working room
