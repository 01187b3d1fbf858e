use Rattle.headline.proofs.Done as done
use Rattle.headline.proofs.progress.Goals as goal

pub returns : goal.returns
returns c = λ setup f some list can. done.progresses setup f some list can
