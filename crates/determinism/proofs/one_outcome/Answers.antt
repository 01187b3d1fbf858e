use Rattle.determinism.proofs.Outcome.{refused-bank, result-once, twins-go-on}
use Rattle.determinism.proofs.one_outcome.Goals as goal

pub returns-clause-refused : goal.returns-clause-refused
returns-clause-refused g c = λ old new at step result applies free. refused-bank g.C.BootCell.held old new step at result applies free

pub returns-clause-result : goal.returns-clause-result
returns-clause-result g c = λ a b twins one other step r s p q free too.
    (result-once g.C.BootCell.held a b twins one other step r s p q free too, twins-go-on g.C.BootCell.held a b twins one other step r s p q free too)
