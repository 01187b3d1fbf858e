use Rattle.rtgs_node.proofs.Whole.{whole-after}
use Rattle.rtgs_node.proofs.laws.accounts_are_deposits.Goals as goal

pub returns : goal.returns
returns c = whole-after
