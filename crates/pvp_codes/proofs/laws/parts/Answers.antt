use Rattle.pvp_codes.proofs.TreeFinding.{finds_a_part, finds_no_part}
use Rattle.pvp_codes.proofs.laws.parts.Goals as goal

pub returns-clause-finds : goal.returns-clause-finds
returns-clause-finds c = finds_a_part

pub returns-clause-no_other : goal.returns-clause-no_other
returns-clause-no_other c = finds_no_part
