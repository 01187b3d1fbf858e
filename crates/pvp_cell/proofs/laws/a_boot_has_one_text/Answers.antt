use Rattle.pvp_cell.proofs.OneText.{one_text}
use Rattle.pvp_cell.proofs.laws.a_boot_has_one_text.Goals as goal

pub returns-clause-one : goal.returns-clause-one
returns-clause-one c = one_text
