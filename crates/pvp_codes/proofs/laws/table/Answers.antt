use Rattle.std.proofs.Common.{◌≡◌, refl}
use Rattle.pvp_codes.proofs.EachTold.{each-told}
use Rattle.pvp_codes.proofs.laws.table.Goals as goal

pub returns-clause-each : goal.returns-clause-each
returns-clause-each c = each-told
