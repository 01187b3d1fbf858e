use Rattle.pvp_codes.proofs.ByteFinding.{finds_a_byte}
use Rattle.pvp_codes.proofs.laws.bytes.Goals as goal

pub returns : goal.returns
returns c = finds_a_byte
