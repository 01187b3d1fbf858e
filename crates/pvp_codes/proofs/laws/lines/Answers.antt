use Rattle.pvp_codes.proofs.LineCounted.{line-counted}
use Rattle.pvp_codes.proofs.laws.lines.Goals as goal

pub returns : goal.returns
returns c = line-counted
