use Rattle.pvp_links.proofs.Never.{front-never}
use Rattle.pvp_links.proofs.laws.memory.Goals as goal

pub returns : goal.returns
returns c = front-never
