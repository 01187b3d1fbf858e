use Rattle.pvp_wire.proofs.Streams.{fed_cuts, given_cuts}
use Rattle.pvp_wire.proofs.laws.cuts.Goals as goal

pub returns-clause-given : goal.returns-clause-given
returns-clause-given c = given_cuts

pub returns-clause-taken : goal.returns-clause-taken
returns-clause-taken c = fed_cuts
