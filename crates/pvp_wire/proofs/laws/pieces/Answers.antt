use Rattle.pvp_wire.proofs.Streams.{fed_pieces, fed_left}
use Rattle.pvp_wire.proofs.laws.pieces.Goals as goal

pub returns-clause-front : goal.returns-clause-front
returns-clause-front c = fed_pieces

pub returns-clause-left : goal.returns-clause-left
returns-clause-left c = fed_left
