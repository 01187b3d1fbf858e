use Rattle.pvp_wire.proofs.Refusals.{frame_asked}
use Rattle.pvp_wire.proofs.laws.memory.Goals as goal

pub returns-clause-kind : goal.returns-clause-kind
returns-clause-kind c = λ bytes taken. (frame_asked bytes).kind taken

pub returns-clause-read : goal.returns-clause-read
returns-clause-read c = λ bytes s n taken e. (frame_asked bytes).found (s, n) taken e

pub returns-clause-fault : goal.returns-clause-fault
returns-clause-fault c = λ bytes fault taken e. (frame_asked bytes).fault fault taken e
