use Rattle.pvp_audit.proofs.Filling.{filled_once}
use Rattle.pvp_audit.proofs.laws.one_history.Goals as goal

pub returns : goal.returns
returns c = λ x entries history other of filled also again. filled_once x entries history other of filled also again
