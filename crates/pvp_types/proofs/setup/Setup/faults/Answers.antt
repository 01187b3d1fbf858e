use Rattle.std.proofs.Common.{arith}
use Rattle.pvp_types.proofs.SetupLemmas.{valid-sites}
use Rattle.pvp_types.proofs.setup.Setup.faults.Goals as goal

pub overflow_sub-result : goal.overflow_sub-result
overflow_sub-result c = let is = valid-sites _ c.requires in omega arith

pub overflow_cast-result : goal.overflow_cast-result
overflow_cast-result c = let is = valid-sites _ c.requires in omega arith

pub returns-clause-sites : goal.returns-clause-sites
returns-clause-sites c = (valid-sites _ c.requires).sites

pub returns-clause-some : goal.returns-clause-some
returns-clause-some c = (valid-sites _ c.requires).some

pub returns-clause-few : goal.returns-clause-few
returns-clause-few c = (valid-sites _ c.requires).few
