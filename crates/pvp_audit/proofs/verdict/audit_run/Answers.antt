use Rattle.std.proofs.Common.{subst}
use Rattle.pvp_audit.specs.Passed.{PassesSo}
use Rattle.pvp_audit.proofs.Judging.{passed_run}
use Rattle.pvp_audit.proofs.verdict.audit_run.Goals as goal

pub returns-in-All-clause-judges : goal.returns-in-All-clause-judges
returns-in-All-clause-judges c =
    passed_run c.args.closed.now c.args.setup.now c.in-All.world (subst (PassesSo c.args.setup.now c.args.closed.now) c.in-All.is c.in_ok-actor.ensures)
    c.in_default.ensures.none c.is_proved.ensures
