use Rattle.pvp_audit.proofs.Furthers.{in_order}
use Rattle.pvp_audit.proofs.verdict.one_pass.Goals as goal

pub pass-requires-clause-opened : goal.pass-requires-clause-opened
pass-requires-clause-opened c = in_order c.args.setup.now c.args.closed.now c.requires.bank.sites
