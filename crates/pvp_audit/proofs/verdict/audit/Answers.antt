use Rattle.pvp_audit.proofs.verdict.audit.Goals as goal

pub verdict_of-requires-clause-bank : goal.verdict_of-requires-clause-bank
verdict_of-requires-clause-bank c = c.is_the_bank.ensures.0 c.if-not-is_the_bank.false
