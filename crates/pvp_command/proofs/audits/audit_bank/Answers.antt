use Rattle.std.proofs.Common.{inr}
use Rattle.std.proofs.lemmas.Result.{err_from_is_err_and}
use Rattle.pvp_command.proofs.audits.audit_bank.Goals as goal

-- the journals were read, and the text of the verdict was not written
pub returns-in_err-status-clause-err : goal.returns-in_err-status-clause-err
returns-in_err-status-clause-err g c =
    let p = err_from_is_err_and c.from_residual-in_err-status.result c.from_residual-in_err-status.ensures.1 in
    rw (p.1, p.2) (inr (c.in_ok-journals.journals.items, c.in_ok-journals.ensures.ok, inr c.in_err-status.ensures.err))
