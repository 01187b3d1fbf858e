use Rattle.std.proofs.Common.{sym}
use Rattle.std.proofs.lemmas.Result.{err_from_is_err_and}
use Rattle.pvp_audit.proofs.shelf.put_journals.Goals as goal

-- src/shelf.rt
pub returns-in_err-put_journal-clause-err : goal.returns-in_err-put_journal-clause-err
returns-in_err-put_journal-clause-err g c =
    let p = err_from_is_err_and c.from_residual.result c.from_residual.ensures.1 in
    rw (p.1, p.2) (c.loop-left.left-index, c.left-item.result, c.loop-left-test.true, sym c.left-item.is, c.in_err-put_journal.ensures.err)
