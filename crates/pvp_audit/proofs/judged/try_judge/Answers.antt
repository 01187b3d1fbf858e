use Rattle.std.proofs.Common.{List, subst, sym}
use Rattle.std.proofs.lemmas.Result.{IfOk-weaker}
use Rattle.pvp_audit.specs.Banked.{IsTheBank}
use Rattle.pvp_audit.specs.Judged.{Left, JudgesRun}
use Rattle.pvp_audit.specs.Histories.{AreLeftBy, JudgesLeft}
use Rattle.pvp_audit.proofs.Seating.{seated}
use Rattle.pvp_audit.proofs.judged.try_judge.Goals as goal

pub audit_run-requires-clause-bank : goal.audit_run-requires-clause-bank
audit_run-requires-clause-bank c =
    subst (λ (closed : List Left). IsTheBank c.args.setup.now closed) (sym c.as_slice.ensures.value)
    (seated c.args.setup.now c.requires.valid c.args.histories.items c.requires.bank c.in_ok-closed.closed.items c.in_ok-closed.ensures.left
    c.in_ok-closed.ensures.bank)

pub returns-clause-judges : goal.returns-clause-judges
returns-clause-judges c =
    IfOk-weaker c.audit_run.result (JudgesRun c.args.setup.now c.as_slice.result.now) (JudgesLeft c.args.setup.now c.args.histories.items)
    (λ verdict judges. (
      c.as_slice.result.now,
      subst (λ (closed : List Left). AreLeftBy closed c.args.histories.items) (sym c.as_slice.ensures.value) c.in_ok-closed.ensures.left,
      subst (λ (closed : List Left). IsTheBank c.args.setup.now closed) (sym c.as_slice.ensures.value)
          (seated c.args.setup.now c.requires.valid c.args.histories.items c.requires.bank c.in_ok-closed.closed.items c.in_ok-closed.ensures.left
          c.in_ok-closed.ensures.bank),
      judges,
    ))
    c.audit_run.ensures.judges
