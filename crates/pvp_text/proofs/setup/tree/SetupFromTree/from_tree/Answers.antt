use Rattle.std.proofs.Common.{codes}
use Rattle.std.proofs.lemmas.Result.{err_from_is_err_and}
use Rattle.serde_json.specs.View.{view}
use Rattle.pvp_text.specs.SetupText.{number, list, member, currency, bank_member, setup, text_fault_is_memory}
use Rattle.pvp_text.specs.Steadiness.{steady-number, steady-list, steady-member, steady-currency}
use Rattle.pvp_text.proofs.ReadingLemmas.{at_third}
use Rattle.pvp_text.proofs.setup.tree.SetupFromTree.from_tree.Goals as goal

pub returns-in_err-member-3 : goal.returns-in_err-member-3
unfolding setup
returns-in_err-member-3 c =
    let d = view c.args.tree.now in
    let p = err_from_is_err_and c.from_residual-in_err-member-3.result c.from_residual-in_err-member-3.ensures.1 in
    rw (p.1, p.2) (at_third text_fault_is_memory c.in_err-member-3.field-0.0 c.in_ok-member.field-0 c.in_ok-member-2.field-0
    (λ refused. member number (codes "sites") refused d)
    (λ refused. member (list currency) (codes "currencies") refused d) (λ refused. member (list bank_member) (codes "members") refused d)
    (λ sites currencies members. record { sites = sites; currencies = currencies; members = members })
    (steady-member number (codes "sites") steady-number d) c.in_ok-member.ensures
    (steady-member (list currency) (codes "currencies") (steady-list currency steady-currency) d) c.in_ok-member-2.ensures
    c.in_err-member-3.ensures)
