use Rattle.std.proofs.Common.{◌≡◌, ◌<◌, true, length, subst, sym}
use Rattle.std.specs.Prelude.{nat_lt}
use Rattle.std.proofs.lemmas.Bool.{ltb-true}
use Rattle.pvp_types.specs.Setup.{faults}
use Rattle.rtgs_node.specs.Node.{notice_out}
use Rattle.rtgs_node.specs.Shown.{ShownNode}
use Rattle.rtgs_node.proofs.Held.{shown_node}
use Rattle.rtgs_node.proofs.Notices.{on_err, notice-some}
use Rattle.rtgs_node.proofs.node.Node.notice_after.Goals as goal

pub returns-in-Some-clause-err : goal.returns-in-Some-clause-err
returns-in-Some-clause-err c =
    let low = ltb-true _ _ (sym c.in-Some.ensures.lookup.0) in
    let more = subst (λ l. c.args.answered < length l) c.deref.ensures.value low in
    on_err c.to_sites.result
    (subst (λ (s : ShownNode). nat_lt 0 (length (notice_out (faults s.setup) s.ccy (record s.node { answered = c.args.answered }))) ≡ true)
    c.self.view_is
    (notice-some (faults c.self.inside.setup) c.self.inside.ccy (record (shown_node c.self.inside).node { answered = c.args.answered }) more))
