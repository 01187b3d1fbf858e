use Rattle.std.proofs.Common.{◌≡◌, pos, subst}
use Rattle.rtgs_node.specs.Shown.{ShownNode}
use Rattle.rtgs_node.specs.Laws.{all_accounts, all_deposits}
use Rattle.rtgs_node.proofs.Whole.{kept-whole}
use Rattle.rtgs_node.proofs.Held.{shown_node}
use Rattle.rtgs_node.proofs.node.Node.account.Goals as goal

pub returns-clause-whole : goal.returns-clause-whole
returns-clause-whole c =
    subst (λ (s : ShownNode). all_accounts s.setup s.ccy s.node ≡ pos (all_deposits s.setup s.ccy)) c.self.view_is
    (kept-whole (shown_node c.self.inside) _ _ _ _ c.self.invariant)
