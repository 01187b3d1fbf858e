use Rattle.std.proofs.Common.{◌≡◌, ◌-◌, true, ap, pos, subst, sym, ◌∙◌}
use Rattle.std.specs.Prelude.{slice_index_or}
use Rattle.pvp_book.specs.Answer.{has_member}
use Rattle.rtgs_node.specs.Node.{member_account}
use Rattle.rtgs_node.specs.Shown.{ShownNode}
use Rattle.rtgs_node.proofs.Amounts.{within}
use Rattle.rtgs_node.proofs.Held.{shown_node}
use Rattle.rtgs_node.proofs.KeptLemmas.{member-place, member-holds}
use Rattle.rtgs_node.proofs.node.Node.member_account.Goals as goal

pub returns : goal.returns
returns c =
    let mine = subst (λ (s : ShownNode). has_member s.setup c.args.member ≡ true) (sym c.self.view_is) c.requires in
    let place = (member-place (shown_node c.self.inside) _ _ _ _ c.self.invariant c.args.member mine).1 in
    let value = c.index.ensures ∙ ap (λ k. slice_index_or c.self.inside.members.items (k - 1) c.index.result.now) c.from.ensures
    ∙ within c.self.inside.members.items (c.args.member - 1) c.index.result.now place in
    ap pos value ∙ member-holds (shown_node c.self.inside) _ _ _ _ c.self.invariant c.args.member mine
    ∙ ap (λ (s : ShownNode). member_account s.setup s.ccy c.args.member s.node) c.self.view_is
