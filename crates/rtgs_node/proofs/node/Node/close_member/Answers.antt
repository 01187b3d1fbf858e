use Rattle.std.proofs.Common.{◌<◌, subst, sym, ◌∙◌, ap}
use Rattle.std.specs.Prelude.{vec_capacity}
use Rattle.rtgs_node.specs.Node.{is_closed}
use Rattle.rtgs_node.specs.Shown.{ShownNode}
use Rattle.rtgs_node.proofs.Held.{shown_node}
use Rattle.rtgs_node.proofs.KeptLemmas.{closed-room, IsKeptNode-closed}
use Rattle.rtgs_node.proofs.node.Node.close_member.Goals as goal

pub put-requires : goal.put-requires
put-requires c =
    subst (λ n. n < vec_capacity c.self.inside.closed) (sym c.self.inside.closed.ok.0)
    (closed-room (shown_node c.self.inside) _ _ _ _ c.self.invariant c.args.member (sym c.has_member.ensures ∙ c.if-not-has_member.false)
    (ap (λ (s : ShownNode). is_closed s.node c.args.member) c.self.view_is ∙ sym c.is_closed.ensures ∙ c.if-is_closed.false))

pub invariant_of-self : goal.invariant_of-self
invariant_of-self c =
    rw c.put.ensures.items
    (IsKeptNode-closed (shown_node c.self.inside) _ _ _ _ c.self.invariant c.args.member (sym c.has_member.ensures ∙ c.if-not-has_member.false)
    (ap (λ (s : ShownNode). is_closed s.node c.args.member) c.self.view_is ∙ sym c.is_closed.ensures ∙ c.if-is_closed.false) _ c.put.ensures.capacity)
