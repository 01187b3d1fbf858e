use Rattle.std.proofs.Common.{◌≡◌, ◌++◌, ◌∷◌, [], None, ap, subst, sym, ◌∙◌}
use Rattle.pvp_types.specs.Setup.{faults}
use Rattle.pvp_types.specs.declared.command.Cmd.TheVariants.{Returned}
use Rattle.rtgs_node.specs.Node.{order_checks}
use Rattle.rtgs_node.specs.Shown.{ShownNode, first_fault}
use Rattle.rtgs_node.proofs.Held.{shown_node}
use Rattle.rtgs_node.proofs.KeptLemmas.{IsKeptNode-given_back}
use Rattle.rtgs_node.proofs.node.Node.give_back.Goals as goal

pub invariant_of-self-2 : goal.invariant_of-self-2
invariant_of-self-2 c =
    let none =
    subst (λ (s : ShownNode). first_fault (order_checks s.setup (faults s.setup) s.ccy s.node c.args.order) ≡ None) (sym c.self.view_is) c.requires.checked in
    let orders = c.put.ensures.items ∙ ap (λ l. l ++ c.args.order ∷ []) c.in_ok-make_room.ensures.payments in
    let notices = c.put-2.ensures.items ∙ ap (λ l. l ++ Returned c.self.inside.ccy c.args.order.out ∷ []) c.in_ok-make_room.ensures.notices in
    rw (orders, notices)
    (IsKeptNode-given_back (shown_node c.self.inside) _ _ _ _ c.self.invariant (faults c.self.inside.setup) c.args.order none
    (Returned c.self.inside.ccy c.args.order.out) c.know.new.known.keys c.in_ok-know.ensures.known)
