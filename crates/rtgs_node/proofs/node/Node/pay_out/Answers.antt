use Rattle.std.proofs.Common.{◌≡◌, ℕ, ◌+◌, ◌-◌, ◌≤◌, ◌++◌, ◌∷◌, [], None, false, pos, ap, subst, sym, ◌∙◌, arith}
use Rattle.std.specs.Prelude.{slice_index_or, int_lt}
use Rattle.pvp_types.specs.declared.command.PayOrder.{PayOrder}
use Rattle.pvp_types.specs.Setup.{faults}
use Rattle.pvp_types.specs.declared.command.Cmd.TheVariants.{Paid}
use Rattle.rtgs_node.specs.declared.node.Node.TheInside.{Inside}
use Rattle.rtgs_node.specs.Node.{came_in, went_out, account, order_checks}
use Rattle.rtgs_node.specs.Shown.{ShownNode, first_fault}
use Rattle.rtgs_node.proofs.Amounts.{covers, at-place}
use Rattle.rtgs_node.proofs.Held.{shown_node, IsHeld}
use Rattle.rtgs_node.proofs.KeptLemmas.{member-small, member-place, order-known, order-small, IsKeptNode-paid_out}
use Rattle.rtgs_node.proofs.node.Node.pay_out.Goals as goal

-- no check fails
abbrev Passes : ShownNode → PayOrder → Type 0
Passes s order = first_fault (order_checks s.setup (faults s.setup) s.ccy s.node order) ≡ None

-- the bank's account covers the order
enough : (a : Inside) → IsHeld a → (amt : ℕ) → int_lt (account (shown_node a).node) (pos amt) ≡ false → amt ≤ a.bank
enough a is amt covered = covers (came_in (shown_node a).node) (went_out (shown_node a).node) a.bank amt is.accounts.bank covered

-- what the member's account holds
held : (a : Inside) → IsHeld a → (order : PayOrder) (at value : ℕ) → Passes (shown_node a) order → value ≡ slice_index_or a.members.items (at - 1) value
    → at ≡ order.member
    → value ≡ slice_index_or a.members.items (order.member - 1) 0
held a is order at value none read place =
    let mine = order-known (shown_node a) _ _ _ _ is (faults a.setup) order none in
    at-place a.members.items at order.member value read place (member-place (shown_node a) _ _ _ _ is order.member mine).1

pub transfer-requires-clause-covered : goal.transfer-requires-clause-covered
transfer-requires-clause-covered c =
    enough c.self.inside c.self.invariant c.args.order.amt
    (subst (λ (s : ShownNode). int_lt (account s.node) (pos c.args.order.amt) ≡ false) (sym c.self.view_is) c.requires.covered)

pub transfer-requires-clause-fits : goal.transfer-requires-clause-fits
transfer-requires-clause-fits c =
    let none = subst (λ (s : ShownNode). Passes s c.args.order) (sym c.self.view_is) c.requires.checked in
    let mine = order-known (shown_node c.self.inside) _ _ _ _ c.self.invariant (faults c.self.inside.setup) c.args.order none in
    let low = member-small (shown_node c.self.inside) _ _ _ _ c.self.invariant c.args.order.member mine in
    let small = order-small (shown_node c.self.inside) _ _ _ _ c.self.invariant (faults c.self.inside.setup) c.args.order none in
    let before = held c.self.inside c.self.invariant c.args.order _ _ none c.index_mut.ensures.value c.from-place.ensures in
    omega arith

pub invariant_of-self-2 : goal.invariant_of-self-2
invariant_of-self-2 c =
    let none = subst (λ (s : ShownNode). Passes s c.args.order) (sym c.self.view_is) c.requires.checked in
    let covered =
    enough c.self.inside c.self.invariant c.args.order.amt
    (subst (λ (s : ShownNode). int_lt (account s.node) (pos c.args.order.amt) ≡ false) (sym c.self.view_is) c.requires.covered) in
    let cmd = Paid c.self.inside.ccy c.args.order.out in
    let orders = c.put.ensures.items ∙ ap (λ l. l ++ c.args.order ∷ []) c.in_ok-make_room.ensures.payments in
    let notices = c.put-2.ensures.items ∙ ap (λ l. l ++ cmd ∷ []) c.in_ok-make_room.ensures.notices in
    let before = held c.self.inside c.self.invariant c.args.order _ _ none c.index_mut.ensures.value c.from-place.ensures in
    let more = c.transfer.ensures.to ∙ ap (λ n. n + c.args.order.amt) before in
    rw (orders, notices, c.transfer.ensures.from, more, c.from-place.ensures)
    (IsKeptNode-paid_out (shown_node c.self.inside) _ _ _ _ c.self.invariant (faults c.self.inside.setup) c.args.order none cmd c.know.new.known.keys
    c.in_ok-know.ensures.known covered)
