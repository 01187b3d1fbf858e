use Rattle.std.proofs.Common.{◌≡◌, ℕ, ◌+◌, ◌-◌, ◌≤◌, ◌++◌, ◌∷◌, [], None, ap, subst, sym, ◌∙◌, arith}
use Rattle.std.specs.Prelude.{slice_index_or}
use Rattle.pvp_types.specs.Setup.{faults}
use Rattle.pvp_types.specs.declared.command.Cmd.TheVariants.{Fund}
use Rattle.rtgs_node.specs.declared.node.Node.TheInside.{Inside}
use Rattle.rtgs_node.specs.Node.{pay_in_checks}
use Rattle.rtgs_node.specs.Shown.{ShownNode, first_fault}
use Rattle.rtgs_node.proofs.Amounts.{at-place}
use Rattle.rtgs_node.proofs.Held.{shown_node, IsHeld}
use Rattle.rtgs_node.proofs.KeptLemmas.{bank-small, member-place, paid_in-known, paid_in-small, paid_in-covered, IsKeptNode-paid_in}
use Rattle.rtgs_node.proofs.node.Node.credit.Goals as goal

-- no check fails
abbrev Passes : ShownNode → ℕ → ℕ → Type 0
Passes s member amt = first_fault (pay_in_checks s.setup (faults s.setup) s.ccy s.node member amt) ≡ None

-- what the member's account holds
held : (a : Inside) → IsHeld a → (member amt at value : ℕ) → Passes (shown_node a) member amt → value ≡ slice_index_or a.members.items (at - 1) value
    → at ≡ member
    → value ≡ slice_index_or a.members.items (member - 1) 0
held a is member amt at value none read place =
    let mine = paid_in-known (shown_node a) _ _ _ _ is (faults a.setup) member amt none in
    at-place a.members.items at member value read place (member-place (shown_node a) _ _ _ _ is member mine).1

pub transfer-requires-clause-covered : goal.transfer-requires-clause-covered
transfer-requires-clause-covered c =
    let none = subst (λ (s : ShownNode). Passes s c.args.member c.args.amt) (sym c.self.view_is) c.requires in
    subst (λ (n : ℕ). c.args.amt ≤ n)
    (sym (held c.self.inside c.self.invariant c.args.member c.args.amt _ _ none c.index_mut.ensures.value c.from-place.ensures))
    (paid_in-covered (shown_node c.self.inside) _ _ _ _ c.self.invariant (faults c.self.inside.setup) c.args.member c.args.amt none)

pub transfer-requires-clause-fits : goal.transfer-requires-clause-fits
transfer-requires-clause-fits c =
    let none = subst (λ (s : ShownNode). Passes s c.args.member c.args.amt) (sym c.self.view_is) c.requires in
    let low = bank-small (shown_node c.self.inside) _ _ _ _ c.self.invariant in
    let small = paid_in-small (shown_node c.self.inside) _ _ _ _ c.self.invariant (faults c.self.inside.setup) c.args.member c.args.amt none in
    omega arith

pub invariant_of-self-2 : goal.invariant_of-self-2
invariant_of-self-2 c =
    let none = subst (λ (s : ShownNode). Passes s c.args.member c.args.amt) (sym c.self.view_is) c.requires in
    let cmd = Fund c.self.inside.ccy (c.len.result + 1) c.args.member c.args.amt in
    let pay_ins = c.put.ensures.items ∙ ap (λ l. l ++ record { member = c.args.member; amt = c.args.amt } ∷ []) c.in_ok-make_room.ensures.payments in
    let notices = c.put-2.ensures.items ∙ ap (λ l. l ++ cmd ∷ []) c.in_ok-make_room.ensures.notices in
    let before = held c.self.inside c.self.invariant c.args.member c.args.amt _ _ none c.index_mut.ensures.value c.from-place.ensures in
    let left = c.transfer.ensures.from ∙ ap (λ n. n - c.args.amt) before in
    rw (pay_ins, notices, c.transfer.ensures.to, left, c.from-place.ensures)
    (IsKeptNode-paid_in (shown_node c.self.inside) _ _ _ _ c.self.invariant (faults c.self.inside.setup) c.args.member c.args.amt none cmd)
