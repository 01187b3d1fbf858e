-- The bank's account and the members' hold together what was deposited.
use Rattle.std.proofs.Common.{◌≡◌, ℕ, suc, zero, ◌+◌, Bool, true, false, not, List, [], ◌∷◌, length, map, fold, arith, refl, ap, ◌∙◌, sum_by, pos, ◌+ℤ◌, ◌-ℤ◌}
use Rattle.std.specs.Prelude.{◌&&◌, ◌==◌, nat_lt, if◌then◌else◌, int_lt}
use Rattle.std.specs.List.{AllByRecursion, range_with_len}
use Rattle.std.proofs.lemmas.Int.{ints}
use Rattle.std.proofs.lemmas.Bool.{not-false}
use Rattle.std.proofs.lemmas.List.Sums.{sum_by-cons, sum_by_push, fold-append}
use Rattle.std.proofs.lemmas.List.{map-append}
use Rattle.pvp_types.specs.declared.setup.Setup.{Setup}
use Rattle.pvp_types.specs.declared.command.Cmd.{Cmd}
use Rattle.pvp_types.specs.declared.command.Reply.{Reply as Answer}
use Rattle.pvp_types.specs.declared.command.PayOrder.{PayOrder as PaymentOrder}
use Rattle.pvp_types.proofs.Lists.{range_from_1_more}
use Rattle.vr_types.specs.declared.message.MsgOf.{MsgOf}
use Rattle.vr_types.specs.declared.message.MsgOf.TheVariants.{Reply, PayOrder}
use Rattle.pvp_book.specs.Ledger.{node_of}
use Rattle.pvp_book.specs.Answer.{has_member}
use Rattle.pvp_book.proofs.Counts.{each-append, each-weaker}
use Rattle.pvp_book.proofs.Members.{upto, upto-add, upto-sum, pick-one, is-member}
use Rattle.rtgs_node.specs.declared.fault.NodeFault.{NodeFault}
use Rattle.rtgs_node.specs.declared.fault.NodeFault.TheVariants.{Short}
use Rattle.rtgs_node.specs.declared.payment.PayIn.{PayIn}
use Rattle.rtgs_node.specs.declared.event.NodeEvent.TheVariants.{PaysIn, Closes, Takes, Beats}
use Rattle.rtgs_node.specs.declared.event.NodeEvent.{NodeEvent}
use Rattle.rtgs_node.specs.Node.{Node, NodeStep, opening_node, came_in, went_out, came_from, went_to, account, deposit, member_account, refuses, unless, is_known, is_closed, pay_in_checks, order_checks, close_checks, on_order, on_reply, on_message, node_step}
use Rattle.rtgs_node.specs.Shown.{ShownNode}
use Rattle.rtgs_node.specs.Kept.{IsPayment, IsKeptNode}
use Rattle.rtgs_node.proofs.Checks.{Passed}
use Rattle.rtgs_node.specs.Laws.{node_after, all_accounts, all_deposits}

-- each payment is of a member of the setup
pub record AreMembers (setup : Setup) (x : Node) : Type 0 where
  pub pay_ins : AllByRecursion (λ (p : PayIn). has_member setup p.member ≡ true) x.pay_ins
  pub pay_outs : AllByRecursion (λ (o : PaymentOrder). has_member setup o.member ≡ true) x.pay_outs

-- sums of a function over all members, by member
all-of : {X : Type 0} (setup : Setup) (who amt : X → ℕ) (xs : List X) → AllByRecursion (λ (x : X). has_member setup (who x) ≡ true) xs
    → upto (λ m. sum_by (λ x. if who x == m then amt x else 0) xs) (length setup.members) ≡ sum_by amt xs
all-of {X} setup who amt xs all = upto-sum (λ m x. if who x == m then amt x else 0) xs (length setup.members) ∙ each xs all
  where
    each : (ys : List X) → AllByRecursion (λ (x : X). has_member setup (who x) ≡ true) ys
        → sum_by (λ x. upto (λ m. if who x == m then amt x else 0) (length setup.members)) ys ≡ sum_by amt ys
    each [] all = refl
    each (y ∷ ys) all =
        let mine = is-member setup (who y) all.0 in
        let here = pick-one (who y) (amt y) (length setup.members) mine.0 mine.1 in
        let rest = each ys all.1 in
        let left = sum_by-cons (λ (x : X). upto (λ m. if who x == m then amt x else 0) (length setup.members)) y ys in
        let right = sum_by-cons amt y ys in
        omega arith

deposits-are : (setup : Setup) (c n : ℕ) → upto (λ m. deposit setup c m) n ≡ sum_by (λ m. deposit setup c m) (range_with_len 1 n)
unfolding upto
deposits-are setup c zero = refl
deposits-are setup c (suc n) =
    let rest = deposits-are setup c n in
    let more = ap (sum_by (λ m. deposit setup c m)) (range_from_1_more n) ∙ sum_by_push (λ m. deposit setup c m) (range_with_len 1 n) (suc n) in
    omega arith

accounts-upto : (setup : Setup) (c : ℕ) (x : Node) (n : ℕ)
    → fold ◌+ℤ◌ (pos 0) (map (λ m. member_account setup c m x) (range_with_len 1 n))
    ≡ pos (upto (λ m. deposit setup c m + went_to m x) n) -ℤ pos (upto (λ m. came_from m x) n)
unfolding upto
accounts-upto setup c x zero = refl
accounts-upto setup c x (suc n) =
    ap (λ ms. fold ◌+ℤ◌ (pos 0) (map (λ m. member_account setup c m x) ms)) (range_from_1_more n)
    ∙ ap (fold ◌+ℤ◌ (pos 0)) (map-append (λ m. member_account setup c m x) (range_with_len 1 n) (suc n ∷ []))
    ∙ fold-append ◌+ℤ◌ (pos 0) (map (λ m. member_account setup c m x) (range_with_len 1 n)) (member_account setup c (suc n) x ∷ [])
    ∙ ap (λ z. z +ℤ member_account setup c (suc n) x) (accounts-upto setup c x n)
    ∙ joined (upto (λ m. deposit setup c m + went_to m x) n) (upto (λ m. came_from m x) n) (deposit setup c (suc n) + went_to (suc n) x) (came_from (suc n) x)
  where
    joined : (a b d e : ℕ) → (pos a -ℤ pos b) +ℤ (pos d -ℤ pos e) ≡ pos (a + d) -ℤ pos (b + e)
    joined a b d e = omega (arith, ints)

pub whole : (setup : Setup) (c : ℕ) (x : Node) → AreMembers setup x → all_accounts setup c x ≡ pos (all_deposits setup c)
whole setup c x are =
    ap (λ z. account x +ℤ z) (accounts-upto setup c x (length setup.members))
    ∙ sums (came_in x) (went_out x) (upto (λ m. deposit setup c m + went_to m x) (length setup.members))
    (upto (λ m. came_from m x) (length setup.members)) (all_deposits setup c)
    (all-of setup (λ (p : PayIn). p.member) (λ (p : PayIn). p.amt) x.pay_ins are.pay_ins)
    (upto-add (λ m. deposit setup c m) (λ m. went_to m x) (length setup.members)
    ∙ ap (λ d. d + upto (λ m. went_to m x) (length setup.members)) (deposits-are setup c (length setup.members))
    ∙ ap (λ w. all_deposits setup c + w) (all-of setup (λ (o : PaymentOrder). o.member) (λ (o : PaymentOrder). o.amt) x.pay_outs are.pay_outs))
  where
    sums : (came went held gone opened : ℕ) → gone ≡ came → held ≡ opened + went → (pos came -ℤ pos went) +ℤ (pos held -ℤ pos gone) ≡ pos opened
    sums came went held gone opened all_in all_out = omega (arith, ints)

-- AFTER ANY EVENTS

module _ (setup : Setup) (f c : ℕ) (x : Node) (are : AreMembers setup x) where
  unless-are : (checks : List (Bool × NodeFault)) (step : NodeStep) → (Passed checks → AreMembers setup step.node)
      → AreMembers setup (unless x checks step).node
  unless-are [] step then' = then' tt
  unless-are ((fails, fault) ∷ more) step then' = by fails (λ (p : fails ≡ false). unless-are more step (λ rest. then' (p, rest)))
    where
      by : (b : Bool) → (b ≡ false → AreMembers setup (unless x more step).node) → AreMembers setup (if b then refuses x fault else unless x more step).node
      by true rest = are
      by false rest = rest refl

  if-are : (b : Bool) (p q : NodeStep) → (b ≡ true → AreMembers setup p.node) → (b ≡ false → AreMembers setup q.node)
      → AreMembers setup (if b then p else q).node
  if-are true p q left right = left refl
  if-are false p q left right = right refl

  order-are : (o : PaymentOrder) → AreMembers setup (on_order setup f c x o).node
  order-are o =
      if-are (not (o.ccy == c)) _ _ (λ _. are) (λ _. if-are (is_known x o.out) _ _ (λ _. are) (λ _.
      unless-are (order_checks setup f c x o) _ (λ ok. if-are (is_closed x o.member) _ _
      (λ _. record { pay_ins = are.pay_ins; pay_outs = are.pay_outs })
      (λ _. unless-are ((int_lt (account x) (pos o.amt), Short) ∷ []) _ (λ _. record {
        pay_ins = are.pay_ins;
        pay_outs =
            each-append (λ (p : PaymentOrder). has_member setup p.member ≡ true) x.pay_outs (o ∷ []) are.pay_outs
            (not-false (has_member setup o.member) ok.0, tt);
      })))))

  reply-are : (number : ℕ) → AreMembers setup (on_reply setup f c x number).node
  reply-are number =
      if-are ((number == x.answered + 1) && nat_lt x.answered (length x.notices)) _ _
      (λ _. record { pay_ins = are.pay_ins; pay_outs = are.pay_outs }) (λ _. are)

  message-are : (msg : MsgOf Cmd Answer PaymentOrder) → AreMembers setup (on_message setup f c x msg).node
  message-are (Reply msg) = reply-are msg.number
  message-are (PayOrder o) = order-are o
  message-are _ = are

  step-are : (event : NodeEvent) → AreMembers setup (node_step setup f c x event).node
  step-are (PaysIn member amt) = unless-are (pay_in_checks setup f c x member amt) _ (λ ok. record {
    pay_ins =
        each-append (λ (p : PayIn). has_member setup p.member ≡ true) x.pay_ins (record { member = member; amt = amt } ∷ []) are.pay_ins
        (not-false (has_member setup member) ok.0, tt);
    pay_outs = are.pay_outs;
  })
  step-are (Closes member) = unless-are (close_checks setup f c x member) _ (λ _. record { pay_ins = are.pay_ins; pay_outs = are.pay_outs })
  step-are (Takes e) = if-are (not (e.to == node_of c)) _ _ (λ _. are) (λ _. message-are e.msg)
  step-are Beats = are

pub whole-after : (setup : Setup) (f c : ℕ) (events : List NodeEvent) → all_accounts setup c (node_after setup f c events) ≡ pos (all_deposits setup c)
whole-after setup f c events = whole setup c (node_after setup f c events) (after opening_node events (record { pay_ins = tt; pay_outs = tt }))
  where
    after : (x : Node) (more : List NodeEvent) → AreMembers setup x → AreMembers setup (fold (λ y event. (node_step setup f c y event).node) x more)
    after x [] are = are
    after x (event ∷ more) are = after (node_step setup f c x event).node more (step-are setup f c x are event)

-- of a node that is kept right
pub kept-whole : (s : ShownNode) (bank room : ℕ) (members known : List ℕ) → IsKeptNode s bank members known room
    → all_accounts s.setup s.ccy s.node ≡ pos (all_deposits s.setup s.ccy)
kept-whole s bank room members known is = whole s.setup s.ccy s.node (record {
  pay_ins =
      each-weaker (λ (p : PayIn). IsPayment s.setup p.member p.amt) (λ (p : PayIn). has_member s.setup p.member ≡ true) s.node.pay_ins
      (λ p k. k.known) is.payments.pay_ins;
  pay_outs =
      each-weaker (λ (o : PaymentOrder). IsPayment s.setup o.member o.amt) (λ (o : PaymentOrder). has_member s.setup o.member ≡ true) s.node.pay_outs
      (λ o k. k.known) is.payments.pay_outs;
})
