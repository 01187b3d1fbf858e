-- What a node's step does: its notices are so, no order is done twice, and it sends nothing but its notices.
use Rattle.std.proofs.Common.{◌≡◌, ◌⊎◌, inl, inr, ℕ, ◌+◌, ◌-◌, ◌≤◌, ◌==◌, Bool, true, false, not, nat_lt, if◌then◌else◌, List, [], ◌∷◌, ◌++◌, length, slice_get, count_by, Option, Some, None, refl, sym, ap, ◌∙◌, subst, arith, true≢false, eqb-true}
use Rattle.std.specs.Prelude.{◌&&◌, ◌||◌, Contains, pos, int_lt}
use Rattle.std.specs.List.{list_any}
use Rattle.std.specs.Option.{option_map_or}
use Rattle.std.proofs.lemmas.Bool.{eq-eqb}
use Rattle.std.proofs.lemmas.List.Folds.{list_any-append}
use Rattle.pvp_types.specs.declared.setup.Setup.{Setup}
use Rattle.pvp_types.specs.declared.command.Cmd.{Cmd}
use Rattle.pvp_types.specs.declared.command.Cmd.TheVariants.{Fund, Paid, Returned}
use Rattle.pvp_types.specs.declared.command.Reply.{Reply as Answer}
use Rattle.pvp_types.specs.declared.command.PayOrder.{PayOrder as PaymentOrder}
use Rattle.vr_types.specs.declared.message.MsgOf.{MsgOf}
use Rattle.vr_types.specs.declared.message.MsgOf.TheVariants.{Request, Reply, PayOrder}
use Rattle.vr_types.specs.declared.message.RequestOf.{RequestOf}
use Rattle.vr_types.specs.Group.{sites, actor_of}
use Rattle.pvp_book.specs.Ledger.{node_of}
use Rattle.pvp_book.specs.Answer.{has_member, is_amount}
use Rattle.pvp_book.proofs.Counts.{count-push}
use Rattle.rtgs_node.specs.declared.event.NodeEvent.TheVariants.{PaysIn, Closes, Takes, Beats}
use Rattle.rtgs_node.specs.declared.event.NodeEvent.{NodeEvent}
use Rattle.rtgs_node.specs.Node.{Envelope, Node, NodeStep, to_sites, account, member_account, has_done, has_returned, is_known, is_closed, does, refuses, notice_out, notes, is_full, on_pay_in, on_close, on_order, on_reply, on_message, node_step}
use Rattle.rtgs_node.specs.declared.payment.PayIn.{PayIn}
use Rattle.rtgs_node.specs.declared.fault.NodeFault.{NodeFault}
use Rattle.rtgs_node.specs.declared.fault.NodeFault.TheVariants.{NotMine, UnknownMember, BadAmount, Spent, Short}
use Rattle.headline.proofs.Basics.{or_left, or_right, not_false, at-append, at-push, at-end, push-has, map-has}
use Rattle.headline.proofs.Invariant.{IsSo, IsSoundNode}

-- an envelope is the REQUEST for a notice
pub record IsNoticeOf (c : ℕ) (x : Node) (e : Envelope) : Type 0 where
  pub asked : RequestOf Cmd
  pub counted : 1 ≤ asked.number
  pub is : slice_get x.notices (asked.number - 1) ≡ Some asked.cmd
  pub from : e.from ≡ node_of c
  pub msg : e.msg ≡ Request asked

-- a new pay-out was ordered by an envelope that came
pub record IsOrdered (c : ℕ) (event : NodeEvent) (order : PaymentOrder) : Type 0 where
  pub envelope : Envelope
  pub came : event ≡ Takes envelope
  pub msg : envelope.msg ≡ PayOrder order
  pub ccy : order.ccy ≡ c

pub record Keeps (c : ℕ) (event : NodeEvent) (x : Node) (step : NodeStep) : Type 0 where
  pub sent : (e : Envelope) → Contains step.sent e → IsNoticeOf c step.node e
  pub sound : IsSoundNode c x → IsSoundNode c step.node
  pub grows : (i : ℕ) (cmd : Cmd) → slice_get x.notices i ≡ Some cmd → slice_get step.node.notices i ≡ Some cmd
  pub done : (order : PaymentOrder) → Contains step.node.pay_outs order → Contains x.pay_outs order ⊎ IsOrdered c event order

nothing : {A : Type 0} (x : A) → Contains [] x → ⊥
nothing x in' = let low = in'.1 in omega arith

notice_out-is : (f c : ℕ) (x : Node) (e : Envelope) → Contains (notice_out f c x) e → IsNoticeOf c x e
notice_out-is f c x e in' = by (slice_get x.notices x.answered) refl in'
  where
    by : (found : Option Cmd) → slice_get x.notices x.answered ≡ found
        → Contains (option_map_or (λ cmd. to_sites f (node_of c) (x.answered + 1) cmd) found []) e → IsNoticeOf c x e
    by None same h = absurd (nothing e h)
    by (Some cmd) same h =
        let t =
        map-has (λ (j : ℕ). record { from = node_of c; to = actor_of j; msg = Request (record { number = x.answered + 1; cmd = cmd }) }) (sites f) e h in
        let back : x.answered + 1 - 1 ≡ x.answered = omega arith in
        record {
          asked = record { number = x.answered + 1; cmd = cmd };
          counted = omega arith;
          is = ap (λ n. slice_get x.notices n) back ∙ same;
          from = sym (ap (λ (d : Envelope). d.from) t.2);
          msg = sym (ap (λ (d : Envelope). d.msg) t.2);
        }

module _ (c : ℕ) (event : NodeEvent) (x : Node) where
  by_if : (b : Bool) {p q : NodeStep} → (b ≡ true → Keeps c event x p) → (b ≡ false → Keeps c event x q) → Keeps c event x (if b then p else q)
  by_if true k l = k refl
  by_if false k l = l refl

  refused : (fault : NodeFault) → Keeps c event x (refuses x fault)
  refused fault = record { sent = λ e in'. absurd (nothing e in'); sound = λ s. s; grows = λ i cmd is. is; done = λ o in'. inl in' }

  idle : Keeps c event x (does x [])
  idle = record { sent = λ e in'. absurd (nothing e in'); sound = λ s. s; grows = λ i cmd is. is; done = λ o in'. inl in' }

-- what is so stays so where the node's lists grow
pub record Grows (x y : Node) : Type 0 where
  pub pay_ins : (i : ℕ) (p : PayIn) → slice_get x.pay_ins i ≡ Some p → slice_get y.pay_ins i ≡ Some p
  pub done : (out : ℕ) → has_done x out ≡ true → has_done y out ≡ true
  pub returned : (out : ℕ) → has_returned x out ≡ true → has_returned y out ≡ true

so-grows : (c : ℕ) (x y : Node) → Grows x y → (cmd : Cmd) → IsSo c x cmd → IsSo c y cmd
so-grows c x y grows (Fund d k m amt) so = (so.0, so.1, grows.pay_ins (k - 1) (record { member = m; amt = amt }) so.2)
so-grows c x y grows (Paid d out) so = (so.0, grows.done out so.1)
so-grows c x y grows (Returned d out) so = (so.0, grows.returned out so.1)
so-grows c x y grows _ so = tt

-- a step that notes something: its notice goes out, or none
module _ (f c : ℕ) (event : NodeEvent) (x y : Node) (cmd : Cmd) where
  abbrev noted : Node
  noted = record y { notices = y.notices ++ cmd ∷ [] }

  notes-sent : (b : Bool) (e : Envelope) → Contains (if b then notice_out f c noted else []) e → IsNoticeOf c noted e
  notes-sent true e in' = notice_out-is f c noted e in'
  notes-sent false e in' = absurd (nothing e in')

  noted-sound : y.notices ≡ x.notices → IsSoundNode c x → Grows x y → IsSo c y cmd → ((out : ℕ) → count_by (λ (o : PaymentOrder). o.out == out) y.pay_outs ≤ 1)
      → ((out : ℕ) → has_done y out ≡ true → has_returned y out ≡ false) → IsSoundNode c noted
  noted-sound same s grows so once apart = record { notices = notices; once = once; apart = apart }
    where
      notices : (i : ℕ) (d : Cmd) → slice_get (y.notices ++ cmd ∷ []) i ≡ Some d → IsSo c y d
      notices i d is = by (at-push y.notices cmd i d is)
        where
          by : (slice_get y.notices i ≡ Some d) ⊎ ((i ≡ length y.notices) × (cmd ≡ d)) → IsSo c y d
          by (inl old) = so-grows c x y grows d (s.notices i d (ap (λ (l : List Cmd). slice_get l i) (sym same) ∙ old))
          by (inr new) = subst (λ (k : Cmd). IsSo c y k) new.1 so

  notes-keep : y.notices ≡ x.notices → (IsSoundNode c x → IsSoundNode c noted)
      → ((o : PaymentOrder) → Contains y.pay_outs o → Contains x.pay_outs o ⊎ IsOrdered c event o)
      → Keeps c event x (notes f c y cmd)
  notes-keep same sound done = record {
    sent = notes-sent (y.answered == length y.notices);
    sound = sound;
    grows = λ i d is. at-append y.notices (cmd ∷ []) i d (ap (λ (l : List Cmd). slice_get l i) same ∙ is);
    done = done;
  }

-- a pay-in
module _ (f c : ℕ) (event : NodeEvent) (member amt : ℕ) (x : Node) where
  abbrev paid_in : Node
  paid_in = record x { pay_ins = x.pay_ins ++ record { member = member; amt = amt } ∷ [] }

  abbrev credit : Cmd
  credit = Fund c (length x.pay_ins + 1) member amt

  pay_in-sound : IsSoundNode c x → IsSoundNode c (noted f c event x paid_in credit)
  pay_in-sound s =
      noted-sound f c event x paid_in credit refl s
      (record { pay_ins = λ i p is. at-append x.pay_ins (record { member = member; amt = amt } ∷ []) i p is; done = λ out is. is; returned = λ out is. is })
      (refl, omega arith, ap (λ n. slice_get paid_in.pay_ins n) place ∙ at-end x.pay_ins (record { member = member; amt = amt })) s.once s.apart
    where
      place : length x.pay_ins + 1 - 1 ≡ length x.pay_ins
      place = omega arith

or-true : (a b : Bool) → b ≡ true → (a || b) ≡ true
or-true true b e = refl
or-true false b e = e

or-first : (a b : Bool) → a ≡ true → (a || b) ≡ true
or-first true b e = refl
or-first false b e = absurd (true≢false (sym e))

-- one more order in a list
pub more-outs : (os : List PaymentOrder) (o : PaymentOrder) (out : ℕ)
    → list_any (λ (p : PaymentOrder). p.out == out) (os ++ o ∷ [])
    ≡ (list_any (λ (p : PaymentOrder). p.out == out) os || list_any (λ (p : PaymentOrder). p.out == out) (o ∷ []))
more-outs os o out = list_any-append (λ (p : PaymentOrder). p.out == out) os (o ∷ [])

old-out : (os : List PaymentOrder) (o : PaymentOrder) (out : ℕ) → list_any (λ (p : PaymentOrder). p.out == out) os ≡ true
    → list_any (λ (p : PaymentOrder). p.out == out) (os ++ o ∷ []) ≡ true
old-out os o out is = more-outs os o out ∙ or-first _ _ is

new-out : (os : List PaymentOrder) (o : PaymentOrder) → list_any (λ (p : PaymentOrder). p.out == o.out) (os ++ o ∷ []) ≡ true
new-out os o = more-outs os o o.out ∙ or-true _ _ (or-first (o.out == o.out) _ (eq-eqb o.out o.out refl))

-- an order is new: done or returned now, it is not the other
module _ (f c : ℕ) (event : NodeEvent) (o : PaymentOrder) (x : Node) (fresh : is_known x o.out ≡ false) where
  not-done : has_done x o.out ≡ false
  not-done = or_left (has_done x o.out) (has_returned x o.out) fresh

  not-returned : has_returned x o.out ≡ false
  not-returned = or_right (has_done x o.out) (has_returned x o.out) fresh

  abbrev paid_out : Node
  paid_out = record x { pay_outs = x.pay_outs ++ o ∷ [] }

  pay_out-sound : IsSoundNode c x → IsSoundNode c (noted f c event x paid_out (Paid c o.out))
  pay_out-sound s =
      noted-sound f c event x paid_out (Paid c o.out) refl s
      (record { pay_ins = λ i p is. is; done = λ out is. old-out x.pay_outs o out is; returned = λ out is. is })
      (refl, new-out x.pay_outs o)
      (λ out. count-push (λ (p : PaymentOrder). p.out == out) x.pay_outs o (s.once out)
      (λ is. subst (λ n. has_done x n ≡ false) (eqb-true o.out out is) not-done))
      (λ out is. by out (has_done x out) refl (o.out == out) refl (sym (more-outs x.pay_outs o out) ∙ is))
    where
      by : (out : ℕ) (old : Bool) → has_done x out ≡ old → (new : Bool) → (o.out == out) ≡ new → (old || (new || false)) ≡ true → has_returned x out ≡ false
      by out true is new e h = s.apart out is
      by out false is true e h = subst (λ n. has_returned x n ≡ false) (eqb-true o.out out e) not-returned
      by out false is false e h = absurd (true≢false (sym h))

  abbrev sent_back : Node
  sent_back = record x { returned = x.returned ++ o ∷ [] }

  return-sound : IsSoundNode c x → IsSoundNode c (noted f c event x sent_back (Returned c o.out))
  return-sound s =
      noted-sound f c event x sent_back (Returned c o.out) refl s
      (record { pay_ins = λ i p is. is; done = λ out is. is; returned = λ out is. old-out x.returned o out is })
      (refl, new-out x.returned o) s.once
      (λ out is. more-outs x.returned o out ∙ by out is (o.out == out) refl)
    where
      by : (out : ℕ) → has_done x out ≡ true → (new : Bool) → (o.out == out) ≡ new → (has_returned x out || (new || false)) ≡ false
      by out is true e = absurd (true≢false (sym is ∙ subst (λ n. has_done x n ≡ false) (eqb-true o.out out e) not-done))
      by out is false e = ap (λ b. b || false) (s.apart out is)

module _ (setup : Setup) (f c : ℕ) (x : Node) where
  pay_in-keeps : (event : NodeEvent) (member amt : ℕ) → Keeps c event x (on_pay_in setup f c x member amt)
  pay_in-keeps event member amt =
      by_if c event x (not (has_member setup member)) (λ _. refused c event x UnknownMember) (λ _.
      by_if c event x (not (is_amount amt)) (λ _. refused c event x BadAmount) (λ _.
      by_if c event x (is_closed x member) (λ _. refused c event x NodeFault.Closed) (λ _.
      by_if c event x (is_full (length x.pay_ins)) (λ _. refused c event x Spent) (λ _.
      by_if c event x (int_lt (member_account setup c member x) (pos amt)) (λ _. refused c event x Short) (λ _.
      notes-keep f c event x (record x { pay_ins = x.pay_ins ++ record { member = member; amt = amt } ∷ [] }) (Fund c (length x.pay_ins + 1) member amt) refl
      (pay_in-sound f c event member amt x) (λ o in'. inl in'))))))

  close-keeps : (event : NodeEvent) (member : ℕ) → Keeps c event x (on_close setup f c x member)
  close-keeps event member =
      by_if c event x (not (has_member setup member)) (λ _. refused c event x UnknownMember) (λ _.
      by_if c event x (is_closed x member) (λ _. refused c event x NodeFault.Closed) (λ _. record {
        sent = λ e in'. absurd (nothing e in');
        sound = λ s. record { notices = s.notices; once = s.once; apart = s.apart };
        grows = λ i cmd is. is;
        done = λ o in'. inl in';
      }))

  order-keeps : (event : NodeEvent) (e : Envelope) (o : PaymentOrder) → event ≡ Takes e → e.msg ≡ PayOrder o → Keeps c event x (on_order setup f c x o)
  order-keeps event e o came msg =
      by_if c event x (not (o.ccy == c)) (λ _. refused c event x NotMine) (λ mine.
      by_if c event x (is_known x o.out) (λ _. idle c event x) (λ fresh.
      by_if c event x (not (has_member setup o.member)) (λ _. refused c event x UnknownMember) (λ _.
      by_if c event x (not (is_amount o.amt)) (λ _. refused c event x BadAmount) (λ _.
      by_if c event x (is_full (length x.pay_outs + length x.returned)) (λ _. refused c event x Spent) (λ _.
      by_if c event x (is_closed x o.member)
      (λ _. notes-keep f c event x (record x { returned = x.returned ++ o ∷ [] }) (Returned c o.out) refl (return-sound f c event o x fresh) (λ p in'. inl in'))
      (λ _.
      by_if c event x (int_lt (account x) (pos o.amt)) (λ _. refused c event x Short) (λ _.
      notes-keep f c event x (record x { pay_outs = x.pay_outs ++ o ∷ [] }) (Paid c o.out) refl
      (pay_out-sound f c event o x fresh) (done (not_false _ mine)))))))))
    where
      done : (o.ccy == c) ≡ true → (p : PaymentOrder) → Contains (x.pay_outs ++ o ∷ []) p → Contains x.pay_outs p ⊎ IsOrdered c event p
      done mine p in' = by (push-has x.pay_outs o p in')
        where
          by : Contains x.pay_outs p ⊎ (o ≡ p) → Contains x.pay_outs p ⊎ IsOrdered c event p
          by (inl old) = inl old
          by (inr same) =
              inr (record {
                envelope = e;
                came = came;
                msg = msg ∙ ap (λ (q : PaymentOrder). PayOrder q) same;
                ccy = ap (λ (q : PaymentOrder). q.ccy) (sym same) ∙ eqb-true o.ccy c mine;
              })

  reply-keeps : (event : NodeEvent) (number : ℕ) → Keeps c event x (on_reply setup f c x number)
  reply-keeps event number =
      by_if c event x ((number == x.answered + 1) && nat_lt x.answered (length x.notices)) (λ _. record {
        sent = notice_out-is f c (record x { answered = x.answered + 1 });
        sound = λ s. record { notices = s.notices; once = s.once; apart = s.apart };
        grows = λ i cmd is. is;
        done = λ o in'. inl in';
      }) (λ _. idle c event x)

  message-keeps : (event : NodeEvent) (e : Envelope) (msg : MsgOf Cmd Answer PaymentOrder) → event ≡ Takes e → e.msg ≡ msg
      → Keeps c event x (on_message setup f c x msg)
  message-keeps event e (Reply msg) came is = reply-keeps event msg.number
  message-keeps event e (PayOrder order) came is = order-keeps event e order came is
  message-keeps event e _ came is = refused c event x NotMine

  pub node-keeps : (event : NodeEvent) → Keeps c event x (node_step setup f c x event)
  node-keeps (PaysIn member amt) = pay_in-keeps (PaysIn member amt) member amt
  node-keeps (Closes member) = close-keeps (Closes member) member
  node-keeps (Takes e) = by_if c (Takes e) x (not (e.to == node_of c)) (λ _. refused c (Takes e) x NotMine) (λ _. message-keeps (Takes e) e e.msg refl refl)
  node-keeps Beats = record { sent = notice_out-is f c x; sound = λ s. s; grows = λ i cmd is. is; done = λ o in'. inl in' }
