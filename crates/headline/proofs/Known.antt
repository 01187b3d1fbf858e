-- What is so of a node's notices and orders at every moment: each known order has its notice, each such notice is of an order
-- that was in the book before any row of it was, and each answered notice had a REPLY.
use Rattle.std.proofs.Common.{◌≡◌, ◌⊎◌, inl, inr, ℕ, ◌+◌, ◌-◌, ◌*◌, ◌<◌, ◌≤◌, ◌==◌, Bool, true, false, not, nat_lt, if◌then◌else◌, List, [], ◌∷◌, ◌++◌, length, slice_get, Option, Some, None, refl, sym, ap, ◌∙◌, subst, arith, true≢false, eqb-true, append_assoc, append-nil}
use Rattle.std.specs.Prelude.{◌&&◌, ◌||◌, Contains, pos, int_lt}
use Rattle.std.specs.List.{list_any}
use Rattle.std.proofs.Common.{length-append}
use Rattle.std.proofs.lemmas.Bool.{eq-eqb, cases_lt, and_parts}
use Rattle.std.proofs.lemmas.Option.{slice_get_within}
use Rattle.std.proofs.lemmas.List.Elements.{Contains-append_left}
use Rattle.pvp_types.specs.declared.setup.Setup.{Setup}
use Rattle.pvp_types.specs.declared.command.Cmd.{Cmd}
use Rattle.pvp_types.specs.declared.command.Cmd.TheVariants.{Fund, Paid, Returned}
use Rattle.pvp_types.specs.declared.command.Reply.{Reply as Answer}
use Rattle.pvp_types.specs.declared.command.PayOrder.{PayOrder as PaymentOrder}
use Rattle.vr_types.specs.declared.cell.Boot.{Boot}
use Rattle.vr_types.specs.declared.message.MsgOf.{MsgOf}
use Rattle.vr_types.specs.declared.message.MsgOf.TheVariants.{Reply, PayOrder}
use Rattle.vr_types.specs.declared.message.ReplyOf.{ReplyOf}
use Rattle.vr_types.specs.Choice.{Choice, IsRight}
use Rattle.pvp_book.specs.Ledger.{node_of}
use Rattle.pvp_book.specs.Orders.{orders, is_end}
use Rattle.pvp_book.specs.Answer.{Row, book_of, has_member, is_amount}
use Rattle.rtgs_node.specs.declared.event.NodeEvent.TheVariants.{PaysIn, Closes, Takes, Beats}
use Rattle.rtgs_node.specs.declared.event.NodeEvent.{NodeEvent}
use Rattle.rtgs_node.specs.declared.fault.NodeFault.{NodeFault}
use Rattle.rtgs_node.specs.declared.fault.NodeFault.TheVariants as fault
use Rattle.rtgs_node.specs.Node.{Envelope, Node, NodeStep, opening_node, account, member_account, has_done, has_returned, is_known, is_closed, is_full, notice_out, notes, on_order, on_reply, on_message, node_step}
use Rattle.headline.specs.declared.step.Move.{Move}
use Rattle.headline.specs.declared.step.Move.TheVariants as move
use Rattle.headline.specs.declared.step.Turn.{Turn}
use Rattle.headline.specs.declared.step.Turn.TheVariants.{OfSite, OfNode, OfClient}
use Rattle.headline.specs.Bank.{Bank, opening_bank, with_node}
use Rattle.headline.specs.Legal.{Acts, FallsBy, Leads, IsRun, Moment}
use Rattle.headline.proofs.Basics.{and_right, not_false, none-some, there, map-has, set-at, at-append, at-push, at-end}
use Rattle.headline.proofs.Invariant.{notices_of, Holds}
use Rattle.headline.proofs.Runs.{leads-more, moment-now, moment-more}
use Rattle.headline.proofs.NodeSteps.{more-outs}
use Rattle.headline.proofs.Reached.{Carries, carries, legal-holds}

-- A NODE'S STEP

-- nothing of its orders, notices and answers has changed
pub record IsQuiet (x y : Node) : Type 0 where
  pub pay_outs : y.pay_outs ≡ x.pay_outs
  pub returned : y.returned ≡ x.returned
  pub notices : y.notices ≡ x.notices
  pub answered : y.answered ≡ x.answered

-- a notice of no order is new
pub record IsNoted (c : ℕ) (x y : Node) : Type 0 where
  pub pay_outs : y.pay_outs ≡ x.pay_outs
  pub returned : y.returned ≡ x.returned
  pub cmd : Cmd
  pub none : (out : ℕ) → is_end c out cmd ≡ false
  pub notices : y.notices ≡ x.notices ++ cmd ∷ []
  pub answered : y.answered ≡ x.answered

-- an order that came is done or returned, and noted
pub record IsEnded (c : ℕ) (event : NodeEvent) (x y : Node) : Type 0 where
  pub envelope : Envelope
  pub order : PaymentOrder
  pub came : event ≡ Takes envelope
  pub msg : envelope.msg ≡ PayOrder order
  pub ccy : order.ccy ≡ c
  pub cmd : Cmd
  pub says : is_end c order.out cmd ≡ true
  pub only : (out : ℕ) → is_end c out cmd ≡ true → order.out ≡ out
  pub notices : y.notices ≡ x.notices ++ cmd ∷ []
  pub answered : y.answered ≡ x.answered
  pub known : (out : ℕ) → is_known y out ≡ true → (is_known x out ≡ true) ⊎ (order.out ≡ out)
  pub count : length y.pay_outs + length y.returned ≡ length x.pay_outs + length x.returned + 1

-- its notice is answered
pub record IsHearing (c : ℕ) (event : NodeEvent) (x y : Node) : Type 0 where
  pub pay_outs : y.pay_outs ≡ x.pay_outs
  pub returned : y.returned ≡ x.returned
  pub notices : y.notices ≡ x.notices
  pub envelope : Envelope
  pub said : ReplyOf Answer
  pub came : event ≡ Takes envelope
  pub msg : envelope.msg ≡ Reply said
  pub to : envelope.to ≡ node_of c
  pub number : said.number ≡ x.answered + 1
  pub answered : y.answered ≡ x.answered + 1

pub record Does (c : ℕ) (event : NodeEvent) (x : Node) (step : NodeStep) : Type 0 where
  pub kind : IsQuiet x step.node ⊎ (IsNoted c x step.node ⊎ (IsEnded c event x step.node ⊎ IsHearing c event x step.node))

pub same_number : (n : ℕ) → (n == n) ≡ true
same_number n = eq-eqb n n refl

pub end_says : (c out : ℕ) → ((c == c) && (out == out)) ≡ true
end_says c out = by (c == c) (out == out) (same_number c) (same_number out)
  where
    by : (a b : Bool) → a ≡ true → b ≡ true → (a && b) ≡ true
    by true b e h = h
    by false b e h = absurd (true≢false (sym e))

module _ (setup : Setup) (f c : ℕ) (x : Node) (event : NodeEvent) where
  by_if : (b : Bool) {p q : NodeStep} → (b ≡ true → Does c event x p) → (b ≡ false → Does c event x q) → Does c event x (if b then p else q)
  by_if true k l = k refl
  by_if false k l = l refl

  quiet : (y : Node) (sent : List Envelope) (why : Option NodeFault) → IsQuiet x y → Does c event x (record { node = y; sent = sent; fault = why })
  quiet y sent why q = record { kind = inl q }

  same : (sent : List Envelope) (why : Option NodeFault) → Does c event x (record { node = x; sent = sent; fault = why })
  same sent why = quiet x sent why (record { pay_outs = refl; returned = refl; notices = refl; answered = refl })

  order_does : (e : Envelope) (o : PaymentOrder) → event ≡ Takes e → e.msg ≡ PayOrder o → Does c event x (on_order setup f c x o)
  order_does e o came msg =
      by_if (not (o.ccy == c)) (λ _. same [] (Some fault.NotMine)) (λ mine.
      by_if (is_known x o.out) (λ _. same [] None) (λ fresh.
      by_if (not (has_member setup o.member)) (λ _. same [] (Some fault.UnknownMember)) (λ _.
      by_if (not (is_amount o.amt)) (λ _. same [] (Some fault.BadAmount)) (λ _.
      by_if (is_full (length x.pay_outs + length x.returned)) (λ _. same [] (Some fault.Spent)) (λ _.
      by_if (is_closed x o.member) (λ _. returns (eqb-true o.ccy c (not_false _ mine))) (λ _.
      by_if (int_lt (account x) (pos o.amt)) (λ _. same [] (Some fault.Short)) (λ _. pays (eqb-true o.ccy c (not_false _ mine)))))))))
    where
      returns : o.ccy ≡ c → Does c event x (notes f c (record x { returned = x.returned ++ o ∷ [] }) (Returned c o.out))
      returns mine = record {
        kind = inr (inr (inl (record {
          envelope = e;
          order = o;
          came = came;
          msg = msg;
          ccy = mine;
          cmd = Returned c o.out;
          says = end_says c o.out;
          only = λ out is. eqb-true o.out out (and_right (c == c) (o.out == out) is);
          notices = refl;
          answered = refl;
          known = λ out is. by out (has_done x out) (has_returned x out) (o.out == out) refl
              (ap (λ (b : Bool). has_done x out || b) (sym (more-outs x.returned o out)) ∙ is);
          count = let l = length-append x.returned (o ∷ []) in omega arith;
        })));
      }
        where
          by : (out : ℕ) (a b new : Bool) → (o.out == out) ≡ new → (a || (b || (new || false))) ≡ true → ((a || b) ≡ true) ⊎ (o.out ≡ out)
          by out true b new e h = inl refl
          by out false true new e h = inl refl
          by out false false true e h = inr (eqb-true o.out out e)
          by out false false false e h = inl h

      pays : o.ccy ≡ c → Does c event x (notes f c (record x { pay_outs = x.pay_outs ++ o ∷ [] }) (Paid c o.out))
      pays mine = record {
        kind = inr (inr (inl (record {
          envelope = e;
          order = o;
          came = came;
          msg = msg;
          ccy = mine;
          cmd = Paid c o.out;
          says = end_says c o.out;
          only = λ out is. eqb-true o.out out (and_right (c == c) (o.out == out) is);
          notices = refl;
          answered = refl;
          known = λ out is. by out (has_done x out) (has_returned x out) (o.out == out) refl
              (ap (λ (b : Bool). b || has_returned x out) (sym (more-outs x.pay_outs o out)) ∙ is);
          count = let l = length-append x.pay_outs (o ∷ []) in omega arith;
        })));
      }
        where
          by : (out : ℕ) (a b new : Bool) → (o.out == out) ≡ new → ((a || (new || false)) || b) ≡ true → ((a || b) ≡ true) ⊎ (o.out ≡ out)
          by out true b new e h = inl refl
          by out false b true e h = inr (eqb-true o.out out e)
          by out false b false e h = inl h

  reply_does : (e : Envelope) (said : ReplyOf Answer) → event ≡ Takes e → e.to ≡ node_of c → e.msg ≡ Reply said
      → Does c event x (on_reply setup f c x said.number)
  reply_does e said came to msg =
      by_if ((said.number == x.answered + 1) && nat_lt x.answered (length x.notices))
      (λ is. record {
        kind = inr (inr (inr (record {
          pay_outs = refl;
          returned = refl;
          notices = refl;
          envelope = e;
          said = said;
          came = came;
          msg = msg;
          to = to;
          number = eqb-true said.number (x.answered + 1) (and_parts _ _ is).0;
          answered = refl;
        })));
      })
      (λ _. same [] None)

  message_does : (e : Envelope) (msg : MsgOf Cmd Answer PaymentOrder) → event ≡ Takes e → e.to ≡ node_of c → e.msg ≡ msg
      → Does c event x (on_message setup f c x msg)
  message_does e (Reply said) came to is = reply_does e said came to is
  message_does e (PayOrder order) came to is = order_does e order came is
  message_does e _ came to is = same [] (Some fault.NotMine)

  by_event : (given : NodeEvent) → event ≡ given → Does c event x (node_step setup f c x given)
  by_event (PaysIn member amt) is =
      by_if (not (has_member setup member)) (λ _. same [] (Some fault.UnknownMember)) (λ _.
      by_if (not (is_amount amt)) (λ _. same [] (Some fault.BadAmount)) (λ _.
      by_if (is_closed x member) (λ _. same [] (Some fault.Closed)) (λ _.
      by_if (is_full (length x.pay_ins)) (λ _. same [] (Some fault.Spent)) (λ _.
      by_if (int_lt (member_account setup c member x) (pos amt)) (λ _. same [] (Some fault.Short)) (λ _.
      record {
        kind = inr
            (inl (record {
              pay_outs = refl;
              returned = refl;
              cmd = Fund c (length x.pay_ins + 1) member amt;
              none = λ out. refl;
              notices = refl;
              answered = refl;
            }));
      })))))
  by_event (Closes member) is =
      by_if (not (has_member setup member)) (λ _. same [] (Some fault.UnknownMember)) (λ _.
      by_if (is_closed x member) (λ _. same [] (Some fault.Closed)) (λ _.
      quiet (record x { closed = x.closed ++ member ∷ [] }) [] None (record { pay_outs = refl; returned = refl; notices = refl; answered = refl })))
  by_event (Takes e) is =
      by_if (not (e.to == node_of c)) (λ _. same [] (Some fault.NotMine)) (λ to. message_does e e.msg is (eqb-true e.to (node_of c) (not_false _ to)) refl)
  by_event Beats is = same (notice_out f c x) None

  pub node_does : Does c event x (node_step setup f c x event)
  node_does = by_event event refl

-- WHAT IS SO OF A NODE

-- a REPLY of this number to the node is in the post
pub record WasHeard (bank : Bank) (c number : ℕ) : Type 0 where
  pub envelope : Envelope
  pub said : ReplyOf Answer
  pub posted : Contains bank.post envelope
  pub msg : envelope.msg ≡ Reply said
  pub to : envelope.to ≡ node_of c
  pub number_is : said.number ≡ number

module _ (setup : Setup) (choose : Choice Cmd) (f : ℕ) (cells : List Boot) where
  -- at some moment the book of the history had the order, and no row had the node's notice of this number
  pub record WasDue (moves : List Move) (bank : Bank) (c number out : ℕ) : Type 0 where
    pub moment : Moment setup choose f cells moves bank
    pub holds : Holds setup choose f cells moment.before moment.then
    pub order : PaymentOrder
    pub ordered : Contains (orders (book_of setup holds.history) c) order
    pub out_is : order.out ≡ out
    pub fresh : (row : Row) → Contains holds.history row → row.client ≡ node_of c → row.number ≡ number → ⊥

  pub record Knows (moves : List Move) (bank : Bank) (c : ℕ) (x : Node) : Type 0 where
    pub count : length x.pay_outs + length x.returned ≤ length x.notices
    pub ends : (out : ℕ) → is_known x out ≡ true → (k : ℕ) × (cmd : Cmd) × (slice_get x.notices k ≡ Some cmd) × (is_end c out cmd ≡ true)
    pub heard : (k : ℕ) → k < x.answered → WasHeard bank c (k + 1)
    pub due : (k : ℕ) (cmd : Cmd) (out : ℕ) → slice_get x.notices k ≡ Some cmd → is_end c out cmd ≡ true → WasDue moves bank c (k + 1) out

  abbrev pub AllKnow : List Move → Bank → Type 0
  AllKnow moves bank = (c : ℕ) (x : Node) → slice_get bank.nodes c ≡ Some x → Knows moves bank c x

  module _ (moves : List Move) (bank : Bank) (move : Move) (after : Bank) (leads : Leads setup choose f bank move after)
      (post : (e : Envelope) → Contains bank.post e → Contains after.post e) where
    due_on : (c number out : ℕ) → WasDue moves bank c number out → WasDue (moves ++ move ∷ []) after c number out
    due_on c number out d = record {
      moment = moment-more setup choose f cells moves bank move after leads d.moment;
      holds = d.holds;
      order = d.order;
      ordered = d.ordered;
      out_is = d.out_is;
      fresh = d.fresh;
    }

    heard_on : (c number : ℕ) → WasHeard bank c number → WasHeard after c number
    heard_on c number w = record { envelope = w.envelope; said = w.said; posted = post w.envelope w.posted; msg = w.msg; to = w.to; number_is = w.number_is }

    -- a node that has not changed
    knows_on : (c : ℕ) (x y : Node) → Knows moves bank c x → IsQuiet x y → Knows (moves ++ move ∷ []) after c y
    knows_on c x y k q = record {
      count = let a = ap (length {A = PaymentOrder}) q.pay_outs in let b = ap (length {A = PaymentOrder}) q.returned in
          let d = ap (length {A = Cmd}) q.notices in let o = k.count in omega arith;
      ends = λ out is.
          let t =
          k.ends out (ap (λ (os : List PaymentOrder). list_any (λ (o : PaymentOrder). o.out == out) os || has_returned x out) (sym q.pay_outs)
          ∙ (ap (λ (os : List PaymentOrder). has_done y out || list_any (λ (o : PaymentOrder). o.out == out) os) (sym q.returned) ∙ is)) in
          (t.0, t.1, ap (λ (l : List Cmd). slice_get l t.0) q.notices ∙ t.2, t.3);
      heard = λ n low. heard_on c (n + 1) (k.heard n (let a = q.answered in omega arith));
      due = λ n cmd out at is. due_on c (n + 1) out (k.due n cmd out (ap (λ (l : List Cmd). slice_get l n) (sym q.notices) ∙ at) is);
    }

    knows_noted : (c : ℕ) (x y : Node) → Knows moves bank c x → IsNoted c x y → Knows (moves ++ move ∷ []) after c y
    knows_noted c x y k q = record {
      count = let a = ap (length {A = PaymentOrder}) q.pay_outs in let b = ap (length {A = PaymentOrder}) q.returned in
          let d = ap (length {A = Cmd}) q.notices in let l = length-append x.notices (q.cmd ∷ []) in let o = k.count in omega arith;
      ends = λ out is.
          let t =
          k.ends out (ap (λ (os : List PaymentOrder). list_any (λ (o : PaymentOrder). o.out == out) os || has_returned x out) (sym q.pay_outs)
          ∙ (ap (λ (os : List PaymentOrder). has_done y out || list_any (λ (o : PaymentOrder). o.out == out) os) (sym q.returned) ∙ is)) in
          (t.0, t.1, ap (λ (l : List Cmd). slice_get l t.0) q.notices ∙ at-append x.notices (q.cmd ∷ []) t.0 t.1 t.2, t.3);
      heard = λ n low. heard_on c (n + 1) (k.heard n (let a = q.answered in omega arith));
      due = λ n cmd out at is. by_place n cmd out is (at-push x.notices q.cmd n cmd (ap (λ (l : List Cmd). slice_get l n) (sym q.notices) ∙ at));
    }
      where
        by_place : (n : ℕ) (cmd : Cmd) (out : ℕ) → is_end c out cmd ≡ true → (slice_get x.notices n ≡ Some cmd) ⊎ ((n ≡ length x.notices) × (q.cmd ≡ cmd))
            → WasDue (moves ++ move ∷ []) after c (n + 1) out
        by_place n cmd out is (inl old) = due_on c (n + 1) out (k.due n cmd out old is)
        by_place n cmd out is (inr new) = absurd (true≢false (sym is ∙ (ap (is_end c out) (sym new.1) ∙ q.none out)))

    knows_hearing : (c : ℕ) (event : NodeEvent) (x y : Node) → ((e : Envelope) → event ≡ Takes e → Contains bank.post e) → Knows moves bank c x
        → IsHearing c event x y → Knows (moves ++ move ∷ []) after c y
    knows_hearing c event x y arrived k q = record {
      count = let a = ap (length {A = PaymentOrder}) q.pay_outs in let b = ap (length {A = PaymentOrder}) q.returned in
          let d = ap (length {A = Cmd}) q.notices in let o = k.count in omega arith;
      ends = λ out is.
          let t =
          k.ends out (ap (λ (os : List PaymentOrder). list_any (λ (o : PaymentOrder). o.out == out) os || has_returned x out) (sym q.pay_outs)
          ∙ (ap (λ (os : List PaymentOrder). has_done y out || list_any (λ (o : PaymentOrder). o.out == out) os) (sym q.returned) ∙ is)) in
          (t.0, t.1, ap (λ (l : List Cmd). slice_get l t.0) q.notices ∙ t.2, t.3);
      heard = λ n low. by_last n low (cases_lt n x.answered);
      due = λ n cmd out at is. due_on c (n + 1) out (k.due n cmd out (ap (λ (l : List Cmd). slice_get l n) (sym q.notices) ∙ at) is);
    }
      where
        by_last : (n : ℕ) → n < y.answered → (n < x.answered) ⊎ (x.answered ≤ n) → WasHeard after c (n + 1)
        by_last n low (inl old) = heard_on c (n + 1) (k.heard n old)
        by_last n low (inr new) = record {
          envelope = q.envelope;
          said = q.said;
          posted = post q.envelope (arrived q.envelope q.came);
          msg = q.msg;
          to = q.to;
          number_is = let a = q.number in let b = q.answered in omega arith;
        }

    knows_ended : Holds setup choose f cells moves bank → (c : ℕ) (event : NodeEvent) (x y : Node) → slice_get bank.nodes c ≡ Some x
        → ((e : Envelope) → event ≡ Takes e → Contains bank.post e)
        → Knows moves bank c x → IsEnded c event x y → Knows (moves ++ move ∷ []) after c y
    knows_ended h c event x y at_x arrived k q = record {
      count = let a = q.count in let d = ap (length {A = Cmd}) q.notices in let l = length-append x.notices (q.cmd ∷ []) in let o = k.count in omega arith;
      ends = λ out is. by_known out (q.known out is);
      heard = λ n low. heard_on c (n + 1) (k.heard n (let a = q.answered in omega arith));
      due = λ n cmd out at is. by_place n cmd out is (at-push x.notices q.cmd n cmd (ap (λ (l : List Cmd). slice_get l n) (sym q.notices) ∙ at));
    }
      where
        by_known : (out : ℕ) → (is_known x out ≡ true) ⊎ (q.order.out ≡ out)
            → (k : ℕ) × (cmd : Cmd) × (slice_get y.notices k ≡ Some cmd) × (is_end c out cmd ≡ true)
        by_known out (inl old) = let t = k.ends out old in
            (t.0, t.1, ap (λ (l : List Cmd). slice_get l t.0) q.notices ∙ at-append x.notices (q.cmd ∷ []) t.0 t.1 t.2, t.3)
        by_known out (inr new) = (
          length x.notices,
          q.cmd,
          ap (λ (l : List Cmd). slice_get l (length x.notices)) q.notices ∙ at-end x.notices q.cmd,
          subst (λ (n : ℕ). is_end c n q.cmd ≡ true) new q.says,
        )

        now : WasDue moves bank c (length x.notices + 1) q.order.out
        now = record {
          moment = moment-now setup choose f cells moves bank h.legal;
          holds = h;
          order = q.order;
          ordered =
              subst (λ (d : ℕ). Contains (orders (book_of setup h.history) d) q.order) q.ccy
              (h.orders q.envelope q.order (arrived q.envelope q.came) q.msg).ordered;
          out_is = refl;
          fresh = λ row in' from number.
              let n = h.rows row in' c (slice_get_within bank.nodes c x at_x) from in
              let at : slice_get x.notices (row.number - 1) ≡ Some row.cmd =
              ap (λ (o : Option Node). slice_get (notices_of o) (row.number - 1)) (sym at_x) ∙ n.is in
              let low = slice_get_within x.notices (row.number - 1) row.cmd at in
              omega arith;
        }

        by_place : (n : ℕ) (cmd : Cmd) (out : ℕ) → is_end c out cmd ≡ true → (slice_get x.notices n ≡ Some cmd) ⊎ ((n ≡ length x.notices) × (q.cmd ≡ cmd))
            → WasDue (moves ++ move ∷ []) after c (n + 1) out
        by_place n cmd out is (inl old) = due_on c (n + 1) out (k.due n cmd out old is)
        by_place n cmd out is (inr new) =
            due_on c (n + 1) out
            (subst (λ (o : ℕ). WasDue moves bank c (n + 1) o) (q.only out (ap (is_end c out) new.1 ∙ is))
            (subst (λ (m : ℕ). WasDue moves bank c (m + 1) q.order.out) (sym new.0) now))

    -- nodes that have not changed
    all_on : after.nodes ≡ bank.nodes → AllKnow moves bank → AllKnow (moves ++ move ∷ []) after
    all_on same know c x at =
        knows_on c x x (know c x (ap (λ (l : List Node). slice_get l c) (sym same) ∙ at))
        (record { pay_outs = refl; returned = refl; notices = refl; answered = refl })

  -- A MOVE
  module _ (moves : List Move) (bank : Bank) (h : Holds setup choose f cells moves bank) (know : AllKnow moves bank) (move : Move) where
    by_node : (c : ℕ) (event : NodeEvent) (x : Node) → slice_get bank.nodes c ≡ Some x → ((e : Envelope) → event ≡ Takes e → Contains bank.post e)
        → Leads setup choose f bank move (with_node bank c (node_step setup f c x event).node (node_step setup f c x event).sent)
        → AllKnow (moves ++ move ∷ []) (with_node bank c (node_step setup f c x event).node (node_step setup f c x event).sent)
    by_node c event x at_x arrived leads d y at_y = by (set-at bank.nodes c step.node d y at_y)
      where
        step : NodeStep
        step = node_step setup f c x event

        after : Bank
        after = with_node bank c step.node step.sent

        post : (e : Envelope) → Contains bank.post e → Contains after.post e
        post e in' = Contains-append_left bank.post step.sent e in'

        here : IsQuiet x step.node ⊎ (IsNoted c x step.node ⊎ (IsEnded c event x step.node ⊎ IsHearing c event x step.node))
            → Knows (moves ++ move ∷ []) after c step.node
        here (inl q) = knows_on moves bank move after leads post c x step.node (know c x at_x) q
        here (inr (inl q)) = knows_noted moves bank move after leads post c x step.node (know c x at_x) q
        here (inr (inr (inl q))) = knows_ended moves bank move after leads post h c event x step.node at_x arrived (know c x at_x) q
        here (inr (inr (inr q))) = knows_hearing moves bank move after leads post c event x step.node arrived (know c x at_x) q

        by : ((c ≡ d) × (step.node ≡ y)) ⊎ (slice_get bank.nodes d ≡ Some y) → Knows (moves ++ move ∷ []) after d y
        by (inl is) =
            subst (λ (k : ℕ). Knows (moves ++ move ∷ []) after k y) is.0
            (subst (λ (z : Node). Knows (moves ++ move ∷ []) after c z) is.1 (here (node_does setup f c x event).kind))
        by (inr old) =
            knows_on moves bank move after leads post d y y (know d y old) (record { pay_outs = refl; returned = refl; notices = refl; answered = refl })

    by_acts : (after : Bank) (t : Turn) → Carries bank.post t → Acts setup choose f bank t after → Leads setup choose f bank move after
        → AllKnow (moves ++ move ∷ []) after
    by_acts after (OfSite i event) came a leads =
        all_on moves bank move after leads (λ e in'. subst (λ (b : Bank). Contains b.post e) (sym a.leads) (Contains-append_left bank.post _ e in'))
        (ap (λ (b : Bank). b.nodes) a.leads) know
    by_acts after (OfNode c event) came a leads =
        subst (λ (b : Bank). Leads setup choose f bank move b → AllKnow (moves ++ move ∷ []) b) (sym a.leads) (by_node c event a.before a.is_there came) leads
    by_acts after (OfClient k event) came a leads =
        all_on moves bank move after leads (λ e in'. subst (λ (b : Bank). Contains b.post e) (sym a.leads) (Contains-append_left bank.post _ e in'))
        (ap (λ (b : Bank). b.nodes) a.leads) know

    by_falls : (cell : Boot) (after : Bank) (t : Turn) → FallsBy setup choose f bank t cell after → Leads setup choose f bank move after
        → AllKnow (moves ++ move ∷ []) after
    by_falls cell after (OfSite i event) a leads =
        all_on moves bank move after leads (λ e in'. subst (λ (b : Bank). Contains b.post e) (sym a.leads) in') (ap (λ (b : Bank). b.nodes) a.leads) know
    by_falls cell after (OfNode c event) a leads = absurd a
    by_falls cell after (OfClient k event) a leads = absurd a

  move_knows : (moves : List Move) (bank : Bank) (h : Holds setup choose f cells moves bank) → AllKnow moves bank → (m : Move) (after : Bank)
      → Leads setup choose f bank m after → AllKnow (moves ++ m ∷ []) after
  move_knows moves bank h know (move.Takes step) after leads =
      by_acts moves bank h know (move.Takes step) after leads.turn_is (carries bank.post step leads.turn_is leads.has_turn) leads.acts leads
  move_knows moves bank h know (move.Falls step cell) after leads = by_falls moves bank h know (move.Falls step cell) cell after leads.turn_is leads.falls leads

  module _ (few : length setup.members ≤ 64) (right : IsRight f choose) (all : length cells ≡ 2 * f + 1) where
    run_knows : (moves : List Move) (bank : Bank) → IsRun setup choose f (opening_bank setup f cells) moves bank → AllKnow moves bank
        → (more : List Move) (after : Bank) → IsRun setup choose f bank more after → AllKnow (moves ++ more) after
    run_knows moves bank run know [] after rest =
        subst (λ (b : Bank). AllKnow (moves ++ []) b) (sym rest) (subst (λ (ms : List Move). AllKnow ms bank) (sym (append-nil moves)) know)
    run_knows moves bank run know (m ∷ more) after rest =
        let h = legal-holds setup few choose f right cells moves bank all run in
        subst (λ (ms : List Move). AllKnow ms after) (append_assoc moves (m ∷ []) more)
        (run_knows (moves ++ m ∷ []) rest.0 (leads-more setup choose f (opening_bank setup f cells) moves bank rest.0 m run rest.1)
        (move_knows moves bank h know m rest.0 rest.1) more after rest.2)

    opening_knows : AllKnow [] (opening_bank setup f cells)
    opening_knows c x at =
        let t = map-has (λ currency. opening_node) setup.currencies x (there _ c x at) in
        subst (λ (y : Node). Knows [] (opening_bank setup f cells) c y) t.2 (record {
          count = omega arith;
          ends = λ out is. absurd (true≢false (sym is));
          heard = λ k low. absurd (omega arith);
          due = λ k cmd out at' is. absurd (none-some cmd at');
        })

    pub legal_knows : (moves : List Move) (bank : Bank) → IsRun setup choose f (opening_bank setup f cells) moves bank → AllKnow moves bank
    legal_knows moves bank run = run_knows [] (opening_bank setup f cells) refl opening_knows moves bank run
