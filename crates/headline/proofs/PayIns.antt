-- Each pay-in of a node has its notice, of a member and an amount that the book takes.
use Rattle.std.proofs.Common.{◌≡◌, ◌⊎◌, inl, inr, ℕ, ◌+◌, ◌==◌, Bool, true, false, not, nat_lt, if◌then◌else◌, List, [], ◌∷◌, ◌++◌, length, slice_get, Option, Some, None, refl, sym, ap, ◌∙◌, subst}
use Rattle.std.specs.Prelude.{◌&&◌, pos, int_lt}
use Rattle.pvp_types.specs.declared.setup.Setup.{Setup}
use Rattle.pvp_types.specs.declared.command.Cmd.{Cmd}
use Rattle.pvp_types.specs.declared.command.Cmd.TheVariants.{Fund, Paid, Returned}
use Rattle.pvp_types.specs.declared.command.Reply.{Reply as Answer}
use Rattle.pvp_types.specs.declared.command.PayOrder.{PayOrder as PaymentOrder}
use Rattle.vr_types.specs.declared.cell.Boot.{Boot}
use Rattle.vr_types.specs.declared.message.MsgOf.{MsgOf}
use Rattle.vr_types.specs.declared.message.MsgOf.TheVariants.{Reply, PayOrder}
use Rattle.vr_types.specs.Choice.{Choice}
use Rattle.pvp_book.specs.Ledger.{node_of}
use Rattle.pvp_book.specs.Answer.{has_member, is_amount}
use Rattle.rtgs_node.specs.declared.event.NodeEvent.TheVariants.{PaysIn, Closes, Takes, Beats}
use Rattle.rtgs_node.specs.declared.event.NodeEvent.{NodeEvent}
use Rattle.rtgs_node.specs.declared.fault.NodeFault.{NodeFault}
use Rattle.rtgs_node.specs.declared.fault.NodeFault.TheVariants as fault
use Rattle.rtgs_node.specs.declared.payment.PayIn.{PayIn}
use Rattle.rtgs_node.specs.Node.{Envelope, Node, NodeStep, opening_node, account, member_account, is_known, is_closed, is_full, with_pay_in, notice_out, notes, on_order, on_message, node_step}
use Rattle.headline.specs.declared.step.Move.{Move}
use Rattle.headline.specs.declared.step.Move.TheVariants as move
use Rattle.headline.specs.declared.step.Turn.{Turn}
use Rattle.headline.specs.declared.step.Turn.TheVariants.{OfSite, OfNode, OfClient}
use Rattle.headline.specs.Bank.{Bank, opening_bank, with_node}
use Rattle.headline.specs.Legal.{Acts, FallsBy, Leads, IsRun}
use Rattle.headline.proofs.Basics.{not_false, none-some, there, map-has, set-at, at-append, at-push, at-end}

-- pay-in k, counted from 0, has its notice
pub record HasNotice (setup : Setup) (c k : ℕ) (p : PayIn) (x : Node) : Type 0 where
  pub place : ℕ
  pub is : slice_get x.notices place ≡ Some (Fund c (k + 1) p.member p.amt)
  pub member : has_member setup p.member ≡ true
  pub amount : is_amount p.amt ≡ true

-- and so has each
pub record AreNoted (setup : Setup) (c : ℕ) (x : Node) : Type 0 where
  pub each : (k : ℕ) (p : PayIn) → slice_get x.pay_ins k ≡ Some p → HasNotice setup c k p x

-- after a step too
pub record Keeps (setup : Setup) (c : ℕ) (step : NodeStep) : Type 0 where
  pub keeps : AreNoted setup c step.node

module _ (setup : Setup) (f c : ℕ) (x : Node) (noted : AreNoted setup c x) where
  -- a node with the same pay-ins and notices
  same_notices : (y : Node) → y.pay_ins ≡ x.pay_ins → y.notices ≡ x.notices → AreNoted setup c y
  same_notices y pay_ins notices = record {
    each = λ k p at. (
        let h = noted.each k p (ap (λ (l : List PayIn). slice_get l k) (sym pay_ins) ∙ at) in
        record { place = h.place; is = ap (λ (l : List Cmd). slice_get l h.place) notices ∙ h.is; member = h.member; amount = h.amount });
  }

  -- one with the same pay-ins, and a notice more
  more_notices : (y : Node) (cmd : Cmd) → y.pay_ins ≡ x.pay_ins → y.notices ≡ x.notices ++ cmd ∷ [] → AreNoted setup c y
  more_notices y cmd pay_ins notices = record {
    each = λ k p at. (
        let h = noted.each k p (ap (λ (l : List PayIn). slice_get l k) (sym pay_ins) ∙ at) in
        record {
          place = h.place;
          is = ap (λ (l : List Cmd). slice_get l h.place) notices ∙ at-append x.notices (cmd ∷ []) h.place (Fund c (k + 1) p.member p.amt) h.is;
          member = h.member;
          amount = h.amount;
        });
  }

  -- one with a pay-in more, and its notice
  abbrev paying : ℕ → ℕ → Node
  paying member amt = (notes f c (with_pay_in x member amt) (Fund c (length x.pay_ins + 1) member amt)).node

  pays_in : (member amt : ℕ) → has_member setup member ≡ true → is_amount amt ≡ true → AreNoted setup c (paying member amt)
  pays_in member amt known small = record { each = λ k p at. by k p (at-push x.pay_ins (record { member = member; amt = amt }) k p at) }
    where
      by : (k : ℕ) (p : PayIn) → (slice_get x.pay_ins k ≡ Some p) ⊎ ((k ≡ length x.pay_ins) × (record { member = member; amt = amt } ≡ p))
          → HasNotice setup c k p (paying member amt)
      by k p (inl old) =
          let h = noted.each k p old in
          record {
            place = h.place;
            is = at-append x.notices (Fund c (length x.pay_ins + 1) member amt ∷ []) h.place (Fund c (k + 1) p.member p.amt) h.is;
            member = h.member;
            amount = h.amount;
          }
      by k p (inr new) =
          subst (λ (n : ℕ). HasNotice setup c n p (paying member amt)) (sym new.0)
          (subst (λ (q : PayIn). HasNotice setup c (length x.pay_ins) q (paying member amt)) new.1
          (record { place = length x.notices; is = at-end x.notices (Fund c (length x.pay_ins + 1) member amt); member = known; amount = small }))

  by_if : (b : Bool) {p q : NodeStep} → (b ≡ true → Keeps setup c p) → (b ≡ false → Keeps setup c q) → Keeps setup c (if b then p else q)
  by_if true k l = k refl
  by_if false k l = l refl

  still : (sent : List Envelope) (why : Option NodeFault) → Keeps setup c (record { node = x; sent = sent; fault = why })
  still sent why = record { keeps = noted }

  order_keeps : (o : PaymentOrder) → Keeps setup c (on_order setup f c x o)
  order_keeps o =
      by_if (not (o.ccy == c)) (λ _. still [] (Some fault.NotMine)) (λ _.
      by_if (is_known x o.out) (λ _. still [] None) (λ _.
      by_if (not (has_member setup o.member)) (λ _. still [] (Some fault.UnknownMember)) (λ _.
      by_if (not (is_amount o.amt)) (λ _. still [] (Some fault.BadAmount)) (λ _.
      by_if (is_full (length x.pay_outs + length x.returned)) (λ _. still [] (Some fault.Spent)) (λ _.
      by_if (is_closed x o.member) (λ _. returns) (λ _.
      by_if (int_lt (account x) (pos o.amt)) (λ _. still [] (Some fault.Short)) (λ _. pays)))))))
    where
      returns : Keeps setup c (notes f c (record x { returned = x.returned ++ o ∷ [] }) (Returned c o.out))
      returns = record { keeps = more_notices (notes f c (record x { returned = x.returned ++ o ∷ [] }) (Returned c o.out)).node (Returned c o.out) refl refl }

      pays : Keeps setup c (notes f c (record x { pay_outs = x.pay_outs ++ o ∷ [] }) (Paid c o.out))
      pays = record { keeps = more_notices (notes f c (record x { pay_outs = x.pay_outs ++ o ∷ [] }) (Paid c o.out)).node (Paid c o.out) refl refl }

  message_keeps : (msg : MsgOf Cmd Answer PaymentOrder) → Keeps setup c (on_message setup f c x msg)
  message_keeps (Reply said) =
      by_if ((said.number == x.answered + 1) && nat_lt x.answered (length x.notices))
      (λ _. record { keeps = same_notices (record x { answered = x.answered + 1 }) refl refl }) (λ _. still [] None)
  message_keeps (PayOrder order) = order_keeps order
  message_keeps _ = still [] (Some fault.NotMine)

  pub step_keeps : (event : NodeEvent) → Keeps setup c (node_step setup f c x event)
  step_keeps (PaysIn member amt) =
      by_if (not (has_member setup member)) (λ _. still [] (Some fault.UnknownMember)) (λ known.
      by_if (not (is_amount amt)) (λ _. still [] (Some fault.BadAmount)) (λ small.
      by_if (is_closed x member) (λ _. still [] (Some fault.Closed)) (λ _.
      by_if (is_full (length x.pay_ins)) (λ _. still [] (Some fault.Spent)) (λ _.
      by_if (int_lt (member_account setup c member x) (pos amt)) (λ _. still [] (Some fault.Short)) (λ _.
      record { keeps = pays_in member amt (not_false _ known) (not_false _ small) })))))
  step_keeps (Closes member) =
      by_if (not (has_member setup member)) (λ _. still [] (Some fault.UnknownMember)) (λ _.
      by_if (is_closed x member) (λ _. still [] (Some fault.Closed)) (λ _.
      record { keeps = same_notices (record x { closed = x.closed ++ member ∷ [] }) refl refl }))
  step_keeps (Takes e) = by_if (not (e.to == node_of c)) (λ _. still [] (Some fault.NotMine)) (λ _. message_keeps e.msg)
  step_keeps Beats = still (notice_out f c x) None

-- SO IT IS AT EVERY MOMENT

abbrev pub AllNoted : Setup → Bank → Type 0
AllNoted setup bank = (c : ℕ) (x : Node) → slice_get bank.nodes c ≡ Some x → AreNoted setup c x

module _ (setup : Setup) (choose : Choice Cmd) (f : ℕ) where
  -- nodes that have not changed
  all_on : (bank after : Bank) → after.nodes ≡ bank.nodes → AllNoted setup bank → AllNoted setup after
  all_on bank after same all c x at = all c x (ap (λ (l : List Node). slice_get l c) (sym same) ∙ at)

  by_node : (bank : Bank) (c : ℕ) (event : NodeEvent) (x : Node) (sent : List Envelope) → slice_get bank.nodes c ≡ Some x → AllNoted setup bank
      → AllNoted setup (with_node bank c (node_step setup f c x event).node sent)
  by_node bank c event x sent at_x all d y at = by (set-at bank.nodes c (node_step setup f c x event).node d y at)
    where
      by : ((c ≡ d) × ((node_step setup f c x event).node ≡ y)) ⊎ (slice_get bank.nodes d ≡ Some y) → AreNoted setup d y
      by (inl is) =
          subst (λ (k : ℕ). AreNoted setup k y) is.0 (subst (λ (z : Node). AreNoted setup c z) is.1 (step_keeps setup f c x (all c x at_x) event).keeps)
      by (inr old) = all d y old

  by_acts : (bank after : Bank) → AllNoted setup bank → (t : Turn) → Acts setup choose f bank t after → AllNoted setup after
  by_acts bank after all (OfSite i event) a = all_on bank after (ap (λ (b : Bank). b.nodes) a.leads) all
  by_acts bank after all (OfNode c event) a =
      subst (λ (b : Bank). AllNoted setup b) (sym a.leads) (by_node bank c event a.before (node_step setup f c a.before event).sent a.is_there all)
  by_acts bank after all (OfClient k event) a = all_on bank after (ap (λ (b : Bank). b.nodes) a.leads) all

  by_falls : (bank after : Bank) (cell : Boot) → AllNoted setup bank → (t : Turn) → FallsBy setup choose f bank t cell after → AllNoted setup after
  by_falls bank after cell all (OfSite i event) a = all_on bank after (ap (λ (b : Bank). b.nodes) a.leads) all
  by_falls bank after cell all (OfNode c event) a = absurd a
  by_falls bank after cell all (OfClient k event) a = absurd a

  move_noted : (bank : Bank) (m : Move) (after : Bank) → AllNoted setup bank → Leads setup choose f bank m after → AllNoted setup after
  move_noted bank (move.Takes step) after all leads = by_acts bank after all leads.turn_is leads.acts
  move_noted bank (move.Falls step cell) after all leads = by_falls bank after cell all leads.turn_is leads.falls

  run_noted : (moves : List Move) (bank after : Bank) → AllNoted setup bank → IsRun setup choose f bank moves after → AllNoted setup after
  run_noted [] bank after all run = subst (λ (b : Bank). AllNoted setup b) (sym run) all
  run_noted (m ∷ moves) bank after all run = run_noted moves run.0 after (move_noted bank m run.0 all run.1) run.2

  opening_noted : (cells : List Boot) → AllNoted setup (opening_bank setup f cells)
  opening_noted cells c x at =
      let t = map-has (λ currency. opening_node) setup.currencies x (there _ c x at) in
      subst (λ (y : Node). AreNoted setup c y) t.2 (record { each = λ k p at'. absurd (none-some p at') })

  pub legal_noted : (cells : List Boot) (moves : List Move) (bank : Bank) → IsRun setup choose f (opening_bank setup f cells) moves bank → AllNoted setup bank
  legal_noted cells moves bank run = run_noted moves (opening_bank setup f cells) bank (opening_noted cells) run
