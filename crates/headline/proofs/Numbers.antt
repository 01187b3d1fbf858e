-- Each REQUEST of the post has a number that its sender has come to: a client its last, a node the next after those answered.
use Rattle.std.proofs.Common.{◌≡◌, ◌⊎◌, inl, inr, ℕ, zero, suc, ◌+◌, ◌-◌, ◌<◌, ◌≤◌, Bool, true, false, not, ◌&&◌, ◌==◌, nat_le, nat_lt, if◌then◌else◌, List, [], ◌∷◌, ◌++◌, length, map, slice_get, slice_set, Option, Some, None, option_map, refl, sym, ap, ◌∙◌, subst, arith, true≢false, length-append}
use Rattle.std.specs.Prelude.{Contains, pos, int_lt}
use Rattle.std.specs.List.{filter_map}
use Rattle.std.specs.Option.{option_map_or}
use Rattle.std.proofs.lemmas.Bool.Decides.{nat_tests}
use Rattle.std.proofs.lemmas.Option.{slice_get_within}
use Rattle.std.proofs.lemmas.List.Elements.{All-contains, Contains-append_cases}
use Rattle.pvp_types.specs.declared.setup.Setup.{Setup}
use Rattle.pvp_types.specs.declared.command.Cmd.{Cmd}
use Rattle.pvp_types.specs.declared.command.Cmd.TheVariants.{Fund, Paid, Returned}
use Rattle.pvp_types.specs.declared.command.Reply.{Reply as Answer}
use Rattle.pvp_types.specs.declared.command.PayOrder.{PayOrder as PaymentOrder}
use Rattle.vr_types.specs.declared.event.EventOf.{EventOf}
use Rattle.vr_types.specs.declared.message.MsgOf.{MsgOf}
use Rattle.vr_types.specs.declared.message.MsgOf.TheVariants.{Request, Reply, PayOrder}
use Rattle.vr_types.specs.declared.message.RequestOf.{RequestOf}
use Rattle.vr_types.specs.Cell.{max_number}
use Rattle.vr_types.specs.Choice.{Choice}
use Rattle.vr_types.specs.Group.{sites, actor_of}
use Rattle.vr_types.specs.Site.{Site}
use Rattle.vr_types.specs.Handling.{site_step, envelopes, reply_to, order_to, machine_of}
use Rattle.pvp_book.specs.Ledger.{node_of, opening}
use Rattle.rtgs_node.specs.declared.event.NodeEvent.{NodeEvent}
use Rattle.rtgs_node.specs.declared.event.NodeEvent.TheVariants.{PaysIn, Closes, Takes, Beats}
use Rattle.rtgs_node.specs.declared.fault.NodeFault.{NodeFault}
use Rattle.pvp_book.specs.Answer.{Row}
use Rattle.vr_types.specs.Execution.{answer_at}
use Rattle.vr_types.specs.declared.message.ReplyOf.{ReplyOf}
use Rattle.rtgs_node.specs.declared.fault.NodeFault.TheVariants.{NotMine, Short}
use Rattle.rtgs_node.specs.Node.{Envelope, account, does, on_message, Node, NodeStep, to_sites, notes, notice_out, unless, on_order, order_checks, pay_in_checks, close_checks, with_pay_in, with_pay_out, with_return, is_known, is_closed, opening_node, node_step}
use Rattle.headline.specs.declared.step.ClientEvent.{ClientEvent}
use Rattle.headline.specs.declared.step.ClientEvent.TheVariants as events
use Rattle.headline.specs.declared.step.ClientFault.{ClientFault}
use Rattle.headline.specs.declared.step.ClientFault.TheVariants.{Outstanding, Spent as NumbersSpent}
use Rattle.headline.specs.Client as client
use Rattle.headline.specs.Client.{Client, ClientStep, opening_client, on_submit, on_reply, client_step}
use Rattle.headline.specs.Machine.{book}
use Rattle.headline.specs.Bank.{Bank, opening_bank, with_node, with_client}
use Rattle.headline.specs.declared.step.Move.{Move}
use Rattle.headline.specs.declared.step.Move.TheVariants as Moves
use Rattle.headline.specs.declared.step.Turn.{Turn}
use Rattle.headline.specs.declared.step.Turn.TheVariants.{OfSite, OfNode, OfClient}
use Rattle.headline.specs.Legal.{Acts, FallsBy, Leads, IsRun}
use Rattle.vr_types.specs.declared.cell.Boot.{Boot}
use Rattle.vr_types.proofs.ChoosingPick.{Contains-cases}
use Rattle.headline.proofs.Basics.{none-some, some-same, there, map-has, filter_map-has, set-here, set-at, set-length}
use Rattle.headline.proofs.Between.{is_between, step_between}

nothing : {A : Type 0} (x : A) → Contains [] x → ⊥
nothing x in' = let low = in'.1 in omega arith

less_of : (a b : ℕ) → nat_lt a b ≡ true → a + 1 ≤ b
less_of a b e = let h : a < b = grind (arith, nat_tests, e) in omega arith

-- how far the node of a currency, and a client, have come
abbrev pub node_due : List Node → ℕ → ℕ
node_due nodes c = option_map_or (λ n. n.answered + 1) (slice_get nodes c) 0

abbrev pub client_due : List Client → ℕ → ℕ
client_due clients k = option_map_or (λ x. x.number) (slice_get clients k) 0

-- and an actor, by its number
abbrev pub due : Bank → ℕ → ℕ
due bank a = if nat_le 101 a then node_due bank.nodes (a - 101) else client_due bank.clients a

pub node_grows : (nodes : List Node) (c : ℕ) (x y : Node) → slice_get nodes c ≡ Some x → x.answered ≤ y.answered → (d : ℕ)
    → node_due nodes d ≤ node_due (slice_set nodes c y) d
node_grows [] c x y at low d = absurd (none-some x at)
node_grows (z ∷ nodes) zero x y at low zero = let e = ap (λ (n : Node). n.answered) (some-same z x at) in omega arith
node_grows (z ∷ nodes) zero x y at low (suc d) = omega arith
node_grows (z ∷ nodes) (suc c) x y at low zero = omega arith
node_grows (z ∷ nodes) (suc c) x y at low (suc d) = node_grows nodes c x y at low d

pub client_grows : (clients : List Client) (c : ℕ) (x y : Client) → slice_get clients c ≡ Some x → x.number ≤ y.number → (d : ℕ)
    → client_due clients d ≤ client_due (slice_set clients c y) d
client_grows [] c x y at low d = absurd (none-some x at)
client_grows (z ∷ clients) zero x y at low zero = let e = ap (λ (n : Client). n.number) (some-same z x at) in omega arith
client_grows (z ∷ clients) zero x y at low (suc d) = omega arith
client_grows (z ∷ clients) (suc c) x y at low zero = omega arith
client_grows (z ∷ clients) (suc c) x y at low (suc d) = client_grows clients c x y at low d

-- SITES send no REQUEST
module _ (setup : Setup) (choose : Choice Cmd) (f i : ℕ) (x : Site Cmd) (event : EventOf Cmd Answer PaymentOrder) where
  pub no_request : (e : Envelope) (asked : RequestOf Cmd) → Contains (envelopes book (opening setup) i (site_step choose f i x event)) e → e.msg ≡ Request asked
      → ⊥
  no_request e asked in' is = by_part (Contains-append_cases (sent ++ replies) ordered e in')
    where
      sent : List Envelope
      sent = (site_step {R = Answer} {O = PaymentOrder} choose f i x event).sent

      replies : List Envelope
      replies =
          filter_map (reply_to book (opening setup) i (site_step {R = Answer} {O = PaymentOrder} choose f i x event).site)
          (site_step {R = Answer} {O = PaymentOrder} choose f i x event).replies

      ordered : List Envelope
      ordered = if (site_step {R = Answer} {O = PaymentOrder} choose f i x event).orders
          then map (order_to i) (book.orders (machine_of book (opening setup) (site_step {R = Answer} {O = PaymentOrder} choose f i x event).site)) else []

      by_due : (b : Bool)
          → Contains
          (if b then map (order_to i) (book.orders (machine_of book (opening setup) (site_step {R = Answer} {O = PaymentOrder} choose f i x event).site))
          else []) e → ⊥
      by_due true h = let t = map-has (order_to i) _ e h in let same : PayOrder t.0.1 ≡ Request asked = ap (λ (d : Envelope). d.msg) t.2 ∙ is in cc
      by_due false h = nothing e h

      by_row : (answer : Row → ReplyOf Answer) (found : Option Row)
          → option_map (λ (row : Row). record { from = actor_of i; to = row.client; msg = Reply (answer row) }) found ≡ Some e → ⊥
      by_row answer None same = none-some e same
      by_row answer (Some row) same = let one = some-same _ e same in let msg : Reply (answer row) ≡ Request asked = ap (λ (d : Envelope). d.msg) one ∙ is in cc

      by_found : (place : ℕ) → reply_to book (opening setup) i (site_step {R = Answer} {O = PaymentOrder} choose f i x event).site place ≡ Some e → ⊥
      by_found place same = by_row
          (λ row. record {
            view = (site_step {R = Answer} {O = PaymentOrder} choose f i x event).site.view;
            number = row.number;
            reply = answer_at book (opening setup) (site_step {R = Answer} {O = PaymentOrder} choose f i x event).site.log place row;
          })
          (slice_get (site_step {R = Answer} {O = PaymentOrder} choose f i x event).site.log (place - 1)) same

      by_first : Contains sent e ⊎ Contains replies e → ⊥
      by_first (inl h) =
          true≢false (sym (All-contains (λ (d : Envelope). is_between d.msg ≡ true) sent e
          (step_between {R = Answer} {O = PaymentOrder} f i x choose event).sent h) ∙ ap is_between is)
      by_first (inr h) =
          let t =
          filter_map-has (reply_to book (opening setup) i (site_step {R = Answer} {O = PaymentOrder} choose f i x event).site)
          (site_step {R = Answer} {O = PaymentOrder} choose f i x event).replies e h in by_found t.0 t.2

      by_part : Contains (sent ++ replies) e ⊎ Contains ordered e → ⊥
      by_part (inl h) = by_first (Contains-append_cases sent replies e h)
      by_part (inr h) = by_due (site_step {R = Answer} {O = PaymentOrder} choose f i x event).orders h

-- NODES

-- what the node's step sends is of the next notice, and it goes no way back
pub record IsNodeDue (c : ℕ) (x : Node) (step : NodeStep) : Type 0 where
  pub sent : (e : Envelope) (asked : RequestOf Cmd) → Contains step.sent e → e.msg ≡ Request asked
      → (e.from ≡ node_of c) × (asked.number ≡ step.node.answered + 1)
  pub older : x.answered ≤ step.node.answered
  pub sound : x.answered ≤ length x.notices → step.node.answered ≤ length step.node.notices

module _ (setup : Setup) (f c : ℕ) (x : Node) where
  -- the next notice of a node
  notice_due : (y : Node) (e : Envelope) (asked : RequestOf Cmd) → Contains (notice_out f c y) e → e.msg ≡ Request asked
      → (e.from ≡ node_of c) × (asked.number ≡ y.answered + 1)
  notice_due y e asked in' is = by (slice_get y.notices y.answered) in'
    where
      by : (found : Option Cmd) → Contains (option_map_or (λ cmd. to_sites f (node_of c) (y.answered + 1) cmd) found []) e
          → (e.from ≡ node_of c) × (asked.number ≡ y.answered + 1)
      by None h = absurd (nothing e h)
      by (Some cmd) h =
          let t =
          map-has (λ (j : ℕ). record { from = node_of c; to = actor_of j; msg = Request (record { number = y.answered + 1; cmd = cmd }) }) (sites f) e h in
          let same : Request (record { number = y.answered + 1; cmd = cmd }) ≡ Request asked = ap (λ (d : Envelope). d.msg) t.2 ∙ is in
          let one : record { number = y.answered + 1; cmd = cmd } ≡ asked = cc in
          (sym (ap (λ (d : Envelope). d.from) t.2), sym (ap (λ (r : RequestOf Cmd). r.number) one))

  quiet : (y : Node) → x.answered ≡ y.answered → x.notices ≡ y.notices → (fault : Option NodeFault)
      → IsNodeDue c x (record { node = y; sent = []; fault = fault })
  quiet y low same fault =
      record { sent = λ e asked in' is. absurd (nothing e in'); older = omega arith; sound = λ h. (let l = ap (length {A = Cmd}) same in omega arith) }

  noted : (y : Node) → y.answered ≡ x.answered → y.notices ≡ x.notices → (cmd : Cmd) → IsNodeDue c x (notes f c y cmd)
  noted y same notices cmd =
      record {
        sent = λ e asked in' is. by (y.answered == length y.notices) e asked in' is;
        older = omega arith;
        sound = λ h. (let l = ap (length {A = Cmd}) notices in let m = length-append y.notices (cmd ∷ []) in omega arith);
      }
    where
      z : Node
      z = record y { notices = y.notices ++ cmd ∷ [] }

      by : (b : Bool) (e : Envelope) (asked : RequestOf Cmd) → Contains (if b then notice_out f c (record y { notices = y.notices ++ cmd ∷ [] }) else []) e
          → e.msg ≡ Request asked → (e.from ≡ node_of c) × (asked.number ≡ y.answered + 1)
      by true e asked h is = notice_due (record y { notices = y.notices ++ cmd ∷ [] }) e asked h is
      by false e asked h is = absurd (nothing e h)

  due_if : (b : Bool) {p q : NodeStep} → IsNodeDue c x p → IsNodeDue c x q → IsNodeDue c x (if b then p else q)
  due_if true p q = p
  due_if false p q = q

  due_unless : (checks : List (Bool × NodeFault)) (step : NodeStep) → IsNodeDue c x step → IsNodeDue c x (unless x checks step)
  due_unless [] step d = d
  due_unless (check ∷ more) step d = due_if check.0 (quiet x refl refl (Some check.1)) (due_unless more step d)

  order_due : (order : PaymentOrder) → IsNodeDue c x (on_order setup f c x order)
  order_due order =
      due_if (not (order.ccy == c)) (quiet x refl refl (Some NotMine)) (due_if (is_known x order.out) (quiet x refl refl None)
      (due_unless (order_checks setup f c x order) _ (due_if (is_closed x order.member) (noted (with_return x order) refl refl (Returned c order.out))
      (due_unless ((int_lt (account x) (pos order.amt), Short) ∷ []) (notes f c (with_pay_out x order) (Paid c order.out))
      (noted (with_pay_out x order) refl refl (Paid c order.out))))))

  message_due : (msg : MsgOf Cmd Answer PaymentOrder) → IsNodeDue c x (on_message setup f c x msg)
  message_due (Reply msg) = by ((msg.number == x.answered + 1) && nat_lt x.answered (length x.notices)) refl
    where
      second : (a b : Bool) → (a && b) ≡ true → b ≡ true
      second true b e = e
      second false b e = absurd (true≢false (sym e))

      by : (b : Bool) → ((msg.number == x.answered + 1) && nat_lt x.answered (length x.notices)) ≡ b
          → IsNodeDue c x (if b then (let y = record x { answered = x.answered + 1 } in does y (notice_out f c y)) else does x [])
      by false e = quiet x refl refl None
      by true e = record {
        sent = λ e asked in' is. notice_due (record x { answered = x.answered + 1 }) e asked in' is;
        older = omega arith;
        sound = λ h. (let d = second (msg.number == x.answered + 1) (nat_lt x.answered (length x.notices)) e in less_of x.answered (length x.notices) d);
      }
  message_due (PayOrder order) = order_due order
  message_due _ = quiet x refl refl (Some NotMine)

  pub node_due_step : (event : NodeEvent) → IsNodeDue c x (node_step setup f c x event)
  node_due_step (PaysIn member amt) =
      due_unless (pay_in_checks setup f c x member amt) (notes f c (with_pay_in x member amt) (Fund c (length x.pay_ins + 1) member amt))
      (noted (with_pay_in x member amt) refl refl (Fund c (length x.pay_ins + 1) member amt))
  node_due_step (Closes member) =
      due_unless (close_checks setup f c x member) (does (record x { closed = x.closed ++ member ∷ [] }) [])
      (quiet (record x { closed = x.closed ++ member ∷ [] }) refl refl None)
  node_due_step (Takes e) = due_if (not (e.to == node_of c)) (quiet x refl refl (Some NotMine)) (message_due e.msg)
  node_due_step Beats = record { sent = λ e asked in' is. notice_due x e asked in' is; older = omega arith; sound = λ h. h }

-- CLIENTS

pub record IsClientDue (k : ℕ) (x : Client) (step : ClientStep) : Type 0 where
  pub sent : (e : Envelope) (asked : RequestOf Cmd) → Contains step.sent e → e.msg ≡ Request asked → (e.from ≡ k) × (asked.number ≤ step.client.number)
  pub older : x.number ≤ step.client.number
  pub counted : (cmd : Cmd) → step.client.waiting ≡ Some cmd → (x.waiting ≡ Some cmd) × (step.client.number ≡ x.number) ⊎ (0 < step.client.number)

module _ (f k : ℕ) (x : Client) where
  same_client : (fault : Option ClientFault) → IsClientDue k x (record { client = x; sent = []; fault = fault })
  same_client fault = record { sent = λ e asked in' is. absurd (nothing e in'); older = omega arith; counted = λ cmd is. inl (is, refl) }

  asks_due : (y : Client) (number : ℕ) (cmd : Cmd) → number ≤ y.number → (e : Envelope) (asked : RequestOf Cmd) → Contains (to_sites f k number cmd) e
      → e.msg ≡ Request asked → (e.from ≡ k) × (asked.number ≤ y.number)
  asks_due y number cmd low e asked in' is =
      let t = map-has (λ (j : ℕ). record { from = k; to = actor_of j; msg = Request (record { number = number; cmd = cmd }) }) (sites f) e in' in
      let same : Request (record { number = number; cmd = cmd }) ≡ Request asked = ap (λ (d : Envelope). d.msg) t.2 ∙ is in
      let one : record { number = number; cmd = cmd } ≡ asked = cc in
      let n = ap (λ (r : RequestOf Cmd). r.number) one in
      (sym (ap (λ (d : Envelope). d.from) t.2), omega arith)

  client_if : (b : Bool) {p q : ClientStep} → IsClientDue k x p → IsClientDue k x q → IsClientDue k x (if b then p else q)
  client_if true p q = p
  client_if false p q = q

  submit_due : (cmd : Cmd) (waiting : Option Cmd) → IsClientDue k x (on_submit f k x cmd waiting)
  submit_due cmd (Some old) = same_client (Some Outstanding)
  submit_due cmd None = client_if (x.number == max_number) (same_client (Some NumbersSpent))
      (record {
        sent = λ e asked in' is. asks_due (record { number = x.number + 1; waiting = Some cmd; answer = None }) (x.number + 1) cmd
            (omega arith) e asked in' is;
        older = omega arith;
        counted = λ c is. inr (omega arith);
      })

  reply_due : (number : ℕ) (answer : Answer) (waiting : Option Cmd) → IsClientDue k x (on_reply f k x number answer waiting)
  reply_due number answer None = same_client None
  reply_due number answer (Some cmd) = client_if (number == x.number)
      (record { sent = λ e asked in' is. absurd (nothing e in'); older = omega arith; counted = λ c is. absurd (none-some c is) }) (same_client None)

  client_message_due : (msg : MsgOf Cmd Answer PaymentOrder) → IsClientDue k x (client.on_message f k x msg)
  client_message_due (Reply msg) = reply_due msg.number msg.reply x.waiting
  client_message_due _ = same_client None

  beat_due : (waiting : Option Cmd) → IsClientDue k x (client.on_beat f k x waiting)
  beat_due None = same_client None
  beat_due (Some cmd) =
      record { sent = λ e asked in' is. asks_due x x.number cmd (omega arith) e asked in' is; older = omega arith; counted = λ c is. inl (is, refl) }

  pub client_due_step : (event : ClientEvent) → IsClientDue k x (client_step f k x event)
  client_due_step (events.Submits cmd) = submit_due cmd x.waiting
  client_due_step (events.Takes e) = client_message_due e.msg
  client_due_step events.Beats = beat_due x.waiting

-- THE BANK

pub record IsDue (bank : Bank) : Type 0 where
  pub post : (e : Envelope) (asked : RequestOf Cmd) → Contains bank.post e → e.msg ≡ Request asked → asked.number ≤ due bank e.from
  pub waits : (k : ℕ) (x : Client) (cmd : Cmd) → slice_get bank.clients k ≡ Some x → x.waiting ≡ Some cmd → 0 < x.number
  pub few : length bank.clients ≤ 65
  pub heard : (c : ℕ) (x : Node) → slice_get bank.nodes c ≡ Some x → x.answered ≤ length x.notices

due_nodes : (clients : List Client) (old new : List Node) (post : List Envelope) (sites : List (Site Cmd)) (a : ℕ) → ((d : ℕ) → node_due old d ≤ node_due new d)
    → due (record { sites = sites; nodes = old; clients = clients; post = post }) a
    ≤ due (record { sites = sites; nodes = new; clients = clients; post = post }) a
due_nodes clients old new post sites a grows = by (nat_le 101 a)
  where
    by : (b : Bool) → (if b then node_due old (a - 101) else client_due clients a) ≤ (if b then node_due new (a - 101) else client_due clients a)
    by true = grows (a - 101)
    by false = omega arith

due_clients : (nodes : List Node) (old new : List Client) (a : ℕ) → ((d : ℕ) → client_due old d ≤ client_due new d)
    → (if nat_le 101 a then node_due nodes (a - 101) else client_due old a) ≤ (if nat_le 101 a then node_due nodes (a - 101) else client_due new a)
due_clients nodes old new a grows = by (nat_le 101 a)
  where
    by : (b : Bool) → (if b then node_due nodes (a - 101) else client_due old a) ≤ (if b then node_due nodes (a - 101) else client_due new a)
    by true = omega arith
    by false = grows a

-- a node's actor, and a client's
at_node : (bank : Bank) (c n : ℕ) → n ≤ node_due bank.nodes c → n ≤ due bank (node_of c)
at_node bank c n low = by (nat_le 101 (101 + c)) (grind (arith, nat_tests)) (let e : (101 + c) - 101 ≡ c = omega arith in e)
  where
    by : (b : Bool) → b ≡ true → (101 + c) - 101 ≡ c → n ≤ (if b then node_due bank.nodes ((101 + c) - 101) else client_due bank.clients (101 + c))
    by true e d = subst (λ (m : ℕ). n ≤ node_due bank.nodes m) (sym d) low
    by false e d = absurd (true≢false (sym e))

at_client : (bank : Bank) (k n : ℕ) → k < 101 → n ≤ client_due bank.clients k → n ≤ due bank k
at_client bank k n small low = by (nat_le 101 k) refl
  where
    by : (b : Bool) → nat_le 101 k ≡ b → n ≤ (if b then node_due bank.nodes (k - 101) else client_due bank.clients k)
    by true e = absurd (let h : 101 ≤ k = grind (arith, nat_tests, e) in omega arith)
    by false e = low

module _ (setup : Setup) (choose : Choice Cmd) (f : ℕ) where
  acts_due : (bank : Bank) (t : Turn) (after : Bank) → IsDue bank → Acts setup choose f bank t after → IsDue after
  acts_due bank (OfSite i event) after d a = subst (λ (b : Bank). IsDue b) (sym a.leads) (record {
    post = λ e asked in' is. by e asked is (Contains-append_cases bank.post (envelopes book (opening setup) i (site_step choose f i a.before event)) e in');
    waits = d.waits;
    few = d.few;
    heard = d.heard;
  })
    where
      by : (e : Envelope) (asked : RequestOf Cmd) → e.msg ≡ Request asked
          → Contains bank.post e ⊎ Contains (envelopes book (opening setup) i (site_step choose f i a.before event)) e → asked.number ≤ due bank e.from
      by e asked is (inl old) = d.post e asked old is
      by e asked is (inr new) = absurd (no_request setup choose f i a.before event e asked new is)
  acts_due bank (OfNode c event) after d a = subst (λ (b : Bank). IsDue b) (sym a.leads) (record {
    post = λ e asked in' is. by e asked is (Contains-append_cases bank.post (node_step setup f c a.before event).sent e in');
    waits = d.waits;
    few = d.few;
    heard = λ b y at. heard_by b y (set-at bank.nodes c (node_step setup f c a.before event).node b y at);
  })
    where
      heard_by : (b : ℕ) (y : Node) → ((c ≡ b) × ((node_step setup f c a.before event).node ≡ y)) ⊎ (slice_get bank.nodes b ≡ Some y)
          → y.answered ≤ length y.notices
      heard_by b y (inl here) =
          subst (λ (n : Node). n.answered ≤ length n.notices) here.1 ((node_due_step setup f c a.before event).sound (d.heard c a.before a.is_there))
      heard_by b y (inr old) = d.heard b y old

      so : IsNodeDue c a.before (node_step setup f c a.before event)
      so = node_due_step setup f c a.before event

      new_bank : Bank
      new_bank = with_node bank c (node_step setup f c a.before event).node (node_step setup f c a.before event).sent

      by : (e : Envelope) (asked : RequestOf Cmd) → e.msg ≡ Request asked → Contains bank.post e ⊎ Contains (node_step setup f c a.before event).sent e
          → asked.number ≤ due (with_node bank c (node_step setup f c a.before event).node (node_step setup f c a.before event).sent) e.from
      by e asked is (inl old) =
          let h = d.post e asked old is in
          let g =
          due_nodes bank.clients bank.nodes (slice_set bank.nodes c (node_step setup f c a.before event).node) bank.post bank.sites e.from
          (node_grows bank.nodes c a.before (node_step setup f c a.before event).node a.is_there so.older) in
          omega arith
      by e asked is (inr new) =
          let t = so.sent e asked new is in
          subst (λ (n : ℕ). asked.number ≤ due (with_node bank c (node_step setup f c a.before event).node (node_step setup f c a.before event).sent) n)
          (sym t.0)
          (at_node (with_node bank c (node_step setup f c a.before event).node (node_step setup f c a.before event).sent) c asked.number
          (let e' = ap (λ (o : Option Node). option_map_or (λ (n : Node). n.answered + 1) o 0)
          (set-here bank.nodes c a.before (node_step setup f c a.before event).node a.is_there) in let n = t.1 in omega arith))
  acts_due bank (OfClient k event) after d a = subst (λ (b : Bank). IsDue b) (sym a.leads) (record {
    post = λ e asked in' is. by e asked is (Contains-append_cases bank.post (client_step f k a.before event).sent e in');
    waits = λ j y cmd at waiting. waits_by j y cmd waiting (set-at bank.clients k (client_step f k a.before event).client j y at);
    few = let e = set-length bank.clients k (client_step f k a.before event).client in let l = d.few in omega arith;
    heard = d.heard;
  })
    where
      so : IsClientDue k a.before (client_step f k a.before event)
      so = client_due_step f k a.before event

      by : (e : Envelope) (asked : RequestOf Cmd) → e.msg ≡ Request asked → Contains bank.post e ⊎ Contains (client_step f k a.before event).sent e
          → asked.number ≤ due (with_client bank k (client_step f k a.before event).client (client_step f k a.before event).sent) e.from
      by e asked is (inl old) =
          let h = d.post e asked old is in
          let g =
          due_clients bank.nodes bank.clients (slice_set bank.clients k (client_step f k a.before event).client) e.from
          (client_grows bank.clients k a.before (client_step f k a.before event).client a.is_there so.older) in
          omega arith
      by e asked is (inr new) =
          let t = so.sent e asked new is in
          let small = slice_get_within bank.clients k a.before a.is_there in
          let l = d.few in
          subst (λ (n : ℕ). asked.number ≤ due (with_client bank k (client_step f k a.before event).client (client_step f k a.before event).sent) n) (sym t.0)
          (at_client (with_client bank k (client_step f k a.before event).client (client_step f k a.before event).sent) k asked.number (omega arith)
          (let e' = ap (λ (o : Option Client). option_map_or (λ (n : Client). n.number) o 0)
          (set-here bank.clients k a.before (client_step f k a.before event).client a.is_there) in let n = t.1 in omega arith))

      waits_by : (j : ℕ) (y : Client) (cmd : Cmd) → y.waiting ≡ Some cmd
          → ((k ≡ j) × ((client_step f k a.before event).client ≡ y)) ⊎ (slice_get bank.clients j ≡ Some y) → 0 < y.number
      waits_by j y cmd waiting (inr old) = d.waits j y cmd old waiting
      waits_by j y cmd waiting (inl here) = by_cases (so.counted cmd (ap (λ (x : Client). x.waiting) here.1 ∙ waiting))
        where
          by_cases : (a.before.waiting ≡ Some cmd) × ((client_step f k a.before event).client.number ≡ a.before.number)
              ⊎ (0 < (client_step f k a.before event).client.number) → 0 < y.number
          by_cases (inl old) = let h = d.waits k a.before cmd a.is_there old.0 in let e = ap (λ (x : Client). x.number) here.1 in let s = old.1 in omega arith
          by_cases (inr more) = let e = ap (λ (x : Client). x.number) here.1 in omega arith

  move_due : (bank : Bank) (move : Move) (after : Bank) → IsDue bank → Leads setup choose f bank move after → IsDue after
  move_due bank (Moves.Takes step) after d leads = acts_due bank leads.turn_is after d leads.acts
  move_due bank (Moves.Falls step cell) after d leads = falls_due leads.turn_is leads.falls
    where
      falls_due : (t : Turn) → FallsBy setup choose f bank t cell after → IsDue after
      falls_due (OfSite i event) a = subst (λ (b : Bank). IsDue b) (sym a.leads) (record { post = d.post; waits = d.waits; few = d.few; heard = d.heard })
      falls_due (OfNode c event) a = absurd a
      falls_due (OfClient k event) a = absurd a

  pub run_due : (moves : List Move) (bank after : Bank) → IsDue bank → IsRun setup choose f bank moves after → IsDue after
  run_due [] bank after d run = subst (λ (b : Bank). IsDue b) (sym run) d
  run_due (move ∷ moves) bank after d run = run_due moves run.0 after (move_due bank move run.0 d run.1) run.2

  pub opening_due : (cells : List Boot) → length setup.members ≤ 64 → IsDue (opening_bank setup f cells)
  opening_due cells few = record {
    post = λ e asked in' is. absurd (nothing e in');
    waits = λ k x cmd at waiting. absurd (idle (opening_bank setup f cells).clients k x at all_idle cmd waiting);
    few = let e = map_long (λ member. opening_client) setup.members in omega arith;
    heard =
        λ c x at. subst (λ (n : Node). n.answered ≤ length n.notices)
        (map-has (λ currency. opening_node) setup.currencies x (there (opening_bank setup f cells).nodes c x at)).2 (omega arith);
  }
    where
      map_long : {A B : Type 0} (h : A → B) (xs : List A) → length (map h xs) ≡ length xs
      map_long h [] = refl
      map_long h (x ∷ xs) = ap (λ n. suc n) (map_long h xs)

      all_idle : (x : Client) → Contains (opening_bank setup f cells).clients x → opening_client ≡ x
      all_idle x in' = by_place (Contains-cases opening_client x (map (λ member. opening_client) setup.members) in')
        where
          by_place : (opening_client ≡ x) ⊎ Contains (map (λ member. opening_client) setup.members) x → opening_client ≡ x
          by_place (inl e) = e
          by_place (inr h) = (map-has (λ member. opening_client) setup.members x h).2

      idle : (clients : List Client) (k : ℕ) (x : Client) → slice_get clients k ≡ Some x → ((y : Client) → Contains clients y → opening_client ≡ y)
          → (cmd : Cmd) → x.waiting ≡ Some cmd → ⊥
      idle clients k x at all cmd waiting = none-some cmd (ap (λ (y : Client). y.waiting) (all x (there clients k x at)) ∙ waiting)
