-- What a node or a client sends at once: one REQUEST to each site, or nothing.
use Rattle.std.proofs.Common.{◌≡◌, ◌⊎◌, inl, inr, ℕ, ◌+◌, ◌*◌, ◌≤◌, ◌==◌, Bool, true, false, if◌then◌else◌, nat_lt, List, [], ◌∷◌, ◌++◌, length, slice_get, Option, Some, None, All, refl, sym, subst, arith}
use Rattle.std.specs.Prelude.{not, ◌&&◌, pos, int_lt}
use Rattle.std.specs.Option.{option_map_or}
use Rattle.std.proofs.lemmas.List.Elements.{All-nil, All-map}
use Rattle.std.proofs.lemmas.List.FromFn.{length-map-range_with_len}
use Rattle.pvp_types.specs.declared.setup.Setup.{Setup}
use Rattle.pvp_types.specs.declared.command.Cmd.{Cmd}
use Rattle.pvp_types.specs.declared.command.Cmd.TheVariants.{Fund, Paid, Returned}
use Rattle.pvp_types.specs.declared.command.Reply.{Reply as Answer}
use Rattle.pvp_types.specs.declared.command.PayOrder.{PayOrder as PaymentOrder}
use Rattle.pvp_types.specs.Setup.{IsValid, faults}
use Rattle.pvp_types.proofs.SetupLemmas.{valid-sites}
use Rattle.vr_types.specs.declared.message.MsgOf.{MsgOf}
use Rattle.vr_types.specs.declared.message.MsgOf.TheVariants.{Request, Reply, PayOrder}
use Rattle.vr_types.specs.Cell.{max_number}
use Rattle.vr_types.specs.Group.{actor_of, sites}
use Rattle.vr_types.specs.Messages.{has_fixed_size}
use Rattle.pvp_book.specs.Ledger.{node_of}
use Rattle.rtgs_node.specs.declared.event.NodeEvent.{NodeEvent}
use Rattle.rtgs_node.specs.declared.event.NodeEvent.TheVariants.{PaysIn, Closes, Takes, Beats}
use Rattle.rtgs_node.specs.declared.fault.NodeFault.{NodeFault}
use Rattle.rtgs_node.specs.declared.fault.NodeFault.TheVariants.{Short}
use Rattle.rtgs_node.specs.Node.{Envelope, Node, NodeStep, to_sites, account, is_known, is_closed, refuses, unless, notice_out, notes, with_pay_in, with_pay_out, with_return, pay_in_checks, close_checks, order_checks, on_order, on_message, node_step}
use Rattle.headline.specs.declared.step.ClientEvent.{ClientEvent}
use Rattle.headline.specs.declared.step.ClientEvent.TheVariants as client
use Rattle.headline.specs.declared.step.ClientFault.TheVariants.{Spent}
use Rattle.headline.specs.Client as rules
use Rattle.headline.specs.Client.{Client, client_step}

-- there is a site more than twice f, and f is at most 3
pub few-sites : (setup : Setup) → IsValid setup → 2 * faults setup + 1 ≤ 7
few-sites setup valid = let low = (valid-sites setup valid).few in omega arith

-- a REQUEST of this actor to every site, or nothing
abbrev pub AreRequests : ℕ → ℕ → List Envelope → Type 0
AreRequests f me sent = (sent ≡ []) ⊎ ((number : ℕ) × (cmd : Cmd) × (sent ≡ to_sites f me number cmd))

one-each : (f me number : ℕ) (cmd : Cmd) → length (to_sites f me number cmd) ≤ 2 * f + 1
one-each f me number cmd = subst (λ k. k ≤ 2 * f + 1) (sym (length-map-range_with_len (λ j. letter j) 0 (2 * f + 1))) (omega arith)
  where
    letter : ℕ → Envelope
    letter j = record { from = me; to = actor_of j; msg = Request (record { number = number; cmd = cmd }) }

all-fixed : (f me number : ℕ) (cmd : Cmd) → All (λ (e : Envelope). has_fixed_size e.msg ≡ true) (to_sites f me number cmd)
all-fixed f me number cmd =
    All-map (λ (e : Envelope). has_fixed_size e.msg ≡ true) (λ j. record { from = me; to = actor_of j; msg = Request (record { number = number; cmd = cmd }) })
    (sites f) (λ k d low. refl)

-- these are at most one a site
pub requests-few : (f me : ℕ) (sent : List Envelope) → AreRequests f me sent → length sent ≤ 2 * f + 1
requests-few f me sent (inl none) = subst (λ (es : List Envelope). length es ≤ 2 * f + 1) (sym none) (omega arith)
requests-few f me sent (inr (number, cmd, is)) = subst (λ (es : List Envelope). length es ≤ 2 * f + 1) (sym is) (one-each f me number cmd)

-- and carry no list
pub requests-fixed : (f me : ℕ) (sent : List Envelope) → AreRequests f me sent → All (λ e. has_fixed_size e.msg ≡ true) sent
requests-fixed f me sent (inl none) = subst (All (λ e. has_fixed_size e.msg ≡ true)) (sym none) (All-nil _)
requests-fixed f me sent (inr (number, cmd, is)) = subst (All (λ e. has_fixed_size e.msg ≡ true)) (sym is) (all-fixed f me number cmd)

nothing : (f me : ℕ) → AreRequests f me []
nothing f me = inl refl

module _ (setup : Setup) (f c : ℕ) (x : Node) where
  out : (y : Node) → AreRequests f (node_of c) (notice_out f c y)
  out y = by (slice_get y.notices y.answered)
    where
      by : (found : Option Cmd) → AreRequests f (node_of c) (option_map_or (λ cmd. to_sites f (node_of c) (y.answered + 1) cmd) found [])
      by None = nothing f (node_of c)
      by (Some cmd) = inr (y.answered + 1, cmd, refl)

  after_checks : (checks : List (Bool × NodeFault)) (step : NodeStep) → AreRequests f (node_of c) step.sent
      → AreRequests f (node_of c) (unless x checks step).sent
  after_checks [] step sent = sent
  after_checks ((fails, fault) ∷ more) step sent = by fails (after_checks more step sent)
    where
      by : (b : Bool) → AreRequests f (node_of c) (unless x more step).sent → AreRequests f (node_of c) (if b then refuses x fault else unless x more step).sent
      by true rest = nothing f (node_of c)
      by false rest = rest

  either_way : (b : Bool) (p q : NodeStep) → AreRequests f (node_of c) p.sent → AreRequests f (node_of c) q.sent
      → AreRequests f (node_of c) (if b then p else q).sent
  either_way true p q left right = left
  either_way false p q left right = right

  noted : (y : Node) (cmd : Cmd) → AreRequests f (node_of c) (notes f c y cmd).sent
  noted y cmd = by (y.answered == length y.notices) (record y { notices = y.notices ++ cmd ∷ [] })
    where
      by : (b : Bool) (z : Node) → AreRequests f (node_of c) (if b then notice_out f c z else [])
      by true z = out z
      by false z = nothing f (node_of c)

  at_order : (o : PaymentOrder) → AreRequests f (node_of c) (on_order setup f c x o).sent
  at_order o =
      either_way (not (o.ccy == c)) _ _ (nothing f (node_of c)) (either_way (is_known x o.out) _ _ (nothing f (node_of c))
      (after_checks (order_checks setup f c x o) _ (either_way (is_closed x o.member) _ _ (noted (with_return x o) (Returned c o.out))
      (after_checks ((int_lt (account x) (pos o.amt), Short) ∷ []) _ (noted (with_pay_out x o) (Paid c o.out))))))

  at_message : (msg : MsgOf Cmd Answer PaymentOrder) → AreRequests f (node_of c) (on_message setup f c x msg).sent
  at_message (Reply msg) =
      either_way ((msg.number == x.answered + 1) && nat_lt x.answered (length x.notices)) _ _
      (out (record x { answered = x.answered + 1 })) (nothing f (node_of c))
  at_message (PayOrder o) = at_order o
  at_message _ = nothing f (node_of c)

  pub node-requests : (event : NodeEvent) → AreRequests f (node_of c) (node_step setup f c x event).sent
  node-requests (PaysIn member amt) =
      after_checks (pay_in_checks setup f c x member amt) _ (noted (with_pay_in x member amt) (Fund c (length x.pay_ins + 1) member amt))
  node-requests (Closes member) = after_checks (close_checks setup f c x member) _ (nothing f (node_of c))
  node-requests (Takes e) = either_way (not (e.to == node_of c)) _ _ (nothing f (node_of c)) (at_message e.msg)
  node-requests Beats = out x

  pub node-few : (event : NodeEvent) → length (node_step setup f c x event).sent ≤ 2 * f + 1
  node-few event = requests-few f (node_of c) _ (node-requests event)

module _ (f me : ℕ) (x : Client) where
  pub client-requests : (event : ClientEvent) → AreRequests f me (client_step f me x event).sent
  client-requests (client.Submits cmd) = by x.waiting
    where
      by_number : (b : Bool)
          → AreRequests f me (if b then rules.refuses x Spent else rules.does (record { number = x.number + 1; waiting = Some cmd; answer = None })
          (to_sites f me (x.number + 1) cmd)).sent
      by_number true = nothing f me
      by_number false = inr (x.number + 1, cmd, refl)

      by : (waiting : Option Cmd) → AreRequests f me (rules.on_submit f me x cmd waiting).sent
      by None = by_number (x.number == max_number)
      by (Some w) = nothing f me
  client-requests (client.Takes e) = by e.msg
    where
      by_same : (b : Bool) (y : Client) → AreRequests f me (if b then rules.does y [] else rules.does x []).sent
      by_same true y = nothing f me
      by_same false y = nothing f me

      by_reply : (number : ℕ) (answer : Answer) (waiting : Option Cmd) → AreRequests f me (rules.on_reply f me x number answer waiting).sent
      by_reply number answer None = nothing f me
      by_reply number answer (Some cmd) = by_same (number == x.number) _

      by : (msg : MsgOf Cmd Answer PaymentOrder) → AreRequests f me (rules.on_message f me x msg).sent
      by (Reply msg) = by_reply msg.number msg.reply x.waiting
      by _ = nothing f me
  client-requests client.Beats = by x.waiting
    where
      by : (waiting : Option Cmd) → AreRequests f me (rules.on_beat f me x waiting).sent
      by None = nothing f me
      by (Some cmd) = inr (x.number, cmd, refl)

  pub client-few : (event : ClientEvent) → length (client_step f me x event).sent ≤ 2 * f + 1
  client-few event = requests-few f me _ (client-requests event)
