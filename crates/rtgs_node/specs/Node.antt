-- A node: the account system of one currency. It settles each payment singly and finally, and tells the bank of it.
use Rattle.std.specs.Prelude.{ℕ, ◌+◌, ◌-◌, ◌==◌, ◌&&◌, ◌||◌, Bool, not, nat_lt, nat_le, if◌then◌else◌, List, [], ◌∷◌, ◌++◌, length, map, sum_by, slice_get, slice_index_or, Option, Some, None, ℤ, pos, ◌-ℤ◌, int_lt}
use Rattle.std.specs.List.{list_any}
use Rattle.std.specs.Option.{option_map_or}
use Rattle.pvp_types.specs.declared.setup.Setup.{Setup}
use Rattle.pvp_types.specs.declared.command.Cmd.{Cmd}
use Rattle.pvp_types.specs.declared.command.Cmd.TheVariants.{Fund, Paid, Returned}
use Rattle.pvp_types.specs.declared.command.Reply.{Reply as Answer}
use Rattle.pvp_types.specs.declared.command.PayOrder.{PayOrder as PaymentOrder}
use Rattle.vr_types.specs.declared.limits.TheConstants.{MAX_ROWS}
use Rattle.vr_types.specs.declared.message.EnvelopeOf.{EnvelopeOf}
use Rattle.vr_types.specs.declared.message.MsgOf.{MsgOf}
use Rattle.vr_types.specs.declared.message.MsgOf.TheVariants.{Request, Reply, PayOrder}
use Rattle.vr_types.specs.Group.{sites, actor_of}
use Rattle.pvp_book.specs.Ledger.{node_of}
use Rattle.pvp_book.specs.Answer.{has_member, is_amount}
use Rattle.rtgs_node.specs.declared.event.NodeEvent.{NodeEvent}
use Rattle.rtgs_node.specs.declared.event.NodeEvent.TheVariants.{PaysIn, Closes, Takes, Beats}
use Rattle.rtgs_node.specs.declared.fault.NodeFault.{NodeFault}
use Rattle.rtgs_node.specs.declared.fault.NodeFault.TheVariants.{Short, UnknownMember, BadAmount, Spent, NotMine, Closed}
use Rattle.rtgs_node.specs.declared.payment.PayIn.{PayIn}

abbrev pub Envelope : Type 0
Envelope = EnvelopeOf Cmd Answer PaymentOrder

-- a client's REQUEST, to every site
abbrev pub to_sites : ℕ → ℕ → ℕ → Cmd → List Envelope
to_sites f client number cmd =
    map (λ j. record { from = client; to = actor_of j; msg = Request (record { number = number; cmd = cmd }) })
    (sites f)

pub record Node : Type 0 where
  pub pay_ins : List PayIn  -- numbered from 1
  pub pay_outs : List PaymentOrder  -- those done
  pub returned : List PaymentOrder  -- those that could not be done
  pub closed : List ℕ  -- the members whose accounts are closed
  pub notices : List Cmd  -- the notices to the bank: notice n is the node's request number n
  pub answered : ℕ  -- how many notices are answered

abbrev pub opening_node : Node
opening_node = record { pay_ins = []; pay_outs = []; returned = []; closed = []; notices = []; answered = 0 }

-- ACCOUNTS

-- what came into the bank's account, and what went out of it
abbrev pub came_in : Node → ℕ
came_in x = sum_by (λ p. p.amt) x.pay_ins

abbrev pub went_out : Node → ℕ
went_out x = sum_by (λ o. o.amt) x.pay_outs

-- the bank's account, which opens at 0
abbrev pub account : Node → ℤ
account x = pos (came_in x) -ℤ pos (went_out x)

-- what a member paid in, and what was paid out to it
abbrev pub came_from : ℕ → Node → ℕ
came_from m x = sum_by (λ p. if p.member == m then p.amt else 0) x.pay_ins

abbrev pub went_to : ℕ → Node → ℕ
went_to m x = sum_by (λ o. if o.member == m then o.amt else 0) x.pay_outs

-- what a member's account at the node of a currency opens with
abbrev pub deposit : Setup → ℕ → ℕ → ℕ
deposit setup c m =
    option_map_or (λ member. slice_index_or member.deposit c 0) (slice_get setup.members (m - 1)) 0

abbrev pub member_account : Setup → ℕ → ℕ → Node → ℤ
member_account setup c m x = pos (deposit setup c m + went_to m x) -ℤ pos (came_from m x)

-- THE NODE'S STEP

-- the node after an event, and what it sends; where it refuses, it is unchanged and sends nothing
pub record NodeStep : Type 0 where
  pub node : Node
  pub sent : List Envelope
  pub fault : Option NodeFault

abbrev pub does : Node → List Envelope → NodeStep
does x sent = record { node = x; sent = sent; fault = None }

abbrev pub refuses : Node → NodeFault → NodeStep
refuses x fault = record { node = x; sent = []; fault = Some fault }

-- the first check that fails is the fault
abbrev pub unless : Node → List (Bool × NodeFault) → NodeStep → NodeStep
unless x [] step = step
unless x ((fails, fault) ∷ more) step = if fails then refuses x fault else unless x more step

-- an order of this number is done
abbrev pub has_done : Node → ℕ → Bool
has_done x out = list_any (λ o. o.out == out) x.pay_outs

-- an order of this number is returned
abbrev pub has_returned : Node → ℕ → Bool
has_returned x out = list_any (λ o. o.out == out) x.returned

-- an order of this number came before: it is done or returned
abbrev pub is_known : Node → ℕ → Bool
is_known x out = has_done x out || has_returned x out

-- the member's account is closed
abbrev pub is_closed : Node → ℕ → Bool
is_closed x m = list_any (λ n. n == m) x.closed

-- the least notice that is not answered, to every site
abbrev pub notice_out : ℕ → ℕ → Node → List Envelope
notice_out f c x =
    option_map_or (λ cmd. to_sites f (node_of c) (x.answered + 1) cmd) (slice_get x.notices x.answered) []

-- a new notice; it goes out at once where all before it are answered
abbrev pub notes : ℕ → ℕ → Node → Cmd → NodeStep
notes f c x cmd =
    let y = record x { notices = x.notices ++ cmd ∷ [] } in
    does y (if x.answered == length x.notices then notice_out f c y else [])

-- one more pay-in, one more order done, one more returned
abbrev pub with_pay_in : Node → ℕ → ℕ → Node
with_pay_in x member amt = record x { pay_ins = x.pay_ins ++ record { member = member; amt = amt } ∷ [] }

abbrev pub with_pay_out : Node → PaymentOrder → Node
with_pay_out x order = record x { pay_outs = x.pay_outs ++ order ∷ [] }

abbrev pub with_return : Node → PaymentOrder → Node
with_return x order = record x { returned = x.returned ++ order ∷ [] }

-- as many pay-ins or orders as there are numbers
abbrev pub is_full : ℕ → Bool
is_full count = nat_le MAX_ROWS count

module _ (setup : Setup) (f c : ℕ) (x : Node) where
  abbrev pub pay_in_checks : ℕ → ℕ → List (Bool × NodeFault)
  pay_in_checks member amt =
      (not (has_member setup member), UnknownMember)
      ∷ (not (is_amount amt), BadAmount)
      ∷ (is_closed x member, Closed)
      ∷ (is_full (length x.pay_ins), Spent)
      ∷ (int_lt (member_account setup c member x) (pos amt), Short) ∷ []

  -- the amount goes from the member's account to the bank's
  abbrev pub on_pay_in : ℕ → ℕ → NodeStep
  on_pay_in member amt =
      unless x (pay_in_checks member amt)
      (notes f c (with_pay_in x member amt) (Fund c (length x.pay_ins + 1) member amt))

  abbrev pub close_checks : ℕ → List (Bool × NodeFault)
  close_checks member = (not (has_member setup member), UnknownMember) ∷ (is_closed x member, Closed) ∷ []

  -- a member's account is closed
  abbrev pub on_close : ℕ → NodeStep
  on_close member =
      unless x (close_checks member) (does (record x { closed = x.closed ++ member ∷ [] }) [])

  -- whether an order can be an order of this bank, and has a number
  abbrev pub order_checks : PaymentOrder → List (Bool × NodeFault)
  order_checks order =
      (not (has_member setup order.member), UnknownMember)
      ∷ (not (is_amount order.amt), BadAmount)
      ∷ (is_full (length x.pay_outs + length x.returned), Spent) ∷ []

  -- the order cannot be done
  abbrev pub on_return : PaymentOrder → NodeStep
  on_return order = notes f c (with_return x order) (Returned c order.out)

  -- the amount goes from the bank's account to the member's
  abbrev pub on_pay_out : PaymentOrder → NodeStep
  on_pay_out order =
      unless x ((int_lt (account x) (pos order.amt), Short) ∷ [])
      (notes f c (with_pay_out x order) (Paid c order.out))

  -- a new order is done, or where the member's account is closed returned; a known order does nothing
  abbrev pub on_order : PaymentOrder → NodeStep
  on_order order =
      if not (order.ccy == c) then refuses x NotMine
      else if is_known x order.out then does x []
      else unless x (order_checks order) (if is_closed x order.member then on_return order else on_pay_out order)

  -- the answer to the notice that is out; then the next one goes out
  abbrev pub on_reply : ℕ → NodeStep
  on_reply number =
      if (number == x.answered + 1) && nat_lt x.answered (length x.notices)
      then (let y = record x { answered = x.answered + 1 } in does y (notice_out f c y))
      else does x []

  abbrev pub on_message : MsgOf Cmd Answer PaymentOrder → NodeStep
  on_message (Reply msg) = on_reply msg.number
  on_message (PayOrder order) = on_order order
  on_message _ = refuses x NotMine

  abbrev pub on_envelope : Envelope → NodeStep
  on_envelope e = if not (e.to == node_of c) then refuses x NotMine else on_message e.msg

  -- what the node of currency c does with any event
  abbrev pub node_step : NodeEvent → NodeStep
  node_step (PaysIn member amt) = on_pay_in member amt
  node_step (Closes member) = on_close member
  node_step (Takes e) = on_envelope e
  node_step Beats = does x (notice_out f c x)
