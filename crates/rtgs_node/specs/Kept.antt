-- What a node keeps beside what it shows, and why no sum exceeds the range of its type: invariants of the code, on
-- which no answer depends.
use Rattle.std.specs.Prelude.{◌≡◌, ℕ, ◌+◌, ◌-◌, ◌<◌, ◌≤◌, ◌==◌, true, not, List, length, count_by, slice_index_or}
use Rattle.std.specs.List.{AllByRecursion, list_any, range_with_len}
use Rattle.pvp_types.specs.declared.setup.Setup.{Setup}
use Rattle.pvp_types.specs.declared.command.Cmd.{Cmd}
use Rattle.pvp_types.specs.declared.command.PayOrder.{PayOrder as PaymentOrder}
use Rattle.pvp_types.specs.Setup.{IsValid}
use Rattle.pvp_book.specs.Answer.{has_member, is_amount}
use Rattle.rtgs_node.specs.declared.payment.PayIn.{PayIn}
use Rattle.rtgs_node.specs.Node.{Node, is_known, is_closed, came_in, went_out, came_from, went_to, deposit}
use Rattle.rtgs_node.specs.Shown.{ShownNode}

abbrev pub shown_of : Setup → ℕ → List PayIn → List PaymentOrder → List PaymentOrder → List ℕ → List Cmd → ℕ → ShownNode
shown_of setup ccy pay_ins pay_outs returned closed notices answered = record {
  setup = setup;
  ccy = ccy;
  node =
      record {
        pay_ins = pay_ins;
        pay_outs = pay_outs;
        returned = returned;
        closed = closed;
        notices = notices;
        answered = answered;
      };
}

-- each payment made one notice, and there are no more payments than numbers for them
pub record AreCounted (x : Node) : Type 0 where
  pub notices : length x.notices ≡ length x.pay_ins + (length x.pay_outs + length x.returned)
  pub answered : x.answered ≤ length x.notices
  pub pay_ins : length x.pay_ins ≤ 65535
  pub orders : length x.pay_outs + length x.returned ≤ 65535

-- a payment of a member of the setup, of an amount in its range
pub record IsPayment (setup : Setup) (member amt : ℕ) : Type 0 where
  pub known : has_member setup member ≡ true
  pub small : is_amount amt ≡ true

pub record ArePayments (setup : Setup) (x : Node) : Type 0 where
  pub pay_ins : AllByRecursion (λ p. IsPayment setup p.member p.amt) x.pay_ins
  pub pay_outs : AllByRecursion (λ o. IsPayment setup o.member o.amt) x.pay_outs

-- what the accounts hold: the bank's, and those of the members in their order
pub record AreAccounts (setup : Setup) (c : ℕ) (x : Node) (held : ℕ) (each : List ℕ) : Type 0 where
  pub bank : held + went_out x ≡ came_in x
  pub count : length each ≡ length setup.members
  pub members : (m : ℕ) → has_member setup m ≡ true
      → slice_index_or each (m - 1) 0 + came_from m x ≡ deposit setup c m + went_to m x

-- how many members' accounts are open
abbrev pub open_accounts : Setup → Node → ℕ
open_accounts setup x = count_by (λ m. not (is_closed x m)) (range_with_len 1 (length setup.members))

pub record IsKeptNode (shown : ShownNode) (bank : ℕ) (members numbers : List ℕ) (capacity : ℕ) : Type 0 where
  pub valid : IsValid shown.setup
  pub currency : shown.ccy < length shown.setup.currencies
  pub counted : AreCounted shown.node
  pub payments : ArePayments shown.setup shown.node
  pub accounts : AreAccounts shown.setup shown.ccy shown.node bank members
  -- the known numbers are those of the orders done and returned
  pub known : (out : ℕ) → list_any (λ n. out == n) numbers ≡ is_known shown.node out
  -- there is room on the list of closed accounts for all that are open
  pub room : length shown.node.closed + open_accounts shown.setup shown.node ≤ capacity
