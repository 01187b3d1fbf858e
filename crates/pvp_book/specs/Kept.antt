-- What a book keeps beside its entries, and what each kept value is by its definition.
use Rattle.std.specs.Prelude.{◌≡◌, ℕ, ◌+◌, ◌<◌, ◌==◌, ◌&&◌, Bool, false, not, ◌-◌, ◌≤◌, slice_get, nat_le, if◌then◌else◌, List, [], length, sum_by, Option, Some, None, slice_set, slice_index_or, replicate, All, ◌*◌, ℤ, pos, neg_ℤ, ◌+ℤ◌, int_lt, filter}
use Rattle.std.specs.List.{zip, AllByRecursion}
use Rattle.std.specs.Option.{option_map, option_map_or}
use Rattle.pvp_types.specs.declared.setup.Setup.{Setup}
use Rattle.pvp_types.specs.declared.command.Cmd.{Cmd}
use Rattle.pvp_types.specs.declared.command.Cmd.TheVariants.{Fund, PayOut, Returned}
use Rattle.pvp_types.specs.declared.command.PayOrder.{PayOrder}
use Rattle.pvp_types.specs.declared.setup.Currency.{Currency}
use Rattle.pvp_types.specs.declared.setup.Member.{Member}
use Rattle.pvp_book.specs.declared.account.Account.{Account}
use Rattle.pvp_book.specs.declared.kept_pair.KeptPair.{KeptPair}
use Rattle.pvp_book.specs.KeptPair.{kept_pair, by_reference}
use Rattle.pvp_book.specs.declared.account.Movement.{Movement}
use Rattle.pvp_book.specs.declared.entry.Entry.{Entry}
use Rattle.pvp_book.specs.declared.pair.Pair.{Pair}
use Rattle.pvp_book.specs.Orders.{order_of}
use Rattle.pvp_book.specs.declared.order_table.OrderTable.{OrderTable}
use Rattle.pvp_book.specs.OrderTable.{AreMade}
use Rattle.pvp_book.specs.declared.pay_ins.PayIns.{PayIns}
use Rattle.pvp_book.specs.PayIns.{ArePaidIn}
use Rattle.pvp_book.specs.declared.tally.Tally.{Tally}
use Rattle.pvp_book.specs.Tally.{AreTallied}
use Rattle.pvp_book.specs.Pairs.{pairs, pair_of, has_reference, both_have_asked}
use Rattle.pvp_book.specs.Settlement.{candidates, settled_pairs}
use Rattle.pvp_book.specs.Ledger.{Ledger, balance, figure}
use Rattle.pvp_book.specs.Answer.{Row, book_of}
use Rattle.pvp_book.specs.Bounds.{most_total, IsWithin, IsLedger}
use Rattle.pvp_book.specs.Limits.{value_of, shortage_of, is_within_short}

-- the account of some balances
abbrev pub account_of : List Currency → List ℤ → Account
account_of currencies balances = record {
  balances = balances;
  value = value_of currencies balances;
  shortage = sum_by shortage_of (zip currencies balances);
}

-- an account whose value and shortage are those of its balances
pub record IsAccount (currencies : List Currency) (account : Account) : Type 0 where
  pub places : length account.balances ≡ 8
  pub same : account ≡ account_of currencies account.balances

-- the account after an amount of a currency is posted on it
abbrev pub after_posting : List Currency → ℕ → ℤ → Account → Account
after_posting currencies c amt account =
    account_of currencies (slice_set account.balances c (slice_index_or account.balances c (pos 0) +ℤ amt))

-- the account after an amount of one currency is sold for one of another
abbrev pub after_trade : List Currency → ℕ → ℕ → ℕ → ℕ → Account → Account
after_trade currencies sell sell_amt buy buy_amt account =
    after_posting currencies buy (pos buy_amt) (after_posting currencies sell (neg_ℤ (pos sell_amt)) account)

-- the three tests, on the kept sums
abbrev pub is_within_limits : Member → Account → Bool
is_within_limits member account =
    not (int_lt account.value (pos 0)) && (is_within_short member.short account.balances
    && nat_le account.shortage member.aggregate)

-- an account with nothing in it
abbrev pub empty_account : Account
empty_account = record { balances = replicate 8 (pos 0); value = pos 0; shortage = 0 }

-- an account that is not there reads as this one
abbrev pub no_account : Account
no_account = record { balances = []; value = pos 0; shortage = 0 }

abbrev pub account_at : List Account → ℕ → Account
account_at accounts m = slice_index_or accounts m no_account

-- a member's balance in a currency, as its account has it
abbrev pub balance_at : List Account → ℕ → ℕ → ℤ
balance_at accounts m c = slice_index_or (account_at accounts m).balances c (pos 0)

-- There is an account for each of n members, by its number, and one for the operator; they have these balances.
pub record AreAccounts (currencies : List Currency) (n : ℕ) (balance : ℕ → ℕ → ℤ) (accounts : List Account)
    : Type 0 where
  pub places : length accounts ≡ n + 1
  pub each : (m : ℕ) → m < length accounts → IsAccount currencies (account_at accounts m)
  pub same : (m c : ℕ) → balance_at accounts m c ≡ balance m c

-- the figures by currency
pub record AreFigures (figure : ℕ → ℤ) (figures : List ℤ) : Type 0 where
  pub places : length figures ≡ 8
  pub same : (c : ℕ) → slice_index_or figures c (pos 0) ≡ figure c

-- what an accepted command posts on one account: a pay-in, a pay-out, or an order that is returned; `order_of` finds
-- the order
abbrev pub movement_with : (ℕ → ℕ → Option PayOrder) → ℕ → Cmd → Option Movement
movement_with order_of client (Fund ccy pay member amt) = Some (record { member = member; ccy = ccy; amt = pos amt })
movement_with order_of client (PayOut ccy amt) = Some (record { member = client; ccy = ccy; amt = neg_ℤ (pos amt) })
movement_with order_of client (Returned ccy out) =
    option_map (λ order. record { member = order.member; ccy = ccy; amt = pos order.amt }) (order_of ccy out)
movement_with order_of client _ = None

abbrev pub movement_by : List Entry → ℕ → Cmd → Option Movement
movement_by entries client cmd = movement_with (order_of entries) client cmd

-- what it adds to a member's balance in a currency, and to a figure
abbrev pub moved_to : ℕ → ℕ → Option Movement → ℤ
moved_to m c None = pos 0
moved_to m c (Some x) = if (x.member == m) && (x.ccy == c) then x.amt else pos 0

abbrev pub moved_in : ℕ → Option Movement → ℤ
moved_in c None = pos 0
moved_in c (Some x) = if x.ccy == c then x.amt else pos 0

-- accounts and figures after it is posted
abbrev pub accounts_after : List Currency → Option Movement → List Account → List Account
accounts_after currencies None accounts = accounts
accounts_after currencies (Some x) accounts =
    slice_set accounts x.member (after_posting currencies x.ccy x.amt (account_at accounts x.member))

abbrev pub figures_after : Option Movement → List ℤ → List ℤ
figures_after None figures = figures
figures_after (Some x) figures = slice_set figures x.ccy (slice_index_or figures x.ccy (pos 0) +ℤ x.amt)

-- A movement can be posted: its account and its figure are there, and within their bounds.
pub record CanPost (setup : Setup) (accounts : List Account) (figures : List ℤ) (x : Movement) : Type 0 where
  pub member : x.member < length accounts
  pub currency : x.ccy < length setup.currencies
  pub account : IsAccount setup.currencies (account_at accounts x.member)
  pub small : All (IsWithin most_total) (account_at accounts x.member).balances
  pub amount : IsWithin most_total x.amt
  pub places : length figures ≡ 8
  pub figure : IsWithin (64 * most_total) (slice_index_or figures x.ccy (pos 0))

-- the accounts of both members of a pair after it is settled
abbrev pub first_with : List Currency → Pair → List Account → Account
first_with currencies p accounts =
    after_trade currencies p.sell p.sell_amt p.buy p.buy_amt (account_at accounts p.first)

abbrev pub second_with : List Currency → Pair → List Account → Account
second_with currencies p accounts =
    after_trade currencies p.buy p.buy_amt p.sell p.sell_amt (account_at accounts p.second)

abbrev pub accounts_with : List Currency → Pair → List Account → List Account
accounts_with currencies p accounts =
    slice_set (slice_set accounts p.first (first_with currencies p accounts)) p.second
    (second_with currencies p accounts)

-- the tests of the member of a number, on an account
abbrev pub passes_with : Setup → ℕ → Account → Bool
passes_with setup m account =
    option_map_or (λ member. is_within_limits member account) (slice_get setup.members (m - 1)) false

abbrev pub both_pass_with : Setup → Pair → List Account → Bool
both_pass_with setup p accounts =
    passes_with setup p.first (first_with setup.currencies p accounts)
    && passes_with setup p.second (second_with setup.currencies p accounts)

-- A pair can be settled: its members' accounts are there, and within their bounds.
pub record CanSettle (setup : Setup) (kept : List Account) (p : Pair) : Type 0 where
  pub first : p.first < length kept
  pub second : p.second < length kept
  pub sell : p.sell < length setup.currencies
  pub buy : p.buy < length setup.currencies
  pub sell_amt : p.sell_amt ≤ most_total
  pub buy_amt : p.buy_amt ≤ most_total
  pub each : (m : ℕ) → m < length kept → IsAccount setup.currencies (account_at kept m)
  pub small : (m : ℕ) → All (IsWithin most_total) (account_at kept m).balances

-- the pairs among some matched ones that wait: they are neither settled nor taken back by both sides
abbrev pub waiting_pairs : List Entry → List Pair → List Pair → List Pair
waiting_pairs entries settled some =
    filter (λ p. not (has_reference settled p.reference) && not (both_have_asked entries p)) some

-- A line of matched pairs has those that wait, in their order. It may have others too, which the next walk drops.
pub record IsLine (entries : List Entry) (settled line : List Pair) : Type 0 where
  pub waits : waiting_pairs entries settled line ≡ candidates entries settled
  pub known : AllByRecursion (λ p. pair_of entries p.reference ≡ Some p) line

-- what a book keeps beside its entries: the pairs by reference, with what became of each; the line of those that wait;
-- the accounts, the figures, the numbers of the pay-ins, the orders, and how many pairs are in each state
pub record Kept : Type 0 where
  pub pairs : List (ℕ × KeptPair)
  pub line : List Pair
  pub members : List Account
  pub totals : List ℤ
  pub paid : PayIns
  pub table : OrderTable
  pub tally : Tally

-- each kept value is what the entries say
pub record KeepsLedger (held : Ledger) (kept : Kept) : Type 0 where
  pub ledger : IsLedger held
  -- a history of commands that leaves these entries
  pub history : List Row
  pub reached : held.entries ≡ book_of held.setup history
  pub accounts : AreAccounts held.setup.currencies (length held.setup.members)
      (balance held.setup held.entries) kept.members
  pub figures : AreFigures (figure held.setup held.entries) kept.totals
  pub pay_ins : ArePaidIn held.entries kept.paid
  pub orders : AreMade held.entries kept.table
  pub states : AreTallied held.setup held.entries kept.tally
  pub line : IsLine held.entries (settled_pairs held.setup held.entries) kept.line
  pub pairs : kept.pairs ≡ by_reference (kept_pair held.setup held.entries) (pairs held.entries)
