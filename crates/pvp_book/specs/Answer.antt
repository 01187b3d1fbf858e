-- The answer to a command, and what the book then holds.
use Rattle.std.specs.Prelude.{ℕ, ◌+◌, ◌-ℤ◌, ◌==◌, ◌&&◌, ◌||◌, Bool, true, false, not, if◌then◌else◌, nat_lt, List, [], ◌∷◌, ◌++◌, length, Option, Some, None, ℤ, pos, int_lt, slice_set}
use Rattle.std.specs.List.{list_any}
use Rattle.pvp_types.specs.declared.setup.Setup.{Setup}
use Rattle.pvp_types.specs.declared.command.Instruction.{Instruction}
use Rattle.pvp_types.specs.declared.command.Cmd.{Cmd}
use Rattle.pvp_types.specs.declared.command.Cmd.TheVariants.{Instruct, Rescind, Fund, Settle, PayOut, Paid, Returned}
use Rattle.pvp_types.specs.declared.command.Reply.{Reply}
use Rattle.pvp_types.specs.declared.command.Reply.TheVariants.{Done, Matched, Settled, Order, No}
use Rattle.pvp_types.specs.declared.command.Reason.{Reason}
use Rattle.pvp_types.specs.declared.command.Reason.TheVariants.{NotYours, UnknownMember, UnknownCurrency, BadAmount, Repeated, Mismatch, UnknownReference, Late, Short, TestFails, BankShort}
use Rattle.vr_types.specs.declared.limits.TheConstants.{MOST_MEMBERS}
use Rattle.vr_types.specs.declared.row.RowOf.{RowOf}
use Rattle.pvp_types.specs.Setup.{is_between}
use Rattle.pvp_types.specs.Instruction.{mirror}
use Rattle.pvp_book.specs.declared.entry.Entry.{Entry}
use Rattle.pvp_book.specs.declared.pair.Pair.{Pair}
use Rattle.pvp_book.specs.declared.pair.PairState.TheVariants.{Unmatched}
use Rattle.pvp_book.specs.Accounts.{balance_with}
use Rattle.pvp_book.specs.Pairs.{pair_from, pair_of, has_reference, is_matched, is_rescinded}
use Rattle.pvp_book.specs.Limits.{passes, balances_with}
use Rattle.pvp_book.specs.Settlement.{candidates, pass, settled_pairs}
use Rattle.pvp_book.specs.Ledger.{Ledger, opening, most_amount, node_of, balance, figure, state_of, is_state, has_pay_in}
use Rattle.pvp_book.specs.Orders.{orders, has_end}

-- members are numbered from 1
abbrev pub has_member : Setup → ℕ → Bool
has_member setup m = is_between 1 (length setup.members) m

-- currencies are numbered from 0
abbrev pub has_currency : Setup → ℕ → Bool
has_currency setup c = nat_lt c (length setup.currencies)

-- the numbers that members may have
abbrev pub is_member_number : ℕ → Bool
is_member_number client = is_between 1 MOST_MEMBERS client

abbrev pub is_amount : ℕ → Bool
is_amount amt = is_between 1 most_amount amt

-- a currency has an order of this number
abbrev pub has_order : List Entry → ℕ → ℕ → Bool
has_order entries c out = list_any (λ order. order.out == out) (orders entries c)

-- two pairs of the same sides, currencies and amounts
abbrev pub is_same_trade : Pair → Pair → Bool
is_same_trade p q =
    (p.first == q.first)
    && ((p.second == q.second)
    && ((p.sell == q.sell) && ((p.sell_amt == q.sell_amt) && ((p.buy == q.buy) && (p.buy_amt == q.buy_amt)))))

-- an instruction from the second side of a pair that is its exact mirror
abbrev pub is_mirror : Pair → ℕ → Instruction → Bool
is_mirror p client asked = is_same_trade p (pair_from asked.other (mirror client asked))

-- a side of a pair: the first side, or the second if it is matched
abbrev pub is_side : List Entry → Pair → ℕ → Bool
is_side entries p client = (client == p.first) || ((client == p.second) && is_matched entries p)

-- a member's balances after an amount of a currency is paid out
abbrev pub balances_less : Setup → List Entry → List Pair → ℕ → ℕ → ℕ → List ℤ
balances_less setup entries settled m c amt =
    slice_set (balances_with setup entries settled m) c (balance_with entries settled m c -ℤ pos amt)

-- the first check that fails is the answer
abbrev pub unless : List (Bool × Reason) → Reply → Reply
unless [] reply = reply
unless ((fails, reason) ∷ more) reply = if fails then No reason else unless more reply

-- Each command's checks in their order: the first that fails is the answer.
module _ (setup : Setup) (entries : List Entry) (client : ℕ) where
  -- an instruction under a reference that has a pair, or has none
  abbrev pub on_mirror : Option Pair → Instruction → Reply
  on_mirror None asked = Done
  on_mirror (Some p) asked =
      if (client == p.first) || not (is_state (state_of setup entries p) Unmatched) then No Repeated
      else if not (is_mirror p client asked) then No Mismatch
      else Matched

  abbrev pub on_instruct : Instruction → Reply
  on_instruct asked =
      if not (is_member_number client) then No NotYours
      else if not (has_member setup client && (has_member setup asked.other && not (asked.other == client)))
      then No UnknownMember
      else if not (has_currency setup asked.sell && (has_currency setup asked.buy && not (asked.sell == asked.buy)))
      then No UnknownCurrency
      else if not (is_amount asked.sell_amt && is_amount asked.buy_amt) then No BadAmount
      else if asked.reference == 0 then No UnknownReference
      else on_mirror (pair_of entries asked.reference) asked

  -- a rescission of a reference that has a pair, or has none
  abbrev pub on_pair : Option Pair → Reply
  on_pair None = No UnknownReference
  on_pair (Some p) =
      if not (is_side entries p client) then No NotYours
      else if has_reference (settled_pairs setup entries) p.reference || is_rescinded entries p then No Late
      else Done

  abbrev pub on_rescind : ℕ → Reply
  on_rescind reference =
      if not (is_member_number client) then No NotYours
      else if not (has_member setup client) then No UnknownMember
      else on_pair (pair_of entries reference)

  abbrev pub fund_checks : ℕ → ℕ → ℕ → ℕ → List (Bool × Reason)
  fund_checks c pay member amt =
      (not (client == node_of c), NotYours)
      ∷ (not (has_currency setup c && has_member setup member), UnknownMember)
      ∷ (not (is_amount amt), BadAmount)
      ∷ (pay == 0, UnknownReference)
      ∷ (has_pay_in entries c pay, Repeated) ∷ []

  abbrev pub on_fund : ℕ → ℕ → ℕ → ℕ → Reply
  on_fund c pay member amt = unless (fund_checks c pay member amt) Done

  abbrev pub on_settle : ℕ → Reply
  on_settle most =
      if not (client == 0) then No NotYours
      else Settled
      (length (pass setup entries (settled_pairs setup entries) most
      (candidates entries (settled_pairs setup entries))))

  abbrev pub pay_out_checks : ℕ → ℕ → List (Bool × Reason)
  pay_out_checks c amt =
      (not (is_member_number client), NotYours)
      ∷ (not (has_member setup client), UnknownMember)
      ∷ (not (has_currency setup c), UnknownCurrency)
      ∷ (not (is_amount amt), BadAmount)
      ∷ (int_lt (balance setup entries client c) (pos amt), Short)
      ∷ (not (passes setup client (balances_less setup entries (settled_pairs setup entries) client c amt)), TestFails)
      ∷ (int_lt (figure setup entries c) (pos amt), BankShort) ∷ []

  abbrev pub on_pay_out : ℕ → ℕ → Reply
  on_pay_out c amt = unless (pay_out_checks c amt) (Order (length (orders entries c) + 1))

  -- the node's report that it paid or returned an order
  abbrev pub end_checks : ℕ → ℕ → List (Bool × Reason)
  end_checks c out =
      (not (client == node_of c), NotYours)
      ∷ (not (has_currency setup c), UnknownMember)
      ∷ (not (has_order entries c out), UnknownReference)
      ∷ (has_end entries c out, Repeated) ∷ []

  abbrev pub on_end : ℕ → ℕ → Reply
  on_end c out = unless (end_checks c out) Done

  unfoldable pub answer : Cmd → Reply
  answer (Instruct asked) = on_instruct asked
  answer (Rescind reference) = on_rescind reference
  answer (Fund ccy pay member amt) = on_fund ccy pay member amt
  answer (Settle most) = on_settle most
  answer (PayOut ccy amt) = on_pay_out ccy amt
  answer (Paid ccy out) = on_end ccy out
  answer (Returned ccy out) = on_end ccy out

-- the operator asks for a walk
abbrev pub is_walk : ℕ → Cmd → Bool
is_walk client (Settle most) = client == 0
is_walk client _ = false

abbrev pub is_refusal : Reply → Bool
is_refusal (No reason) = true
is_refusal _ = false

-- the entries with a command added, unless it was refused
abbrev pub with_entry : List Entry → ℕ → Cmd → Reply → List Entry
with_entry entries client cmd reply =
    if is_refusal reply then entries else entries ++ record { client = client; cmd = cmd; reply = reply } ∷ []

-- the answer to a client's command
abbrev pub answer_to : Ledger → ℕ → Cmd → Reply
answer_to held client cmd = answer held.setup held.entries client cmd

-- what is held after a client's command
abbrev pub after : Ledger → ℕ → Cmd → Ledger
after held client cmd = record {
  setup = held.setup;
  entries = with_entry held.entries client cmd (answer_to held client cmd);
  applied = held.applied + 1;
}

-- a command as a log has it: its sender, the sender's number for it, and the command
abbrev pub Row : Type 0
Row = RowOf Cmd

abbrev pub after_rows : Ledger → List Row → Ledger
after_rows held [] = held
after_rows held (row ∷ rows) = after_rows (after held row.client row.cmd) rows

-- the book of a history: the entries of its rows that were not refused
abbrev pub book_of : Setup → List Row → List Entry
book_of setup history = (after_rows (opening setup) history).entries
