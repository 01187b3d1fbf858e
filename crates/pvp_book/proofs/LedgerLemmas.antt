-- Why no sum over a ledger leaves its type.
use Rattle.std.proofs.Common.{◌≡◌, ℕ, suc, ◌+◌, ◌*◌, ◌≤◌, ◌<◌, Bool, true, false, cond, find, List, [], ◌∷◌, ◌++◌, length, arith, refl, ap, sym, subst, ◌∙◌, length-append, Option, Some, None}
use Rattle.std.specs.Prelude.{IfSome, not, sum_by, ◌-◌, zero, slice_get, map, filter, fold, ◌==◌, ◌&&◌, if◌then◌else◌}
use Rattle.std.specs.List.{filter_map, cons_option, range_with_len}
use Rattle.std.proofs.Common.{pos, ◌+ℤ◌, ◌-ℤ◌}
use Rattle.std.proofs.lemmas.Int.{ints}
use Rattle.std.proofs.lemmas.Bool.{and_parts, leb-true, ltb-true}
use Rattle.std.proofs.lemmas.List.Sums.{sum_by-cons, sum_by_push, length-filter, count_by-le-length, fold-append}
use Rattle.std.proofs.lemmas.List.{length-map}
use Rattle.std.proofs.lemmas.List.FromFn.{map-range_with_len_more}
use Rattle.pvp_types.proofs.Lists.{flat_map-range_with_len_more}
use Rattle.pvp_types.specs.declared.setup.Setup.{Setup}
use Rattle.pvp_types.specs.declared.command.Instruction.{Instruction}
use Rattle.pvp_types.specs.declared.command.Cmd.{Cmd}
use Rattle.pvp_types.specs.declared.command.PayOrder.{PayOrder}
use Rattle.pvp_types.specs.declared.command.Reply.{Reply}
use Rattle.pvp_types.specs.declared.command.Reply.TheVariants.{Done, Matched, Order, No}
use Rattle.pvp_types.specs.declared.command.Reason.TheVariants.{NotYours, UnknownMember, UnknownCurrency, BadAmount}
use Rattle.pvp_types.specs.declared.command.Cmd.TheVariants.{Instruct, Fund, PayOut, Paid, Returned}
use Rattle.pvp_book.specs.declared.entry.Entry.{Entry}
use Rattle.pvp_book.specs.declared.pair.Pair.{Pair}
use Rattle.pvp_book.specs.Accounts.{paid_in_to, paid_out_of, pay_ins, pay_outs, amount_returned, amount_bought, amount_sold, balance_with}
use Rattle.pvp_book.specs.declared.pair.PairState.{PairState}
use Rattle.pvp_book.specs.Pairs.{opened_by, pairs, matched_by, matched_pairs}
use Rattle.pvp_book.specs.Settlement.{candidates, settled_pairs}
use Rattle.pvp_book.specs.Ledger.{Ledger, most_amount, node_of, open_orders, state_with, is_state, sum_of_balances}
use Rattle.pvp_book.specs.Open.{outstanding_at}
use Rattle.pvp_book.specs.Orders.{order_by, order_of, orders, has_return, has_end}
use Rattle.pvp_book.specs.declared.order_table.OrderTable.{OrderTable}
use Rattle.pvp_book.specs.OrderTable.{IsCounted, step_of, order_at, AreMade}
use Rattle.pvp_types.proofs.SetupLemmas.{valid-currencies}
use Rattle.pvp_types.specs.Setup.{IsValid}
use Rattle.pvp_book.specs.Bounds.{IsLedger, IsWithinMatched, IsSmall, most_total, IsWithin, amount_of, total}
use Rattle.pvp_book.specs.Answer.{answer, answer_to, on_instruct, on_fund, on_pay_out, has_currency, has_member, is_member_number, is_refusal, is_amount, fund_checks, pay_out_checks, end_checks}
use Rattle.pvp_book.proofs.Checks.{passed, is-so}
use Rattle.pvp_book.proofs.SettlementLemmas.{at_most, settled-push, IsWithinMatched-push}

sum-cons_option : {X : Type 0} (f : X → ℕ) (o : Option X) (ps : List X) → sum_by f (cons_option o ps) ≡ sum_by f (cons_option o []) + sum_by f ps
sum-cons_option f None ps = omega arith
sum-cons_option f (Some p) ps = let more = sum_by-cons f p ps in let one = sum_by-cons f p [] in omega arith

-- what an order of a member's is worth to it
abbrev ordered_by : ℕ → PayOrder → ℕ
ordered_by m o = if o.member == m then o.amt else 0

-- what an entry brings a member, by a pay-in, by the pair that it matches or, once it is returned, by the order that it makes, is no more than it names
brought-le : (m c client : ℕ) (cmd : Cmd) (reply : Reply)
    → (paid_in_to m c cmd + sum_by (ordered_by m) (cons_option (order_by c client cmd reply) [])) + sum_by (amount_bought m c)
    (cons_option (matched_by client cmd reply) []) ≤ amount_of cmd
brought-le m c client (Instruct asked) Matched =
    let first = at_most ((asked.other == m) && (asked.sell == c)) asked.sell_amt in
    let second = at_most ((client == m) && (asked.buy == c)) asked.buy_amt in
    omega arith
brought-le m c client (Fund ccy pay member amt) reply = let here = at_most ((member == m) && (ccy == c)) amt in omega arith
brought-le m c client (PayOut ccy amt) (Order out) = by (ccy == c)
  where
    by : (b : Bool)
        → (0 + sum_by (ordered_by m) (cons_option (if b then Some (record { ccy = ccy; out = out; member = client; amt = amt }) else None) [])) + 0 ≤ amt
    by true = let here = at_most (client == m) amt in omega arith
    by false = omega arith
brought-le m c client _ _ = omega arith

taken-le : (m c client : ℕ) (cmd : Cmd) (reply : Reply)
    → paid_out_of m c client cmd + sum_by (amount_sold m c) (cons_option (matched_by client cmd reply) []) ≤ amount_of cmd
taken-le m c client (Instruct asked) Matched =
    let first = at_most ((asked.other == m) && (asked.buy == c)) asked.buy_amt in
    let second = at_most ((client == m) && (asked.sell == c)) asked.sell_amt in
    omega arith
taken-le m c client (PayOut ccy amt) reply = let here = at_most ((client == m) && (ccy == c)) amt in omega arith
taken-le m c client _ _ = omega arith

-- all pay-ins, all orders and all matched pairs together bring a member no more than the entries name
all-brought-le : (entries : List Entry) (m c : ℕ)
    → (pay_ins entries m c + sum_by (ordered_by m) (orders entries c)) + sum_by (amount_bought m c) (matched_pairs entries) ≤ total entries
all-brought-le [] m c = omega arith
all-brought-le (e ∷ es) m c =
    let rest = all-brought-le es m c in
    let here = brought-le m c e.client e.cmd e.reply in
    let paid = sum_by-cons (λ (x : Entry). paid_in_to m c x.cmd) e es in
    let made = sum-cons_option (ordered_by m) (order_by c e.client e.cmd e.reply) (orders es c) in
    let pairs = sum-cons_option (amount_bought m c) (matched_by e.client e.cmd e.reply) (matched_pairs es) in
    let all = sum_by-cons (λ (x : Entry). amount_of x.cmd) e es in
    omega arith

-- what is returned was ordered
pub sum-le : {X : Type 0} (f g : X → ℕ) → ((x : X) → f x ≤ g x) → (xs : List X) → sum_by f xs ≤ sum_by g xs
sum-le f g low [] = omega arith
sum-le f g low (x ∷ xs) =
    let rest = sum-le f g low xs in
    let here = low x in
    let left = sum_by-cons f x xs in
    let right = sum_by-cons g x xs in
    omega arith

returned-le : (entries : List Entry) (m c : ℕ) → amount_returned entries m c ≤ sum_by (ordered_by m) (orders entries c)
returned-le entries m c =
    sum-le (λ (o : PayOrder). if (o.member == m) && has_return entries c o.out then o.amt else 0) (ordered_by m)
    (λ o. by (o.member == m) (has_return entries c o.out) o.amt) (orders entries c)
  where
    by : (a b : Bool) (amt : ℕ) → (if a && b then amt else 0) ≤ (if a then amt else 0)
    by true true amt = omega arith
    by true false amt = omega arith
    by false b amt = omega arith

all-taken-le : (entries : List Entry) (m c : ℕ) → pay_outs entries m c + sum_by (amount_sold m c) (matched_pairs entries) ≤ total entries
all-taken-le [] m c = omega arith
all-taken-le (e ∷ es) m c =
    let rest = all-taken-le es m c in
    let here = taken-le m c e.client e.cmd e.reply in
    let paid = sum_by-cons (λ (x : Entry). paid_out_of m c x.client x.cmd) e es in
    let pairs = sum-cons_option (amount_sold m c) (matched_by e.client e.cmd e.reply) (matched_pairs es) in
    let all = sum_by-cons (λ (x : Entry). amount_of x.cmd) e es in
    omega arith

-- so where what is settled is within what is matched, no member received or gave more
pub IsSmall-within : (entries : List Entry) (done rest : List Pair) → IsWithinMatched done rest (matched_pairs entries) → total entries ≤ most_total
    → IsSmall entries done
IsSmall-within entries done rest within small = record {
  received = λ m c. let all = all-brought-le entries m c in let back = returned-le entries m c in let part = within.sums (amount_bought m c) in omega arith;
  given = λ m c. let all = all-taken-le entries m c in let part = within.sums (amount_sold m c) in omega arith;
}

pub total-small : (held : Ledger) → IsLedger held → total held.entries ≤ most_total
total-small held is =
    let small : total held.entries ≤ held.applied * 2000000000000 = is.small in
    let few : held.applied ≤ 65535 = is.few in
    omega arith

pub IsSmall-ledger : (held : Ledger) → IsLedger held → IsSmall held.entries (settled_pairs held.setup held.entries)
IsSmall-ledger held is =
    IsSmall-within held.entries (settled_pairs held.setup held.entries) (candidates held.entries (settled_pairs held.setup held.entries))
    is.within (total-small held is)

-- no order is of more than the entries name
amount-by : (c client : ℕ) (cmd : Cmd) (reply : Reply) (o : PayOrder) → order_by c client cmd reply ≡ Some o → o.amt ≤ amount_of cmd
amount-by c client (PayOut ccy amt) (Order out) o is = by (ccy == c) is
  where
    by : (b : Bool) → (if b then Some (record { ccy = ccy; out = out; member = client; amt = amt }) else None) ≡ Some o → o.amt ≤ amt
    by true is = let same : amt ≡ o.amt = cc in omega arith
    by false is = absurd (cc is)
amount-by c client _ _ o is = absurd (cc is)

order-small : (entries : List Entry) (c n : ℕ) (o : PayOrder) → order_of entries c n ≡ Some o → o.amt ≤ total entries
order-small [] c n o found = absurd (cc found)
order-small (e ∷ es) c n o found =
    by (order_by c e.client e.cmd e.reply) refl found (λ later. order-small es c n o later) (sum_by-cons (λ (x : Entry). amount_of x.cmd) e es)
  where
    by : (made : Option PayOrder) → order_by c e.client e.cmd e.reply ≡ made → find (λ (x : PayOrder). x.out == n) (cons_option made (orders es c)) ≡ Some o
        → (order_of es c n ≡ Some o → o.amt ≤ total es) → total (e ∷ es) ≡ amount_of e.cmd + total es → o.amt ≤ total (e ∷ es)
    by None made found later all = let rest = later found in omega arith
    by (Some p) made found later all = cases (p.out == n) found
      where
        cases : (b : Bool) → cond b (Some p) (order_of es c n) ≡ Some o → o.amt ≤ total (e ∷ es)
        cases true found =
            let same : p ≡ o = cc found in
            let here = amount-by c e.client e.cmd e.reply o (made ∙ ap Some same) in
            omega arith
        cases false found = let rest = later found in omega arith

pub orders-small : (entries : List Entry) (table : OrderTable) → AreMade entries table → total entries ≤ most_total
    → (c n : ℕ) → IfSome (order_at table c n) (λ order. order.amt ≤ most_total)
orders-small entries table are small c n = by (order_at table c n) (sym (are.made c n))
  where
    by : (o : Option PayOrder) → order_of entries c n ≡ o → IfSome o (λ order. order.amt ≤ most_total)
    by None is = tt
    by (Some o) is = let here = order-small entries c n o is in omega arith

length-cons_option-le : {Y : Type 0} (o : Option Y) (ys : List Y) → length (cons_option o ys) ≤ length ys + 1
length-cons_option-le None ys = omega arith
length-cons_option-le (Some y) ys = omega arith

pub length-filter_map-le : {X Y : Type 0} (f : X → Option Y) (xs : List X) → length (filter_map f xs) ≤ length xs
length-filter_map-le f [] = omega arith
length-filter_map-le f (x ∷ xs) =
    let rest = length-filter_map-le f xs in
    let one = length-cons_option-le (f x) (filter_map f xs) in
    omega arith

pub orders-few : (held : Ledger) → IsLedger held → (c : ℕ) → length (orders held.entries c) ≤ held.applied
orders-few held is c =
    let fewer : length held.entries ≤ held.applied = is.fewer in
    let part = length-filter_map-le (λ (e : Entry). order_by c e.client e.cmd e.reply) held.entries in
    omega arith

pub pairs-few : (held : Ledger) → IsLedger held → (done : List Pair) (state : PairState)
    → length (filter (λ p. is_state (state_with held.entries done p) state) (pairs held.entries)) ≤ held.applied
pairs-few held is done state =
    let fewer : length held.entries ≤ held.applied = is.fewer in
    let part = length-filter_map-le (λ (e : Entry). opened_by e.client e.cmd e.reply) held.entries in
    let same = length-filter (λ p. is_state (state_with held.entries done p) state) (pairs held.entries) in
    let some = count_by-le-length (λ p. is_state (state_with held.entries done p) state) (pairs held.entries) in
    omega arith

amount-small : (amt : ℕ) → is_amount amt ≡ true → amt ≤ most_amount
amount-small amt e = leb-true _ _ (and_parts _ _ e).1

fund-small : (setup : Setup) (entries : List Entry) (client c pay member amt : ℕ)
    → is_refusal (on_fund setup entries client c pay member amt) ≡ false → amt ≤ most_amount
fund-small setup entries client c pay member amt e = amount-small amt (is-so _ (passed (fund_checks setup entries client c pay member amt) Done e).1.1.0)

pay_out-small : (setup : Setup) (entries : List Entry) (client c amt : ℕ)
    → is_refusal (on_pay_out setup entries client c amt) ≡ false → amt ≤ most_amount
pay_out-small setup entries client c amt e =
    amount-small amt (is-so _ (passed (pay_out_checks setup entries client c amt) (Order (length (orders entries c) + 1)) e).1.1.1.0)

instruct-small : (setup : Setup) (entries : List Entry) (client : ℕ) (asked : Instruction)
    → is_refusal (on_instruct setup entries client asked) ≡ false → (is_amount asked.sell_amt && is_amount asked.buy_amt) ≡ true
instruct-small setup entries client asked e =
    cases (is_member_number client) (has_member setup client && (has_member setup asked.other && not (asked.other == client)))
    (has_currency setup asked.sell && (has_currency setup asked.buy && not (asked.sell == asked.buy))) (is_amount asked.sell_amt && is_amount asked.buy_amt) _ e
  where
    cases : (yours member currency small : Bool) (rest : Reply)
        → is_refusal (if not yours then No NotYours else if not member then No UnknownMember else if not currency then No UnknownCurrency else if not small
        then No BadAmount else rest) ≡ false
        → small ≡ true
    cases true true true true rest e = refl
    cases _ _ _ _ rest e = absurd (cc)

-- a command that is not refused names no greater amounts
pub accepted-small : (setup : Setup) (entries : List Entry) (client : ℕ) (cmd : Cmd)
    → is_refusal (answer setup entries client cmd) ≡ false → amount_of cmd ≤ 2 * most_amount
unfolding answer
accepted-small setup entries client (Instruct asked) e =
    let both = and_parts _ _ (instruct-small setup entries client asked e) in
    let first = amount-small asked.sell_amt both.0 in
    let second = amount-small asked.buy_amt both.1 in
    omega arith
accepted-small setup entries client (Fund ccy pay member amt) e = let one = fund-small setup entries client ccy pay member amt e in omega arith
accepted-small setup entries client (PayOut ccy amt) e = let one = pay_out-small setup entries client ccy amt e in omega arith
accepted-small setup entries client _ e = omega arith

-- an order that is made, and one that ends, is in a currency of the setup
pub counted-known : (setup : Setup) (entries : List Entry) (client : ℕ) (cmd : Cmd) (reply : Reply) → IsValid setup
    → is_refusal (answer setup entries client cmd) ≡ false → IsCounted (step_of client cmd reply)
unfolding answer
counted-known setup entries client (PayOut ccy amt) (Order out) valid accepted =
    let known =
    ltb-true ccy (length setup.currencies)
    (is-so _ (passed (pay_out_checks setup entries client ccy amt) (Order (length (orders entries ccy) + 1)) accepted).1.1.0) in
    let few = (valid-currencies setup valid).1 in
    omega arith
counted-known setup entries client (Paid ccy out) reply valid accepted =
    let known = ltb-true ccy (length setup.currencies) (is-so _ (passed (end_checks setup entries client ccy out) Done accepted).1.0) in
    let few = (valid-currencies setup valid).1 in
    omega arith
counted-known setup entries client (Returned ccy out) reply valid accepted =
    let known = ltb-true ccy (length setup.currencies) (is-so _ (passed (end_checks setup entries client ccy out) Done accepted).1.0) in
    let few = (valid-currencies setup valid).1 in
    omega arith
counted-known setup entries client _ _ valid accepted = tt

-- and so does an entry
pub IsLedger-accepted : (held : Ledger) (client : ℕ) (cmd : Cmd) (reply : Reply) → IsLedger held → held.applied < 65535
    → reply ≡ answer_to held client cmd → is_refusal reply ≡ false
    → IsLedger (record { setup = held.setup; entries = held.entries ++ record { client = client; cmd = cmd; reply = reply } ∷ []; applied = held.applied + 1 })
IsLedger-accepted held client cmd reply is room answered accepted =
    let entry : Entry = record { client = client; cmd = cmd; reply = reply } in
    let amount : amount_of cmd ≤ 2000000000000 = accepted-small held.setup held.entries client cmd (ap is_refusal (sym answered) ∙ accepted) in
    let small : total held.entries ≤ held.applied * 2000000000000 = is.small in
    let fewer : length held.entries ≤ held.applied = is.fewer in
    let pushed = sum_by_push (λ (e : Entry). amount_of e.cmd) held.entries entry in
    record {
      valid = is.valid;
      few = omega arith;
      small = omega arith;
      fewer = simp length-append (omega arith);
      within = subst (λ done. IsWithinMatched done (candidates (held.entries ++ entry ∷ []) done) (matched_pairs (held.entries ++ entry ∷ [])))
          (sym (settled-push held.setup held.entries entry))
          (IsWithinMatched-push held.setup held.entries (settled_pairs held.setup held.entries) entry is.within);
    }

-- a difference of small numbers is small
pub difference-small : (a b : ℕ) → a ≤ most_total → b ≤ most_total → IsWithin most_total (pos a -ℤ pos b)
difference-small a b small_a small_b = record { above = omega (arith, ints); below = omega (arith, ints) }

-- the next member's balance
pub sum_of_balances-more : (entries : List Entry) (done : List Pair) (n c : ℕ)
    → sum_of_balances (n + 1) entries done c ≡ sum_of_balances n entries done c +ℤ balance_with entries done (n + 1) c
sum_of_balances-more entries done n c =
    ap (fold ◌+ℤ◌ (pos 0)) (map-range_with_len_more (λ m. balance_with entries done m c) 1 n (n + 1) (omega arith))
    ∙ fold-append ◌+ℤ◌ (pos 0) (map (λ m. balance_with entries done m c) (range_with_len 1 n)) (balance_with entries done (n + 1) c ∷ [])

pub length-open-le : (entries : List Entry) (c : ℕ) → length (open_orders entries c) ≤ length entries
length-open-le entries c =
    let made = length-filter_map-le (λ (e : Entry). order_by c e.client e.cmd e.reply) entries in
    let unpaid = length-filter (λ (order : PayOrder). not (has_end entries c order.out)) (orders entries c) in
    let part = count_by-le-length (λ (order : PayOrder). not (has_end entries c order.out)) (orders entries c) in
    omega arith

slice_get-left : {X : Type 0} (xs ys : List X) (i : ℕ) → i < length xs → slice_get (xs ++ ys) i ≡ slice_get xs i
slice_get-left [] ys i h = absurd (omega arith)
slice_get-left (x ∷ xs) ys zero h = refl
slice_get-left (x ∷ xs) ys (suc i) h = slice_get-left xs ys i (omega arith)

slice_get-right : {X : Type 0} (xs ys : List X) (i : ℕ) → length xs ≤ i → slice_get (xs ++ ys) i ≡ slice_get ys (i - length xs)
slice_get-right [] ys i h = ap (slice_get ys) (omega arith)
slice_get-right (x ∷ xs) ys zero h = absurd (omega arith)
slice_get-right (x ∷ xs) ys (suc i) h = slice_get-right xs ys i (omega arith) ∙ ap (slice_get ys) (omega arith)

-- the open orders of several currencies
module _ (orders : ℕ → List PayOrder) where
  -- those of one, each with the client number of its node
  abbrev with_node : ℕ → List (ℕ × PayOrder)
  with_node c = map (λ (o : PayOrder). (node_of c, o)) (orders c)

  -- an order of a later one
  pub outstanding-later : (c n at : ℕ) → 0 < n → length (orders c) ≤ at
      → slice_get (outstanding_at orders c n) at ≡ slice_get (outstanding_at orders (c + 1) (n - 1)) (at - length (orders c))
  outstanding-later c zero at some past = absurd (omega arith)
  outstanding-later c (suc n) at some past =
      let same : length (with_node c) ≡ length (orders c) = length-map (orders c) (λ (o : PayOrder). (node_of c, o)) in
      slice_get-right (with_node c) (outstanding_at orders (c + 1) n) at (omega (arith, same))
      ∙ ap (λ l. slice_get (outstanding_at orders (c + 1) n) (at - l)) same
      ∙ ap (λ m. slice_get (outstanding_at orders (c + 1) m) (at - length (orders c))) (omega arith)

  -- the orders of one more currency
  pub length-outstanding-more : (n : ℕ) → length (outstanding_at orders 0 (n + 1)) ≡ length (outstanding_at orders 0 n) + length (orders n)
  length-outstanding-more n =
      let same : length (with_node n) ≡ length (orders n) = length-map (orders n) (λ (o : PayOrder). (node_of n, o)) in
      let both = length-append (outstanding_at orders 0 n) (with_node n) in
      ap length (flat_map-range_with_len_more with_node n) ∙ omega (arith, same, both)

-- no item stands at a place past the end alone
pub past-end : {X : Type 0} (xs : List X) (i : ℕ) → slice_get xs i ≡ None → length xs ≤ i
past-end [] i e = omega arith
past-end (x ∷ xs) zero e = absurd (cc)
past-end (x ∷ xs) (suc i) e = let rest = past-end xs i e in omega arith
