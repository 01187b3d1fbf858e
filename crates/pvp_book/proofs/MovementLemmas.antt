-- One more entry changes one balance and its figure by what it moves.
use Rattle.std.proofs.Common.{◌≡◌, ℕ, suc, zero, ◌+◌, ◌≤◌, ◌<◌, Bool, true, false, cond, List, [], ◌∷◌, ◌++◌, length, map, find, arith, refl, ap, sym, subst, ◌∙◌, Option, Some, None, ℤ, pos, ◌+ℤ◌, ◌-ℤ◌, neg_ℤ, sum_by, add-one, ◌⊎◌, inl, inr}
use Rattle.std.specs.Prelude.{◌&&◌, ◌||◌, ◌==◌, if◌then◌else◌}
use Rattle.std.specs.List.{list_any, cons_option, range_with_len, AllByRecursion}
use Rattle.std.specs.Option.{option_map, option_map_or}
use Rattle.std.proofs.lemmas.Int.{ints}
use Rattle.std.proofs.lemmas.Bool.{and_parts, ne_eqb, eq-eqb, cases_eq, or_left}
use Rattle.std.proofs.lemmas.List.Sums.{sum_by-cons, sum_by-append}
use Rattle.std.proofs.lemmas.List.Folds.{list_any-append}
use Rattle.std.specs.Prelude.{All}
use Rattle.std.proofs.lemmas.List.Kept.{AllPairs-cons}
use Rattle.std.proofs.lemmas.List.Elements.{All-nil, All-cons, filter_map-append}
use Rattle.pvp_types.specs.declared.setup.Setup.{Setup}
use Rattle.pvp_types.specs.declared.command.Cmd.{Cmd}
use Rattle.pvp_types.specs.declared.command.Cmd.TheVariants.{Instruct, Rescind, Fund, Settle, PayOut, Paid, Returned}
use Rattle.pvp_types.specs.declared.command.PayOrder.{PayOrder}
use Rattle.pvp_types.specs.declared.command.Reply.TheVariants.{Done, Order}
use Rattle.pvp_book.specs.declared.entry.Entry.{Entry}
use Rattle.pvp_book.specs.declared.pair.Pair.{Pair}
use Rattle.pvp_book.specs.declared.account.Movement.{Movement}
use Rattle.pvp_book.specs.Accounts.{paid_in_to, paid_out_of, pay_ins, pay_outs, amount_returned, amount_bought, amount_sold, balance_with}
use Rattle.pvp_book.specs.Orders.{order_of, order_by, orders, is_return, has_return, is_end, has_end}
use Rattle.pvp_book.specs.Ledger.{sum_of_balances}
use Rattle.pvp_book.specs.OrderTable.{AreAscending}
use Rattle.pvp_book.specs.Answer.{answer, is_refusal, has_order, has_member, has_currency, fund_checks, pay_out_checks, end_checks, on_pay_out}
use Rattle.pvp_book.specs.Laws.{AreOrdered, pay_in_amount, pay_out_amount, funds, all_paid_out, all_returned}
use Rattle.pvp_book.specs.Kept.{movement_by, moved_to, moved_in}
use Rattle.pvp_book.proofs.Counts.{or-false}
use Rattle.pvp_book.proofs.SettlementLemmas.{append-nil}
use Rattle.pvp_book.proofs.Checks.{passed, is-so}
use Rattle.pvp_book.proofs.OrderLemmas.{pay_out-order, end-known}
use Rattle.pvp_book.proofs.FigureLemmas.{fund-member, pay_out-member}
use Rattle.pvp_book.proofs.LedgerLemmas.{sum_of_balances-more}
use Rattle.pvp_book.proofs.Reached.{entry_of}

-- orders that are numbered from a number on
abbrev pub AreFrom : ℕ → List PayOrder → Type 0
AreFrom k os = map (λ (o : PayOrder). o.out) os ≡ range_with_len k (length os)

heads : (k : ℕ) (o : PayOrder) (os : List PayOrder) → AreFrom k (o ∷ os) → o.out ≡ k
heads k o os is = cc (is)

tails : (k : ℕ) (o : PayOrder) (os : List PayOrder) → AreFrom k (o ∷ os) → AreFrom (k + 1) os
tails k o os is = cc (is)

-- none of them has a lower number
pub none-below : (k n : ℕ) (os : List PayOrder) → AreFrom k os → n < k → find (λ (o : PayOrder). o.out == n) os ≡ None
none-below k n [] is low = refl
none-below k n (o ∷ os) is low =
    ap (λ b. cond b (Some o) (find (λ (p : PayOrder). p.out == n) os)) (ne_eqb o.out n (λ same. let first = heads k o os is in absurd (omega arith)))
    ∙ none-below (k + 1) n os (tails k o os is) (omega arith)

-- nor one past the last
pub none-above : (k n : ℕ) (os : List PayOrder) → AreFrom k os → k + length os ≤ n → find (λ (o : PayOrder). o.out == n) os ≡ None
none-above k n [] is high = refl
none-above k n (o ∷ os) is high =
    ap (λ b. cond b (Some o) (find (λ (p : PayOrder). p.out == n) os)) (ne_eqb o.out n (λ same. let first = heads k o os is in absurd (omega arith)))
    ∙ none-above (k + 1) n os (tails k o os is) (omega arith)

-- all have higher numbers than one before the first, so they ascend
all-above : (k n : ℕ) (os : List PayOrder) → AreFrom k os → n < k → All (λ (o : PayOrder). n < o.out) os
all-above k n [] is low = All-nil (λ (o : PayOrder). n < o.out)
all-above k n (o ∷ os) is low =
    All-cons (λ (o : PayOrder). n < o.out) o os (let first = heads k o os is in omega arith) (all-above (k + 1) n os (tails k o os is) (omega arith))

pub numbered-ascend : (k : ℕ) (os : List PayOrder) → AreFrom k os → AreAscending os
numbered-ascend k [] is = λ i j d before within. absurd (omega arith)
numbered-ascend k (o ∷ os) is =
    AllPairs-cons (λ (a b : PayOrder). a.out < b.out) o os
    (subst (λ n. All (λ (p : PayOrder). n < p.out) os) (sym (heads k o os is)) (all-above (k + 1) k os (tails k o os is) (omega arith)))
    (numbered-ascend (k + 1) os (tails k o os is))

-- an order is there where one is found
pub found-any : (os : List PayOrder) (n : ℕ) → find (λ (o : PayOrder). o.out == n) os ≡ None → list_any (λ (o : PayOrder). o.out == n) os ≡ false
found-any [] n none = refl
found-any (o ∷ os) n none = by (o.out == n) none (λ rest. found-any os n rest)
  where
    by : (b : Bool) → cond b (Some o) (find (λ (p : PayOrder). p.out == n) os) ≡ None
        → (find (λ (p : PayOrder). p.out == n) os ≡ None → list_any (λ (p : PayOrder). p.out == n) os ≡ false)
        → (b || list_any (λ (p : PayOrder). p.out == n) os) ≡ false
    by true none more = absurd (cc none)
    by false none more = more none

-- what an item of a list is tested for
split-any : {X : Type 0} (test : X → Bool) (xs : List X) → list_any test xs ≡ true
    → (earlier : List X) × (e : X) × (later : List X) × (xs ≡ earlier ++ e ∷ later) × (test e ≡ true)
split-any test [] any = absurd (cc any)
split-any test (x ∷ xs) any = by (test x) refl any (λ more. split-any test xs more)
  where
    by : (b : Bool) → test x ≡ b → (b || list_any test xs) ≡ true
        → (list_any test xs ≡ true → (earlier : _) × (e : _) × (later : _) × (xs ≡ earlier ++ e ∷ later) × (test e ≡ true))
        → (earlier : _) × (e : _) × (later : _) × (x ∷ xs ≡ earlier ++ e ∷ later) × (test e ≡ true)
    by true is any rest = ([], x, xs, refl, is)
    by false is any rest = let found = rest any in (x ∷ found.0, found.1, found.2, ap (λ ys. x ∷ ys) found.3, found.4)

-- an end is of an order that there is
pub ended-known : (entries : List Entry) (c n : ℕ) → AreOrdered entries c → has_end entries c n ≡ true → has_order entries c n ≡ true
ended-known entries c n are ended =
    let found = split-any (λ (e : Entry). is_end c n e.cmd) entries ended in
    let there = are.after found.0 found.2 found.1 n found.3 found.4 in
    let more = filter_map-append (λ (e : Entry). order_by c e.client e.cmd e.reply) found.0 (found.1 ∷ found.2) in
    ap (λ es. has_order es c n) found.3 ∙ ap (list_any (λ (o : PayOrder). o.out == n)) more
    ∙ list_any-append (λ (o : PayOrder). o.out == n) (orders found.0 c) (orders (found.1 ∷ found.2) c) ∙ or_left _ _ there

return-end : (entries : List Entry) (c n : ℕ) → has_return entries c n ≡ true → has_end entries c n ≡ true
return-end [] c n is = is
return-end (e ∷ es) c n is = by (is_return c n e.cmd) (is_end c n e.cmd) (one e.cmd) is (return-end es c n)
  where
    one : (cmd : Cmd) → is_return c n cmd ≡ true → is_end c n cmd ≡ true
    one (Returned ccy out) h = h
    one _ h = absurd (cc h)

    by : (a b : Bool) → (a ≡ true → b ≡ true) → (a || has_return es c n) ≡ true → (has_return es c n ≡ true → has_end es c n ≡ true)
        → (b || has_end es c n) ≡ true
    by true true h is more = refl
    by true false h is more = absurd (cc (h refl))
    by false true h is more = refl
    by false false h is more = more is

-- the next order is new, so it is not returned
next-open : (entries : List Entry) (c : ℕ) → AreOrdered entries c → has_end entries c (length (orders entries c) + 1) ≡ false
next-open entries c are = by (has_end entries c (length (orders entries c) + 1)) refl
  where
    none : has_order entries c (length (orders entries c) + 1) ≡ false
    none =
        found-any (orders entries c) (length (orders entries c) + 1)
        (none-above 1 (length (orders entries c) + 1) (orders entries c) are.numbered (omega arith))

    by : (b : Bool) → has_end entries c (length (orders entries c) + 1) ≡ b → b ≡ false
    by false e = refl
    by true e = absurd (cc (ended-known entries c (length (orders entries c) + 1) are e, none))

next-kept : (entries : List Entry) (c : ℕ) → AreOrdered entries c → has_return entries c (length (orders entries c) + 1) ≡ false
next-kept entries c are = by (has_return entries c (length (orders entries c) + 1)) refl
  where
    by : (b : Bool) → has_return entries c (length (orders entries c) + 1) ≡ b → b ≡ false
    by false e = refl
    by true e = absurd (cc (return-end entries c (length (orders entries c) + 1) e, next-open entries c are))

pub has_return-more : (entries : List Entry) (e : Entry) (c n : ℕ) → has_return (entries ++ e ∷ []) c n ≡ (has_return entries c n || is_return c n e.cmd)
has_return-more entries e c n =
    list_any-append (λ (x : Entry). is_return c n x.cmd) entries (e ∷ []) ∙ ap (λ b. has_return entries c n || b) (or-false (is_return c n e.cmd))

sum-same : (f g : PayOrder → ℕ) (os : List PayOrder) → ((o : PayOrder) → f o ≡ g o) → sum_by f os ≡ sum_by g os
sum-same f g os same = λ i. sum_by (λ o. same o i) os

-- one order of a number is returned
module _ (m n : ℕ) (back : ℕ → Bool) where
  now : PayOrder → ℕ
  now o = if (o.member == m) && (back o.out || (n == o.out)) then o.amt else 0

  credit : PayOrder → ℕ
  credit o = if (o.member == m) && back o.out then o.amt else 0

  later-same : (k : ℕ) (os : List PayOrder) → AreFrom k os → n < k → sum_by now os ≡ sum_by credit os
  unfolding now credit
  later-same k [] is low = refl
  later-same k (o ∷ os) is low =
      let rest = later-same (k + 1) os (tails k o os is) (omega arith) in
      let left = sum_by-cons now o os in
      let right = sum_by-cons credit o os in
      let here : now o ≡ credit o =
      ap (λ b. if (o.member == m) && (back o.out || b) then o.amt else 0) (ne_eqb n o.out (λ same. let first = heads k o os is in absurd (omega arith)))
      ∙ ap (λ b. if (o.member == m) && b then o.amt else 0) (or-false (back o.out)) in
      omega arith

  pub one-returned : (k : ℕ) (os : List PayOrder) → AreFrom k os → back n ≡ false
      → sum_by (λ o. if (o.member == m) && (back o.out || (n == o.out)) then o.amt else 0) os
      ≡ sum_by (λ o. if (o.member == m) && back o.out then o.amt else 0) os + option_map_or (λ o. if o.member == m then o.amt else 0)
      (find (λ o. o.out == n) os) 0
  unfolding now credit
  one-returned k [] is kept = refl
  one-returned k (o ∷ os) is kept =
      let left = sum_by-cons (λ (o : PayOrder). if (o.member == m) && (back o.out || (n == o.out)) then o.amt else 0) o os in
      let right = sum_by-cons (λ (o : PayOrder). if (o.member == m) && back o.out then o.amt else 0) o os in
      by (cases_eq o.out n) (one-returned (k + 1) os (tails k o os is) kept) left right
    where
      by : (o.out ≡ n) ⊎ (o.out ≡ n → ⊥)
          → sum_by now os ≡ sum_by credit os + option_map_or (λ p. if p.member == m then p.amt else 0) (find (λ p. p.out == n) os) 0
          → sum_by now (o ∷ os) ≡ now o + sum_by now os → sum_by credit (o ∷ os) ≡ credit o + sum_by credit os
          → sum_by now (o ∷ os) ≡ sum_by credit (o ∷ os) + option_map_or (λ p. if p.member == m then p.amt else 0)
          (cond (o.out == n) (Some o) (find (λ p. p.out == n) os)) 0
      by (inl same) _ left right =
          let rest = later-same (k + 1) os (tails k o os is) (let first = heads k o os is in omega arith) in
          let found =
          ap (λ b. option_map_or (λ (p : PayOrder). if p.member == m then p.amt else 0) (cond b (Some o) (find (λ p. p.out == n) os)) 0)
          (eq-eqb o.out n same) in
          let here : now o ≡ (if o.member == m then o.amt else 0) =
          ap (λ b. if (o.member == m) && (back o.out || b) then o.amt else 0) (eq-eqb n o.out (sym same)) ∙ ones (back o.out) (o.member == m) in
          let before : credit o ≡ 0 =
          ap (λ i. if (o.member == m) && back i then o.amt else 0) same ∙ ap (λ b. if (o.member == m) && b then o.amt else 0) kept
          ∙ nones (o.member == m) in
          omega arith
        where
          ones : (a b : Bool) → (if b && (a || true) then o.amt else 0) ≡ (if b then o.amt else 0)
          ones true true = refl
          ones true false = refl
          ones false true = refl
          ones false false = refl

          nones : (b : Bool) → (if b && false then o.amt else 0) ≡ 0
          nones true = refl
          nones false = refl
      by (inr other) rest left right =
          let found =
          ap (λ b. option_map_or (λ (p : PayOrder). if p.member == m then p.amt else 0) (cond b (Some o) (find (λ p. p.out == n) os)) 0)
          (ne_eqb o.out n other) in
          let here : now o ≡ credit o =
          ap (λ b. if (o.member == m) && (back o.out || b) then o.amt else 0) (ne_eqb n o.out (λ e. other (sym e)))
          ∙ ap (λ b. if (o.member == m) && b then o.amt else 0) (or-false (back o.out)) in
          omega arith

pub sum-push : (f : Entry → ℕ) (entries : List Entry) (e : Entry) → sum_by f (entries ++ e ∷ []) ≡ sum_by f entries + f e
sum-push f entries e =
    let all = sum_by-append f entries (e ∷ []) in
    let one = sum_by-cons f e [] in
    omega arith

-- what of a member's orders an entry returns
abbrev back_to : List Entry → ℕ → ℕ → Cmd → ℕ
back_to entries m c (Returned ccy out) = if ccy == c then option_map_or (λ o. if o.member == m then o.amt else 0) (order_of entries c out) 0 else 0
back_to entries m c _ = 0

module _ (setup : Setup) (entries : List Entry) (client : ℕ) (cmd : Cmd) (accepted : is_refusal (answer setup entries client cmd) ≡ false)
    (ordered : (c : ℕ) → AreOrdered entries c) where
  entry : Entry
  entry = entry_of setup entries client cmd

  -- an entry that makes no order and returns none
  plain : (m c : ℕ) → orders (entries ++ entry_of setup entries client cmd ∷ []) c ≡ orders entries c → ((n : ℕ) → is_return c n cmd ≡ false)
      → amount_returned (entries ++ entry_of setup entries client cmd ∷ []) m c ≡ amount_returned entries m c + 0
  plain m c same none =
      let kept =
      sum-same (λ o. if (o.member == m) && has_return (entries ++ entry_of setup entries client cmd ∷ []) c o.out then o.amt else 0)
      (λ o. if (o.member == m) && has_return entries c o.out then o.amt else 0) (orders entries c)
      (λ o. ap (λ b. if (o.member == m) && b then o.amt else 0)
      (has_return-more entries (entry_of setup entries client cmd) c o.out ∙ ap (λ b. has_return entries c o.out || b) (none o.out)
      ∙ or-false (has_return entries c o.out))) in
      ap (sum_by (λ (o : PayOrder). if (o.member == m) && has_return (entries ++ entry_of setup entries client cmd ∷ []) c o.out then o.amt else 0)) same ∙ kept
      ∙ omega arith

pub orders-more : (setup : Setup) (entries : List Entry) (client : ℕ) (cmd : Cmd) (c : ℕ)
    → orders (entries ++ entry_of setup entries client cmd ∷ []) c ≡ orders entries c ++ cons_option
    (order_by c client cmd (answer setup entries client cmd)) []
orders-more setup entries client cmd c = filter_map-append (λ (x : Entry). order_by c x.client x.cmd x.reply) entries (entry_of setup entries client cmd ∷ [])

returned-more : (setup : Setup) (entries : List Entry) (client : ℕ) (cmd : Cmd) → is_refusal (answer setup entries client cmd) ≡ false
    → ((c : ℕ) → AreOrdered entries c)
    → (m c : ℕ) → amount_returned (entries ++ entry_of setup entries client cmd ∷ []) m c ≡ amount_returned entries m c + back_to entries m c cmd
unfolding answer
returned-more setup entries client (Instruct asked) accepted ordered m c =
    plain setup entries client (Instruct asked) accepted ordered m c
    (orders-more setup entries client (Instruct asked) c ∙ append-nil (orders entries c)) (λ n. refl)
returned-more setup entries client (Rescind reference) accepted ordered m c =
    plain setup entries client (Rescind reference) accepted ordered m c (orders-more setup entries client (Rescind reference) c ∙ append-nil (orders entries c))
    (λ n. refl)
returned-more setup entries client (Fund ccy pay member amt) accepted ordered m c =
    plain setup entries client (Fund ccy pay member amt) accepted ordered m c
    (orders-more setup entries client (Fund ccy pay member amt) c ∙ append-nil (orders entries c)) (λ n. refl)
returned-more setup entries client (Settle most) accepted ordered m c =
    plain setup entries client (Settle most) accepted ordered m c (orders-more setup entries client (Settle most) c ∙ append-nil (orders entries c)) (λ n. refl)
returned-more setup entries client (Paid ccy out) accepted ordered m c =
    plain setup entries client (Paid ccy out) accepted ordered m c (orders-more setup entries client (Paid ccy out) c ∙ append-nil (orders entries c))
    (λ n. refl)
returned-more setup entries client (PayOut ccy amt) accepted ordered m c = by (cases_eq ccy c)
  where
    e : Entry
    e = entry_of setup entries client (PayOut ccy amt)

    kept : (n : ℕ) → has_return (entries ++ entry_of setup entries client (PayOut ccy amt) ∷ []) c n ≡ has_return entries c n
    kept n = has_return-more entries (entry_of setup entries client (PayOut ccy amt)) c n ∙ or-false (has_return entries c n)

    new : PayOrder
    new = record { ccy = ccy; out = length (orders entries ccy) + 1; member = client; amt = amt }

    made : order_by c client (PayOut ccy amt) (on_pay_out setup entries client ccy amt)
        ≡ (if ccy == c then Some (record { ccy = ccy; out = length (orders entries ccy) + 1; member = client; amt = amt }) else None)
    made = ap (order_by c client (PayOut ccy amt)) (pay_out-order setup entries client ccy amt accepted)

    whole : amount_returned (entries ++ entry_of setup entries client (PayOut ccy amt) ∷ []) m c
        ≡ sum_by (λ (o : PayOrder). if (o.member == m) && has_return entries c o.out then o.amt else 0)
        (orders entries c ++ cons_option (if ccy == c then Some (record { ccy = ccy; out = length (orders entries ccy) + 1; member = client; amt = amt })
        else None) [])
    whole =
        sum-same (λ o. if (o.member == m) && has_return (entries ++ entry_of setup entries client (PayOut ccy amt) ∷ []) c o.out then o.amt else 0)
        (λ o. if (o.member == m) && has_return entries c o.out then o.amt else 0)
        (orders (entries ++ entry_of setup entries client (PayOut ccy amt) ∷ []) c) (λ o. ap (λ b. if (o.member == m) && b then o.amt else 0) (kept o.out))
        ∙ ap (sum_by (λ (o : PayOrder). if (o.member == m) && has_return entries c o.out then o.amt else 0))
        (orders-more setup entries client (PayOut ccy amt) c ∙ ap (λ o. orders entries c ++ cons_option o []) made)

    by : (ccy ≡ c) ⊎ (ccy ≡ c → ⊥) → amount_returned (entries ++ entry_of setup entries client (PayOut ccy amt) ∷ []) m c ≡ amount_returned entries m c + 0
    by (inr other) =
        whole ∙ ap (λ b. sum_by (λ (o : PayOrder). if (o.member == m) && has_return entries c o.out then o.amt else 0)
        (orders entries c ++ cons_option (if b then Some (record { ccy = ccy; out = length (orders entries ccy) + 1; member = client; amt = amt }) else None)
        [])) (ne_eqb ccy c other)
        ∙ ap (sum_by (λ (o : PayOrder). if (o.member == m) && has_return entries c o.out then o.amt else 0)) (append-nil (orders entries c)) ∙ omega arith
    by (inl same) =
        let f = λ (o : PayOrder). if (o.member == m) && has_return entries c o.out then o.amt else 0 in
        let n : PayOrder = record { ccy = ccy; out = length (orders entries ccy) + 1; member = client; amt = amt } in
        let both = sum_by-append f (orders entries c) (n ∷ []) in
        let one = sum_by-cons f n [] in
        let unreturned : has_return entries c (length (orders entries ccy) + 1) ≡ false =
        ap (λ d. has_return entries c (length (orders entries d) + 1)) same ∙ next-kept entries c (ordered c) in
        let none : (if (client == m) && has_return entries c (length (orders entries ccy) + 1) then amt else 0) ≡ 0 =
        ap (λ b. if (client == m) && b then amt else 0) unreturned ∙ no (client == m) in
        whole ∙ ap (λ b. sum_by f (orders entries c ++ cons_option (if b then Some n else None) [])) (eq-eqb ccy c same) ∙ omega arith
      where
        no : (b : Bool) → (if b && false then amt else 0) ≡ 0
        no true = refl
        no false = refl
returned-more setup entries client (Returned ccy out) accepted ordered m c = by (cases_eq ccy c)
  where
    same-orders : orders (entries ++ entry_of setup entries client (Returned ccy out) ∷ []) c ≡ orders entries c
    same-orders = orders-more setup entries client (Returned ccy out) c ∙ append-nil (orders entries c)

    whole : amount_returned (entries ++ entry_of setup entries client (Returned ccy out) ∷ []) m c
        ≡ sum_by (λ (o : PayOrder). if (o.member == m) && (has_return entries c o.out || ((ccy == c) && (out == o.out))) then o.amt else 0) (orders entries c)
    whole =
        sum-same (λ o. if (o.member == m) && has_return (entries ++ entry_of setup entries client (Returned ccy out) ∷ []) c o.out then o.amt else 0)
        (λ o. if (o.member == m) && (has_return entries c o.out || ((ccy == c) && (out == o.out))) then o.amt else 0)
        (orders (entries ++ entry_of setup entries client (Returned ccy out) ∷ []) c)
        (λ o. ap (λ b. if (o.member == m) && b then o.amt else 0) (has_return-more entries (entry_of setup entries client (Returned ccy out)) c o.out))
        ∙ ap (sum_by (λ (o : PayOrder). if (o.member == m) && (has_return entries c o.out || ((ccy == c) && (out == o.out))) then o.amt else 0)) same-orders

    by : (ccy ≡ c) ⊎ (ccy ≡ c → ⊥)
        → amount_returned (entries ++ entry_of setup entries client (Returned ccy out) ∷ []) m c
        ≡ amount_returned entries m c + (if ccy == c then option_map_or (λ o. if o.member == m then o.amt else 0) (order_of entries c out) 0 else 0)
    by (inr other) =
        whole ∙ sum-same (λ o. if (o.member == m) && (has_return entries c o.out || ((ccy == c) && (out == o.out))) then o.amt else 0)
        (λ o. if (o.member == m) && has_return entries c o.out then o.amt else 0) (orders entries c)
        (λ o. ap (λ b. if (o.member == m) && (has_return entries c o.out || (b && (out == o.out))) then o.amt else 0) (ne_eqb ccy c other)
        ∙ ap (λ b. if (o.member == m) && b then o.amt else 0) (or-false (has_return entries c o.out)))
        ∙ none ∙ ap (λ b. amount_returned entries m c + (if b then option_map_or (λ o. if o.member == m then o.amt else 0) (order_of entries c out) 0 else 0))
        (sym (ne_eqb ccy c other))
      where
        none : amount_returned entries m c ≡ amount_returned entries m c + 0
        none = omega arith
    by (inl same) =
        let fresh : has_return entries c out ≡ false = no-return (end-known setup entries client ccy out accepted).1 in
        whole ∙ sum-same (λ o. if (o.member == m) && (has_return entries c o.out || ((ccy == c) && (out == o.out))) then o.amt else 0)
        (λ o. if (o.member == m) && (has_return entries c o.out || (out == o.out)) then o.amt else 0) (orders entries c)
        (λ o. ap (λ b. if (o.member == m) && (has_return entries c o.out || (b && (out == o.out))) then o.amt else 0) (eq-eqb ccy c same))
        ∙ one-returned m out (has_return entries c) 1 (orders entries c) (ordered c).numbered fresh
        ∙ ap (λ b. amount_returned entries m c + (if b then option_map_or (λ o. if o.member == m then o.amt else 0) (order_of entries c out) 0 else 0))
        (sym (eq-eqb ccy c same))
      where
        no-return : has_end entries ccy out ≡ false → has_return entries c out ≡ false
        no-return ended = cases (has_return entries c out) refl
          where
            cases : (b : Bool) → has_return entries c out ≡ b → b ≡ false
            cases false e = refl
            cases true e = absurd (cc (return-end entries c out e, ap (λ d. has_end entries d out) same, ended))

-- what an entry moves, on a balance
pub balance-moved : (setup : Setup) (entries : List Entry) (done : List Pair) (client : ℕ) (cmd : Cmd) → is_refusal (answer setup entries client cmd) ≡ false
    → ((c : ℕ) → AreOrdered entries c)
    → (m c : ℕ)
    → balance_with (entries ++ entry_of setup entries client cmd ∷ []) done m c ≡ balance_with entries done m c +ℤ moved_to m c (movement_by entries client cmd)
balance-moved setup entries done client cmd accepted ordered m c =
    let ins = sum-push (λ (x : Entry). paid_in_to m c x.cmd) entries (entry_of setup entries client cmd) in
    let outs = sum-push (λ (x : Entry). paid_out_of m c x.client x.cmd) entries (entry_of setup entries client cmd) in
    let back = returned-more setup entries client cmd accepted ordered m c in
    (λ i. pos ((ins i + back i) + sum_by (amount_bought m c) done) -ℤ pos (outs i + sum_by (amount_sold m c) done))
    ∙ by cmd (pay_ins entries m c) (amount_returned entries m c) (pay_outs entries m c) (sum_by (amount_bought m c) done) (sum_by (amount_sold m c) done)
  where
    nothing : (i r o b s : ℕ) → pos (((i + 0) + (r + 0)) + b) -ℤ pos ((o + 0) + s) ≡ (pos ((i + r) + b) -ℤ pos (o + s)) +ℤ pos 0
    nothing i r o b s = omega (arith, ints)

    came : (i r o b s amt : ℕ) (here : Bool)
        → pos (((i + (if here then amt else 0)) + (r + 0)) + b) -ℤ pos ((o + 0) + s) ≡ (pos ((i + r) + b) -ℤ pos (o + s)) +ℤ (if here then pos amt else pos 0)
    came i r o b s amt true = omega (arith, ints)
    came i r o b s amt false = omega (arith, ints)

    went : (i r o b s amt : ℕ) (here : Bool)
        → pos (((i + 0) + (r + 0)) + b) -ℤ pos ((o + (if here then amt else 0)) + s) ≡ (pos ((i + r) + b) -ℤ pos (o + s)) +ℤ
        (if here then neg_ℤ (pos amt) else pos 0)
    went i r o b s amt true = omega (arith, ints)
    went i r o b s amt false = omega (arith, ints)

    credited : (i r o b s amt : ℕ) (its here : Bool)
        → pos (((i + 0) + (r + (if here then (if its then amt else 0) else 0))) + b) -ℤ pos ((o + 0) + s)
        ≡ (pos ((i + r) + b) -ℤ pos (o + s)) +ℤ (if its && here then pos amt else pos 0)
    credited i r o b s amt true true = omega (arith, ints)
    credited i r o b s amt true false = omega (arith, ints)
    credited i r o b s amt false true = omega (arith, ints)
    credited i r o b s amt false false = omega (arith, ints)

    back : (i r o b s ccy out : ℕ) (found there : Option PayOrder) → (ccy ≡ c → found ≡ there)
        → pos (((i + 0) + (r + (if ccy == c then option_map_or (λ x. if x.member == m then x.amt else 0) found 0 else 0))) + b) -ℤ pos ((o + 0) + s)
        ≡ (pos ((i + r) + b) -ℤ pos (o + s)) +ℤ moved_to m c (option_map (λ x. record { member = x.member; ccy = ccy; amt = pos x.amt }) there)
    back i r o b s ccy out found there same = cases (cases_eq ccy c)
      where
        none : (x : Option PayOrder)
            → moved_to m c (option_map (λ x. record { member = x.member; ccy = ccy; amt = pos x.amt }) x)
            ≡ option_map_or (λ x. if (x.member == m) && (ccy == c) then pos x.amt else pos 0) x (pos 0)
        none None = refl
        none (Some x) = refl

        here : (x : Option PayOrder) → (ccy == c) ≡ true
            → pos (((i + 0) + (r + (if ccy == c then option_map_or (λ x. if x.member == m then x.amt else 0) x 0 else 0))) + b) -ℤ pos ((o + 0) + s)
            ≡ (pos ((i + r) + b) -ℤ pos (o + s)) +ℤ moved_to m c (option_map (λ x. record { member = x.member; ccy = ccy; amt = pos x.amt }) x)
        here None is = ap (λ t. pos (((i + 0) + (r + (if t then 0 else 0))) + b) -ℤ pos ((o + 0) + s)) is ∙ nothing i r o b s
        here (Some x) is = credited i r o b s x.amt (x.member == m) (ccy == c)

        elsewhere : (x : Option PayOrder) → (ccy == c) ≡ false
            → moved_to m c (option_map (λ x. record { member = x.member; ccy = ccy; amt = pos x.amt }) x) ≡ pos 0
        elsewhere None is = refl
        elsewhere (Some x) is = ap (λ t. if (x.member == m) && t then pos x.amt else pos 0) is ∙ no (x.member == m)
          where
            no : (t : Bool) → (if t && false then pos x.amt else pos 0) ≡ pos 0
            no true = refl
            no false = refl

        cases : (ccy ≡ c) ⊎ (ccy ≡ c → ⊥)
            → pos (((i + 0) + (r + (if ccy == c then option_map_or (λ x. if x.member == m then x.amt else 0) found 0 else 0))) + b) -ℤ pos ((o + 0) + s)
            ≡ (pos ((i + r) + b) -ℤ pos (o + s)) +ℤ moved_to m c (option_map (λ x. record { member = x.member; ccy = ccy; amt = pos x.amt }) there)
        cases (inl is) =
            here found (eq-eqb ccy c is) ∙ ap (λ x. (pos ((i + r) + b) -ℤ pos (o + s)) +ℤ moved_to m c
            (option_map (λ x. record { member = x.member; ccy = ccy; amt = pos x.amt }) x)) (same is)
        cases (inr other) =
            ap (λ t. pos (((i + 0) + (r + (if t then option_map_or (λ x. if x.member == m then x.amt else 0) found 0 else 0))) + b) -ℤ pos ((o + 0) + s))
            (ne_eqb ccy c other)
            ∙ nothing i r o b s ∙ ap (λ z. (pos ((i + r) + b) -ℤ pos (o + s)) +ℤ z) (sym (elsewhere there (ne_eqb ccy c other)))

    by : (cmd : Cmd) (i r o b s : ℕ)
        → pos (((i + paid_in_to m c cmd) + (r + back_to entries m c cmd)) + b) -ℤ pos ((o + paid_out_of m c client cmd) + s)
        ≡ (pos ((i + r) + b) -ℤ pos (o + s)) +ℤ moved_to m c (movement_by entries client cmd)
    by (Fund ccy pay member amt) i r o b s = came i r o b s amt ((member == m) && (ccy == c))
    by (PayOut ccy amt) i r o b s = went i r o b s amt ((client == m) && (ccy == c))
    by (Returned ccy out) i r o b s =
        back i r o b s ccy out (order_of entries c out) (order_of entries ccy out) (λ is. ap (λ d. order_of entries d out) (sym is))
    by _ i r o b s = nothing i r o b s

-- what a command moves is on a member's account, in a currency of the setup
pub record IsKnown (setup : Setup) (x : Movement) : Type 0 where
  pub member : has_member setup x.member ≡ true
  pub currency : has_currency setup x.ccy ≡ true

pub known-movement : (setup : Setup) (entries : List Entry) (client : ℕ) (cmd : Cmd) (x : Movement) → is_refusal (answer setup entries client cmd) ≡ false
    → ((c : ℕ) → AllByRecursion (λ (o : PayOrder). has_member setup o.member ≡ true) (orders entries c)) → movement_by entries client cmd ≡ Some x
    → IsKnown setup x
unfolding answer
known-movement setup entries client (Fund ccy pay member amt) x accepted members is =
    let moved : record { member = member; ccy = ccy; amt = pos amt } ≡ x = cc is in
    subst (IsKnown setup) moved (record {
      member = fund-member setup entries client ccy pay member amt accepted;
      currency = (and_parts _ _ (is-so _ (passed (fund_checks setup entries client ccy pay member amt) Done accepted).1.0)).0;
    })
known-movement setup entries client (PayOut ccy amt) x accepted members is =
    let moved : record { member = client; ccy = ccy; amt = neg_ℤ (pos amt) } ≡ x = cc is in
    subst (IsKnown setup) moved (record {
      member = (pay_out-member setup entries client ccy amt accepted).0;
      currency = is-so _ (passed (pay_out_checks setup entries client ccy amt) (Order (length (orders entries ccy) + 1)) accepted).1.1.0;
    })
known-movement setup entries client (Returned ccy out) x accepted members is = by (order_of entries ccy out) refl is
  where
    among : (os : List PayOrder) (o : PayOrder) → find (λ (p : PayOrder). p.out == out) os ≡ Some o
        → AllByRecursion (λ (p : PayOrder). has_member setup p.member ≡ true) os → has_member setup o.member ≡ true
    among [] o found all = absurd (cc found)
    among (p ∷ os) o found all = cases (p.out == out) found (λ later. among os o later all.1)
      where
        cases : (b : Bool) → cond b (Some p) (find (λ (q : PayOrder). q.out == out) os) ≡ Some o
            → (find (λ (q : PayOrder). q.out == out) os ≡ Some o → has_member setup o.member ≡ true) → has_member setup o.member ≡ true
        cases true found more = let same : p ≡ o = cc found in subst (λ (q : PayOrder). has_member setup q.member ≡ true) same all.0
        cases false found more = more found

    by : (o : Option PayOrder) → order_of entries ccy out ≡ o
        → option_map (λ (p : PayOrder). record { member = p.member; ccy = ccy; amt = pos p.amt }) o ≡ Some x → IsKnown setup x
    by None found is = absurd (cc is)
    by (Some o) found is =
        let moved : record { member = o.member; ccy = ccy; amt = pos o.amt } ≡ x = cc is in
        subst (IsKnown setup) moved (record {
          member = among (orders entries ccy) o found (members ccy);
          currency = is-so _ (passed (end_checks setup entries client ccy out) Done accepted).1.0;
        })
known-movement setup entries client _ x accepted members is = absurd (cc is)

-- and it changes the sum of the balances of the first members where its member is among them
module _ (longer entries : List Entry) (later done : List Pair) (moved : Option Movement) (c : ℕ)
    (each : (m : ℕ) → balance_with longer later m c ≡ balance_with entries done m c +ℤ moved_to m c moved) where
  pub sum-moved : (n : ℕ) (x : Movement) → moved ≡ Some x → 1 ≤ x.member
      → (n < x.member → sum_of_balances n longer later c ≡ sum_of_balances n entries done c)
      × (x.member ≤ n → sum_of_balances n longer later c ≡ sum_of_balances n entries done c +ℤ moved_in c (Some x))
  sum-moved zero x is some = (λ low. refl, λ high. absurd (omega arith))
  sum-moved (suc n) x is some =
      let rest = sum-moved n x is some in
      let left = ap (λ k. sum_of_balances k longer later c) (sym (add-one n)) ∙ sum_of_balances-more longer later n c in
      let right = ap (λ k. sum_of_balances k entries done c) (sym (add-one n)) ∙ sum_of_balances-more entries done n c in
      let here = each (n + 1) ∙ ap (λ o. balance_with entries done (n + 1) c +ℤ moved_to (n + 1) c o) is in
      let missed : (x.member ≡ n + 1 → ⊥) → moved_to (n + 1) c (Some x) ≡ pos 0 =
      λ other. ap (λ b. if b && (x.ccy == c) then x.amt else pos 0) (ne_eqb x.member (n + 1) other) in
      let met : x.member ≡ n + 1 → moved_to (n + 1) c (Some x) ≡ moved_in c (Some x) =
      λ same. ap (λ b. if b && (x.ccy == c) then x.amt else pos 0) (eq-eqb x.member (n + 1) same) in (
        λ low.
            let before = rest.0 (omega arith) in
            let none = missed (λ same. absurd (omega arith)) in
            left ∙ (λ i. before i +ℤ (here ∙ ap (λ z. balance_with entries done (n + 1) c +ℤ z) none ∙ zero-added (balance_with entries done (n + 1) c)) i)
            ∙ sym right,
        λ high. by (cases_eq x.member (n + 1)) high rest left right here missed met,
      )
    where
      zero-added : (b : ℤ) → b +ℤ pos 0 ≡ b
      zero-added b = omega (arith, ints)

      assoc : (a b z : ℤ) → a +ℤ (b +ℤ z) ≡ (a +ℤ b) +ℤ z
      assoc a b z = omega (arith, ints)

      swap : (a b z : ℤ) → (a +ℤ z) +ℤ b ≡ (a +ℤ b) +ℤ z
      swap a b z = omega (arith, ints)

      by : (x.member ≡ n + 1) ⊎ (x.member ≡ n + 1 → ⊥) → x.member ≤ suc n
          → (n < x.member → sum_of_balances n longer later c ≡ sum_of_balances n entries done c)
          × (x.member ≤ n → sum_of_balances n longer later c ≡ sum_of_balances n entries done c +ℤ moved_in c (Some x))
          → sum_of_balances (suc n) longer later c ≡ sum_of_balances n longer later c +ℤ balance_with longer later (n + 1) c
          → sum_of_balances (suc n) entries done c ≡ sum_of_balances n entries done c +ℤ balance_with entries done (n + 1) c
          → balance_with longer later (n + 1) c ≡ balance_with entries done (n + 1) c +ℤ moved_to (n + 1) c (Some x)
          → ((x.member ≡ n + 1 → ⊥) → moved_to (n + 1) c (Some x) ≡ pos 0) → (x.member ≡ n + 1 → moved_to (n + 1) c (Some x) ≡ moved_in c (Some x))
          → sum_of_balances (suc n) longer later c ≡ sum_of_balances (suc n) entries done c +ℤ moved_in c (Some x)
      by (inl same) high rest left right here missed met =
          let before = rest.0 (omega arith) in
          left ∙ (λ i. before i +ℤ (here ∙ ap (λ z. balance_with entries done (n + 1) c +ℤ z) (met same)) i)
          ∙ assoc (sum_of_balances n entries done c) (balance_with entries done (n + 1) c) (moved_in c (Some x))
          ∙ ap (λ z. z +ℤ moved_in c (Some x)) (sym right)
      by (inr other) high rest left right here missed met =
          let before = rest.1 (omega (arith, other)) in
          left ∙ (λ i. before i +ℤ (here ∙ ap (λ z. balance_with entries done (n + 1) c +ℤ z) (missed other) ∙ zero-added (balance_with entries done (n + 1) c))
          i)
          ∙ swap (sum_of_balances n entries done c) (balance_with entries done (n + 1) c) (moved_in c (Some x)) ∙ ap (λ z. z +ℤ moved_in c (Some x)) (sym right)

  pub sum-still : (n : ℕ) → moved ≡ None → sum_of_balances n longer later c ≡ sum_of_balances n entries done c
  sum-still zero is = refl
  sum-still (suc n) is =
      let left = ap (λ k. sum_of_balances k longer later c) (sym (add-one n)) ∙ sum_of_balances-more longer later n c in
      let right = ap (λ k. sum_of_balances k entries done c) (sym (add-one n)) ∙ sum_of_balances-more entries done n c in
      let here = each (n + 1) ∙ ap (λ o. balance_with entries done (n + 1) c +ℤ moved_to (n + 1) c o) is in
      left ∙ (λ i. sum-still n is i +ℤ (here ∙ zero-added (balance_with entries done (n + 1) c)) i) ∙ sym right
    where
      zero-added : (b : ℤ) → b +ℤ pos 0 ≡ b
      zero-added b = omega (arith, ints)

-- a walk leaves what was paid in and out as it was
pub walk-moves-none : (setup : Setup) (entries : List Entry) (most c : ℕ)
    → let longer = entries ++ entry_of setup entries 0 (Settle most) ∷ [] in
    (funds longer c ≡ funds entries c) × (all_paid_out longer c ≡ all_paid_out entries c) × (all_returned longer c ≡ all_returned entries c)
walk-moves-none setup entries most c =
    let e = entry_of setup entries 0 (Settle most) in
    let ins = sum-push (λ (x : Entry). pay_in_amount c x.cmd) entries e in
    let outs = sum-push (λ (x : Entry). pay_out_amount c x.cmd) entries e in
    let kept =
    sum-same (λ o. if has_return (entries ++ entry_of setup entries 0 (Settle most) ∷ []) c o.out then o.amt else 0)
    (λ o. if has_return entries c o.out then o.amt else 0) (orders entries c)
    (λ o. ap (λ b. if b then o.amt else 0) (has_return-more entries (entry_of setup entries 0 (Settle most)) c o.out
    ∙ or-false (has_return entries c o.out))) in
    let same = orders-more setup entries 0 (Settle most) c ∙ append-nil (orders entries c) in (
      omega arith,
      omega arith,
      ap (sum_by (λ (o : PayOrder). if has_return (entries ++ entry_of setup entries 0 (Settle most) ∷ []) c o.out then o.amt else 0)) same ∙ kept,
    )
