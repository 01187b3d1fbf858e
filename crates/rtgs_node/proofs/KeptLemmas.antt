-- What a node keeps is right after each of its steps.
use Rattle.std.proofs.Common.{◌≡◌, ℕ, suc, zero, ◌+◌, ◌*◌, ◌-◌, ◌≤◌, ◌<◌, Bool, true, false, not, List, [], ◌∷◌, ◌++◌, length, map, arith, refl, ap, sym, ◌∙◌, sum_by, count_by, None, ◌^◌, pos, ◌-ℤ◌, ◌⊎◌, inl, inr, length-append, length-set, get_or-set_same, get_or-set_other}
use Rattle.std.specs.Prelude.{◌||◌, ◌==◌, if◌then◌else◌, slice_get, slice_set, slice_index_or}
use Rattle.std.specs.List.{AllByRecursion, list_any, range_with_len}
use Rattle.std.specs.Option.{option_map_or}
use Rattle.std.proofs.lemmas.Bool.{not-false, leb-false, eq-eqb, ne_eqb, cases_eq}
use Rattle.std.proofs.lemmas.Int.{ints}
use Rattle.std.proofs.lemmas.List.Sums.{sum_by_push, count_by-le-length}
use Rattle.std.proofs.lemmas.List.FromFn.{length-range_with_len}
use Rattle.std.proofs.lemmas.List.{length-map}
use Rattle.std.proofs.lemmas.List.Folds.{list_any-append}
use Rattle.pvp_types.specs.declared.setup.Setup.{Setup}
use Rattle.pvp_types.specs.declared.setup.Member.{Member}
use Rattle.pvp_types.specs.declared.command.Cmd.{Cmd}
use Rattle.pvp_types.specs.declared.command.PayOrder.{PayOrder as PaymentOrder}
use Rattle.pvp_types.specs.Setup.{IsValid}
use Rattle.pvp_types.proofs.SetupLemmas.{valid-deposits}
use Rattle.pvp_book.specs.Ledger.{most_amount}
use Rattle.pvp_book.specs.Answer.{has_member, is_amount}
use Rattle.pvp_book.proofs.Counts.{each-append, each-weaker, count-cons}
use Rattle.pvp_book.proofs.Members.{is-member}
use Rattle.rtgs_node.specs.declared.payment.PayIn.{PayIn}
use Rattle.rtgs_node.specs.Node.{Node, opening_node, has_done, has_returned, is_known, is_closed, came_in, went_out, came_from, went_to, deposit, account, member_account, pay_in_checks, order_checks}
use Rattle.rtgs_node.specs.Shown.{ShownNode, first_fault}
use Rattle.rtgs_node.specs.Kept.{IsPayment, AreAccounts, open_accounts, IsKeptNode}
use Rattle.rtgs_node.proofs.Checks.{passed}
use Rattle.rtgs_node.proofs.Amounts.{amount-small, sum-small, covers}

turned : (m n : ℕ) → (m == n) ≡ (n == m)
turned m n = by (cases_eq m n)
  where
    by : (m ≡ n) ⊎ (m ≡ n → ⊥) → (m == n) ≡ (n == m)
    by (inl same) = eq-eqb m n same ∙ sym (eq-eqb n m (sym same))
    by (inr other) = ne_eqb m n other ∙ sym (ne_eqb n m (λ same. other (sym same)))

-- AMOUNTS

-- what is held is what came less what went
held-is : (came went held : ℕ) → held + went ≡ came → pos held ≡ pos came -ℤ pos went
held-is came went held is = omega (arith, ints)

-- a deposit is within its limit
deposit-small : (setup : Setup) → IsValid setup → (c m : ℕ) → deposit setup c m ≤ 10 ^ 15
deposit-small setup valid c m = by setup.members (m - 1) (valid-deposits setup valid)
  where
    by : (ms : List Member) (i : ℕ) → AllByRecursion (λ (member : Member). (k : ℕ) → slice_index_or member.deposit k 0 ≤ 10 ^ 15) ms
        → option_map_or (λ (member : Member). slice_index_or member.deposit c 0) (slice_get ms i) 0 ≤ 10 ^ 15
    by [] i all = omega arith
    by (member ∷ ms) zero all = all.0 c
    by (member ∷ ms) (suc i) all = by ms i all.1

-- ORDERS THAT ARE KNOWN

known-done : (x : Node) (o : PaymentOrder) (n : ℕ) → is_known (record x { pay_outs = x.pay_outs ++ o ∷ [] }) n ≡ ((n == o.out) || is_known x n)
known-done x o n =
    ap (λ b. b || has_returned x n) (list_any-append (λ (p : PaymentOrder). p.out == n) x.pay_outs (o ∷ []))
    ∙ ap (λ b. (has_done x n || (b || false)) || has_returned x n) (turned o.out n)
    ∙ by (has_done x n) (has_returned x n) (n == o.out)
  where
    by : (done returned new : Bool) → ((done || (new || false)) || returned) ≡ (new || (done || returned))
    by true returned true = refl
    by true returned false = refl
    by false returned true = refl
    by false returned false = refl

known-returned : (x : Node) (o : PaymentOrder) (n : ℕ) → is_known (record x { returned = x.returned ++ o ∷ [] }) n ≡ ((n == o.out) || is_known x n)
known-returned x o n =
    ap (λ b. has_done x n || b) (list_any-append (λ (p : PaymentOrder). p.out == n) x.returned (o ∷ []))
    ∙ ap (λ b. has_done x n || (has_returned x n || (b || false))) (turned o.out n)
    ∙ by (has_done x n) (has_returned x n) (n == o.out)
  where
    by : (done returned new : Bool) → (done || (returned || (new || false))) ≡ (new || (done || returned))
    by true returned true = refl
    by true returned false = refl
    by false true true = refl
    by false true false = refl
    by false false true = refl
    by false false false = refl

-- OPEN ACCOUNTS

abbrev one_if : Bool → ℕ
one_if b = if b then 1 else 0

abbrev count_open : List ℕ → ℕ → ℕ → ℕ
count_open closed a n = count_by (λ m. not (list_any (λ k. k == m) closed)) (range_with_len a n)

closed-more : (closed : List ℕ) (k m : ℕ) → not (list_any (λ j. j == m) (closed ++ k ∷ [])) ≡ not (list_any (λ j. j == m) closed || ((k == m) || false))
closed-more closed k m = ap not (list_any-append (λ j. j == m) closed (k ∷ []))

closed-other : (closed : List ℕ) (k m : ℕ) → (k ≡ m → ⊥) → not (list_any (λ j. j == m) (closed ++ k ∷ [])) ≡ not (list_any (λ j. j == m) closed)
closed-other closed k m other =
    closed-more closed k m ∙ ap (λ b. not (list_any (λ j. j == m) closed || (b || false))) (ne_eqb k m other) ∙ by (list_any (λ j. j == m) closed)
  where
    by : (b : Bool) → not (b || (false || false)) ≡ not b
    by true = refl
    by false = refl

closed-past : (closed : List ℕ) (k a n : ℕ) → k < a → count_open (closed ++ k ∷ []) a n ≡ count_open closed a n
closed-past closed k a zero past = refl
closed-past closed k a (suc n) past = more (closed-past closed k (a + 1) n (omega arith))
  where
    new : count_open (closed ++ k ∷ []) a (suc n) ≡ one_if (not (list_any (λ j. j == a) (closed ++ k ∷ []))) + count_open (closed ++ k ∷ []) (a + 1) n
    new = count-cons (λ m. not (list_any (λ j. j == m) (closed ++ k ∷ []))) a (range_with_len (a + 1) n)

    old : count_open closed a (suc n) ≡ one_if (not (list_any (λ j. j == a) closed)) + count_open closed (a + 1) n
    old = count-cons (λ m. not (list_any (λ j. j == m) closed)) a (range_with_len (a + 1) n)

    same : one_if (not (list_any (λ j. j == a) (closed ++ k ∷ []))) ≡ one_if (not (list_any (λ j. j == a) closed))
    same = ap one_if (closed-other closed k a (λ is. absurd (omega arith)))

    more : count_open (closed ++ k ∷ []) (a + 1) n ≡ count_open closed (a + 1) n → count_open (closed ++ k ∷ []) a (suc n) ≡ count_open closed a (suc n)
    more rest =
        new ∙ ap (λ b. b + count_open (closed ++ k ∷ []) (a + 1) n) same ∙ ap (λ r. one_if (not (list_any (λ j. j == a) closed)) + r) rest ∙ sym old

-- one account that was open is closed
closes-one : (closed : List ℕ) (k a n : ℕ) → a ≤ k → k < a + n → list_any (λ j. j == k) closed ≡ false
    → count_open (closed ++ k ∷ []) a n + 1 ≡ count_open closed a n
closes-one closed k a zero low high is_open = absurd (omega arith)
closes-one closed k a (suc n) low high is_open = by (cases_eq k a) (λ above. closes-one closed k (a + 1) n (omega arith) (omega arith) is_open)
  where
    new : count_open (closed ++ k ∷ []) a (suc n) ≡ one_if (not (list_any (λ j. j == a) (closed ++ k ∷ []))) + count_open (closed ++ k ∷ []) (a + 1) n
    new = count-cons (λ m. not (list_any (λ j. j == m) (closed ++ k ∷ []))) a (range_with_len (a + 1) n)

    old : count_open closed a (suc n) ≡ one_if (not (list_any (λ j. j == a) closed)) + count_open closed (a + 1) n
    old = count-cons (λ m. not (list_any (λ j. j == m) closed)) a (range_with_len (a + 1) n)

    by : (k ≡ a) ⊎ (k ≡ a → ⊥) → (a + 1 ≤ k → count_open (closed ++ k ∷ []) (a + 1) n + 1 ≡ count_open closed (a + 1) n)
        → count_open (closed ++ k ∷ []) a (suc n) + 1 ≡ count_open closed a (suc n)
    by (inl same) more =
        let past = closed-past closed k (a + 1) n (omega arith) in
        let was = ap (λ b. one_if (not b)) (ap (λ m. list_any (λ j. j == m) closed) (sym same) ∙ is_open) in
        let is =
        ap one_if (closed-more closed k a ∙ ap (λ b. not (list_any (λ j. j == a) closed || (b || false))) (eq-eqb k a same)
        ∙ shut (list_any (λ j. j == a) closed)) in
        let new' = new in
        let old' = old in
        omega arith
      where
        shut : (b : Bool) → not (b || (true || false)) ≡ false
        shut true = refl
        shut false = refl
    by (inr other) more =
        let rest = more (omega (arith, other)) in
        let same = ap one_if (closed-other closed k a other) in
        let new' = new in
        let old' = old in
        omega arith

-- WHAT THE ACCOUNTS HOLD

module _ (setup : Setup) (c : ℕ) (x : Node) (bank : ℕ) (members : List ℕ) (are : AreAccounts setup c x bank members) (member amt : ℕ)
    (mine : has_member setup member ≡ true) where
  held : ℕ
  held = slice_index_or members (member - 1) 0

  abbrev with_held : ℕ → List ℕ
  with_held n = slice_set members (member - 1) n

  place : member - 1 < length members
  place = let is = is-member setup member mine in let count = are.count in omega arith

  at-member : (m n : ℕ) → m ≡ member → slice_index_or (with_held n) (m - 1) 0 ≡ n
  at-member m n same = ap (λ k. slice_index_or (with_held n) (k - 1) 0) same ∙ get_or-set_same members (member - 1) n 0 place

  at-other : (m n : ℕ) → has_member setup m ≡ true → (m ≡ member → ⊥) → slice_index_or (with_held n) (m - 1) 0 ≡ slice_index_or members (m - 1) 0
  at-other m n known other =
      let here = is-member setup member mine in
      let there = is-member setup m known in
      get_or-set_other members (member - 1) (m - 1) n 0 (λ same. other (omega arith))

  -- an amount of one member counts for it alone
  counts : (m : ℕ) → m ≡ member → (if member == m then amt else 0) ≡ amt
  counts m same = ap (λ b. if b then amt else 0) (eq-eqb member m (sym same))

  counts-not : (m : ℕ) → (m ≡ member → ⊥) → (if member == m then amt else 0) ≡ 0
  counts-not m other = ap (λ b. if b then amt else 0) (ne_eqb member m (λ same. other (sym same)))

  accounts-paid_in : (cmds : List Cmd) → amt ≤ slice_index_or members (member - 1) 0
      → AreAccounts setup c (record x { pay_ins = x.pay_ins ++ record { member = member; amt = amt } ∷ []; notices = cmds })
      (bank + amt) (slice_set members (member - 1) (slice_index_or members (member - 1) 0 - amt))
  accounts-paid_in cmds enough = record {
    bank = let more = sum_by_push (λ (p : PayIn). p.amt) x.pay_ins (record { member = member; amt = amt }) in let was = are.bank in omega arith;
    count = length-set members (member - 1) (slice_index_or members (member - 1) 0 - amt) ∙ are.count;
    members = λ m known. by m known (cases_eq m member);
  }
    where
      by : (m : ℕ) → has_member setup m ≡ true → (m ≡ member) ⊎ (m ≡ member → ⊥)
          → slice_index_or (with_held (slice_index_or members (member - 1) 0 - amt)) (m - 1) 0
          + sum_by (λ (p : PayIn). if p.member == m then p.amt else 0) (x.pay_ins ++ record { member = member; amt = amt } ∷ [])
          ≡ deposit setup c m + went_to m x
      by m known (inl same) =
          let now = at-member m (slice_index_or members (member - 1) 0 - amt) same in
          let before = ap (λ k. slice_index_or members (k - 1) 0) same in
          let was = are.members m known in
          let more = sum_by_push (λ (p : PayIn). if p.member == m then p.amt else 0) x.pay_ins (record { member = member; amt = amt }) in
          let here = counts m same in
          omega arith
      by m known (inr other) =
          let now = at-other m (slice_index_or members (member - 1) 0 - amt) known other in
          let was = are.members m known in
          let more = sum_by_push (λ (p : PayIn). if p.member == m then p.amt else 0) x.pay_ins (record { member = member; amt = amt }) in
          let here = counts-not m other in
          omega arith

  accounts-paid_out : (ccy out : ℕ) (cmds : List Cmd) → amt ≤ bank
      → AreAccounts setup c (record x { pay_outs = x.pay_outs ++ record { ccy = ccy; out = out; member = member; amt = amt } ∷ []; notices = cmds })
      (bank - amt) (slice_set members (member - 1) (slice_index_or members (member - 1) 0 + amt))
  accounts-paid_out ccy out cmds enough = record {
    bank = let more = sum_by_push (λ (o : PaymentOrder). o.amt) x.pay_outs (record { ccy = ccy; out = out; member = member; amt = amt }) in
        let was = are.bank in omega arith;
    count = length-set members (member - 1) (slice_index_or members (member - 1) 0 + amt) ∙ are.count;
    members = λ m known. by m known (cases_eq m member);
  }
    where
      by : (m : ℕ) → has_member setup m ≡ true → (m ≡ member) ⊎ (m ≡ member → ⊥)
          → slice_index_or (with_held (slice_index_or members (member - 1) 0 + amt)) (m - 1) 0 + came_from m x
          ≡ deposit setup c m + sum_by (λ (o : PaymentOrder). if o.member == m then o.amt else 0)
          (x.pay_outs ++ record { ccy = ccy; out = out; member = member; amt = amt } ∷ [])
      by m known (inl same) =
          let now = at-member m (slice_index_or members (member - 1) 0 + amt) same in
          let before = ap (λ k. slice_index_or members (k - 1) 0) same in
          let was = are.members m known in
          let more =
          sum_by_push (λ (o : PaymentOrder). if o.member == m then o.amt else 0) x.pay_outs (record { ccy = ccy; out = out; member = member; amt = amt }) in
          let here = counts m same in
          omega arith
      by m known (inr other) =
          let now = at-other m (slice_index_or members (member - 1) 0 + amt) known other in
          let was = are.members m known in
          let more =
          sum_by_push (λ (o : PaymentOrder). if o.member == m then o.amt else 0) x.pay_outs (record { ccy = ccy; out = out; member = member; amt = amt }) in
          let here = counts-not m other in
          omega arith

-- WHAT IS KEPT

module _ (s : ShownNode) (bank room : ℕ) (members known : List ℕ) (is : IsKeptNode s bank members known room) where
  pub bank-small : bank ≤ 65535 * most_amount
  bank-small =
      let few = is.counted.pay_ins in
      let each =
      each-weaker (λ (p : PayIn). IsPayment s.setup p.member p.amt) (λ (p : PayIn). p.amt ≤ most_amount) s.node.pay_ins
      (λ p k. amount-small p.amt k.small) is.payments.pay_ins in
      let sum = sum-small (λ (p : PayIn). p.amt) most_amount s.node.pay_ins each in
      let held = is.accounts.bank in
      omega arith

  pub member-small : (m : ℕ) → has_member s.setup m ≡ true → slice_index_or members (m - 1) 0 ≤ 10 ^ 15 + 65535 * most_amount
  member-small m mine =
      let few = is.counted.orders in
      let each =
      each-weaker (λ (o : PaymentOrder). IsPayment s.setup o.member o.amt)
      (λ (o : PaymentOrder). (if o.member == m then o.amt else 0) ≤ most_amount) s.node.pay_outs
      (λ o k. by (o.member == m) o.amt (amount-small o.amt k.small)) is.payments.pay_outs in
      let sum = sum-small (λ (o : PaymentOrder). if o.member == m then o.amt else 0) most_amount s.node.pay_outs each in
      let held = is.accounts.members m mine in
      let opening = deposit-small s.setup is.valid s.ccy m in
      omega arith
    where
      by : (b : Bool) (amt : ℕ) → amt ≤ most_amount → (if b then amt else 0) ≤ most_amount
      by true amt small = small
      by false amt small = omega arith

  pub member-place : (m : ℕ) → has_member s.setup m ≡ true → (1 ≤ m) × (m - 1 < length members)
  member-place m mine = let at = is-member s.setup m mine in let count = is.accounts.count in (omega arith, omega arith)

  pub member-holds : (m : ℕ) → has_member s.setup m ≡ true → pos (slice_index_or members (m - 1) 0) ≡ member_account s.setup s.ccy m s.node
  member-holds m mine =
      held-is (deposit s.setup s.ccy m + went_to m s.node) (came_from m s.node) (slice_index_or members (m - 1) 0) (is.accounts.members m mine)

  pub bank-holds : pos bank ≡ account s.node
  bank-holds = held-is (came_in s.node) (went_out s.node) bank is.accounts.bank

  module _ (f member amt : ℕ) (none : first_fault (pay_in_checks s.setup f s.ccy s.node member amt) ≡ None) where
    pub paid_in-known : has_member s.setup member ≡ true
    paid_in-known = not-false (has_member s.setup member) (passed (pay_in_checks s.setup f s.ccy s.node member amt) none).0

    pub paid_in-small : amt ≤ most_amount
    paid_in-small = amount-small amt (not-false (is_amount amt) (passed (pay_in_checks s.setup f s.ccy s.node member amt) none).1.0)

    pub paid_in-room : length s.node.pay_ins < 65535
    paid_in-room = leb-false 65535 (length s.node.pay_ins) (passed (pay_in_checks s.setup f s.ccy s.node member amt) none).1.1.1.0

    pub paid_in-covered : amt ≤ slice_index_or members (member - 1) 0
    paid_in-covered =
        covers (deposit s.setup s.ccy member + went_to member s.node) (came_from member s.node) (slice_index_or members (member - 1) 0) amt
        (is.accounts.members member paid_in-known) (passed (pay_in_checks s.setup f s.ccy s.node member amt) none).1.1.1.1.0

    -- the amount goes from the member's account to the bank's
    pub IsKeptNode-paid_in : (cmd : Cmd)
        → IsKeptNode (record s {
          node = record s.node {
            pay_ins = s.node.pay_ins ++ record { member = member; amt = amt } ∷ [];
            notices = s.node.notices ++ cmd ∷ [];
          };
        })
        (bank + amt) (slice_set members (member - 1) (slice_index_or members (member - 1) 0 - amt)) known room
    IsKeptNode-paid_in cmd = record {
      valid = is.valid;
      currency = is.currency;
      counted = record {
        notices = let was = is.counted.notices in let ins = length-append s.node.pay_ins (record { member = member; amt = amt } ∷ []) in
            let outs = length-append s.node.notices (cmd ∷ []) in omega arith;
        answered = let was = is.counted.answered in let outs = length-append s.node.notices (cmd ∷ []) in omega arith;
        pay_ins = let few = paid_in-room in let ins = length-append s.node.pay_ins (record { member = member; amt = amt } ∷ []) in omega arith;
        orders = is.counted.orders;
      };
      payments = record {
        pay_ins = each-append (λ (p : PayIn). IsPayment s.setup p.member p.amt) s.node.pay_ins (record { member = member; amt = amt } ∷ []) is.payments.pay_ins
            (record { known = paid_in-known; small = not-false (is_amount amt) (passed (pay_in_checks s.setup f s.ccy s.node member amt) none).1.0 }, tt);
        pay_outs = is.payments.pay_outs;
      };
      accounts = accounts-paid_in s.setup s.ccy s.node bank members is.accounts member amt paid_in-known (s.node.notices ++ cmd ∷ []) paid_in-covered;
      known = is.known;
      room = is.room;
    }

  module _ (f : ℕ) (o : PaymentOrder) (none : first_fault (order_checks s.setup f s.ccy s.node o) ≡ None) where
    pub order-known : has_member s.setup o.member ≡ true
    order-known = not-false (has_member s.setup o.member) (passed (order_checks s.setup f s.ccy s.node o) none).0

    order-amount : is_amount o.amt ≡ true
    order-amount = not-false (is_amount o.amt) (passed (order_checks s.setup f s.ccy s.node o) none).1.0

    pub order-small : o.amt ≤ most_amount
    order-small = amount-small o.amt order-amount

    pub order-room : length s.node.pay_outs + length s.node.returned < 65535
    order-room = leb-false 65535 (length s.node.pay_outs + length s.node.returned) (passed (order_checks s.setup f s.ccy s.node o) none).1.1.0

    -- the amount goes from the bank's account to the member's
    pub IsKeptNode-paid_out : (cmd : Cmd) (now : List ℕ) → ((n : ℕ) → list_any (λ k. n == k) now ≡ ((n == o.out) || list_any (λ k. n == k) known))
        → o.amt ≤ bank
        → IsKeptNode (record s { node = record s.node { pay_outs = s.node.pay_outs ++ o ∷ []; notices = s.node.notices ++ cmd ∷ [] } })
        (bank - o.amt) (slice_set members (o.member - 1) (slice_index_or members (o.member - 1) 0 + o.amt)) now room
    IsKeptNode-paid_out cmd now knows enough = record {
      valid = is.valid;
      currency = is.currency;
      counted = record {
        notices = let was = is.counted.notices in let orders = length-append s.node.pay_outs (o ∷ []) in let outs = length-append s.node.notices (cmd ∷ []) in
            omega arith;
        answered = let was = is.counted.answered in let outs = length-append s.node.notices (cmd ∷ []) in omega arith;
        pay_ins = is.counted.pay_ins;
        orders = let few = order-room in let orders = length-append s.node.pay_outs (o ∷ []) in omega arith;
      };
      payments = record {
        pay_ins = is.payments.pay_ins;
        pay_outs =
            each-append (λ (p : PaymentOrder). IsPayment s.setup p.member p.amt) s.node.pay_outs (o ∷ []) is.payments.pay_outs
            (record { known = order-known; small = order-amount }, tt);
      };
      accounts = accounts-paid_out s.setup s.ccy s.node bank members is.accounts o.member o.amt order-known o.ccy o.out (s.node.notices ++ cmd ∷ []) enough;
      known = λ n. knows n ∙ ap (λ b. (n == o.out) || b) (is.known n) ∙ sym (known-done s.node o n);
      room = is.room;
    }

    -- the order is returned, and no money moves
    pub IsKeptNode-given_back : (cmd : Cmd) (now : List ℕ) → ((n : ℕ) → list_any (λ k. n == k) now ≡ ((n == o.out) || list_any (λ k. n == k) known))
        → IsKeptNode (record s { node = record s.node { returned = s.node.returned ++ o ∷ []; notices = s.node.notices ++ cmd ∷ [] } }) bank members now room
    IsKeptNode-given_back cmd now knows = record {
      valid = is.valid;
      currency = is.currency;
      counted = record {
        notices = let was = is.counted.notices in let orders = length-append s.node.returned (o ∷ []) in let outs = length-append s.node.notices (cmd ∷ []) in
            omega arith;
        answered = let was = is.counted.answered in let outs = length-append s.node.notices (cmd ∷ []) in omega arith;
        pay_ins = is.counted.pay_ins;
        orders = let few = order-room in let orders = length-append s.node.returned (o ∷ []) in omega arith;
      };
      payments = record { pay_ins = is.payments.pay_ins; pay_outs = is.payments.pay_outs };
      accounts = record { bank = is.accounts.bank; count = is.accounts.count; members = is.accounts.members };
      known = λ n. knows n ∙ ap (λ b. (n == o.out) || b) (is.known n) ∙ sym (known-returned s.node o n);
      room = is.room;
    }

  -- an account that is open has room on the list of closed ones
  module _ (m : ℕ) (mine : has_member s.setup m ≡ true) (is_open : is_closed s.node m ≡ false) where
    one-less : count_open (s.node.closed ++ m ∷ []) 1 (length s.setup.members) + 1 ≡ open_accounts s.setup s.node
    one-less = let at = is-member s.setup m mine in closes-one s.node.closed m 1 (length s.setup.members) (omega arith) (omega arith) is_open

    pub closed-room : length s.node.closed < room
    closed-room = let less = one-less in let was = is.room in omega arith

    pub IsKeptNode-closed : (now : ℕ) → room ≤ now → IsKeptNode (record s { node = record s.node { closed = s.node.closed ++ m ∷ [] } }) bank members known now
    IsKeptNode-closed now grown = record {
      valid = is.valid;
      currency = is.currency;
      counted = record { notices = is.counted.notices; answered = is.counted.answered; pay_ins = is.counted.pay_ins; orders = is.counted.orders };
      payments = record { pay_ins = is.payments.pay_ins; pay_outs = is.payments.pay_outs };
      accounts = record { bank = is.accounts.bank; count = is.accounts.count; members = is.accounts.members };
      known = is.known;
      room = let less = one-less in let was = is.room in let more = length-append s.node.closed (m ∷ []) in omega arith;
    }

  -- the notice that was out is answered
  pub IsKeptNode-answered : s.node.answered < length s.node.notices
      → IsKeptNode (record s { node = record s.node { answered = s.node.answered + 1 } }) bank members known room
  IsKeptNode-answered more = record {
    valid = is.valid;
    currency = is.currency;
    counted = record { notices = is.counted.notices; answered = omega arith; pay_ins = is.counted.pay_ins; orders = is.counted.orders };
    payments = record { pay_ins = is.payments.pay_ins; pay_outs = is.payments.pay_outs };
    accounts = record { bank = is.accounts.bank; count = is.accounts.count; members = is.accounts.members };
    known = is.known;
    room = is.room;
  }

  pub notices-few : length s.node.notices ≤ 131070
  notices-few = let all = is.counted.notices in let ins = is.counted.pay_ins in let orders = is.counted.orders in omega arith

-- a new node holds what was deposited
pub IsKeptNode-opening : (setup : Setup) (c room : ℕ) → IsValid setup → c < length setup.currencies → length setup.members ≤ room
    → IsKeptNode (record { setup = setup; ccy = c; node = opening_node }) 0 (map (λ (m : Member). slice_index_or m.deposit c 0) setup.members) [] room
IsKeptNode-opening setup c room valid known enough = record {
  valid = valid;
  currency = known;
  counted = record { notices = refl; answered = omega arith; pay_ins = omega arith; orders = omega arith };
  payments = record { pay_ins = tt; pay_outs = tt };
  accounts = record { bank = refl; count = length-map setup.members (λ (m : Member). slice_index_or m.deposit c 0); members = λ m mine. opening m };
  known = λ n. refl;
  room = all-open (range_with_len 1 (length setup.members)) (length-range_with_len 1 (length setup.members));
}
  where
    by : (ms : List Member) (i : ℕ)
        → slice_index_or (map (λ (m : Member). slice_index_or m.deposit c 0) ms) i 0 + 0
        ≡ option_map_or (λ (m : Member). slice_index_or m.deposit c 0) (slice_get ms i) 0 + 0
    by [] i = refl
    by (m ∷ ms) zero = refl
    by (m ∷ ms) (suc i) = by ms i

    opening : (m : ℕ) → slice_index_or (map (λ (k : Member). slice_index_or k.deposit c 0) setup.members) (m - 1) 0 + 0 ≡ deposit setup c m + 0
    opening m = by setup.members (m - 1)

    all-open : (ms : List ℕ) → length ms ≡ length setup.members → 0 + count_by (λ (m : ℕ). true) ms ≤ room
    all-open ms count = let each = count_by-le-length (λ (m : ℕ). true) ms in omega arith
