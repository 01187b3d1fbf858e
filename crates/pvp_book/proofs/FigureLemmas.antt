-- Legs and figures: what settled pairs bring is what they take.
use Rattle.std.proofs.Common.{◌≡◌, ℕ, suc, zero, ◌+◌, ◌≤◌, Bool, true, false, cond, List, [], ◌∷◌, ◌++◌, length, map, fold, arith, refl, ap, sym, subst, ◌∙◌, sum_by, ℤ, pos, ◌+ℤ◌, ◌-ℤ◌, ◌≤ℤ◌, neg_ℤ, add-one, eqb-true}
use Rattle.std.specs.Prelude.{◌&&◌, ◌||◌, ◌==◌, if◌then◌else◌, int_lt, Some, None}
use Rattle.std.specs.List.{flat_map, cons_option, AllByRecursion}
use Rattle.std.proofs.lemmas.Int.{ints}
use Rattle.std.proofs.lemmas.Bool.{and_parts, ne_eqb, eq-eqb}
use Rattle.std.proofs.lemmas.List.Sums.{sum_by-cons, sum_by-append, fold-append}
use Rattle.std.proofs.lemmas.List.Folds.{list_any-append}
use Rattle.std.proofs.lemmas.List.Elements.{filter-append, filter_map-append}
use Rattle.pvp_types.specs.declared.setup.Setup.{Setup}
use Rattle.pvp_types.specs.declared.command.Cmd.{Cmd}
use Rattle.pvp_types.specs.declared.command.Cmd.TheVariants.{Fund, PayOut}
use Rattle.pvp_types.specs.declared.command.PayOrder.{PayOrder}
use Rattle.pvp_types.specs.declared.command.Reply.{Reply}
use Rattle.pvp_types.specs.declared.command.Reply.TheVariants.{Done, Order}
use Rattle.pvp_book.specs.declared.entry.Entry.{Entry}
use Rattle.pvp_book.specs.declared.pair.Pair.{Pair}
use Rattle.pvp_book.specs.Accounts.{paid_in_to, paid_out_of, pay_ins, pay_outs, amount_returned, amount_bought, amount_sold, amount_received, amount_given, balance_with}
use Rattle.pvp_book.specs.Settlement.{settled_pairs}
use Rattle.pvp_book.specs.Ledger.{figure, sum_of_balances}
use Rattle.pvp_book.specs.Orders.{order_by, orders, is_return, has_return}
use Rattle.pvp_book.specs.Answer.{Row, answer, is_refusal, on_fund, on_pay_out, has_member, has_currency, fund_checks, pay_out_checks, book_of}
use Rattle.pvp_book.specs.Laws.{Leg, legs, legs_at, sum_of_legs, IsExchange, IsEven, pay_in_amount, pay_out_amount, funds, all_paid_out, all_returned, IsCovered}
use Rattle.pvp_book.proofs.LedgerLemmas.{sum-le, sum_of_balances-more}
use Rattle.pvp_book.proofs.Reached.{entry_of, reached}
use Rattle.pvp_book.proofs.Checks.{passed, is-so}
use Rattle.pvp_book.proofs.Counts.{each-append}
use Rattle.pvp_book.proofs.Members.{upto, upto-add, upto-none, upto-sum, pick, is-member}
use Rattle.pvp_book.proofs.SoundLemmas.{IsSoundBook, IsSoundBook-push, sound, each-settled}

legs-append : (xs ys : List Leg) → sum_of_legs (xs ++ ys) ≡ sum_of_legs xs +ℤ sum_of_legs ys
legs-append xs ys =
    ap (fold ◌+ℤ◌ (pos 0)) (maps xs ys) ∙ fold-append ◌+ℤ◌ (pos 0) (amounts xs) (amounts ys) ∙ folded (fold ◌+ℤ◌ (pos 0) (amounts xs)) (amounts ys)
  where
    amounts : List Leg → List ℤ
    amounts some = map (λ (leg : Leg). leg.amt) some

    maps : (xs ys : List Leg) → map (λ (leg : Leg). leg.amt) (xs ++ ys) ≡ map (λ (leg : Leg). leg.amt) xs ++ map (λ (leg : Leg). leg.amt) ys
    maps [] ys = refl
    maps (x ∷ xs) ys = ap (λ zs. x.amt ∷ zs) (maps xs ys)

    folded : (a : ℤ) (zs : List ℤ) → fold ◌+ℤ◌ a zs ≡ a +ℤ fold ◌+ℤ◌ (pos 0) zs
    folded a [] = omega (arith, ints)
    folded a (z ∷ zs) =
        let left = folded (a +ℤ z) zs in
        let right = folded (pos 0 +ℤ z) zs in
        omega (arith, ints)

-- a pair's legs at a member and a currency are what the member buys there less what it sells
legs-of-pair : (m c : ℕ) (p : Pair) → sum_of_legs (legs_at m c (legs p)) ≡ pos (amount_bought m c p) -ℤ pos (amount_sold m c p)
legs-of-pair m c p = by (p.first == m) (p.second == m) (p.sell == c) (p.buy == c)
  where
    one : (b : Bool) (leg : Leg) (some : List Leg) → sum_of_legs (cond b (leg ∷ some) some) ≡ (if b then leg.amt else pos 0) +ℤ sum_of_legs some
    one true leg some = legs-append (leg ∷ []) some ∙ ap (λ z. z +ℤ sum_of_legs some) (omega (arith, ints))
    one false leg some = omega (arith, ints)

    by : (first second sell buy : Bool)
        → sum_of_legs (cond (first && sell) (record { member = p.first; ccy = p.sell; amt = neg_ℤ (pos p.sell_amt) }
        ∷ cond (second && sell) (record { member = p.second; ccy = p.sell; amt = pos p.sell_amt }
        ∷ cond (second && buy) (record { member = p.second; ccy = p.buy; amt = neg_ℤ (pos p.buy_amt) }
        ∷ cond (first && buy) (record { member = p.first; ccy = p.buy; amt = pos p.buy_amt } ∷ []) [])
        (cond (first && buy) (record { member = p.first; ccy = p.buy; amt = pos p.buy_amt } ∷ []) []))
        (cond (second && buy) (record { member = p.second; ccy = p.buy; amt = neg_ℤ (pos p.buy_amt) }
        ∷ cond (first && buy) (record { member = p.first; ccy = p.buy; amt = pos p.buy_amt } ∷ []) [])
        (cond (first && buy) (record { member = p.first; ccy = p.buy; amt = pos p.buy_amt } ∷ []) [])))
        (cond (second && sell) (record { member = p.second; ccy = p.sell; amt = pos p.sell_amt }
        ∷ cond (second && buy) (record { member = p.second; ccy = p.buy; amt = neg_ℤ (pos p.buy_amt) }
        ∷ cond (first && buy) (record { member = p.first; ccy = p.buy; amt = pos p.buy_amt } ∷ []) [])
        (cond (first && buy) (record { member = p.first; ccy = p.buy; amt = pos p.buy_amt } ∷ []) []))
        (cond (second && buy) (record { member = p.second; ccy = p.buy; amt = neg_ℤ (pos p.buy_amt) }
        ∷ cond (first && buy) (record { member = p.first; ccy = p.buy; amt = pos p.buy_amt } ∷ []) [])
        (cond (first && buy) (record { member = p.first; ccy = p.buy; amt = pos p.buy_amt } ∷ []) []))))
        ≡ pos ((if first && buy then p.buy_amt else 0) + (if second && sell then p.sell_amt else 0))
        -ℤ pos ((if first && sell then p.sell_amt else 0) + (if second && buy then p.buy_amt else 0))
    by true true true true = omega (arith, ints)
    by true true true false = omega (arith, ints)
    by true true false true = omega (arith, ints)
    by true true false false = omega (arith, ints)
    by true false true true = omega (arith, ints)
    by true false true false = omega (arith, ints)
    by true false false true = omega (arith, ints)
    by true false false false = omega (arith, ints)
    by false true true true = omega (arith, ints)
    by false true true false = omega (arith, ints)
    by false true false true = omega (arith, ints)
    by false true false false = omega (arith, ints)
    by false false true true = omega (arith, ints)
    by false false true false = omega (arith, ints)
    by false false false true = omega (arith, ints)
    by false false false false = omega (arith, ints)

-- and so for all legs of some pairs
pub legs-of-pairs : (m c : ℕ) (ps : List Pair)
    → sum_of_legs (legs_at m c (flat_map legs ps)) ≡ pos (sum_by (amount_bought m c) ps) -ℤ pos (sum_by (amount_sold m c) ps)
legs-of-pairs m c [] = omega (arith, ints)
legs-of-pairs m c (p ∷ ps) =
    let split = filter-append (λ (leg : Leg). (leg.member == m) && (leg.ccy == c)) (legs p) (flat_map legs ps) in
    let both = ap sum_of_legs split ∙ legs-append (legs_at m c (legs p)) (legs_at m c (flat_map legs ps)) in
    let here = legs-of-pair m c p in
    let rest = legs-of-pairs m c ps in
    let came = sum_by-cons (amount_bought m c) p ps in
    let went = sum_by-cons (amount_sold m c) p ps in
    both ∙ omega (arith, ints, here, rest, came, went)

-- what all members buy by a pair is what they sell
even-pair : (setup : Setup) (c : ℕ) (p : Pair) → IsExchange setup p
    → upto (λ m. amount_bought m c p) (length setup.members) ≡ upto (λ m. amount_sold m c p) (length setup.members)
even-pair setup c p is =
    let n = length setup.members in
    let first = is-member setup p.first is.first in
    let second = is-member setup p.second is.second in
    let buys = upto-add (λ m. if (p.first == m) && (p.buy == c) then p.buy_amt else 0) (λ m. if (p.second == m) && (p.sell == c) then p.sell_amt else 0) n in
    let sells = upto-add (λ m. if (p.first == m) && (p.sell == c) then p.sell_amt else 0) (λ m. if (p.second == m) && (p.buy == c) then p.buy_amt else 0) n in
    let first_buys = pick p.first p.buy_amt (p.buy == c) n first.0 first.1 in
    let second_buys = pick p.second p.sell_amt (p.sell == c) n second.0 second.1 in
    let first_sells = pick p.first p.sell_amt (p.sell == c) n first.0 first.1 in
    let second_sells = pick p.second p.buy_amt (p.buy == c) n second.0 second.1 in
    omega arith

even-pairs : (setup : Setup) (c : ℕ) (ps : List Pair) → AllByRecursion (IsExchange setup) ps
    → upto (λ m. sum_by (amount_bought m c) ps) (length setup.members) ≡ upto (λ m. sum_by (amount_sold m c) ps) (length setup.members)
even-pairs setup c ps all =
    upto-sum (λ m p. amount_bought m c p) ps (length setup.members) ∙ each ps all ∙ sym (upto-sum (λ m p. amount_sold m c p) ps (length setup.members))
  where
    each : (qs : List Pair) → AllByRecursion (IsExchange setup) qs
        → sum_by (λ p. upto (λ m. amount_bought m c p) (length setup.members)) qs ≡ sum_by (λ p. upto (λ m. amount_sold m c p) (length setup.members)) qs
    each [] all = refl
    each (q ∷ qs) all =
        let here = even-pair setup c q all.0 in
        let rest = each qs all.1 in
        let left = sum_by-cons (λ p. upto (λ m. amount_bought m c p) (length setup.members)) q qs in
        let right = sum_by-cons (λ p. upto (λ m. amount_sold m c p) (length setup.members)) q qs in
        omega arith

-- a pay-in is for a member, and a pay-out is one's
IsOfMember : Setup → Entry → Type 0
IsOfMember setup e = (c : ℕ) → (upto (λ m. paid_in_to m c e.cmd) (length setup.members) ≡ pay_in_amount c e.cmd)
    × (upto (λ m. paid_out_of m c e.client e.cmd) (length setup.members) ≡ pay_out_amount c e.cmd)

all-funds : (setup : Setup) (c : ℕ) (entries : List Entry) → AllByRecursion (IsOfMember setup) entries
    → (upto (λ m. pay_ins entries m c) (length setup.members) ≡ funds entries c)
    × (upto (λ m. pay_outs entries m c) (length setup.members) ≡ all_paid_out entries c)
unfolding IsOfMember
all-funds setup c entries all = (
  upto-sum (λ m (e : Entry). paid_in_to m c e.cmd) entries (length setup.members) ∙ (each entries all).0,
  upto-sum (λ m (e : Entry). paid_out_of m c e.client e.cmd) entries (length setup.members) ∙ (each entries all).1,
)
  where
    each : (es : List Entry) → AllByRecursion (IsOfMember setup) es
        → (sum_by (λ (e : Entry). upto (λ m. paid_in_to m c e.cmd) (length setup.members)) es ≡ funds es c)
        × (sum_by (λ (e : Entry). upto (λ m. paid_out_of m c e.client e.cmd) (length setup.members)) es ≡ all_paid_out es c)
    each [] all = (refl, refl)
    each (e ∷ es) all =
        let here = all.0 c in
        let rest = each es all.1 in
        let ins = sum_by-cons (λ (x : Entry). upto (λ m. paid_in_to m c x.cmd) (length setup.members)) e es in
        let outs = sum_by-cons (λ (x : Entry). upto (λ m. paid_out_of m c x.client x.cmd) (length setup.members)) e es in
        let all_ins = sum_by-cons (λ (x : Entry). pay_in_amount c x.cmd) e es in
        let all_outs = sum_by-cons (λ (x : Entry). pay_out_amount c x.cmd) e es in
        let first = here.0 in
        let second = here.1 in
        let rest_ins = rest.0 in
        let rest_outs = rest.1 in
        (omega arith, omega arith)

-- an order is a member's
IsMembers : Setup → PayOrder → Type 0
IsMembers setup o = has_member setup o.member ≡ true

all-returns : (setup : Setup) (c : ℕ) (entries : List Entry) → AllByRecursion (IsMembers setup) (orders entries c)
    → upto (λ m. amount_returned entries m c) (length setup.members) ≡ all_returned entries c
unfolding IsMembers
all-returns setup c entries all =
    upto-sum (λ m (o : PayOrder). if (o.member == m) && has_return entries c o.out then o.amt else 0) (orders entries c) (length setup.members)
    ∙ each (orders entries c) all
  where
    each : (os : List PayOrder) → AllByRecursion (IsMembers setup) os
        → sum_by (λ (o : PayOrder). upto (λ m. if (o.member == m) && has_return entries c o.out then o.amt else 0) (length setup.members)) os
        ≡ sum_by (λ (o : PayOrder). if has_return entries c o.out then o.amt else 0) os
    each [] all = refl
    each (o ∷ os) all =
        let known = is-member setup o.member all.0 in
        let here = pick o.member o.amt (has_return entries c o.out) (length setup.members) known.0 known.1 in
        let rest = each os all.1 in
        let left = sum_by-cons (λ (p : PayOrder). upto (λ m. if (p.member == m) && has_return entries c p.out then p.amt else 0) (length setup.members)) o os in
        let right = sum_by-cons (λ (p : PayOrder). if has_return entries c p.out then p.amt else 0) o os in
        omega arith

-- the balances of the first members, added up
balances-upto : (entries : List Entry) (done : List Pair) (c n : ℕ)
    → sum_of_balances n entries done c ≡ pos (upto (λ m. amount_received entries done m c) n) -ℤ pos (upto (λ m. amount_given entries done m c) n)
unfolding upto
balances-upto entries done c zero = refl
balances-upto entries done c (suc n) =
    let rest = balances-upto entries done c n in
    let more = sum_of_balances-more entries done n c in
    ap (λ k. sum_of_balances k entries done c) (sym (add-one n)) ∙ more ∙ ap (λ z. z +ℤ balance_with entries done (n + 1) c) rest
    ∙ ap (λ k. (pos (upto (λ m. amount_received entries done m c) n) -ℤ pos (upto (λ m. amount_given entries done m c) n)) +ℤ balance_with entries done k c)
    (add-one n)
    ∙ joined (upto (λ m. amount_received entries done m c) n) (upto (λ m. amount_given entries done m c) n) (amount_received entries done (suc n) c)
    (amount_given entries done (suc n) c)
  where
    joined : (a b x y : ℕ) → (pos a -ℤ pos b) +ℤ (pos x -ℤ pos y) ≡ pos (a + x) -ℤ pos (b + y)
    joined a b x y = omega (arith, ints)

-- the figure is what was paid in less what was paid out, with what was returned
figure-is : (setup : Setup) (entries : List Entry) (c : ℕ) → AllByRecursion (IsExchange setup) (settled_pairs setup entries)
    → AllByRecursion (IsOfMember setup) entries
    → AllByRecursion (IsMembers setup) (orders entries c)
    → figure setup entries c ≡ (pos (funds entries c) -ℤ pos (all_paid_out entries c)) +ℤ pos (all_returned entries c)
figure-is setup entries c pairs_are all theirs =
    let n = length setup.members in
    let done = settled_pairs setup entries in
    let back = all-returns setup c entries theirs in
    let came = upto-add (λ m. pay_ins entries m c) (λ m. amount_returned entries m c) n in
    let ins = upto-add (λ m. pay_ins entries m c + amount_returned entries m c) (λ m. sum_by (amount_bought m c) done) n in
    let outs = upto-add (λ m. pay_outs entries m c) (λ m. sum_by (amount_sold m c) done) n in
    let even = even-pairs setup c done pairs_are in
    let sums = all-funds setup c entries all in
    let funds_are = sums.0 in
    let outs_are = sums.1 in
    balances-upto entries done c n
    ∙ difference (upto (λ m. amount_received entries done m c) n) (upto (λ m. amount_given entries done m c) n) (funds entries c)
    (all_returned entries c) (all_paid_out entries c)
    (upto (λ m. sum_by (amount_bought m c) done) n) (omega arith) (omega arith)
  where
    difference : (a b x r y z : ℕ) → a ≡ (x + r) + z → b ≡ y + z → pos a -ℤ pos b ≡ (pos x -ℤ pos y) +ℤ pos r
    difference a b x r y z left right = omega (arith, ints)

pub fund-member : (setup : Setup) (entries : List Entry) (client c pay member amt : ℕ)
    → is_refusal (on_fund setup entries client c pay member amt) ≡ false → has_member setup member ≡ true
fund-member setup entries client c pay member amt e =
    (and_parts (has_currency setup c) (has_member setup member) (is-so _ (passed (fund_checks setup entries client c pay member amt) Done e).1.0)).1

-- a pay-out is a member's, and no more than the figure
pub pay_out-member : (setup : Setup) (entries : List Entry) (client c amt : ℕ)
    → is_refusal (on_pay_out setup entries client c amt) ≡ false → (has_member setup client ≡ true) × (int_lt (figure setup entries c) (pos amt) ≡ false)
pay_out-member setup entries client c amt e =
    let t = passed (pay_out_checks setup entries client c amt) (Order (length (orders entries c) + 1)) e in (is-so _ t.1.0, t.1.1.1.1.1.1.0)

of-member : (setup : Setup) (entries : List Entry) (client : ℕ) (cmd : Cmd) → is_refusal (answer setup entries client cmd) ≡ false
    → IsOfMember setup (entry_of setup entries client cmd)
unfolding answer IsOfMember
of-member setup entries client (Fund ccy pay member amt) accepted c =
    let known = is-member setup member (fund-member setup entries client ccy pay member amt accepted) in
    (pick member amt (ccy == c) (length setup.members) known.0 known.1, upto-none (length setup.members))
of-member setup entries client (PayOut ccy amt) accepted c =
    let known = is-member setup client (pay_out-member setup entries client ccy amt accepted).0 in
    (upto-none (length setup.members), pick client amt (ccy == c) (length setup.members) known.0 known.1)
of-member setup entries client _ accepted c = (upto-none (length setup.members), upto-none (length setup.members))

-- what a command pays out is covered by what is left
covers : (setup : Setup) (entries : List Entry) (client : ℕ) (cmd : Cmd) (c : ℕ) → is_refusal (answer setup entries client cmd) ≡ false
    → ((d : ℕ) → figure setup entries d ≡ (pos (funds entries d) -ℤ pos (all_paid_out entries d)) +ℤ pos (all_returned entries d))
    → all_paid_out entries c ≤ funds entries c + all_returned entries c
    → all_paid_out entries c + pay_out_amount c cmd ≤ (funds entries c + pay_in_amount c cmd) + all_returned entries c
unfolding answer
covers setup entries client (PayOut ccy amt) c accepted figures held = by (ccy == c) refl
  where
    bound : ccy ≡ c → all_paid_out entries c + amt ≤ funds entries c + all_returned entries c
    bound same =
        let enough = (pay_out-member setup entries client ccy amt accepted).1 in
        let here = ap (λ d. int_lt (figure setup entries d) (pos amt)) (sym same) ∙ enough in
        difference (funds entries c) (all_returned entries c) (all_paid_out entries c) amt (ap (λ z. int_lt z (pos amt)) (sym (figures c)) ∙ here)
      where
        difference : (x r y z : ℕ) → int_lt ((pos x -ℤ pos y) +ℤ pos r) (pos z) ≡ false → y + z ≤ x + r
        difference x r y z e = grind (arith, ints)

    by : (b : Bool) → (ccy == c) ≡ b → all_paid_out entries c + (if b then amt else 0) ≤ (funds entries c + 0) + all_returned entries c
    by true same = let enough = bound (eqb-true ccy c same) in omega arith
    by false other = omega arith
covers setup entries client _ c accepted figures held = omega arith

-- orders are made by members
made-by : (setup : Setup) (c client ccy amt : ℕ) (reply : Reply) → has_member setup client ≡ true
    → AllByRecursion (IsMembers setup) (cons_option (order_by c client (PayOut ccy amt) reply) [])
unfolding IsMembers
made-by setup c client ccy amt (Order out) known = by (ccy == c)
  where
    by : (b : Bool)
        → AllByRecursion (λ (o : PayOrder). has_member setup o.member ≡ true)
        (cons_option (if b then Some (record { ccy = ccy; out = out; member = client; amt = amt }) else None) [])
    by true = (known, tt)
    by false = tt
made-by setup c client ccy amt _ known = tt

made-new : (setup : Setup) (entries : List Entry) (client : ℕ) (cmd : Cmd) (c : ℕ) → is_refusal (answer setup entries client cmd) ≡ false
    → AllByRecursion (IsMembers setup) (cons_option (order_by c client cmd (answer setup entries client cmd)) [])
unfolding answer
made-new setup entries client (PayOut ccy amt) c accepted =
    made-by setup c client ccy amt (on_pay_out setup entries client ccy amt) (pay_out-member setup entries client ccy amt accepted).0
made-new setup entries client _ c accepted = tt

made-more : (setup : Setup) (entries : List Entry) (client : ℕ) (cmd : Cmd) (c : ℕ) → is_refusal (answer setup entries client cmd) ≡ false
    → AllByRecursion (IsMembers setup) (orders entries c) → AllByRecursion (IsMembers setup) (orders (entries ++ entry_of setup entries client cmd ∷ []) c)
made-more setup entries client cmd c accepted held =
    subst (AllByRecursion (IsMembers setup))
    (sym (filter_map-append (λ (e : Entry). order_by c e.client e.cmd e.reply) entries (entry_of setup entries client cmd ∷ [])))
    (each-append (IsMembers setup) (orders entries c) (orders (entry_of setup entries client cmd ∷ []) c) held (made-new setup entries client cmd c accepted))

-- what is returned stays returned
pub returns-more : (entries more : List Entry) (c : ℕ) → all_returned entries c ≤ all_returned (entries ++ more) c
returns-more entries more c =
    let longer = entries ++ more in
    let os = filter_map-append (λ (e : Entry). order_by c e.client e.cmd e.reply) entries more in
    let all = ap (λ (l : List PayOrder). sum_by (λ (o : PayOrder). if has_return longer c o.out then o.amt else 0) l) os in
    let parts = sum_by-append (λ (o : PayOrder). if has_return longer c o.out then o.amt else 0) (orders entries c) (orders more c) in
    let low = sum-le (λ (o : PayOrder). if has_return entries c o.out then o.amt else 0) (λ (o : PayOrder). if has_return longer c o.out then o.amt else 0)
    (λ o. by (has_return entries c o.out) (has_return more c o.out) (has_return longer c o.out) o.amt
    (list_any-append (λ (e : Entry). is_return c o.out e.cmd) entries more)) (orders entries c) in
    omega arith
  where
    by : (a b both : Bool) (amt : ℕ) → both ≡ (a || b) → (if a then amt else 0) ≤ (if both then amt else 0)
    by true b true amt e = omega arith
    by true b false amt e = absurd (cc e)
    by false b both amt e = omega arith

record IsCoveredSoFar (setup : Setup) (entries : List Entry) : Type 0 where
  sums : IsSoundBook setup entries
  members : AllByRecursion (IsOfMember setup) entries
  orders : (c : ℕ) → AllByRecursion (IsMembers setup) (orders entries c)
  covered : (c : ℕ) → all_paid_out entries c ≤ funds entries c + all_returned entries c

covered-step : (setup : Setup) (entries : List Entry) (client : ℕ) (cmd : Cmd) → IsCoveredSoFar setup entries
    → is_refusal (answer setup entries client cmd) ≡ false
    → (c : ℕ) → all_paid_out (entries ++ entry_of setup entries client cmd ∷ []) c
    ≤ funds (entries ++ entry_of setup entries client cmd ∷ []) c + all_returned (entries ++ entry_of setup entries client cmd ∷ []) c
covered-step setup entries client cmd held accepted c =
    let e = entry_of setup entries client cmd in
    let here = covers setup entries client cmd c accepted
    (λ d. figure-is setup entries d (each-settled (IsExchange setup) setup entries held.sums.exchange) held.members (held.orders d)) (held.covered c) in
    let back = returns-more entries (e ∷ []) c in
    let ins = sum_by-append (λ (x : Entry). pay_in_amount c x.cmd) entries (e ∷ []) in
    let outs = sum_by-append (λ (x : Entry). pay_out_amount c x.cmd) entries (e ∷ []) in
    let one_in = sum_by-cons (λ (x : Entry). pay_in_amount c x.cmd) e [] in
    let one_out = sum_by-cons (λ (x : Entry). pay_out_amount c x.cmd) e [] in
    omega arith

covered-so-far : (setup : Setup) (history : List Row) → IsCoveredSoFar setup (book_of setup history)
covered-so-far setup history =
    reached setup (IsCoveredSoFar setup)
    (record { sums = sound setup []; members = tt; orders = λ c. tt; covered = λ c. omega arith })
    (λ entries client cmd held accepted. record {
      sums = IsSoundBook-push setup entries client cmd held.sums accepted;
      members = each-append (IsOfMember setup) entries (entry_of setup entries client cmd ∷ []) held.members (of-member setup entries client cmd accepted, tt);
      orders = λ c. made-more setup entries client cmd c accepted (held.orders c);
      covered = covered-step setup entries client cmd held accepted;
    }) history

pub orders-of-members : (setup : Setup) (history : List Row) (c : ℕ)
    → AllByRecursion (λ (o : PayOrder). has_member setup o.member ≡ true) (orders (book_of setup history) c)
unfolding IsMembers
orders-of-members setup history c = (covered-so-far setup history).orders c

pub is-covered : (setup : Setup) (c : ℕ) (history : List Row) → IsCovered setup (book_of setup history) c
is-covered setup c history =
    let entries = book_of setup history in
    let held = covered-so-far setup history in
    let is = figure-is setup entries c (each-settled (IsExchange setup) setup entries held.sums.exchange) held.members (held.orders c) in
    record {
      difference = is;
      covered = subst (λ z. pos 0 ≤ℤ z) (sym is) (positive (funds entries c) (all_returned entries c) (all_paid_out entries c) (held.covered c));
    }
  where
    positive : (x r y : ℕ) → y ≤ x + r → pos 0 ≤ℤ ((pos x -ℤ pos y) +ℤ pos r)
    positive x r y h = omega (arith, ints)

-- a pair's legs in each of its currencies
pub even-legs : (setup : Setup) (p : Pair) → IsExchange setup p → IsEven p
even-legs setup p is = record {
  sell = ap (λ b. length (those p.sell b (p.buy == p.sell))) (eq-eqb p.sell p.sell refl)
      ∙ ap (λ b. length (those p.sell true b)) (ne_eqb p.buy p.sell (λ e. is.currencies (sym e)));
  buy =
      ap (λ b. length (those p.buy b (p.buy == p.buy))) (ne_eqb p.sell p.buy is.currencies) ∙ ap (λ b. length (those p.buy false b)) (eq-eqb p.buy p.buy refl);
  zero = λ c. by c (p.sell == c) (p.buy == c);
}
  where
    those : ℕ → Bool → Bool → List Leg
    those c sell buy =
        cond sell (record { member = p.first; ccy = p.sell; amt = neg_ℤ (pos p.sell_amt) }
        ∷ cond sell (record { member = p.second; ccy = p.sell; amt = pos p.sell_amt }
        ∷ cond buy (record { member = p.second; ccy = p.buy; amt = neg_ℤ (pos p.buy_amt) }
        ∷ cond buy (record { member = p.first; ccy = p.buy; amt = pos p.buy_amt } ∷ []) [])
        (cond buy (record { member = p.first; ccy = p.buy; amt = pos p.buy_amt } ∷ []) []))
        (cond buy (record { member = p.second; ccy = p.buy; amt = neg_ℤ (pos p.buy_amt) }
        ∷ cond buy (record { member = p.first; ccy = p.buy; amt = pos p.buy_amt } ∷ []) [])
        (cond buy (record { member = p.first; ccy = p.buy; amt = pos p.buy_amt } ∷ []) [])))
        (cond sell (record { member = p.second; ccy = p.sell; amt = pos p.sell_amt }
        ∷ cond buy (record { member = p.second; ccy = p.buy; amt = neg_ℤ (pos p.buy_amt) }
        ∷ cond buy (record { member = p.first; ccy = p.buy; amt = pos p.buy_amt } ∷ []) [])
        (cond buy (record { member = p.first; ccy = p.buy; amt = pos p.buy_amt } ∷ []) []))
        (cond buy (record { member = p.second; ccy = p.buy; amt = neg_ℤ (pos p.buy_amt) }
        ∷ cond buy (record { member = p.first; ccy = p.buy; amt = pos p.buy_amt } ∷ []) [])
        (cond buy (record { member = p.first; ccy = p.buy; amt = pos p.buy_amt } ∷ []) [])))

    by : (c : ℕ) (sell buy : Bool) → sum_of_legs (those c sell buy) ≡ pos 0
    by c true true = omega (arith, ints)
    by c true false = omega (arith, ints)
    by c false true = omega (arith, ints)
    by c false false = refl
