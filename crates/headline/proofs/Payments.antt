-- Pay-ins, orders and pay-outs as numbered amounts: what a book credits and orders, what a node has taken in and done.
use Rattle.std.proofs.Common.{◌≡◌, ◌⊎◌, inl, inr, ℕ, zero, suc, ◌+◌, ◌-◌, ◌<◌, ◌≤◌, ◌==◌, Bool, true, false, if◌then◌else◌, List, [], ◌∷◌, map, slice_get, Option, Some, None, refl, sym, ap, ◌∙◌, subst, arith, sum_by, count_by, eqb-true, true≢false, not}
use Rattle.std.specs.Prelude.{◌&&◌, ◌||◌, Contains}
use Rattle.std.specs.List.{cons_option, filter, filter_map, enumerate_from, range_with_len, list_any}
use Rattle.std.proofs.lemmas.List.Sums.{sum_by-cons}
use Rattle.pvp_types.specs.declared.setup.Setup.{Setup}
use Rattle.pvp_types.specs.declared.command.Cmd.{Cmd}
use Rattle.pvp_types.specs.declared.command.Cmd.TheVariants.{Fund, PayOut}
use Rattle.pvp_types.specs.declared.command.Reply.{Reply}
use Rattle.pvp_types.specs.declared.command.PayOrder.{PayOrder}
use Rattle.pvp_book.specs.declared.entry.Entry.{Entry}
use Rattle.pvp_book.specs.Ledger.{is_pay_in, has_pay_in}
use Rattle.pvp_book.specs.Orders.{order_by, orders, has_return}
use Rattle.pvp_book.specs.Answer.{has_order}
use Rattle.pvp_book.specs.Laws.{pay_in_amount, pay_out_amount, funds, all_paid_out, all_returned}
use Rattle.pvp_book.proofs.Counts.{count-cons}
use Rattle.vr_types.proofs.ChoosingPick.{Contains-here, Contains-there, Contains-cases, Contains-none}
use Rattle.rtgs_node.specs.Node.{Node, came_in, has_done}
use Rattle.rtgs_node.specs.declared.payment.PayIn.{PayIn}
use Rattle.headline.specs.Way.{not_credited, not_done, not_ordered}
use Rattle.headline.proofs.Basics.{none-some, some-same, map-has, filter_map-has}
use Rattle.headline.proofs.Amounts.{Amount, has, total, total_out, Once}
use Rattle.headline.proofs.Entries.{IsAccepted}

-- SUMS AND COUNTS OVER A MAP

sum-map : {A B : Type 0} (g : B → ℕ) (h : A → B) (xs : List A) → sum_by g (map h xs) ≡ sum_by (λ x. g (h x)) xs
sum-map g h [] = refl
sum-map {A} {B} g h (x ∷ xs) = sum_by-cons g (h x) (map h xs) ∙ ap (λ n. g (h x) + n) (sum-map g h xs) ∙ sym (sum_by-cons (λ (y : A). g (h y)) x xs)

sum-same : {A : Type 0} (g h : A → ℕ) → ((x : A) → g x ≡ h x) → (xs : List A) → sum_by g xs ≡ sum_by h xs
sum-same g h same [] = refl
sum-same g h same (x ∷ xs) = sum_by-cons g x xs ∙ ap (λ n. n + sum_by g xs) (same x) ∙ ap (λ n. h x + n) (sum-same g h same xs) ∙ sym (sum_by-cons h x xs)

abbrev bit : Bool → ℕ
bit b = if b then 1 else 0

-- THE NODE'S PAY-INS

abbrev paid_in : ℕ × PayIn → Amount
paid_in p = record { number = p.0; amt = p.1.amt }

abbrev pub taken_from : ℕ → List PayIn → List Amount
taken_from n ps = map paid_in (enumerate_from n ps)

abbrev pub taken_amounts : Node → List Amount
taken_amounts x = taken_from 1 x.pay_ins

taken-total : (n : ℕ) (ps : List PayIn) → total (taken_from n ps) ≡ sum_by (λ p. p.amt) ps
taken-total n [] = refl
taken-total n (p ∷ ps) =
    sum_by-cons (λ (a : Amount). a.amt) (paid_in (n, p)) (map paid_in (enumerate_from (n + 1) ps))
    ∙ ap (λ k. p.amt + k) (taken-total (n + 1) ps) ∙ sym (sum_by-cons (λ (q : PayIn). q.amt) p ps)

-- they are numbered from here on
taken-counts : (n : ℕ) (ps : List PayIn) (number : ℕ)
    → (count_by (λ (a : Amount). a.number == number) (taken_from n ps) ≤ 1) × (number < n → count_by (λ (a : Amount). a.number == number) (taken_from n ps) ≡ 0)
taken-counts n [] number = (omega arith, λ low. refl)
taken-counts n (p ∷ ps) number = by (n == number) refl (taken-counts (n + 1) ps number)
  where
    test : Amount → Bool
    test a = a.number == number

    by : (b : Bool) → (n == number) ≡ b
        → (count_by (λ (a : Amount). a.number == number) (taken_from (n + 1) ps) ≤ 1)
        × (number < n + 1 → count_by (λ (a : Amount). a.number == number) (taken_from (n + 1) ps) ≡ 0)
        → (count_by (λ (a : Amount). a.number == number) (taken_from n (p ∷ ps)) ≤ 1)
        × (number < n → count_by (λ (a : Amount). a.number == number) (taken_from n (p ∷ ps)) ≡ 0)
    by true is rest =
        let same : n ≡ number = eqb-true n number is in
        let more = count-cons (λ (a : Amount). a.number == number) (paid_in (n, p)) (taken_from (n + 1) ps) in
        let one : bit (n == number) ≡ 1 = ap bit is in
        let none = rest.1 (omega arith) in
        (omega arith, λ low. absurd (omega arith))
    by false is rest =
        let more = count-cons (λ (a : Amount). a.number == number) (paid_in (n, p)) (taken_from (n + 1) ps) in
        let zero : bit (n == number) ≡ 0 = ap bit is in
        let few = rest.0 in
        (omega arith, λ low. let none = rest.1 (omega arith) in omega arith)

pub taken-once : (x : Node) → Once (taken_amounts x)
taken-once x number = (taken-counts 1 x.pay_ins number).0

-- each number is the pay-in's place
taken-at : (n : ℕ) (ps : List PayIn) (a : Amount) → Contains (taken_from n ps) a
    → (p : PayIn) × (n ≤ a.number) × (slice_get ps (a.number - n) ≡ Some p) × (p.amt ≡ a.amt)
taken-at n [] a in' = absurd (Contains-none a in')
taken-at n (q ∷ ps) a in' = by (Contains-cases (paid_in (n, q)) a (taken_from (n + 1) ps) in') (taken-at (n + 1) ps a)
  where
    by : (paid_in (n, q) ≡ a) ⊎ Contains (taken_from (n + 1) ps) a
        → (Contains (taken_from (n + 1) ps) a → (p : PayIn) × (n + 1 ≤ a.number) × (slice_get ps (a.number - (n + 1)) ≡ Some p) × (p.amt ≡ a.amt))
        → (p : PayIn) × (n ≤ a.number) × (slice_get (q ∷ ps) (a.number - n) ≡ Some p) × (p.amt ≡ a.amt)
    by (inl same) rest =
        let number : n ≡ a.number = ap (λ (z : Amount). z.number) same in
        let place : a.number - n ≡ 0 = omega arith in
        (q, omega arith, ap (λ k. slice_get (q ∷ ps) k) place, ap (λ (z : Amount). z.amt) same)
    by (inr later) rest =
        let t = rest later in
        let low = t.1 in
        let place : a.number - n ≡ suc (a.number - (n + 1)) = omega arith in
        (t.0, omega arith, ap (λ k. slice_get (q ∷ ps) k) place ∙ t.2, t.3)

pub taken-is : (x : Node) (a : Amount) → Contains (taken_amounts x) a
    → (p : PayIn) × (1 ≤ a.number) × (slice_get x.pay_ins (a.number - 1) ≡ Some p) × (p.amt ≡ a.amt)
taken-is x a in' = taken-at 1 x.pay_ins a in'

taken-has : (n : ℕ) (ps : List PayIn) (i : ℕ) (p : PayIn) → slice_get ps i ≡ Some p → Contains (taken_from n ps) (record { number = n + i; amt = p.amt })
taken-has n [] i p at = absurd (none-some p at)
taken-has n (q ∷ ps) zero p at =
    let same : q ≡ p = some-same q p at in
    let number : n ≡ n + 0 = omega arith in
    subst (λ k. Contains (taken_from n (q ∷ ps)) (record { number = k; amt = p.amt })) number
    (subst (λ (z : PayIn). Contains (taken_from n (q ∷ ps)) (record { number = n; amt = z.amt })) same (Contains-here (paid_in (n, q)) (taken_from (n + 1) ps)))
taken-has n (q ∷ ps) (suc i) p at =
    let number : n + 1 + i ≡ n + suc i = omega arith in
    subst (λ k. Contains (taken_from n (q ∷ ps)) (record { number = k; amt = p.amt })) number
    (Contains-there (paid_in (n, q)) (record { number = n + 1 + i; amt = p.amt }) (taken_from (n + 1) ps) (taken-has (n + 1) ps i p at))

pub taken-in : (x : Node) (a : Amount) (member : ℕ) → 1 ≤ a.number → slice_get x.pay_ins (a.number - 1) ≡ Some (record { member = member; amt = a.amt })
    → Contains (taken_amounts x) a
taken-in x a member low at =
    let number : 1 + (a.number - 1) ≡ a.number = omega arith in
    subst (λ k. Contains (taken_amounts x) (record { number = k; amt = a.amt })) number
    (taken-has 1 x.pay_ins (a.number - 1) (record { member = member; amt = a.amt }) at)

-- WHAT A BOOK CREDITS

abbrev credit_of : ℕ → Cmd → Option Amount
credit_of c (Fund ccy pay member amt) = if ccy == c then Some (record { number = pay; amt = amt }) else None
credit_of c _ = None

abbrev pub credits : ℕ → List Entry → List Amount
credits c entries = filter_map (λ e. credit_of c e.cmd) entries

credits-parts : (c : ℕ) (cmd : Cmd) (rest : List Amount) (number : ℕ)
    → (total (cons_option (credit_of c cmd) rest) ≡ pay_in_amount c cmd + total rest)
    × (has (cons_option (credit_of c cmd) rest) number ≡ (is_pay_in c number cmd || has rest number))
    × (count_by (λ (a : Amount). a.number == number) (cons_option (credit_of c cmd) rest)
    ≡ bit (is_pay_in c number cmd) + count_by (λ (a : Amount). a.number == number) rest)
credits-parts c (Fund ccy pay member amt) rest number = by (ccy == c)
  where
    by : (b : Bool)
        → (total (cons_option (if b then Some (record { number = pay; amt = amt }) else None) rest) ≡ (if b then amt else 0) + total rest)
        × (has (cons_option (if b then Some (record { number = pay; amt = amt }) else None) rest) number ≡ ((b && (pay == number)) || has rest number))
        × (count_by (λ (a : Amount). a.number == number) (cons_option (if b then Some (record { number = pay; amt = amt }) else None) rest)
        ≡ bit (b && (pay == number)) + count_by (λ (a : Amount). a.number == number) rest)
    by true = (
      sum_by-cons (λ (a : Amount). a.amt) (record { number = pay; amt = amt }) rest,
      refl,
      count-cons (λ (a : Amount). a.number == number) (record { number = pay; amt = amt }) rest,
    )
    by false = (omega arith, refl, omega arith)
credits-parts c _ rest number = (omega arith, refl, omega arith)

pub credits-total : (c : ℕ) (entries : List Entry) → total (credits c entries) ≡ funds entries c
credits-total c [] = refl
credits-total c (e ∷ entries) =
    (credits-parts c e.cmd (credits c entries) 0).0 ∙ ap (λ n. pay_in_amount c e.cmd + n) (credits-total c entries)
    ∙ sym (sum_by-cons (λ (d : Entry). pay_in_amount c d.cmd) e entries)

pub credits-has : (c : ℕ) (entries : List Entry) (number : ℕ) → has (credits c entries) number ≡ has_pay_in entries c number
credits-has c [] number = refl
credits-has c (e ∷ entries) number =
    (credits-parts c e.cmd (credits c entries) number).1 ∙ ap (λ b. is_pay_in c number e.cmd || b) (credits-has c entries number)

credits-count : (c : ℕ) (entries : List Entry) (number : ℕ)
    → count_by (λ (a : Amount). a.number == number) (credits c entries) ≡ count_by (λ (e : Entry). is_pay_in c number e.cmd) entries
credits-count c [] number = refl
credits-count c (e ∷ entries) number =
    (credits-parts c e.cmd (credits c entries) number).2 ∙ ap (λ n. bit (is_pay_in c number e.cmd) + n) (credits-count c entries number)
    ∙ sym (count-cons (λ (d : Entry). is_pay_in c number d.cmd) e entries)

pub credits-once : (c : ℕ) (entries : List Entry) → ((number : ℕ) → count_by (λ (e : Entry). is_pay_in c number e.cmd) entries ≤ 1) → Once (credits c entries)
credits-once c entries once number = let h = credits-count c entries number in let k = once number in omega arith

credit-is : (c : ℕ) (cmd : Cmd) (a : Amount) → credit_of c cmd ≡ Some a → (member : ℕ) × (cmd ≡ Fund c a.number member a.amt)
credit-is c (Fund ccy pay member amt) a is = by (ccy == c) refl is
  where
    by : (b : Bool) → (ccy == c) ≡ b → (if b then Some (record { number = pay; amt = amt }) else None) ≡ Some a
        → (m : ℕ) × (Fund ccy pay member amt ≡ Fund c a.number m a.amt)
    by true same e =
        let one = some-same _ a e in
        (member, ap (λ d. Fund d pay member amt) (eqb-true ccy c same) ∙ ap (λ (z : Amount). Fund c z.number member z.amt) one)
    by false other e = absurd (none-some a e)
credit-is c _ a is = absurd (none-some a is)

pub credits-are : (c : ℕ) (entries : List Entry) (a : Amount) → Contains (credits c entries) a
    → (e : Entry) × Contains entries e × ((member : ℕ) × (e.cmd ≡ Fund c a.number member a.amt))
credits-are c entries a in' = let t = filter_map-has (λ (e : Entry). credit_of c e.cmd) entries a in' in (t.0, t.1, credit-is c t.0.cmd a t.2)

-- ORDERS, of a book or done by a node

abbrev ordered_amount : PayOrder → Amount
ordered_amount o = record { number = o.out; amt = o.amt }

abbrev pub made_amounts : List PayOrder → List Amount
made_amounts os = map ordered_amount os

pub made-total : (os : List PayOrder) → total (made_amounts os) ≡ sum_by (λ o. o.amt) os
made-total os = sum-map (λ (a : Amount). a.amt) ordered_amount os

pub made-has : (os : List PayOrder) (out : ℕ) → has (made_amounts os) out ≡ list_any (λ o. o.out == out) os
made-has [] out = refl
made-has (o ∷ os) out = ap (λ b. (o.out == out) || b) (made-has os out)

pub made-count : (os : List PayOrder) (out : ℕ) → count_by (λ (a : Amount). a.number == out) (made_amounts os) ≡ count_by (λ (o : PayOrder). o.out == out) os
made-count [] out = refl
made-count (o ∷ os) out =
    count-cons (λ (a : Amount). a.number == out) (ordered_amount o) (made_amounts os) ∙ ap (λ n. bit (o.out == out) + n) (made-count os out)
    ∙ sym (count-cons (λ (p : PayOrder). p.out == out) o os)

pub made-are : (os : List PayOrder) (a : Amount) → Contains (made_amounts os) a → (o : PayOrder) × Contains os o × (ordered_amount o ≡ a)
made-are os a in' = map-has ordered_amount os a in'

pub made-in : (os : List PayOrder) (o : PayOrder) → Contains os o → Contains (made_amounts os) (ordered_amount o)
made-in [] o in' = absurd (Contains-none o in')
made-in (p ∷ os) o in' = by (Contains-cases p o os in') (made-in os o)
  where
    by : (p ≡ o) ⊎ Contains os o → (Contains os o → Contains (made_amounts os) (ordered_amount o)) → Contains (made_amounts (p ∷ os)) (ordered_amount o)
    by (inl same) rest = subst (λ (z : PayOrder). Contains (made_amounts (p ∷ os)) (ordered_amount z)) same (Contains-here (ordered_amount p) (made_amounts os))
    by (inr later) rest = Contains-there (ordered_amount p) (ordered_amount o) (made_amounts os) (rest later)

-- numbered orders: the number is the place
pub numbered-at : (os : List PayOrder) (a n : ℕ) → map (λ (o : PayOrder). o.out) os ≡ range_with_len a n → (i : ℕ) (o : PayOrder) → slice_get os i ≡ Some o
    → o.out ≡ a + i
numbered-at [] a n is i o at = absurd (none-some o at)
numbered-at (p ∷ os) a zero is i o at = absurd (cc)
numbered-at (p ∷ os) a (suc n) is zero o at =
    let first : p.out ≡ a = cc in
    let same : p.out ≡ o.out = ap (λ (q : PayOrder). q.out) (some-same p o at) in
    omega arith
numbered-at (p ∷ os) a (suc n) is (suc i) o at =
    let rest : map (λ (q : PayOrder). q.out) os ≡ range_with_len (a + 1) n = cc in
    let h = numbered-at os (a + 1) n rest i o at in
    omega arith

numbered-counts : (os : List PayOrder) (a n : ℕ) → map (λ (o : PayOrder). o.out) os ≡ range_with_len a n → (out : ℕ)
    → (count_by (λ (o : PayOrder). o.out == out) os ≤ 1) × (out < a → count_by (λ (o : PayOrder). o.out == out) os ≡ 0)
numbered-counts [] a n is out = (omega arith, λ low. refl)
numbered-counts (p ∷ os) a zero is out = absurd (cc)
numbered-counts (p ∷ os) a (suc n) is out =
    let first : p.out ≡ a = cc in
    let rest : map (λ (q : PayOrder). q.out) os ≡ range_with_len (a + 1) n = cc in
    by (p.out == out) refl first (numbered-counts os (a + 1) n rest out)
  where
    by : (b : Bool) → (p.out == out) ≡ b → p.out ≡ a
        → (count_by (λ (o : PayOrder). o.out == out) os ≤ 1) × (out < a + 1 → count_by (λ (o : PayOrder). o.out == out) os ≡ 0)
        → (count_by (λ (o : PayOrder). o.out == out) (p ∷ os) ≤ 1) × (out < a → count_by (λ (o : PayOrder). o.out == out) (p ∷ os) ≡ 0)
    by true same first rest =
        let one = eqb-true p.out out same in
        let more = count-cons (λ (o : PayOrder). o.out == out) p os in
        let b : bit (p.out == out) ≡ 1 = ap bit same in
        let none = rest.1 (omega arith) in
        (omega arith, λ low. absurd (omega arith))
    by false other first rest =
        let more = count-cons (λ (o : PayOrder). o.out == out) p os in
        let b : bit (p.out == out) ≡ 0 = ap bit other in
        let few = rest.0 in
        (omega arith, λ low. let none = rest.1 (omega arith) in omega arith)

pub numbered-once : (os : List PayOrder) (n : ℕ) → map (λ (o : PayOrder). o.out) os ≡ range_with_len 1 n → Once (made_amounts os)
numbered-once os n is out = let h = made-count os out in let k = (numbered-counts os 1 n is out).0 in omega arith

pub done-once : (x : Node) → ((out : ℕ) → count_by (λ (o : PayOrder). o.out == out) x.pay_outs ≤ 1) → Once (made_amounts x.pay_outs)
done-once x once out = let h = made-count x.pay_outs out in let k = once out in omega arith

-- what a book pays out it orders
order-amount : (setup : Setup) (c client : ℕ) (cmd : Cmd) (reply : Reply) (rest : List PayOrder) → IsAccepted setup client cmd reply
    → sum_by (λ (o : PayOrder). o.amt) (cons_option (order_by c client cmd reply) rest) ≡ pay_out_amount c cmd + sum_by (λ (o : PayOrder). o.amt) rest
order-amount setup c client (PayOut ccy amt) reply rest says =
    let t = says in
    subst (λ (r : Reply). sum_by (λ (o : PayOrder). o.amt) (cons_option (order_by c client (PayOut ccy amt) r) rest)
    ≡ pay_out_amount c (PayOut ccy amt) + sum_by (λ (o : PayOrder). o.amt) rest) (sym t.1)
    (by (ccy == c) t.0)
  where
    by : (b : Bool) (out : ℕ)
        → sum_by (λ (o : PayOrder). o.amt) (cons_option (if b then Some (record { ccy = ccy; out = out; member = client; amt = amt }) else None) rest)
        ≡ (if b then amt else 0) + sum_by (λ (o : PayOrder). o.amt) rest
    by true out = sum_by-cons (λ (o : PayOrder). o.amt) (record { ccy = ccy; out = out; member = client; amt = amt }) rest
    by false out = omega arith
order-amount setup c client _ reply rest says = omega arith

pub orders-total : (setup : Setup) (c : ℕ) (entries : List Entry) → ((e : Entry) → Contains entries e → IsAccepted setup e.client e.cmd e.reply)
    → sum_by (λ (o : PayOrder). o.amt) (orders entries c) ≡ all_paid_out entries c
orders-total setup c [] all = refl
orders-total setup c (e ∷ entries) all =
    order-amount setup c e.client e.cmd e.reply (orders entries c) (all e (Contains-here e entries))
    ∙ ap (λ n. pay_out_amount c e.cmd + n) (orders-total setup c entries (λ d in'. all d (Contains-there e d entries in')))
    ∙ sym (sum_by-cons (λ (d : Entry). pay_out_amount c d.cmd) e entries)

-- THE WAY, in numbered amounts

pub taken-all : (x : Node) → total (taken_amounts x) ≡ came_in x
taken-all x = taken-total 1 x.pay_ins

pub way-credits : (c : ℕ) (x : Node) (entries : List Entry) → not_credited c x entries ≡ total_out (credits c entries) (taken_amounts x)
way-credits c x entries =
    sum-same (λ (p : ℕ × PayIn). if has_pay_in entries c p.0 then 0 else p.1.amt) (λ (p : ℕ × PayIn). if has (credits c entries) p.0 then 0 else p.1.amt)
    (λ p. ap (λ b. if b then 0 else p.1.amt) (sym (credits-has c entries p.0))) (enumerate_from 1 x.pay_ins)
    ∙ sym (sum-map (λ (a : Amount). if has (credits c entries) a.number then 0 else a.amt) paid_in (enumerate_from 1 x.pay_ins))

-- ORDERS THAT THE BOOK HAS NOT AS RETURNED

-- of some orders, those whose numbers are not told
abbrev kept_of : (ℕ → Bool) → List PayOrder → List PayOrder
kept_of told os = filter (λ o. not (told o.out)) os

abbrev pub kept_orders : ℕ → List Entry → List PayOrder
kept_orders c entries = kept_of (has_return entries c) (orders entries c)

kept-amounts : (told : ℕ → Bool) (os : List PayOrder)
    → sum_by (λ (o : PayOrder). o.amt) os ≡ sum_by (λ (o : PayOrder). o.amt) (kept_of told os) + sum_by (λ (o : PayOrder). if told o.out then o.amt else 0) os
kept-amounts told [] = refl
kept-amounts told (o ∷ os) =
    let all = sum_by-cons (λ (p : PayOrder). p.amt) o os in
    let back = sum_by-cons (λ (p : PayOrder). if told p.out then p.amt else 0) o os in
    by (told o.out) (sum_by (λ (p : PayOrder). p.amt) (o ∷ os)) (sum_by (λ (p : PayOrder). if told p.out then p.amt else 0) (o ∷ os))
    (kept-amounts told os) all back
  where
    by : (b : Bool) (all back : ℕ)
        → sum_by (λ (p : PayOrder). p.amt) os ≡ sum_by (λ (p : PayOrder). p.amt) (kept_of told os) + sum_by
        (λ (p : PayOrder). if told p.out then p.amt else 0) os
        → all ≡ o.amt + sum_by (λ (p : PayOrder). p.amt) os → back ≡ (if b then o.amt else 0) + sum_by (λ (p : PayOrder). if told p.out then p.amt else 0) os
        → all ≡ sum_by (λ (p : PayOrder). p.amt) (if not b then o ∷ kept_of told os else kept_of told os) + back
    by true all back rest whole part = omega arith
    by false all back rest whole part = let one = sum_by-cons (λ (p : PayOrder). p.amt) o (kept_of told os) in omega arith

pub kept-total : (setup : Setup) (c : ℕ) (entries : List Entry) → ((e : Entry) → Contains entries e → IsAccepted setup e.client e.cmd e.reply)
    → all_paid_out entries c ≡ total (made_amounts (kept_orders c entries)) + all_returned entries c
kept-total setup c entries all =
    sym (orders-total setup c entries all) ∙ kept-amounts (has_return entries c) (orders entries c)
    ∙ ap (λ n. n + all_returned entries c) (sym (made-total (kept_orders c entries)))

kept-count : (told : ℕ → Bool) (os : List PayOrder) (out : ℕ)
    → count_by (λ (o : PayOrder). o.out == out) (kept_of told os) ≤ count_by (λ (o : PayOrder). o.out == out) os
kept-count told [] out = omega arith
kept-count told (o ∷ os) out =
    by (told o.out) (count_by (λ (p : PayOrder). p.out == out) (o ∷ os)) (kept-count told os out) (count-cons (λ (p : PayOrder). p.out == out) o os)
  where
    by : (b : Bool) (all : ℕ) → count_by (λ (p : PayOrder). p.out == out) (kept_of told os) ≤ count_by (λ (p : PayOrder). p.out == out) os
        → all ≡ bit (o.out == out) + count_by (λ (p : PayOrder). p.out == out) os
        → count_by (λ (p : PayOrder). p.out == out) (if not b then o ∷ kept_of told os else kept_of told os) ≤ all
    by true all rest whole = omega arith
    by false all rest whole = let one = count-cons (λ (p : PayOrder). p.out == out) o (kept_of told os) in omega arith

pub kept-once : (c : ℕ) (entries : List Entry) → Once (made_amounts (orders entries c)) → Once (made_amounts (kept_orders c entries))
kept-once c entries once out =
    let h = made-count (kept_orders c entries) out in
    let k = made-count (orders entries c) out in
    let low = kept-count (has_return entries c) (orders entries c) out in
    let few = once out in
    omega arith

-- a number that is not told is kept
kept-any : (told : ℕ → Bool) (os : List PayOrder) (out : ℕ) → told out ≡ false
    → list_any (λ (o : PayOrder). o.out == out) os ≡ list_any (λ (o : PayOrder). o.out == out) (kept_of told os)
kept-any told [] out not_told = refl
kept-any told (o ∷ os) out not_told = by (o.out == out) refl (told o.out) refl (kept-any told os out not_told)
  where
    by : (here : Bool) → (o.out == out) ≡ here → (b : Bool) → told o.out ≡ b
        → list_any (λ (p : PayOrder). p.out == out) os ≡ list_any (λ (p : PayOrder). p.out == out) (kept_of told os)
        → (here || list_any (λ (p : PayOrder). p.out == out) os) ≡ list_any (λ (p : PayOrder). p.out == out)
        (if not b then o ∷ kept_of told os else kept_of told os)
    by true is true e rest = absurd (true≢false (sym e ∙ ap told (eqb-true o.out out is) ∙ not_told))
    by true is false e rest = sym (ap (λ b. b || list_any (λ (p : PayOrder). p.out == out) (kept_of told os)) is)
    by false is true e rest = rest
    by false is false e rest = rest ∙ sym (ap (λ b. b || list_any (λ (p : PayOrder). p.out == out) (kept_of told os)) is)

sum-on : {A : Type 0} (g h : A → ℕ) (xs : List A) → ((x : A) → Contains xs x → g x ≡ h x) → sum_by g xs ≡ sum_by h xs
sum-on g h [] same = refl
sum-on g h (x ∷ xs) same =
    sum_by-cons g x xs ∙ ap (λ n. n + sum_by g xs) (same x (Contains-here x xs)) ∙ ap (λ n. h x + n)
    (sum-on g h xs (λ y in'. same y (Contains-there x y xs in')))
    ∙ sym (sum_by-cons h x xs)

-- where nothing that is done is returned in the book, what is left out of the kept orders is left out of all
pub way-kept : (c : ℕ) (x : Node) (entries : List Entry) → ((o : PayOrder) → Contains x.pay_outs o → has_return entries c o.out ≡ false)
    → not_ordered c x entries ≡ total_out (made_amounts (kept_orders c entries)) (made_amounts x.pay_outs)
way-kept c x entries none =
    sum-on (λ (o : PayOrder). if has_order entries c o.out then 0 else o.amt)
    (λ (o : PayOrder). if has (made_amounts (kept_orders c entries)) o.out then 0 else o.amt) x.pay_outs
    (λ o in'. ap (λ b. if b then 0 else o.amt) (kept-any (has_return entries c) (orders entries c) o.out (none o in')
    ∙ sym (made-has (kept_orders c entries) o.out)))
    ∙ sym (sum-map (λ (a : Amount). if has (made_amounts (kept_orders c entries)) a.number then 0 else a.amt) ordered_amount x.pay_outs)

kept-sum : (done told : ℕ → Bool) (os : List PayOrder)
    → sum_by (λ (o : PayOrder). if done o.out || told o.out then 0 else o.amt) os ≡ sum_by (λ (o : PayOrder). if done o.out then 0 else o.amt) (kept_of told os)
kept-sum done told [] = refl
kept-sum done told (o ∷ os) =
    sum_by-cons (λ (p : PayOrder). if done p.out || told p.out then 0 else p.amt) o os ∙ by (done o.out) refl (told o.out) (kept-sum done told os)
  where
    by : (d : Bool) → done o.out ≡ d → (b : Bool)
        → sum_by (λ (p : PayOrder). if done p.out || told p.out then 0 else p.amt) os
        ≡ sum_by (λ (p : PayOrder). if done p.out then 0 else p.amt) (kept_of told os)
        → (if d || b then 0 else o.amt) + sum_by (λ (p : PayOrder). if done p.out || told p.out then 0 else p.amt) os
        ≡ sum_by (λ (p : PayOrder). if done p.out then 0 else p.amt) (if not b then o ∷ kept_of told os else kept_of told os)
    by true is true rest = omega arith
    by false is true rest = omega arith
    by true is false rest =
        let one = sum_by-cons (λ (p : PayOrder). if done p.out then 0 else p.amt) o (kept_of told os) in
        let here : (if done o.out then 0 else o.amt) ≡ 0 = ap (λ b. if b then 0 else o.amt) is in
        omega arith
    by false is false rest =
        let one = sum_by-cons (λ (p : PayOrder). if done p.out then 0 else p.amt) o (kept_of told os) in
        let here : (if done o.out then 0 else o.amt) ≡ o.amt = ap (λ b. if b then 0 else o.amt) is in
        omega arith

pub way-done : (c : ℕ) (x : Node) (entries : List Entry) → not_done c x entries ≡ total_out (made_amounts x.pay_outs) (made_amounts (kept_orders c entries))
way-done c x entries =
    kept-sum (has_done x) (has_return entries c) (orders entries c)
    ∙ sum-same (λ (o : PayOrder). if has_done x o.out then 0 else o.amt) (λ (o : PayOrder). if has (made_amounts x.pay_outs) o.out then 0 else o.amt)
    (λ o. ap (λ b. if b then 0 else o.amt) (sym (made-has x.pay_outs o.out))) (kept_orders c entries)
    ∙ sym (sum-map (λ (a : Amount). if has (made_amounts x.pay_outs) a.number then 0 else a.amt) ordered_amount (kept_orders c entries))

pub way-ordered : (c : ℕ) (x : Node) (entries : List Entry) → not_ordered c x entries ≡ total_out (made_amounts (orders entries c)) (made_amounts x.pay_outs)
way-ordered c x entries =
    sum-same (λ (o : PayOrder). if has_order entries c o.out then 0 else o.amt)
    (λ (o : PayOrder). if has (made_amounts (orders entries c)) o.out then 0 else o.amt)
    (λ o. ap (λ b. if b then 0 else o.amt) (sym (made-has (orders entries c) o.out))) x.pay_outs
    ∙ sym (sum-map (λ (a : Amount). if has (made_amounts (orders entries c)) a.number then 0 else a.amt) ordered_amount x.pay_outs)
