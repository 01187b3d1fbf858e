-- What the table has of the orders after one more entry.
use Rattle.std.proofs.Common.{◌≡◌, ℕ, suc, zero, ◌+◌, ◌-◌, Bool, true, false, cond, List, [], ◌∷◌, ◌++◌, length, filter, arith, refl, ap, sym, ◌∙◌, Option, Some, None, find, ◌⊎◌, inl, inr, slice_get, length-append, add-one}
use Rattle.std.specs.Prelude.{not, ◌&&◌, ◌||◌, ◌==◌, if◌then◌else◌, is_some}
use Rattle.std.specs.List.{cons_option, list_any}
use Rattle.std.specs.Option.{option_map, option_map_or, option_or}
use Rattle.std.specs.Prelude.{Result, Ok, Err, IsOk, OnOk}
use Rattle.std.proofs.lemmas.Bool.{eq-eqb, ne_eqb, eqb-true, and_parts, cases_eq}
use Rattle.std.proofs.lemmas.List.Elements.{filter_agree}
use Rattle.std.proofs.lemmas.List.Folds.{list_any-append}
use Rattle.std.proofs.lemmas.List.Elements.{filter-append, filter_map-append}
use Rattle.pvp_types.specs.declared.command.Cmd.{Cmd}
use Rattle.pvp_types.specs.declared.command.Cmd.TheVariants.{PayOut}
use Rattle.pvp_types.specs.declared.command.Reply.{Reply}
use Rattle.pvp_types.specs.declared.command.Reply.TheVariants.{Order}
use Rattle.pvp_types.specs.declared.command.PayOrder.{PayOrder}
use Rattle.pvp_book.specs.declared.entry.Entry.{Entry}
use Rattle.pvp_book.specs.declared.order_table.KeptOrder.{KeptOrder}
use Rattle.pvp_book.specs.declared.order_table.OrderTable.{OrderTable}
use Rattle.pvp_book.specs.declared.order_table.Step.{Step}
use Rattle.pvp_book.specs.declared.order_table.Step.TheVariants as step
use Rattle.pvp_book.specs.Orders.{order_by, order_of, orders, is_end, has_end}
use Rattle.pvp_book.specs.Answer.{has_order}
use Rattle.pvp_book.specs.Ledger.{open_orders}
use Rattle.pvp_book.specs.OrderTable.{step_of, just_made, once_ended, at_number, made_at, kept_order, order_at, has_ended, open_at, AreMade}
use Rattle.pvp_book.proofs.Counts.{or-false}
use Rattle.pvp_book.proofs.SettlementLemmas.{append-nil}

-- what a step says of each number
abbrev pub order_made : ℕ → Step → Option PayOrder
order_made c (step.Made order) = if order.ccy == c then Some order else None
order_made c _ = None

abbrev pub says_end : ℕ → ℕ → Step → Bool
says_end c n (step.Ended ccy out) = (ccy == c) && (out == n)
says_end c n _ = false

order-said : (c client : ℕ) (cmd : Cmd) (reply : Reply) → order_by c client cmd reply ≡ order_made c (step_of client cmd reply)
order-said c client (PayOut ccy amt) (Order out) = refl
order-said c client (PayOut ccy amt) _ = refl
order-said c client _ reply = refl

end-said : (c n client : ℕ) (cmd : Cmd) (reply : Reply) → is_end c n cmd ≡ says_end c n (step_of client cmd reply)
end-said c n client (PayOut ccy amt) (Order out) = refl
end-said c n client (PayOut ccy amt) _ = refl
end-said c n client _ reply = refl

find-join : (test : PayOrder → Bool) (xs ys : List PayOrder) → find test (xs ++ ys) ≡ option_or (find test xs) (find test ys)
find-join test [] ys = refl
find-join test (x ∷ xs) ys = by (test x) (find-join test xs ys)
  where
    by : (b : Bool) → find test (xs ++ ys) ≡ option_or (find test xs) (find test ys)
        → cond b (Some x) (find test (xs ++ ys)) ≡ option_or (cond b (Some x) (find test xs)) (find test ys)
    by true rest = refl
    by false rest = rest

-- what a step adds to a currency's orders
abbrev pub orders_added : ℕ → Step → List PayOrder
orders_added c s = cons_option (order_made c s) []

-- what it makes of the open ones
abbrev pub open_orders_after : ℕ → Step → List PayOrder → List PayOrder
open_orders_after c s some = filter (λ (o : PayOrder). not (says_end c o.out s)) (some ++ orders_added c s)

-- two tests one after the other
filter-twice : (a b : PayOrder → Bool) (os : List PayOrder) → filter (λ o. not (a o || b o)) os ≡ filter (λ o. not (b o)) (filter (λ o. not (a o)) os)
filter-twice a b [] = refl
filter-twice a b (o ∷ os) = by (a o) (filter-twice a b os)
  where
    by : (t : Bool) → filter (λ x. not (a x || b x)) os ≡ filter (λ x. not (b x)) (filter (λ x. not (a x)) os)
        → cond (not (t || b o)) (o ∷ filter (λ x. not (a x || b x)) os) (filter (λ x. not (a x || b x)) os)
        ≡ filter (λ x. not (b x)) (cond (not t) (o ∷ filter (λ x. not (a x)) os) (filter (λ x. not (a x)) os))
    by true rest = rest
    by false rest = ap (λ ys. cond (not (b o)) (o ∷ ys) ys) rest

module _ (entries : List Entry) (e : Entry) (s : Step) (is : step_of e.client e.cmd e.reply ≡ s) where
  orders-more : (c : ℕ) → orders (entries ++ e ∷ []) c ≡ orders entries c ++ orders_added c s
  orders-more c =
      filter_map-append (λ (x : Entry). order_by c x.client x.cmd x.reply) entries (e ∷ [])
      ∙ ap (λ o. orders entries c ++ cons_option o []) (order-said c e.client e.cmd e.reply ∙ ap (order_made c) is)

  has_end-more : (c n : ℕ) → has_end (entries ++ e ∷ []) c n ≡ (has_end entries c n || says_end c n s)
  has_end-more c n =
      list_any-append (λ (x : Entry). is_end c n x.cmd) entries (e ∷ [])
      ∙ ap (λ b. has_end entries c n || b) (or-false (is_end c n e.cmd) ∙ end-said c n e.client e.cmd e.reply ∙ ap (says_end c n) is)

  order_of-more : (c n : ℕ)
      → order_of (entries ++ e ∷ []) c n ≡ option_or (order_of entries c n) (find (λ (o : PayOrder). o.out == n) (orders_added c s))
  order_of-more c n =
      ap (find (λ (o : PayOrder). o.out == n)) (orders-more c) ∙ find-join (λ (o : PayOrder). o.out == n) (orders entries c)
      (orders_added c s)

  -- an order that is added has not ended
  abbrev AreFresh : Type 0
  AreFresh =
      (c : ℕ) → filter (λ (o : PayOrder). not (has_end entries c o.out)) (orders_added c s) ≡ orders_added c s

  open-more : AreFresh → (c : ℕ) → open_orders (entries ++ e ∷ []) c ≡ open_orders_after c s (open_orders entries c)
  open-more fresh c =
      filter_agree (λ (o : PayOrder). not (has_end (entries ++ e ∷ []) c o.out)) (λ (o : PayOrder). not (has_end entries c o.out || says_end c o.out s))
      (λ o. ap not (has_end-more c o.out)) (orders (entries ++ e ∷ []) c)
      ∙ ap (filter (λ (o : PayOrder). not (has_end entries c o.out || says_end c o.out s))) (orders-more c)
      ∙ filter-twice (λ (o : PayOrder). has_end entries c o.out) (λ (o : PayOrder). says_end c o.out s) (orders entries c ++ orders_added c s)
      ∙ ap (filter (λ (o : PayOrder). not (says_end c o.out s)))
      (filter-append (λ (o : PayOrder). not (has_end entries c o.out)) (orders entries c) (orders_added c s) ∙ ap (λ os. open_orders entries c ++ os) (fresh c))

  -- a table that has the step too has what the entries have
  AreMade-more : (old new : OrderTable)
      → ((c n : ℕ) → order_at new c n ≡ option_or (order_at old c n) (find (λ (o : PayOrder). o.out == n) (orders_added c s)))
      → ((c n : ℕ) → has_ended new c n ≡ (has_ended old c n || says_end c n s))
      → length new.made ≡ length old.made
      → ((c : ℕ) → length (made_at new c) ≡ length (made_at old c) + length (orders_added c s))
      → length new.outstanding ≡ length old.outstanding
      → ((c : ℕ) → open_at new c ≡ open_orders_after c s (open_at old c)) → AreFresh
      → AreMade entries old → AreMade (entries ++ e ∷ []) new
  AreMade-more old new made ended places counts queues outstanding fresh are = record {
    made =
        λ c n. made c n ∙ ap (λ o. option_or o (find (λ (x : PayOrder). x.out == n) (orders_added c s))) (are.made c n)
        ∙ sym (order_of-more c n);
    ended = λ c n. ended c n ∙ ap (λ b. b || says_end c n s) (are.ended c n) ∙ sym (has_end-more c n);
    places = places ∙ are.places;
    counts = λ c. counts c ∙ ap (λ k. k + length (orders_added c s)) (are.counts c)
        ∙ sym (ap length (orders-more c) ∙ length-append (orders entries c) (orders_added c s));
    queues = queues ∙ are.queues;
    outstanding = λ c. outstanding c ∙ ap (open_orders_after c s) (are.outstanding c) ∙ sym (open-more fresh c);
  }

or-none : {X : Type 0} (o : Option X) → o ≡ option_or o None
or-none None = refl
or-none (Some x) = refl

found-added : (order : PayOrder) (c n : ℕ)
    → (if (order.ccy == c) && (order.out == n) then Some order else None) ≡ find (λ (o : PayOrder). o.out == n)
    (cons_option (if order.ccy == c then Some order else None) [])
found-added order c n = by (order.ccy == c) (order.out == n) refl
  where
    by : (a b : Bool) → (order.out == n) ≡ b
        → (if a && b then Some order else None) ≡ find (λ (o : PayOrder). o.out == n) (cons_option (if a then Some order else None) [])
    by true true is = ap (λ t. cond t (Some order) None) (sym is)
    by true false is = ap (λ t. cond t (Some order) None) (sym is)
    by false b is = refl

added-count : (order : PayOrder) (c : ℕ)
    → length (if order.ccy == c then just_made order ∷ [] else []) ≡ length (cons_option (if order.ccy == c then Some order else None) [])
added-count order c = by (order.ccy == c)
  where
    by : (a : Bool) → length (if a then just_made order ∷ [] else []) ≡ length (cons_option (if a then Some order else None) [])
    by true = refl
    by false = refl

-- what no step takes out is all there
none-ends : (os : List PayOrder) → os ≡ filter (λ (o : PayOrder). true) os
none-ends [] = refl
none-ends (o ∷ os) = ap (λ rest. o ∷ rest) (none-ends os)

none-added : (os : List PayOrder) → os ≡ os ++ []
none-added os = sym (append-nil os)

none-more : (n : ℕ) → n ≡ n + 0
none-more n = omega arith

-- what a step that makes an order makes of the open ones
opened-made : (order : PayOrder) (c : ℕ) (os : List PayOrder) → os ++ (if order.ccy == c then order ∷ [] else []) ≡ open_orders_after c (step.Made order) os
opened-made order c os = by (order.ccy == c) ∙ none-ends (os ++ orders_added c (step.Made order))
  where
    by : (a : Bool) → os ++ (if a then order ∷ [] else []) ≡ os ++ cons_option (if a then Some order else None) []
    by true = refl
    by false = refl

fresh-made : (entries : List Entry) (order : PayOrder) → has_end entries order.ccy order.out ≡ false
    → (c : ℕ) → filter (λ (o : PayOrder). not (has_end entries c o.out)) (orders_added c (step.Made order)) ≡ orders_added c (step.Made order)
fresh-made entries order new c = by (cases_eq order.ccy c)
  where
    by : (order.ccy ≡ c) ⊎ (order.ccy ≡ c → ⊥)
        → filter (λ (o : PayOrder). not (has_end entries c o.out)) (orders_added c (step.Made order)) ≡ orders_added c (step.Made order)
    by (inl same) =
        let is = eq-eqb order.ccy c same in
        ap (λ b. filter (λ (o : PayOrder). not (has_end entries c o.out)) (cons_option (if b then Some order else None) [])) is
        ∙ ap (λ b. cond (not b) (order ∷ []) []) (ap (λ d. has_end entries d order.out) (sym same) ∙ new)
        ∙ ap (λ b. cons_option (if b then Some order else None) []) (sym is)
    by (inr other) =
        let is = ne_eqb order.ccy c other in
        ap (λ b. filter (λ (o : PayOrder). not (has_end entries c o.out)) (cons_option (if b then Some order else None) [])) is
        ∙ ap (λ b. cons_option (if b then Some order else None) []) (sym is)

-- what is kept under a number once one more order of the next number is made, or one has ended
at-suc : (orders : List KeptOrder) (i : ℕ) → at_number orders (suc i) ≡ slice_get orders i
at-suc orders i =
    let same : suc i - 1 ≡ i = omega arith in
    ap (λ b. if b then None else slice_get orders (suc i - 1)) (ne_eqb (suc i) 0 (λ e. omega arith)) ∙ ap (slice_get orders) same

at-longer : (k : KeptOrder) (orders : List KeptOrder) (n : ℕ) (more : Bool)
    → at_number (orders ++ (if more then k ∷ [] else [])) n
    ≡ option_or (at_number orders n) (if more && (length orders + 1 == n) then Some k else None)
at-longer k orders n false = ap (λ os. at_number os n) (append-nil orders) ∙ or-none (at_number orders n)
at-longer k orders zero true = ap (λ b. option_or None (if b then Some k else None)) (sym (ne_eqb (length orders + 1) 0 (λ e. omega arith)))
at-longer k orders (suc n) true =
    at-suc (orders ++ k ∷ []) n ∙ by orders n ∙ ap (λ o. option_or o (if length orders + 1 == suc n then Some k else None)) (sym (at-suc orders n))
  where
    by : (os : List KeptOrder) (i : ℕ) → slice_get (os ++ k ∷ []) i ≡ option_or (slice_get os i) (if length os + 1 == suc i then Some k else None)
    by [] zero = refl
    by [] (suc i) = ap (λ b. if b then Some k else None) (sym (ne_eqb 1 (suc (suc i)) (λ e. omega arith)))
    by (o ∷ os) zero = refl
    by (o ∷ os) (suc i) = by os i ∙ ap (λ b. option_or (slice_get os i) (if b then Some k else None)) (up (length os) (cases_eq (length os + 1) (suc i)))
      where
        up : (n : ℕ) → (n + 1 ≡ suc i) ⊎ (n + 1 ≡ suc i → ⊥) → (n + 1 == suc i) ≡ (suc n + 1 == suc (suc i))
        up n (inl same) = eq-eqb (n + 1) (suc i) same ∙ sym (eq-eqb (suc n + 1) (suc (suc i)) (omega arith))
        up n (inr other) = ne_eqb (n + 1) (suc i) other ∙ sym (ne_eqb (suc n + 1) (suc (suc i)) (λ e. other (omega arith)))

pub none-ended : (found : Option KeptOrder) → found ≡ option_map (once_ended false) found
none-ended None = refl
none-ended (Some k) = λ i. Some (record { order = k.order; ended = sym (or-false k.ended) i })

-- the three kinds of steps
module _ (entries : List Entry) (e : Entry) (old new : OrderTable) (are : AreMade entries old) where
  pub AreMade-made : (order : PayOrder) → step_of e.client e.cmd e.reply ≡ step.Made order
      → length new.made ≡ length old.made
      → ((c : ℕ) → made_at new c ≡ made_at old c ++ (if order.ccy == c then just_made order ∷ [] else []))
      → length new.outstanding ≡ length old.outstanding → ((c : ℕ) → open_at new c ≡ open_at old c ++ (if order.ccy == c then order ∷ [] else []))
      → order.out ≡ length (made_at old order.ccy) + 1 → AreMade (entries ++ e ∷ []) new
  AreMade-made order is places made queues outstanding next =
      AreMade-more entries e (step.Made order) is old new
      (λ c n. ap (option_map (λ k. k.order)) (kept c n) ∙ order-more (kept_order old c n) ((order.ccy == c) && (order.out == n))
      ∙ ap (option_or (order_at old c n)) (found-added order c n))
      (λ c n. ap (λ o. option_map_or (λ k. k.ended) o false) (kept c n) ∙ ended-more (kept_order old c n) ((order.ccy == c) && (order.out == n))
      ∙ sym (or-false (has_ended old c n)))
      places
      (λ c. ap length (made c) ∙ length-append (made_at old c) (if order.ccy == c then just_made order ∷ [] else [])
      ∙ ap (λ k. length (made_at old c) + k) (added-count order c))
      queues (λ c. outstanding c ∙ opened-made order c (open_at old c)) (fresh-made entries order (sym (are.ended order.ccy order.out) ∙ fresh)) are
    where
      kept : (c n : ℕ) → kept_order new c n ≡ option_or (kept_order old c n) (if (order.ccy == c) && (order.out == n) then Some (just_made order) else None)
      kept c n =
          ap (λ os. at_number os n) (made c) ∙ at-longer (just_made order) (made_at old c) n (order.ccy == c)
          ∙ by (cases_eq order.ccy c)
        where
          by : (order.ccy ≡ c) ⊎ (order.ccy ≡ c → ⊥)
              → option_or (kept_order old c n) (if (order.ccy == c) && (length (made_at old c) + 1 == n) then Some (just_made order) else None)
              ≡ option_or (kept_order old c n) (if (order.ccy == c) && (order.out == n) then Some (just_made order) else None)
          by (inl same) =
              ap (λ m. option_or (kept_order old c n) (if (order.ccy == c) && (m == n) then Some (just_made order) else None))
              (ap (λ d. length (made_at old d) + 1) (sym same) ∙ sym next)
          by (inr other) =
              ap (λ b. option_or (kept_order old c n) (if b && (length (made_at old c) + 1 == n) then Some (just_made order) else None))
              (ne_eqb order.ccy c other)
              ∙ ap (λ b. option_or (kept_order old c n) (if b && (order.out == n) then Some (just_made order) else None)) (sym (ne_eqb order.ccy c other))

      order-more : (found : Option KeptOrder) (b : Bool)
          → option_map (λ k. k.order) (option_or found (if b then Some (just_made order) else None))
          ≡ option_or (option_map (λ k. k.order) found) (if b then Some order else None)
      order-more None true = refl
      order-more None false = refl
      order-more (Some k) b = refl

      ended-more : (found : Option KeptOrder) (b : Bool)
          → option_map_or (λ k. k.ended) (option_or found (if b then Some (just_made order) else None)) false ≡ option_map_or (λ k. k.ended) found false
      ended-more None true = refl
      ended-more None false = refl
      ended-more (Some k) b = refl

      past : (os : List KeptOrder) → option_map_or (λ k. k.ended) (slice_get os (length os)) false ≡ false
      past [] = refl
      past (o ∷ os) = past os

      fresh : has_ended old order.ccy order.out ≡ false
      fresh =
          let os = made_at old order.ccy in
          ap (has_ended old order.ccy) (next ∙ add-one (length os)) ∙ ap (λ o. option_map_or (λ k. k.ended) o false) (at-suc os (length os)) ∙ past os

  pub AreMade-ended : (ccy out : ℕ) → step_of e.client e.cmd e.reply ≡ step.Ended ccy out → is_some (kept_order old ccy out) ≡ true
      → length new.made ≡ length old.made → ((c : ℕ) → length (made_at new c) ≡ length (made_at old c))
      → ((c n : ℕ) → kept_order new c n ≡ option_map (once_ended ((ccy == c) && (out == n))) (kept_order old c n))
      → length new.outstanding ≡ length old.outstanding
      → ((c : ℕ) → open_at new c ≡ filter (λ (o : PayOrder). not ((ccy == c) && (out == o.out))) (open_at old c)) → AreMade (entries ++ e ∷ []) new
  AreMade-ended ccy out is there places counts kept queues outstanding =
      AreMade-more entries e (step.Ended ccy out) is old new
      (λ c n. ap (option_map (λ k. k.order)) (kept c n) ∙ order-stays (kept_order old c n) ((ccy == c) && (out == n)) ∙ or-none (order_at old c n))
      (λ c n. ap (λ o. option_map_or (λ k. k.ended) o false) (kept c n) ∙ ends c n (kept_order old c n) refl ((ccy == c) && (out == n)) refl)
      places (λ c. counts c ∙ none-more (length (made_at old c))) queues
      (λ c. outstanding c ∙ ap (filter (λ (o : PayOrder). not ((ccy == c) && (out == o.out)))) (none-added (open_at old c))) (λ c. refl) are
    where
      order-stays : (found : Option KeptOrder) (b : Bool) → option_map (λ k. k.order) (option_map (once_ended b) found) ≡ option_map (λ k. k.order) found
      order-stays None b = refl
      order-stays (Some k) b = refl

      ends : (c n : ℕ) (found : Option KeptOrder) → kept_order old c n ≡ found → (b : Bool) → ((ccy == c) && (out == n)) ≡ b
          → option_map_or (λ k. k.ended) (option_map (once_ended b) found) false ≡ (option_map_or (λ k. k.ended) found false || b)
      ends c n None found false said = refl
      ends c n None found true said =
          let both = and_parts (ccy == c) (out == n) said in
          absurd (cc (sym there ∙ ap is_some ((λ i. kept_order old (eqb-true ccy c both.0 i) (eqb-true out n both.1 i)) ∙ found)))
      ends c n (Some k) found b said = refl

pub AreMade-still : (entries : List Entry) (e : Entry) (old : OrderTable) → step_of e.client e.cmd e.reply ≡ step.Nothing → AreMade entries old
    → AreMade (entries ++ e ∷ []) old
AreMade-still entries e old is are =
    AreMade-more entries e step.Nothing is old old (λ c n. or-none (order_at old c n)) (λ c n. sym (or-false (has_ended old c n))) refl
    (λ c. none-more (length (made_at old c))) refl (λ c. none-added (open_at old c) ∙ none-ends (open_at old c ++ [])) (λ c. refl) are

-- an order that is there is found
any-find : (test : PayOrder → Bool) (os : List PayOrder) → is_some (find test os) ≡ list_any test os
any-find test [] = refl
any-find test (o ∷ os) = by (test o) (any-find test os)
  where
    by : (b : Bool) → is_some (find test os) ≡ list_any test os → is_some (cond b (Some o) (find test os)) ≡ (b || list_any test os)
    by true rest = refl
    by false rest = rest

pub order-there : (entries : List Entry) (table : OrderTable) → AreMade entries table → (c n : ℕ) → is_some (order_at table c n) ≡ has_order entries c n
order-there entries table are c n = ap is_some (are.made c n) ∙ any-find (λ (o : PayOrder). o.out == n) (orders entries c)

pub order-kept : (entries : List Entry) (table : OrderTable) → AreMade entries table → (c n : ℕ) → has_order entries c n ≡ true
    → is_some (kept_order table c n) ≡ true
order-kept entries table are c n has = by (kept_order table c n) ∙ order-there entries table are c n ∙ has
  where
    by : (found : Option KeptOrder) → is_some found ≡ is_some (option_map (λ k. k.order) found)
    by None = refl
    by (Some k) = refl

-- what a call that succeeds gives
pub succeeded : {X F P : Type 0} (r : Result X F) → IsOk r → OnOk r P → P
succeeded (Ok x) is holds = holds
succeeded (Err e) is holds = absurd (cc is)
