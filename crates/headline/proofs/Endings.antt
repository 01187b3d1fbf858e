-- A node's word on an order ends it in the book of any log that has the order before that word.
use Rattle.std.proofs.Common.{◌≡◌, ◌⊎◌, inl, inr, ℕ, ◌+◌, ◌<◌, ◌≤◌, ◌==◌, Bool, true, false, not, nat_lt, nat_le, if◌then◌else◌, List, [], ◌∷◌, ◌++◌, length, zero, suc, Option, Some, None, refl, sym, ap, ◌∙◌, subst, arith, true≢false, eqb-true, append_assoc, length-append}
use Rattle.std.specs.Prelude.{◌&&◌, ◌||◌, Contains}
use Rattle.std.specs.List.{filter, list_any, cons_option, flat_map, range_with_len}
use Rattle.std.proofs.lemmas.Bool.{and_parts, eq-eqb}
use Rattle.std.proofs.lemmas.Bool.Decides.{nat_tests}
use Rattle.std.proofs.lemmas.List.FromFn.{length-range_with_len, get_or-range_with_len}
use Rattle.std.proofs.lemmas.List.Folds.{list_any-append, list_any_at}
use Rattle.std.proofs.lemmas.List.Elements.{filter_map-append, Contains-append_left, Contains-append_right, Contains-append_cases}
use Rattle.pvp_types.specs.declared.setup.Setup.{Setup}
use Rattle.pvp_types.specs.declared.command.Cmd.{Cmd}
use Rattle.pvp_types.specs.declared.command.Cmd.TheVariants.{PayOut, Paid, Returned}
use Rattle.pvp_types.specs.declared.command.Reply.{Reply}
use Rattle.pvp_types.specs.declared.command.Reply.TheVariants.{Done, Matched, Settled, Order, No}
use Rattle.pvp_types.specs.declared.command.Reason.TheVariants.{NotYours, UnknownMember, UnknownReference, Repeated}
use Rattle.pvp_types.specs.declared.command.PayOrder.{PayOrder as PaymentOrder}
use Rattle.vr_types.proofs.ChoosingPick.{Contains-here, Contains-there, Contains-cases, Contains-none}
use Rattle.agreement.specs.Promises.{Begins}
use Rattle.agreement.proofs.Beginnings.{append_begins}
use Rattle.pvp_book.specs.declared.entry.Entry.{Entry}
use Rattle.pvp_book.specs.Ledger.{node_of, outstanding_in, outstanding_from, outstanding_orders}
use Rattle.pvp_book.specs.Orders.{order_by, orders, is_end, has_end}
use Rattle.pvp_book.specs.Answer.{Row, pay_out_checks, is_member_number, answer, is_refusal, with_entry, on_end, has_member, has_currency, has_order, is_amount, book_of}
use Rattle.pvp_book.proofs.Checks.{passed, is-so}
use Rattle.pvp_book.proofs.Reached.{begins, reached-more}
use Rattle.headline.specs.Progress.{open_in}
use Rattle.headline.proofs.Basics.{none-some, some-same, map-in, map-has, map-length, filter-has, filter_map-has, flat_map-has}
use Rattle.headline.proofs.Books.{ordered-more}
use Rattle.headline.proofs.Entries.{IsAccepted, all-accepted}

or_first : (a b : Bool) → a ≡ true → (a || b) ≡ true
or_first true b e = refl
or_first false b e = absurd (true≢false (sym e))

or_second : (a b : Bool) → b ≡ true → (a || b) ≡ true
or_second true b e = refl
or_second false b e = e

-- AN END IS NOTED

-- an end stays
pub end_stays : (setup : Setup) (rows longer : List Row) (c n : ℕ) → Begins rows longer → has_end (book_of setup rows) c n ≡ true
    → has_end (book_of setup longer) c n ≡ true
end_stays setup rows longer c n b is =
    let grown = begins setup rows b.rest in
    ap (λ (l : List Row). has_end (book_of setup l) c n) (sym b.is)
    ∙ (ap (λ (es : List Entry). has_end es c n) grown.1
    ∙ (list_any-append (λ (e : Entry). is_end c n e.cmd) (book_of setup rows) grown.0 ∙ or_first _ _ is))

-- an order is found by its number
pub order_there : (os : List PaymentOrder) (o : PaymentOrder) (out : ℕ) → Contains os o → o.out ≡ out → list_any (λ (p : PaymentOrder). p.out == out) os ≡ true
order_there os o out (k, low, is) same =
    list_any_at (λ (p : PaymentOrder). p.out == out) os k o low (ap (λ (p : PaymentOrder). p.out == out) is ∙ eq-eqb o.out out same)

end_answer : (setup : Setup) (entries : List Entry) (client : ℕ) (cmd : Cmd) (c out : ℕ) → is_end c out cmd ≡ true
    → answer setup entries client cmd ≡ on_end setup entries client c out
unfolding answer
end_answer setup entries client (Paid ccy n) c out is =
    let both = and_parts (ccy == c) (n == out) is in
    ap (λ d. on_end setup entries client d n) (eqb-true ccy c both.0) ∙ ap (λ k. on_end setup entries client c k) (eqb-true n out both.1)
end_answer setup entries client (Returned ccy n) c out is =
    let both = and_parts (ccy == c) (n == out) is in
    ap (λ d. on_end setup entries client d n) (eqb-true ccy c both.0) ∙ ap (λ k. on_end setup entries client c k) (eqb-true n out both.1)
end_answer setup entries client _ c out is = absurd (true≢false (sym is))

end_done : (setup : Setup) (entries : List Entry) (c out : ℕ) → c < length setup.currencies → has_order entries c out ≡ true → has_end entries c out ≡ false
    → on_end setup entries (node_of c) c out ≡ Done
end_done setup entries c out low there open_still =
    by (node_of c == node_of c) (has_currency setup c) (has_order entries c out) (has_end entries c out) (eq-eqb (node_of c) (node_of c) refl)
    (less c (length setup.currencies) low) there open_still
  where
    less : (a b : ℕ) → a < b → nat_lt a b ≡ true
    less a b h = grind (arith, nat_tests, h)

    by : (yours known made paid : Bool) → yours ≡ true → known ≡ true → made ≡ true → paid ≡ false
        → (if not yours then No NotYours else if not known then No UnknownMember else if not made then No UnknownReference else if paid then No Repeated
        else Done) ≡ Done
    by true true true false a b d e = refl
    by true true true true a b d e = absurd (true≢false e)
    by true true false paid a b d e = absurd (true≢false (sym d))
    by true false made paid a b d e = absurd (true≢false (sym b))
    by false known made paid a b d e = absurd (true≢false (sym a))

pub ends_now : (setup : Setup) (rows : List Row) (c out : ℕ) (row : Row) (order : PaymentOrder) → c < length setup.currencies
    → Contains (orders (book_of setup rows) c) order → order.out ≡ out
    → row.client ≡ node_of c → is_end c out row.cmd ≡ true → has_end (book_of setup (rows ++ row ∷ [])) c out ≡ true
ends_now setup rows c out row order low in' same from is = by (has_end (book_of setup rows) c out) refl
  where
    entries : List Entry
    entries = book_of setup rows

    new : answer setup (book_of setup rows) row.client row.cmd ≡ on_end setup (book_of setup rows) (node_of c) c out
    new = end_answer setup (book_of setup rows) row.client row.cmd c out is ∙ ap (λ d. on_end setup (book_of setup rows) d c out) from

    by : (b : Bool) → has_end (book_of setup rows) c out ≡ b → has_end (book_of setup (rows ++ row ∷ [])) c out ≡ true
    by true ended = end_stays setup rows (rows ++ row ∷ []) c out (append_begins rows (row ∷ [])) ended
    by false open_still =
        let done = new ∙ end_done setup (book_of setup rows) c out low (order_there (orders (book_of setup rows) c) order out in' same) open_still in
        ap (λ (es : List Entry). has_end es c out) (reached-more setup rows row ∙ ap (λ (r : Reply). with_entry (book_of setup rows) row.client row.cmd r) done)
        ∙ (list_any-append (λ (e : Entry). is_end c out e.cmd) (book_of setup rows) (record { client = row.client; cmd = row.cmd; reply = Done } ∷ [])
        ∙ or_second _ _ (or_first _ false is))

-- it makes no order
no_order : (c out d client : ℕ) (cmd : Cmd) (reply : Reply) → is_end c out cmd ≡ true → order_by d client cmd reply ≡ None
no_order c out d client (Paid ccy n) reply is = refl
no_order c out d client (Returned ccy n) reply is = refl
no_order c out d client _ reply is = absurd (true≢false (sym is))

append_none : {A : Type 0} (xs : List A) → xs ++ [] ≡ xs
append_none [] = refl
append_none {A} (x ∷ xs) = ap (λ (l : List A). x ∷ l) (append_none xs)

pub orders_same : (setup : Setup) (rows : List Row) (row : Row) (c out d : ℕ) → is_end c out row.cmd ≡ true
    → orders (book_of setup (rows ++ row ∷ [])) d ≡ orders (book_of setup rows) d
orders_same setup rows row c out d is =
    ap (λ (es : List Entry). orders es d) (reached-more setup rows row) ∙ by (is_refusal (answer setup (book_of setup rows) row.client row.cmd))
    (answer setup (book_of setup rows) row.client row.cmd)
  where
    by : (refused : Bool) (reply : Reply)
        → orders (if refused then book_of setup rows else book_of setup rows ++ record { client = row.client; cmd = row.cmd; reply = reply } ∷ []) d
        ≡ orders (book_of setup rows) d
    by true reply = refl
    by false reply =
        filter_map-append (λ (e : Entry). order_by d e.client e.cmd e.reply) (book_of setup rows)
        (record { client = row.client; cmd = row.cmd; reply = reply } ∷ [])
        ∙ (ap (λ (o : Option PaymentOrder). orders (book_of setup rows) d ++ cons_option o []) (no_order c out d row.client row.cmd reply is)
        ∙ append_none (orders (book_of setup rows) d))

-- what is in a list parts it
pub split_at : {A : Type 0} (xs : List A) (x : A) → Contains xs x → (first : List A) × (last : List A) × (xs ≡ first ++ x ∷ last)
split_at [] x in' = absurd (Contains-none x in')
split_at {A} (y ∷ xs) x in' = by (Contains-cases y x xs in') (split_at xs x)
  where
    by : (y ≡ x) ⊎ Contains xs x → (Contains xs x → (first : List A) × (last : List A) × (xs ≡ first ++ x ∷ last))
        → (first : List A) × (last : List A) × (y ∷ xs ≡ first ++ x ∷ last)
    by (inl is) rest = ([], xs, ap (λ (z : A). z ∷ xs) is)
    by (inr later) rest = let t = rest later in (y ∷ t.0, t.1, ap (λ (l : List A). y ∷ l) t.2)

-- a row of a node on an order ends it, where the book had the order before that row
pub ended_by : (setup : Setup) (past log : List Row) (c out : ℕ) (row : Row) (order : PaymentOrder) → c < length setup.currencies → Begins past log
    → Contains (orders (book_of setup past) c) order → order.out ≡ out
    → Contains log row → row.client ≡ node_of c → is_end c out row.cmd ≡ true → (Contains past row → ⊥) → has_end (book_of setup log) c out ≡ true
ended_by setup past log c out row order low b ordered same in' from is fresh =
    by (Contains-append_cases past b.rest row (subst (λ (l : List Row). Contains l row) (sym b.is) in'))
  where
    by : Contains past row ⊎ Contains b.rest row → has_end (book_of setup log) c out ≡ true
    by (inl old) = absurd (fresh old)
    by (inr new) =
        let t = split_at b.rest row new in
        let now =
        ends_now setup (past ++ t.0) c out row order low (ordered-more setup past (past ++ t.0) c order (append_begins past t.0) ordered) same from is in
        end_stays setup ((past ++ t.0) ++ row ∷ []) log c out
        (record {
          rest = t.1;
          is = append_assoc (past ++ t.0) (row ∷ []) t.1 ∙ (append_assoc past t.0 (row ∷ t.1) ∙ (ap (λ (l : List Row). past ++ l) (sym t.2) ∙ b.is));
        }) now

-- AN ORDER

-- what made it
pub record IsMade (setup : Setup) (order : PaymentOrder) : Type 0 where
  pub member : has_member setup order.member ≡ true
  pub amount : is_amount order.amt ≡ true

pub is_made : (setup : Setup) (rows : List Row) (c : ℕ) (order : PaymentOrder) → Contains (orders (book_of setup rows) c) order → IsMade setup order
is_made setup rows c order in' =
    let t = filter_map-has (λ (e : Entry). order_by c e.client e.cmd e.reply) (book_of setup rows) order in' in
    by t.0.client t.0.cmd t.0.reply (all-accepted setup rows t.0 t.1) t.2
  where
    by_ccy : (client ccy amt out : ℕ) → (has_member setup client ≡ true) × (is_amount amt ≡ true) → (b : Bool)
        → (if b then Some (record { ccy = ccy; out = out; member = client; amt = amt }) else None) ≡ Some order → IsMade setup order
    by_ccy client ccy amt out ok true e =
        let same = some-same _ order e in
        subst (λ (o : PaymentOrder). IsMade setup o) same (record { member = ok.0; amount = ok.1 })
    by_ccy client ccy amt out ok false e = absurd (none-some order e)

    by : (client : ℕ) (cmd : Cmd) (reply : Reply) → IsAccepted setup client cmd reply → order_by c client cmd reply ≡ Some order → IsMade setup order
    by client (PayOut ccy amt) (Order out) ok e = by_ccy client ccy amt out (ok.2, ok.3) (ccy == c) e
    by client (PayOut ccy amt) Done ok e = absurd (none-some order e)
    by client (PayOut ccy amt) Matched ok e = absurd (none-some order e)
    by client (PayOut ccy amt) (Settled count) ok e = absurd (none-some order e)
    by client (PayOut ccy amt) (No reason) ok e = absurd (none-some order e)
    by client _ reply ok e = absurd (none-some order e)

-- a command makes orders of one currency alone
abbrev pub ccy_of : Cmd → ℕ
ccy_of (PayOut ccy amt) = ccy
ccy_of _ = 0

pub made_in : (c client : ℕ) (cmd : Cmd) (reply : Reply) (order : PaymentOrder) → order_by c client cmd reply ≡ Some order → ccy_of cmd ≡ c
made_in c client (PayOut ccy amt) (Order out) order e = by (ccy == c) refl e
  where
    by : (b : Bool) → (ccy == c) ≡ b → (if b then Some (record { ccy = ccy; out = out; member = client; amt = amt }) else None) ≡ Some order → ccy ≡ c
    by true is e = eqb-true ccy c is
    by false is e = absurd (none-some order e)
made_in c client (PayOut ccy amt) Done order e = absurd (none-some order e)
made_in c client (PayOut ccy amt) Matched order e = absurd (none-some order e)
made_in c client (PayOut ccy amt) (Settled count) order e = absurd (none-some order e)
made_in c client (PayOut ccy amt) (No reason) order e = absurd (none-some order e)
made_in c client _ reply order e = absurd (none-some order e)

flat_map_in : {A B : Type 0} (h : A → List B) (xs : List A) (x : A) (y : B) → Contains xs x → Contains (h x) y → Contains (flat_map h xs) y
flat_map_in h [] x y in' has = absurd (Contains-none x in')
flat_map_in {A} {B} h (z ∷ xs) x y in' has = by (Contains-cases z x xs in') (λ there. flat_map_in h xs x y there has)
  where
    by : (z ≡ x) ⊎ Contains xs x → (Contains xs x → Contains (flat_map h xs) y) → Contains (flat_map h (z ∷ xs)) y
    by (inl is) rest = Contains-append_left (h z) (flat_map h xs) y (subst (λ (w : A). Contains (h w) y) (sym is) has)
    by (inr later) rest = Contains-append_right (h z) (flat_map h xs) y (rest later)

filter_keeps : {A : Type 0} (test : A → Bool) (xs : List A) (x : A) → Contains xs x → test x ≡ true → Contains (filter test xs) x
filter_keeps test [] x in' passes = absurd (Contains-none x in')
filter_keeps {A} test (y ∷ xs) x in' passes = by_place (test y) refl (Contains-cases y x xs in') (λ there. filter_keeps test xs x there passes)
  where
    by_place : (b : Bool) → test y ≡ b → (y ≡ x) ⊎ Contains xs x → (Contains xs x → Contains (filter test xs) x)
        → Contains (if b then y ∷ filter test xs else filter test xs) x
    by_place true e (inl same) rest = subst (λ (z : A). Contains (y ∷ filter test xs) z) same (Contains-here y (filter test xs))
    by_place true e (inr there) rest = Contains-there y x (filter test xs) (rest there)
    by_place false e (inl same) rest = absurd (true≢false (sym (ap test same ∙ passes) ∙ e))
    by_place false e (inr there) rest = rest there

-- an open order is outstanding
pub is_due : (setup : Setup) (entries : List Entry) (c : ℕ) (order : PaymentOrder) → c < length setup.currencies → Contains (orders entries c) order
    → has_end entries c order.out ≡ false
    → Contains (outstanding_orders setup entries) (node_of c, order)
is_due setup entries c order low in' open_still =
    flat_map_in (outstanding_in entries) (range_with_len 0 (length setup.currencies)) c (node_of c, order) (
      c,
      (let l = length-range_with_len 0 (length setup.currencies) in omega arith),
      get_or-range_with_len 0 (length setup.currencies) c c low ∙ (let e : 0 + c ≡ c = omega arith in e),
    )
    (map-in (λ (o : PaymentOrder). (node_of c, o)) _ order
    (filter_keeps (λ (o : PaymentOrder). not (has_end entries c o.out)) (orders entries c) order in' (ap not open_still)))

-- and what is outstanding is an order of its currency
pub record IsOutstanding (setup : Setup) (entries : List Entry) (due : ℕ × PaymentOrder) : Type 0 where
  pub ccy : ℕ
  pub node : due.0 ≡ node_of ccy
  pub low : ccy < length setup.currencies
  pub ordered : Contains (orders entries ccy) due.1

pub is_outstanding : (setup : Setup) (entries : List Entry) (due : ℕ × PaymentOrder) → Contains (outstanding_orders setup entries) due
    → IsOutstanding setup entries due
is_outstanding setup entries due in' =
    let t = flat_map-has (outstanding_in entries) (range_with_len 0 (length setup.currencies)) due in' in
    let o = map-has (λ (o : PaymentOrder). (node_of t.0, o)) _ due t.2 in
    record {
      ccy = t.0;
      node = sym (ap (λ (d : ℕ × PaymentOrder). d.0) o.2);
      low = in_range t.0 t.1;
      ordered =
          subst (λ (p : PaymentOrder). Contains (orders entries t.0) p) (ap (λ (d : ℕ × PaymentOrder). d.1) o.2)
          (filter-has (λ (o : PaymentOrder). not (has_end entries t.0 o.out)) (orders entries t.0) o.0 o.1);
    }
  where
    in_range : (c : ℕ) → Contains (range_with_len 0 (length setup.currencies)) c → c < length setup.currencies
    in_range c (k, low, is) =
        let many = length-range_with_len 0 (length setup.currencies) in
        let at = get_or-range_with_len 0 (length setup.currencies) k c (omega (arith, low, many)) in
        omega (arith, low, many, at, is)

-- HOW MANY ORDERS can be open

abbrev is_pay_out : Cmd → Bool
is_pay_out (PayOut ccy amt) = true
is_pay_out _ = false

not_pay_out : (c client : ℕ) (cmd : Cmd) (reply : Reply) → is_pay_out cmd ≡ false → order_by c client cmd reply ≡ None
not_pay_out c client (PayOut ccy amt) reply e = absurd (true≢false e)
not_pay_out c client _ reply e = refl

-- what a stricter test leaves is no more, but for what is new
filter_less : {A : Type 0} (strict test : A → Bool) (xs ys : List A) → ((x : A) → strict x ≡ true → test x ≡ true)
    → length (filter strict (xs ++ ys)) ≤ length (filter test xs) + length ys
filter_less strict test [] [] only = omega arith
filter_less {A} strict test [] (y ∷ ys) only = by (strict y) (filter_less strict test [] ys only)
  where
    by : (b : Bool) → length (filter strict ys) ≤ 0 + length ys → length (if b then y ∷ filter strict ys else filter strict ys) ≤ 0 + length (y ∷ ys)
    by true low = omega (arith, low)
    by false low = omega (arith, low)
filter_less {A} strict test (x ∷ xs) ys only = by (strict x) (test x) (only x) (filter_less strict test xs ys only)
  where
    by : (s t : Bool) → (s ≡ true → t ≡ true) → length (filter strict (xs ++ ys)) ≤ length (filter test xs) + length ys
        → length (if s then x ∷ filter strict (xs ++ ys) else filter strict (xs ++ ys)) ≤ length (if t then x ∷ filter test xs else filter test xs) + length ys
    by true true only low = omega (arith, low)
    by true false only low = absurd (true≢false (sym (only refl)))
    by false true only low = omega (arith, low)
    by false false only low = omega (arith, low)

abbrev some_length : {A : Type 0} → Option A → ℕ
some_length o = length (cons_option o [])

-- one entry more
module _ (entries : List Entry) (e : Entry) where
  abbrev longer : List Entry
  longer = entries ++ e ∷ []

  abbrev made : ℕ → Option PaymentOrder
  made c = order_by c e.client e.cmd e.reply

  still_open : (c : ℕ) (o : PaymentOrder) → not (has_end longer c o.out) ≡ true → not (has_end entries c o.out) ≡ true
  still_open c o is =
      by (has_end entries c o.out) (list_any (λ (d : Entry). is_end c o.out d.cmd) (e ∷ []))
      (ap not (sym (list_any-append (λ (d : Entry). is_end c o.out d.cmd) entries (e ∷ []))) ∙ is)
    where
      by : (a b : Bool) → not (a || b) ≡ true → not a ≡ true
      by true b h = h
      by false b h = refl

  in_currency : (c : ℕ) → length (outstanding_in longer c) ≤ length (outstanding_in entries c) + some_length (made c)
  in_currency c =
      let grown : orders longer c ≡ orders entries c ++ cons_option (made c) [] =
      filter_map-append (λ (d : Entry). order_by c d.client d.cmd d.reply) entries (e ∷ []) in
      let less =
      filter_less (λ (o : PaymentOrder). not (has_end longer c o.out)) (λ (o : PaymentOrder). not (has_end entries c o.out)) (orders entries c)
      (cons_option (made c) []) (still_open c) in
      let same = ap (λ (os : List PaymentOrder). length (filter (λ (o : PaymentOrder). not (has_end longer c o.out)) os)) grown in
      let a =
      map-length {B = ℕ × PaymentOrder} (λ (o : PaymentOrder). (node_of c, o))
      (filter (λ (o : PaymentOrder). not (has_end longer c o.out)) (orders longer c)) in
      let b =
      map-length {B = ℕ × PaymentOrder} (λ (o : PaymentOrder). (node_of c, o))
      (filter (λ (o : PaymentOrder). not (has_end entries c o.out)) (orders entries c)) in
      omega (arith, less, same, a, b)

  -- of currencies in which it orders nothing
  no_more_from : (n c : ℕ) → ((d : ℕ) → c ≤ d → made d ≡ None) → length (outstanding_from c n longer) ≤ length (outstanding_from c n entries)
  no_more_from zero c none = omega arith
  no_more_from (suc n) c none =
      let here = in_currency c in
      let nothing = ap some_length (none c (omega arith)) in
      let rest = no_more_from n (c + 1) (λ d low. none d (omega (arith, low))) in
      let a = length-append (outstanding_in longer c) (outstanding_from (c + 1) n longer) in
      let b = length-append (outstanding_in entries c) (outstanding_from (c + 1) n entries) in
      omega (arith, here, nothing, rest, a, b)

  -- it orders in one currency at the most
  one_more_from : (n c : ℕ) → length (outstanding_from c n longer) ≤ length (outstanding_from c n entries) + 1
  one_more_from zero c = omega arith
  one_more_from (suc n) c = by (made c) refl (one_more_from n (c + 1))
    where
      by : (o : Option PaymentOrder) → made c ≡ o
          → length (outstanding_from (c + 1) n longer) ≤ length (outstanding_from (c + 1) n entries) + 1
          → length (outstanding_from c (suc n) longer) ≤ length (outstanding_from c (suc n) entries) + 1
      by None is rest =
          let here = in_currency c in
          let nothing = ap some_length is in
          let a = length-append (outstanding_in longer c) (outstanding_from (c + 1) n longer) in
          let b = length-append (outstanding_in entries c) (outstanding_from (c + 1) n entries) in
          omega (arith, here, nothing, rest, a, b)
      by (Some order) is unused =
          let here = in_currency c in
          let one = ap some_length is in
          let rest = no_more_from n (c + 1) (λ d low. elsewhere d low (made d) refl) in
          let a = length-append (outstanding_in longer c) (outstanding_from (c + 1) n longer) in
          let b = length-append (outstanding_in entries c) (outstanding_from (c + 1) n entries) in
          omega (arith, here, one, rest, a, b)
        where
          elsewhere : (d : ℕ) → c + 1 ≤ d → (o : Option PaymentOrder) → made d ≡ o → made d ≡ None
          elsewhere d low None at = at
          elsewhere d low (Some other) at =
              let p = made_in c e.client e.cmd e.reply order is in
              let q = made_in d e.client e.cmd e.reply other at in
              absurd (omega (arith, p, q, low))

-- a row opens one order at the most
pub one_more_open : (setup : Setup) (rows : List Row) (row : Row) → open_in setup (rows ++ row ∷ []) ≤ open_in setup rows + 1
one_more_open setup rows row =
    let same = ap (λ (es : List Entry). length (outstanding_orders setup es)) (reached-more setup rows row) in
    let step = by (is_refusal (answer setup (book_of setup rows) row.client row.cmd)) in
    omega (arith, same, step)
  where
    new : Entry
    new = record { client = row.client; cmd = row.cmd; reply = answer setup (book_of setup rows) row.client row.cmd }

    by : (refused : Bool) → length (outstanding_orders setup (if refused then book_of setup rows else book_of setup rows ++ new ∷ [])) ≤ open_in setup rows + 1
    by true = omega arith
    by false = one_more_from (book_of setup rows) new (length setup.currencies) 0

-- many rows open no more orders than they are
pub more_open : (setup : Setup) (rows more : List Row) → open_in setup (rows ++ more) ≤ open_in setup rows + length more
more_open setup rows [] = let same = ap (open_in setup) (append_none rows) in omega (arith, same)
more_open setup rows (row ∷ more) =
    let rest = more_open setup (rows ++ row ∷ []) more in
    let one = one_more_open setup rows row in
    let same = ap (open_in setup) (append_assoc rows (row ∷ []) more) in
    omega (arith, rest, one, same)

not_member : (c : ℕ) → is_member_number (node_of c) ≡ false
not_member c = by (nat_le 1 (101 + c)) (nat_le (101 + c) 64) (above (101 + c) 64 (omega arith))
  where
    above : (a b : ℕ) → b < a → nat_le a b ≡ false
    above a b h = grind (arith, nat_tests, h)

    by : (a b : Bool) → b ≡ false → (a && b) ≡ false
    by true b e = e
    by false b e = refl

-- a node orders nothing
node_refused : (setup : Setup) (entries : List Entry) (client : ℕ) (cmd : Cmd) → is_member_number client ≡ false
    → is_refusal (answer setup entries client cmd) ≡ false → is_pay_out cmd ≡ false
unfolding answer
node_refused setup entries client (PayOut ccy amt) none ok =
    let t = passed (pay_out_checks setup entries client ccy amt) (Order (length (orders entries ccy) + 1)) ok in
    absurd (true≢false (sym (is-so _ t.0) ∙ none))
node_refused setup entries client _ none ok = refl

-- and so its rows open none
pub node_opens_none : (setup : Setup) (rows : List Row) (row : Row) (c : ℕ) → row.client ≡ node_of c
    → open_in setup (rows ++ row ∷ []) ≤ open_in setup rows
node_opens_none setup rows row c from =
    let same = ap (λ (es : List Entry). length (outstanding_orders setup es)) (reached-more setup rows row) in
    let step = by (is_refusal (answer setup (book_of setup rows) row.client row.cmd)) refl in
    omega (arith, same, step)
  where
    new : Entry
    new = record { client = row.client; cmd = row.cmd; reply = answer setup (book_of setup rows) row.client row.cmd }

    by : (refused : Bool) → is_refusal (answer setup (book_of setup rows) row.client row.cmd) ≡ refused
        → length (outstanding_orders setup (if refused then book_of setup rows else book_of setup rows ++ new ∷ [])) ≤ open_in setup rows
    by true is = omega arith
    by false is =
        let none = node_refused setup (book_of setup rows) row.client row.cmd (ap is_member_number from ∙ not_member c) is in
        no_more_from (book_of setup rows) new (length setup.currencies) 0 (λ d low. not_pay_out d new.client new.cmd new.reply none)
