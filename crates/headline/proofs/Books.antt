-- The book after more rows, and what a primary's machine orders.
use Rattle.std.proofs.Common.{◌≡◌, ℕ, ◌+◌, ◌==◌, Bool, true, false, not, if◌then◌else◌, List, [], ◌∷◌, length, Some, None, refl, sym, ap, ◌∙◌, subst, eqb-true}
use Rattle.std.specs.Prelude.{Contains}
use Rattle.std.specs.List.{range_with_len}
use Rattle.std.proofs.lemmas.List.Elements.{filter_map-append, Contains-append_left}
use Rattle.pvp_types.specs.declared.setup.Setup.{Setup}
use Rattle.pvp_types.specs.declared.command.Cmd.{Cmd}
use Rattle.pvp_types.specs.declared.command.Cmd.TheVariants.{PayOut}
use Rattle.pvp_types.specs.declared.command.Reply.{Reply}
use Rattle.pvp_types.specs.declared.command.Reply.TheVariants.{Done, Matched, Settled, Order, No}
use Rattle.pvp_types.specs.declared.command.PayOrder.{PayOrder}
use Rattle.vr_types.specs.Execution.{held_after}
use Rattle.agreement.specs.Promises.{Begins}
use Rattle.pvp_book.specs.declared.entry.Entry.{Entry}
use Rattle.pvp_book.specs.Ledger.{Ledger, outstanding_in, outstanding_orders}
use Rattle.pvp_book.specs.Orders.{order_by, orders, has_end}
use Rattle.pvp_book.specs.Answer.{Row, after, after_rows, book_of}
use Rattle.pvp_book.proofs.Reached.{begins}
use Rattle.headline.specs.Machine.{book}
use Rattle.headline.proofs.Basics.{none-some, some-same, map-has, filter-has, filter_map-has, flat_map-has}

-- the machine's word for the book after rows
pub held-is : (held : Ledger) (rows : List Row) → held_after book held rows ≡ after_rows held rows
held-is held [] = refl
held-is held (row ∷ rows) = held-is (after held row.client row.cmd) rows

-- it keeps its setup
pub held-setup : (held : Ledger) (rows : List Row) → (after_rows held rows).setup ≡ held.setup
held-setup held [] = refl
held-setup held (row ∷ rows) = held-setup (after held row.client row.cmd) rows

order-ccy : (c : ℕ) (client : ℕ) (cmd : Cmd) (reply : Reply) (o : PayOrder) → order_by c client cmd reply ≡ Some o → o.ccy ≡ c
order-ccy c client (PayOut ccy amt) (Order out) o e = by (ccy == c) refl e
  where
    by : (b : Bool) → (ccy == c) ≡ b → (if b then Some (record { ccy = ccy; out = out; member = client; amt = amt }) else None) ≡ Some o → o.ccy ≡ c
    by true is e = sym (ap (λ (x : PayOrder). x.ccy) (some-same _ o e)) ∙ eqb-true ccy c is
    by false is e = absurd (none-some o e)
order-ccy c client (PayOut ccy amt) Done o e = absurd (none-some o e)
order-ccy c client (PayOut ccy amt) Matched o e = absurd (none-some o e)
order-ccy c client (PayOut ccy amt) (Settled count) o e = absurd (none-some o e)
order-ccy c client (PayOut ccy amt) (No reason) o e = absurd (none-some o e)
order-ccy c client _ reply o e = absurd (none-some o e)

-- an order of a currency is in that currency
pub orders-ccy : (entries : List Entry) (c : ℕ) (o : PayOrder) → Contains (orders entries c) o → o.ccy ≡ c
orders-ccy entries c o in' =
    let t = filter_map-has (λ (e : Entry). order_by c e.client e.cmd e.reply) entries o in' in
    order-ccy c t.0.client t.0.cmd t.0.reply o t.2

-- what is outstanding was ordered
pub due-ordered : (setup : Setup) (entries : List Entry) (due : ℕ × PayOrder) → Contains (outstanding_orders setup entries) due
    → Contains (orders entries due.1.ccy) due.1
due-ordered setup entries due in' =
    let t = flat_map-has (outstanding_in entries) (range_with_len 0 (length setup.currencies)) due in' in
    let s = map-has (λ (o : PayOrder). (101 + t.0, o)) _ due t.2 in
    let open_order = filter-has (λ (o : PayOrder). not (has_end entries t.0 o.out)) (orders entries t.0) s.0 s.1 in
    let same : s.0 ≡ due.1 = ap (λ (d : ℕ × PayOrder). d.1) s.2 in
    let ordered : Contains (orders entries t.0) due.1 = subst (λ (o : PayOrder). Contains (orders entries t.0) o) same open_order in
    subst (λ c. Contains (orders entries c) due.1) (sym (orders-ccy entries t.0 due.1 ordered)) ordered

-- an order stays where rows come
pub ordered-more : (setup : Setup) (rows longer : List Row) (c : ℕ) (o : PayOrder) → Begins rows longer → Contains (orders (book_of setup rows) c) o
    → Contains (orders (book_of setup longer) c) o
ordered-more setup rows longer c o b in' =
    let grown = begins setup rows b.rest in
    subst (λ (l : List Row). Contains (orders (book_of setup l) c) o) b.is
    (subst (λ (es : List Entry). Contains (orders es c) o) (sym grown.1)
    (subst (λ (os : List PayOrder). Contains os o) (sym (filter_map-append (λ (e : Entry). order_by c e.client e.cmd e.reply) (book_of setup rows) grown.0))
    (Contains-append_left (orders (book_of setup rows) c) (orders grown.0 c) o in')))
