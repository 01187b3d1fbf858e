-- Pay-ins count once, orders are numbered, and payments follow them.
use Rattle.std.proofs.Common.{◌≡◌, ℕ, ◌+◌, ◌≤◌, Bool, true, false, List, [], ◌∷◌, ◌++◌, length, map, arith, refl, ap, sym, subst, ◌∙◌, Some, None, count_by, ◌⊎◌, inl, inr, length-append, eqb-true}
use Rattle.std.specs.Prelude.{◌==◌, if◌then◌else◌}
use Rattle.std.specs.List.{cons_option, range_with_len}
use Rattle.std.proofs.lemmas.Bool.{and_parts}
use Rattle.std.proofs.lemmas.List.Elements.{filter_map-append}
use Rattle.std.proofs.lemmas.List.FromFn.{map-range_with_len_more}
use Rattle.pvp_types.specs.declared.setup.Setup.{Setup}
use Rattle.pvp_types.specs.declared.command.Cmd.{Cmd}
use Rattle.pvp_types.specs.declared.command.Cmd.TheVariants.{Fund, PayOut, Paid, Returned}
use Rattle.pvp_types.specs.declared.command.PayOrder.{PayOrder}
use Rattle.pvp_types.specs.declared.command.Reply.TheVariants.{Done, Order}
use Rattle.pvp_book.specs.declared.entry.Entry.{Entry}
use Rattle.pvp_book.specs.Ledger.{is_pay_in, has_pay_in}
use Rattle.pvp_book.specs.Orders.{is_end, has_end, order_by, orders}
use Rattle.pvp_book.specs.Answer.{Row, answer, is_refusal, on_fund, on_pay_out, on_end, has_order, fund_checks, end_checks, pay_out_checks, book_of}
use Rattle.pvp_book.specs.Laws.{PayInsOnce, AreOrdered}
use Rattle.pvp_book.proofs.Checks.{passed, unless-is, is-so}
use Rattle.pvp_book.proofs.Reached.{entry_of, reached}
use Rattle.pvp_book.proofs.Counts.{count-push, split-push}

-- a pay-in that is taken is new
fund-new : (setup : Setup) (entries : List Entry) (client c pay member amt : ℕ)
    → is_refusal (on_fund setup entries client c pay member amt) ≡ false → has_pay_in entries c pay ≡ false
fund-new setup entries client c pay member amt e = (passed (fund_checks setup entries client c pay member amt) Done e).1.1.1.1.0

-- a payment or return that is noted is of an order that was made and is neither paid nor returned
pub end-known : (setup : Setup) (entries : List Entry) (client c out : ℕ)
    → is_refusal (on_end setup entries client c out) ≡ false → (has_order entries c out ≡ true) × (has_end entries c out ≡ false)
end-known setup entries client c out e = let t = passed (end_checks setup entries client c out) Done e in (is-so _ t.1.1.0, t.1.1.1.0)

-- a pay-out that is taken makes the next order
pub pay_out-order : (setup : Setup) (entries : List Entry) (client c amt : ℕ)
    → is_refusal (on_pay_out setup entries client c amt) ≡ false → on_pay_out setup entries client c amt ≡ Order (length (orders entries c) + 1)
pay_out-order setup entries client c amt e = unless-is (pay_out_checks setup entries client c amt) (Order (length (orders entries c) + 1)) e

-- what a new pay-in is was not there
pay_in-new : (setup : Setup) (entries : List Entry) (client : ℕ) (cmd : Cmd) (c k : ℕ) → is_refusal (answer setup entries client cmd) ≡ false
    → is_pay_in c k cmd ≡ true → has_pay_in entries c k ≡ false
unfolding answer
pay_in-new setup entries client (Fund ccy pay member amt) c k accepted is =
    let both = and_parts (ccy == c) (pay == k) is in
    subst (λ d. has_pay_in entries d k ≡ false) (eqb-true ccy c both.0)
    (subst (λ j. has_pay_in entries ccy j ≡ false) (eqb-true pay k both.1) (fund-new setup entries client ccy pay member amt accepted))
pay_in-new setup entries client _ c k accepted is = absurd (cc is)

end-new : (setup : Setup) (entries : List Entry) (client : ℕ) (cmd : Cmd) (c n : ℕ) → is_refusal (answer setup entries client cmd) ≡ false
    → is_end c n cmd ≡ true → (has_order entries c n ≡ true) × (has_end entries c n ≡ false)
unfolding answer
end-new setup entries client (Paid ccy out) c n accepted is =
    let both = and_parts (ccy == c) (out == n) is in
    subst (λ d. (has_order entries d n ≡ true) × (has_end entries d n ≡ false)) (eqb-true ccy c both.0)
    (subst (λ j. (has_order entries ccy j ≡ true) × (has_end entries ccy j ≡ false)) (eqb-true out n both.1) (end-known setup entries client ccy out accepted))
end-new setup entries client (Returned ccy out) c n accepted is =
    let both = and_parts (ccy == c) (out == n) is in
    subst (λ d. (has_order entries d n ≡ true) × (has_end entries d n ≡ false)) (eqb-true ccy c both.0)
    (subst (λ j. (has_order entries ccy j ≡ true) × (has_end entries ccy j ≡ false)) (eqb-true out n both.1) (end-known setup entries client ccy out accepted))
end-new setup entries client _ c n accepted is = absurd (cc is)

pub pay_ins-once : (setup : Setup) (history : List Row) → PayInsOnce (book_of setup history)
pay_ins-once setup history =
    reached setup PayInsOnce (λ c k. omega arith)
    (λ entries client cmd held accepted c k.
    count-push (λ (e : Entry). is_pay_in c k e.cmd) entries (entry_of setup entries client cmd) (held c k)
    (λ is. pay_in-new setup entries client cmd c k accepted is))
    history

map-same : (xs : List ℕ) → map (λ x. x) xs ≡ xs
map-same [] = refl
map-same (x ∷ xs) = ap (λ ys. x ∷ ys) (map-same xs)

range-more : (n : ℕ) → range_with_len 1 (n + 1) ≡ range_with_len 1 n ++ (n + 1) ∷ []
range-more n =
    sym (map-same (range_with_len 1 (n + 1))) ∙ map-range_with_len_more (λ x. x) 1 n (n + 1) (omega arith)
    ∙ ap (λ xs. xs ++ (n + 1) ∷ []) (map-same (range_with_len 1 n))

outs-append : (xs ys : List PayOrder) → map (λ (o : PayOrder). o.out) (xs ++ ys) ≡ map (λ (o : PayOrder). o.out) xs ++ map (λ (o : PayOrder). o.out) ys
outs-append [] ys = refl
outs-append (x ∷ xs) ys = ap (λ zs. x.out ∷ zs) (outs-append xs ys)

-- the orders that an entry makes have the next number
IsNumbered : List PayOrder → Type 0
IsNumbered os = map (λ (o : PayOrder). o.out) os ≡ range_with_len 1 (length os)

numbered-push : (os : List PayOrder) (o : PayOrder) → o.out ≡ length os + 1 → IsNumbered os → IsNumbered (os ++ o ∷ [])
unfolding IsNumbered
numbered-push os o next is =
    let longer : length (os ++ o ∷ []) ≡ length os + 1 = simp length-append (omega arith) in
    outs-append os (o ∷ []) ∙ ap (λ xs. xs ++ o.out ∷ []) is ∙ ap (λ n. range_with_len 1 (length os) ++ n ∷ []) next ∙ sym (range-more (length os))
    ∙ ap (range_with_len 1) (sym longer)

numbered-nil : (os : List PayOrder) → IsNumbered os → IsNumbered (os ++ [])
unfolding IsNumbered
numbered-nil os is = outs-append os [] ∙ nil (map (λ (o : PayOrder). o.out) os) ∙ is ∙ ap (λ n. range_with_len 1 n) (same os)
  where
    nil : (xs : List ℕ) → xs ++ [] ≡ xs
    nil [] = refl
    nil (x ∷ xs) = ap (λ ys. x ∷ ys) (nil xs)

    same : (xs : List PayOrder) → length xs ≡ length (xs ++ [])
    same xs = simp length-append (omega arith)

numbered-more : (setup : Setup) (entries : List Entry) (client : ℕ) (cmd : Cmd) (c : ℕ) → is_refusal (answer setup entries client cmd) ≡ false
    → IsNumbered (orders entries c) → IsNumbered (orders entries c ++ cons_option (order_by c client cmd (answer setup entries client cmd)) [])
unfolding answer
numbered-more setup entries client (PayOut ccy amt) c accepted is =
    subst (λ reply. IsNumbered (orders entries c ++ cons_option (order_by c client (PayOut ccy amt) reply) []))
    (sym (pay_out-order setup entries client ccy amt accepted))
    (by (ccy == c) refl)
  where
    by : (b : Bool) → (ccy == c) ≡ b
        → IsNumbered (orders entries c ++ cons_option (if b then Some (record { ccy = ccy; out = length (orders entries ccy) + 1; member = client; amt = amt })
        else None) [])
    by true same =
        numbered-push (orders entries c) (record { ccy = ccy; out = length (orders entries ccy) + 1; member = client; amt = amt })
        (ap (λ d. length (orders entries d) + 1) (eqb-true ccy c same)) is
    by false other = numbered-nil (orders entries c) is
numbered-more setup entries client _ c accepted is = numbered-nil (orders entries c) is

numbered : (setup : Setup) (c : ℕ) (history : List Row) → IsNumbered (orders (book_of setup history) c)
unfolding IsNumbered
numbered setup c history =
    reached setup (λ entries. IsNumbered (orders entries c)) start
    (λ entries client cmd held accepted.
    subst IsNumbered (sym (filter_map-append (λ (e : Entry). order_by c e.client e.cmd e.reply) entries (entry_of setup entries client cmd ∷ [])))
    (numbered-more setup entries client cmd c accepted held))
    history
  where
    start : IsNumbered []
    start = refl

-- a payment follows its order
Follows : ℕ → List Entry → Type 0
Follows c entries = (earlier later : List Entry) (e : Entry) (n : ℕ) → entries ≡ earlier ++ e ∷ later → is_end c n e.cmd ≡ true → has_order earlier c n ≡ true

follows-push : (setup : Setup) (entries : List Entry) (client : ℕ) (cmd : Cmd) (c : ℕ) → is_refusal (answer setup entries client cmd) ≡ false
    → Follows c entries → Follows c (entries ++ entry_of setup entries client cmd ∷ [])
unfolding Follows
follows-push setup entries client cmd c accepted held earlier later e n same is =
    by (split-push earlier later entries e (entry_of setup entries client cmd) same)
  where
    by : ((earlier ≡ entries) × (e ≡ entry_of setup entries client cmd)) ⊎ ((rest : List Entry) × (entries ≡ earlier ++ e ∷ rest))
        → has_order earlier c n ≡ true
    by (inl last) =
        subst (λ es. has_order es c n ≡ true) (sym last.0)
        (end-new setup entries client cmd c n accepted (ap (λ (x : Entry). is_end c n x.cmd) (sym last.1) ∙ is)).0
    by (inr before) = held earlier before.0 e n before.1 is

follows : (setup : Setup) (c : ℕ) (history : List Row) → Follows c (book_of setup history)
unfolding Follows
follows setup c history =
    reached setup (Follows c) (start c) (λ entries client cmd held accepted. follows-push setup entries client cmd c accepted held) history
  where
    start : (c : ℕ) → Follows c []
    start c [] later e n same is = absurd (cc same)
    start c (x ∷ earlier) later e n same is = absurd (cc same)

pub are-ordered : (setup : Setup) (c : ℕ) (history : List Row) → AreOrdered (book_of setup history) c
unfolding IsNumbered Follows
are-ordered setup c history = record {
  numbered = numbered setup c history;
  once = λ n. reached setup (λ entries. count_by (λ (e : Entry). is_end c n e.cmd) entries ≤ 1) (omega arith)
      (λ entries client cmd held accepted.
      count-push (λ (e : Entry). is_end c n e.cmd) entries (entry_of setup entries client cmd) held
      (λ is. (end-new setup entries client cmd c n accepted is).1)) history;
  after = follows setup c history;
}
