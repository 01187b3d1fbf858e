-- What stands in the book of a history: each entry came by a row, and what it must be to be accepted.
use Rattle.std.proofs.Common.{◌≡◌, ◌⊎◌, inl, inr, ℕ, ◌+◌, ◌<◌, ◌==◌, Bool, true, false, not, if◌then◌else◌, List, [], ◌∷◌, ◌++◌, length, refl, sym, ap, subst, true≢false, eqb-true}
use Rattle.std.specs.Prelude.{◌&&◌, ◌||◌, Contains, pos, int_lt, ⊤}
use Rattle.std.specs.List.{list_any}
use Rattle.std.proofs.lemmas.Bool.{ltb-true}
use Rattle.pvp_types.specs.declared.setup.Setup.{Setup}
use Rattle.pvp_types.specs.declared.command.Cmd.{Cmd}
use Rattle.pvp_types.specs.declared.command.Cmd.TheVariants.{Fund, PayOut, Paid, Returned}
use Rattle.pvp_types.specs.declared.command.Reply.{Reply}
use Rattle.pvp_types.specs.declared.command.Reply.TheVariants.{Done, Order, No}
use Rattle.pvp_types.specs.declared.command.Reason.TheVariants.{NotYours, UnknownMember, UnknownCurrency, BadAmount, UnknownReference, Repeated, Short, TestFails, BankShort}
use Rattle.pvp_book.specs.declared.entry.Entry.{Entry}
use Rattle.pvp_book.specs.Limits.{passes}
use Rattle.pvp_book.specs.Settlement.{settled_pairs}
use Rattle.pvp_book.specs.Ledger.{Ledger, opening, node_of, has_pay_in, balance, figure}
use Rattle.pvp_book.specs.Orders.{orders, has_end}
use Rattle.pvp_book.specs.Answer.{Row, answer, is_refusal, pay_out_checks, on_fund, on_pay_out, on_end, has_member, has_currency, has_order, is_amount, is_member_number, balances_less, answer_to, after, after_rows, book_of}
use Rattle.pvp_book.proofs.Checks.{passed, is-so}
use Rattle.pvp_book.proofs.Reached.{entry_of, reached}
use Rattle.vr_types.proofs.ChoosingPick.{Contains-here, Contains-there, Contains-none}
use Rattle.headline.proofs.Basics.{push-has}

-- an entry came by this row
pub record CameBy (rows : List Row) (e : Entry) : Type 0 where
  pub row : Row
  pub among : Contains rows row
  pub client : row.client ≡ e.client
  pub cmd : row.cmd ≡ e.cmd

came : (held : Ledger) (rows : List Row) (e : Entry) → Contains (after_rows held rows).entries e → Contains held.entries e ⊎ CameBy rows e
came held [] e in' = inl in'
came held (row ∷ rows) e in' = by_rest (came (after held row.client row.cmd) rows e in')
  where
    by_last : Contains held.entries e ⊎ (entry_of held.setup held.entries row.client row.cmd ≡ e) → Contains held.entries e ⊎ CameBy (row ∷ rows) e
    by_last (inl old) = inl old
    by_last (inr same) =
        inr (record { row = row; among = Contains-here row rows; client = ap (λ (d : Entry). d.client) same; cmd = ap (λ (d : Entry). d.cmd) same })

    by_first : (refused : Bool) → Contains (if refused then held.entries else held.entries ++ entry_of held.setup held.entries row.client row.cmd ∷ []) e
        → Contains held.entries e ⊎ CameBy (row ∷ rows) e
    by_first true h = inl h
    by_first false h = by_last (push-has held.entries (entry_of held.setup held.entries row.client row.cmd) e h)

    by_rest : Contains (after held row.client row.cmd).entries e ⊎ CameBy rows e → Contains held.entries e ⊎ CameBy (row ∷ rows) e
    by_rest (inl first) = by_first (is_refusal (answer_to held row.client row.cmd)) first
    by_rest (inr by) = inr (record { row = by.row; among = Contains-there row by.row rows by.among; client = by.client; cmd = by.cmd })

pub came_by : (setup : Setup) (history : List Row) (e : Entry) → Contains (book_of setup history) e → CameBy history e
came_by setup history e in' = by (came (opening setup) history e in')
  where
    by : Contains [] e ⊎ CameBy history e → CameBy history e
    by (inl none) = absurd (Contains-none e none)
    by (inr t) = t

-- WHAT IS ACCEPTED

-- a notice is its node's, and a pay-out makes an order
abbrev pub IsAccepted : Setup → ℕ → Cmd → Reply → Type 0
IsAccepted setup client (Fund c k m amt) reply = (client ≡ node_of c) × (c < length setup.currencies)
IsAccepted setup client (Paid c out) reply = (client ≡ node_of c) × (c < length setup.currencies)
IsAccepted setup client (Returned c out) reply = (client ≡ node_of c) × (c < length setup.currencies)
IsAccepted setup client (PayOut c amt) reply = (out : ℕ) × (reply ≡ Order out) × (has_member setup client ≡ true) × (is_amount amt ≡ true)
IsAccepted setup client _ reply = ⊤

fund-accepted : (setup : Setup) (entries : List Entry) (client c pay member amt : ℕ)
    → is_refusal (on_fund setup entries client c pay member amt) ≡ false → (client ≡ node_of c) × (c < length setup.currencies)
fund-accepted setup entries client c pay member amt e =
    let t = by (client == node_of c) (has_currency setup c) (has_member setup member) (is_amount amt) (pay == 0) (has_pay_in entries c pay) e in
    (eqb-true client (node_of c) t.0, ltb-true c (length setup.currencies) t.1)
  where
    by : (yours currency known small none there : Bool)
        → is_refusal (if not yours then No NotYours else if not (currency && known) then No UnknownMember else if not small then No BadAmount
        else if none then No UnknownReference else if there then No Repeated else Done) ≡ false
        → (yours ≡ true) × (currency ≡ true)
    by true true known small none there e = (refl, refl)
    by true false known small none there e = absurd (cc e)
    by false currency known small none there e = absurd (cc e)

end-accepted : (setup : Setup) (entries : List Entry) (client c out : ℕ)
    → is_refusal (on_end setup entries client c out) ≡ false → (client ≡ node_of c) × (c < length setup.currencies)
end-accepted setup entries client c out e =
    let t = by (client == node_of c) (has_currency setup c) (has_order entries c out) (has_end entries c out) e in
    (eqb-true client (node_of c) t.0, ltb-true c (length setup.currencies) t.1)
  where
    by : (yours known made paid : Bool)
        → is_refusal (if not yours then No NotYours else if not known then No UnknownMember else if not made then No UnknownReference
        else if paid then No Repeated else Done) ≡ false
        → (yours ≡ true) × (known ≡ true)
    by true true made paid e = (refl, refl)
    by true false made paid e = absurd (cc e)
    by false known made paid e = absurd (cc e)

pay_out-accepted : (setup : Setup) (entries : List Entry) (client c amt : ℕ)
    → is_refusal (on_pay_out setup entries client c amt) ≡ false → on_pay_out setup entries client c amt ≡ Order (length (orders entries c) + 1)
pay_out-accepted setup entries client c amt e =
    by (is_member_number client) (has_member setup client) (has_currency setup c) (is_amount amt) (int_lt (balance setup entries client c) (pos amt))
    (passes setup client (balances_less setup entries (settled_pairs setup entries) client c amt)) (int_lt (figure setup entries c) (pos amt))
    (length (orders entries c) + 1) e
  where
    by : (yours member currency small short passing bare : Bool) (n : ℕ)
        → is_refusal (if not yours then No NotYours else if not member then No UnknownMember else if not currency then No UnknownCurrency else if not small
        then No BadAmount
        else if short then No Short else if not passing then No TestFails else if bare then No BankShort else Order n) ≡ false
        → (if not yours then No NotYours else if not member then No UnknownMember else if not currency then No UnknownCurrency else if not small
        then No BadAmount
        else if short then No Short else if not passing then No TestFails else if bare then No BankShort else Order n) ≡ Order n
    by true true true true false true false n e = refl
    by true true true true false true true n e = absurd (cc e)
    by true true true true false false bare n e = absurd (cc e)
    by true true true true true passing bare n e = absurd (cc e)
    by true true true false short passing bare n e = absurd (cc e)
    by true true false small short passing bare n e = absurd (cc e)
    by true false currency small short passing bare n e = absurd (cc e)
    by false member currency small short passing bare n e = absurd (cc e)

accepted : (setup : Setup) (entries : List Entry) (client : ℕ) (cmd : Cmd) → is_refusal (answer setup entries client cmd) ≡ false
    → IsAccepted setup client cmd (answer setup entries client cmd)
unfolding answer
accepted setup entries client (Fund ccy pay member amt) e = fund-accepted setup entries client ccy pay member amt e
accepted setup entries client (Paid ccy out) e = end-accepted setup entries client ccy out e
accepted setup entries client (Returned ccy out) e = end-accepted setup entries client ccy out e
accepted setup entries client (PayOut ccy amt) e =
    let t = passed (pay_out_checks setup entries client ccy amt) (Order (length (orders entries ccy) + 1)) e in
    (length (orders entries ccy) + 1, pay_out-accepted setup entries client ccy amt e, is-so _ t.1.0, is-so _ t.1.1.1.0)
accepted setup entries client _ e = tt

pub all-accepted : (setup : Setup) (history : List Row) (e : Entry) → Contains (book_of setup history) e → IsAccepted setup e.client e.cmd e.reply
all-accepted setup history =
    reached setup (λ entries. (e : Entry) → Contains entries e → IsAccepted setup e.client e.cmd e.reply) (λ e in'. absurd (Contains-none e in'))
    (λ entries client cmd held ok e in'. by entries client cmd held ok e (push-has entries (entry_of setup entries client cmd) e in')) history
  where
    by : (entries : List Entry) (client : ℕ) (cmd : Cmd) → ((e : Entry) → Contains entries e → IsAccepted setup e.client e.cmd e.reply)
        → is_refusal (answer setup entries client cmd) ≡ false
        → (e : Entry) → Contains entries e ⊎ (entry_of setup entries client cmd ≡ e) → IsAccepted setup e.client e.cmd e.reply
    by entries client cmd held ok e (inl old) = held e old
    by entries client cmd held ok e (inr same) = subst (λ (d : Entry). IsAccepted setup d.client d.cmd d.reply) same (accepted setup entries client cmd ok)

-- what a test finds
pub any-has : {A : Type 0} (test : A → Bool) (xs : List A) → list_any test xs ≡ true → (x : A) × Contains xs x × (test x ≡ true)
any-has test [] e = absurd (true≢false (sym e))
any-has {A} test (x ∷ xs) e = by (test x) refl e (any-has test xs)
  where
    by : (b : Bool) → test x ≡ b → (b || list_any test xs) ≡ true → (list_any test xs ≡ true → (y : A) × Contains xs y × (test y ≡ true))
        → (y : A) × Contains (x ∷ xs) y × (test y ≡ true)
    by true is h rest = (x, Contains-here x xs, is)
    by false is h rest = let t = rest h in (t.0, Contains-there x t.0 xs t.1, t.2)
