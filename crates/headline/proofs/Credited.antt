-- Where sites work with one log and a node's notices are answered, each pay-in of the node is credited in that log's book.
use Rattle.std.proofs.Common.{◌≡◌, ℕ, suc, ◌+◌, ◌-◌, ◌<◌, ◌≤◌, ◌==◌, Bool, true, false, not, nat_lt, if◌then◌else◌, List, [], ◌∷◌, ◌++◌, length, slice_get, Option, Some, refl, sym, ap, ◌∙◌, subst, arith, sum_by, true≢false, append_assoc}
use Rattle.std.specs.Prelude.{◌&&◌, ◌||◌, Contains}
use Rattle.std.specs.List.{enumerate_from}
use Rattle.std.proofs.lemmas.Bool.{eq-eqb}
use Rattle.std.proofs.lemmas.Bool.Decides.{nat_tests}
use Rattle.std.proofs.lemmas.Option.{slice_get_within}
use Rattle.std.proofs.lemmas.List.Folds.{list_any-append}
use Rattle.std.proofs.lemmas.List.Sums.{sum_by-cons}
use Rattle.std.proofs.lemmas.List.Elements.{Contains-append_left}
use Rattle.pvp_types.specs.declared.setup.Setup.{Setup}
use Rattle.pvp_types.specs.declared.command.Cmd.{Cmd}
use Rattle.pvp_types.specs.declared.command.Cmd.TheVariants.{Fund}
use Rattle.pvp_types.specs.declared.command.Reply.{Reply}
use Rattle.pvp_types.specs.declared.command.Reply.TheVariants.{Done, No}
use Rattle.pvp_types.specs.declared.command.Reason.TheVariants.{NotYours, UnknownMember, BadAmount, UnknownReference, Repeated}
use Rattle.pvp_types.proofs.SetupLemmas.{valid-members}
use Rattle.vr_types.specs.declared.limits.TheConstants.{MAX_ROWS}
use Rattle.vr_types.proofs.ChoosingPick.{Contains-here, Contains-there}
use Rattle.agreement.specs.Promises.{Begins}
use Rattle.agreement.specs.Progress.{AreWorking}
use Rattle.agreement.proofs.Beginnings.{append_begins}
use Rattle.pvp_book.specs.declared.entry.Entry.{Entry}
use Rattle.pvp_book.specs.Ledger.{node_of, is_pay_in, has_pay_in}
use Rattle.pvp_book.specs.Answer.{Row, answer, with_entry, on_fund, has_member, has_currency, is_amount, book_of}
use Rattle.pvp_book.proofs.Reached.{begins, reached-more}
use Rattle.rtgs_node.specs.Node.{Node}
use Rattle.rtgs_node.specs.declared.payment.PayIn.{PayIn}
use Rattle.headline.specs.Legal.{LegalList}
use Rattle.headline.specs.Way.{not_credited}
use Rattle.headline.proofs.Basics.{some-same}
use Rattle.headline.proofs.Invariant.{notices_of, Holds}
use Rattle.headline.proofs.Endings.{split_at}
use Rattle.headline.proofs.Known.{Knows, legal_knows, end_says}
use Rattle.headline.proofs.PayIns.{HasNotice, legal_noted}
use Rattle.headline.proofs.Settled.{here, log_begins, HasRow, heard_row}

-- A CREDIT IS NOTED

or_first : (a b : Bool) → a ≡ true → (a || b) ≡ true
or_first true b e = refl
or_first false b e = absurd (true≢false (sym e))

or_second : (a b : Bool) → b ≡ true → (a || b) ≡ true
or_second true b e = refl
or_second false b e = e

-- a credit stays
pub credit_stays : (setup : Setup) (rows longer : List Row) (c k : ℕ) → Begins rows longer → has_pay_in (book_of setup rows) c k ≡ true
    → has_pay_in (book_of setup longer) c k ≡ true
credit_stays setup rows longer c k b is =
    let grown = begins setup rows b.rest in
    ap (λ (l : List Row). has_pay_in (book_of setup l) c k) (sym b.is)
    ∙ (ap (λ (es : List Entry). has_pay_in es c k) grown.1
    ∙ (list_any-append (λ (e : Entry). is_pay_in c k e.cmd) (book_of setup rows) grown.0 ∙ or_first _ _ is))

-- a node's word on a pay-in that the book has not is not refused
fund_done : (setup : Setup) (entries : List Entry) (c k m amt : ℕ) → c < length setup.currencies → 1 ≤ k → has_member setup m ≡ true → is_amount amt ≡ true
    → has_pay_in entries c k ≡ false
    → on_fund setup entries (node_of c) c k m amt ≡ Done
fund_done setup entries c k m amt low counted known small new =
    by (node_of c == node_of c) (has_currency setup c) (has_member setup m) (is_amount amt) (k == 0) (has_pay_in entries c k)
    (eq-eqb (node_of c) (node_of c) refl) (less c (length setup.currencies) low) known small (some k counted) new
  where
    less : (a b : ℕ) → a < b → nat_lt a b ≡ true
    less a b h = grind (arith, nat_tests, h)

    some : (n : ℕ) → 1 ≤ n → (n == 0) ≡ false
    some n h = grind (arith, nat_tests, h)

    by : (yours currency member amount none there : Bool) → yours ≡ true → currency ≡ true → member ≡ true → amount ≡ true → none ≡ false → there ≡ false
        → (if not yours then No NotYours else if not (currency && member) then No UnknownMember else if not amount then No BadAmount
        else if none then No UnknownReference else if there then No Repeated else Done) ≡ Done
    by true true true true false false a b d e g h = refl
    by true true true true false true a b d e g h = absurd (true≢false h)
    by true true true true true there a b d e g h = absurd (true≢false g)
    by true true true false none there a b d e g h = absurd (true≢false (sym e))
    by true true false amount none there a b d e g h = absurd (true≢false (sym d))
    by true false member amount none there a b d e g h = absurd (true≢false (sym b))
    by false currency member amount none there a b d e g h = absurd (true≢false (sym a))

fund_answer : (setup : Setup) (entries : List Entry) (client c k m amt : ℕ)
    → answer setup entries client (Fund c k m amt) ≡ on_fund setup entries client c k m amt
unfolding answer
fund_answer setup entries client c k m amt = refl

credited_now : (setup : Setup) (rows : List Row) (row : Row) (c k m amt : ℕ) → c < length setup.currencies → 1 ≤ k → has_member setup m ≡ true
    → is_amount amt ≡ true
    → row.client ≡ node_of c → row.cmd ≡ Fund c k m amt → has_pay_in (book_of setup (rows ++ row ∷ [])) c k ≡ true
credited_now setup rows row c k m amt low counted known small from is = by (has_pay_in (book_of setup rows) c k) refl
  where
    by : (b : Bool) → has_pay_in (book_of setup rows) c k ≡ b → has_pay_in (book_of setup (rows ++ row ∷ [])) c k ≡ true
    by true old = credit_stays setup rows (rows ++ row ∷ []) c k (append_begins rows (row ∷ [])) old
    by false new =
        let done : answer setup (book_of setup rows) row.client row.cmd ≡ Done =
        ap (λ (cmd : Cmd). answer setup (book_of setup rows) row.client cmd) is
        ∙ (ap (λ (d : ℕ). answer setup (book_of setup rows) d (Fund c k m amt)) from
        ∙ (fund_answer setup (book_of setup rows) (node_of c) c k m amt ∙ fund_done setup (book_of setup rows) c k m amt low counted known small new)) in
        ap (λ (es : List Entry). has_pay_in es c k)
        (reached-more setup rows row ∙ ap (λ (r : Reply). with_entry (book_of setup rows) row.client row.cmd r) done)
        ∙ (list_any-append (λ (e : Entry). is_pay_in c k e.cmd) (book_of setup rows) (record { client = row.client; cmd = row.cmd; reply = Done } ∷ [])
        ∙ or_second _ _ (or_first _ false (ap (is_pay_in c k) is ∙ end_says c k)))

-- a row of a node on a pay-in credits it
credited_by : (setup : Setup) (log : List Row) (row : Row) (c k m amt : ℕ) → c < length setup.currencies → 1 ≤ k → has_member setup m ≡ true
    → is_amount amt ≡ true
    → Contains log row → row.client ≡ node_of c → row.cmd ≡ Fund c k m amt → has_pay_in (book_of setup log) c k ≡ true
credited_by setup log row c k m amt low counted known small in' from is =
    let t = split_at log row in' in
    credit_stays setup (t.0 ++ row ∷ []) log c k (record { rest = t.1; is = append_assoc t.0 (row ∷ []) t.1 ∙ sym t.2 })
    (credited_now setup t.0 row c k m amt low counted known small from is)

-- EACH PAY-IN

module _ (setup : Setup) (f : ℕ) (some : 1 ≤ f) (list : LegalList setup f) (view : ℕ) (log : List Row) (are : AreWorking f view log list.bank.sites)
    (room : length log < MAX_ROWS)
    (c : ℕ) (x : Node) (at : slice_get list.bank.nodes c ≡ Some x) (calm : x.answered ≡ length x.notices) where
  pub credited : (k : ℕ) (p : PayIn) → slice_get x.pay_ins k ≡ Some p → has_pay_in (book_of setup log) c (k + 1) ≡ true
  credited k p paid =
      credited_by setup log row.row c (k + 1) p.member p.amt low (omega arith) n.member n.amount row.among row.client
      (some-same row.row.cmd (Fund c (k + 1) p.member p.amt) (sym said ∙ (ap (λ (j : ℕ). slice_get x.notices j) back ∙ n.is)))
    where
      holds : Holds setup list.choose f list.cells list.moves list.bank
      holds = here setup f some list view log are

      low : c < length setup.currencies
      low = let a = slice_get_within list.bank.nodes c x at in let b = holds.count in omega arith

      knows : Knows setup list.choose f list.cells list.moves list.bank c x
      knows = legal_knows setup list.choose f list.cells (valid-members setup list.valid).1 list.right list.legal.all list.moves list.bank list.legal.run c x at

      n : HasNotice setup c k p x
      n = (legal_noted setup list.choose f list.cells list.moves list.bank list.legal.run c x at).each k p paid

      row : HasRow setup f some list view log are room c (n.place + 1)
      row =
          heard_row setup f some list view log are room c (n.place + 1)
          (knows.heard n.place (let a = slice_get_within x.notices n.place (Fund c (k + 1) p.member p.amt) n.is in let b = calm in omega arith))

      back : row.row.number - 1 ≡ n.place
      back = let e = row.number_is in omega arith

      said : slice_get x.notices (row.row.number - 1) ≡ Some row.row.cmd
      said =
          let b = log_begins setup f some list view log are holds in
          let r =
          holds.rows row.row (subst (λ (l : List Row). Contains l row.row) b.is (Contains-append_left log b.rest row.row row.among)) c
          (slice_get_within list.bank.nodes c x at) row.client in
          ap (λ (o : Option Node). slice_get (notices_of o) (row.row.number - 1)) (sym at) ∙ r.is

-- SUMS OF NOTHING

pub sum_none : {A : Type 0} (g : A → ℕ) (xs : List A) → ((x : A) → Contains xs x → g x ≡ 0) → sum_by g xs ≡ 0
sum_none g [] none = refl
sum_none g (x ∷ xs) none =
    let a = none x (Contains-here x xs) in
    let b = sum_none g xs (λ y in'. none y (Contains-there x y xs in')) in
    let d = sum_by-cons g x xs in
    omega arith

credited_from : (c n : ℕ) (entries : List Entry) (ps : List PayIn) → ((k : ℕ) (p : PayIn) → slice_get ps k ≡ Some p → has_pay_in entries c (n + k) ≡ true)
    → sum_by (λ (p : ℕ × PayIn). if has_pay_in entries c p.0 then 0 else p.1.amt) (enumerate_from n ps) ≡ 0
credited_from c n entries [] all = refl
credited_from c n entries (p ∷ ps) all =
    let rest =
    credited_from c (n + 1) entries ps (λ k q at. ap (λ (j : ℕ). has_pay_in entries c j) (let e : (n + 1) + k ≡ n + suc k = omega arith in
    e) ∙ all (suc k) q at) in
    let first : has_pay_in entries c n ≡ true = ap (λ (j : ℕ). has_pay_in entries c j) (let e : n ≡ n + 0 = omega arith in e) ∙ all 0 p refl in
    let one : (if has_pay_in entries c n then 0 else p.amt) ≡ 0 = ap (λ (b : Bool). if b then 0 else p.amt) first in
    let whole = sum_by-cons (λ (q : ℕ × PayIn). if has_pay_in entries c q.0 then 0 else q.1.amt) (n, p) (enumerate_from (n + 1) ps) in
    omega arith

-- so nothing that was paid in is on the way
pub none_uncredited : (c : ℕ) (x : Node) (entries : List Entry) → ((k : ℕ) (p : PayIn) → slice_get x.pay_ins k ≡ Some p → has_pay_in entries c (k + 1) ≡ true)
    → not_credited c x entries ≡ 0
none_uncredited c x entries all =
    credited_from c 1 entries x.pay_ins (λ k p at. ap (λ (j : ℕ). has_pay_in entries c j) (let e : 1 + k ≡ k + 1 = omega arith in e) ∙ all k p at)
