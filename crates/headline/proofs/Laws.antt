-- The headline, from the invariant.
use Rattle.std.proofs.Common.{◌≡◌, ◌⊎◌, inl, inr, ℕ, ◌+◌, ◌-◌, ◌<◌, ◌≤◌, ◌==◌, Bool, true, false, not, if◌then◌else◌, List, [], ◌∷◌, ◌++◌, length, map, take, slice_get, Option, Some, None, refl, sym, ap, ◌∙◌, subst, arith, sum_by, true≢false, eqb-true, ℤ, pos, ◌+ℤ◌, ◌-ℤ◌, ◌≤ℤ◌}
use Rattle.std.specs.Prelude.{◌&&◌, ◌||◌, nat_lt, Contains, int_lt}
use Rattle.std.specs.List.{list_any, range_with_len}
use Rattle.std.proofs.lemmas.Bool.{and_parts, eq-eqb}
use Rattle.std.proofs.lemmas.List.Folds.{list_any_at}
use Rattle.std.proofs.lemmas.Int.{ints}
use Rattle.std.proofs.lemmas.List.{take-append-le}
use Rattle.std.proofs.lemmas.List.Sums.{sum_by-append, sum_by-cons}
use Rattle.std.proofs.lemmas.List.Elements.{filter_map-append, Contains-append_left}
use Rattle.pvp_types.specs.declared.setup.Setup.{Setup}
use Rattle.pvp_types.specs.declared.command.Cmd.{Cmd}
use Rattle.pvp_types.specs.declared.command.Cmd.TheVariants.{Fund, Paid, Returned}
use Rattle.pvp_types.specs.declared.command.Reply.{Reply as Answer}
use Rattle.pvp_types.specs.declared.command.PayOrder.{PayOrder as PaymentOrder}
use Rattle.pvp_types.proofs.SetupLemmas.{valid-members}
use Rattle.vr_types.specs.declared.message.MsgOf.{MsgOf}
use Rattle.vr_types.specs.declared.message.MsgOf.TheVariants.{Reply, PayOrder}
use Rattle.vr_types.specs.declared.cell.Boot.{Boot}
use Rattle.vr_types.specs.Choice.{Choice}
use Rattle.vr_types.specs.Site.{Site, executed_rows}
use Rattle.vr_types.proofs.ChoosingPick.{Contains-cases, Contains-none}
use Rattle.agreement.specs.Promises.{Agree, Begins}
use Rattle.pvp_book.specs.declared.entry.Entry.{Entry}
use Rattle.pvp_book.specs.Ledger.{node_of, opening, figure}
use Rattle.pvp_book.specs.Orders.{order_by, orders, is_payment, has_payment, is_return, has_return}
use Rattle.pvp_book.specs.Answer.{Row, after_rows, book_of, has_member, is_amount}
use Rattle.pvp_book.specs.Laws.{funds, all_paid_out, all_returned, AreOrdered}
use Rattle.pvp_book.proofs.LedgerLemmas.{sum-le}
use Rattle.pvp_book.proofs.Reached.{begins}
use Rattle.pvp_book.proofs.OrderLemmas.{pay_ins-once, are-ordered}
use Rattle.pvp_book.proofs.FigureLemmas.{is-covered}
use Rattle.rtgs_node.specs.declared.event.NodeEvent.TheVariants as node
use Rattle.rtgs_node.specs.declared.fault.NodeFault.TheVariants as fault
use Rattle.rtgs_node.specs.Node.{Envelope, Node, NodeStep, account, came_in, went_out, has_done, has_returned, is_known, is_closed, is_full, notice_out, does, refuses, notes, on_order, on_reply, on_message, node_step}
use Rattle.rtgs_node.specs.declared.payment.PayIn.{PayIn}
use Rattle.headline.specs.declared.step.Move.{Move}
use Rattle.headline.specs.Bank.{Bank}
use Rattle.headline.specs.Legal.{LegalList, Continued}
use Rattle.headline.specs.Way.{not_credited, not_done, not_known, not_ordered, way}
use Rattle.headline.specs.Headline.{executed_book, IsPayIn, DoneWereOrdered, IsDone, IsReturned}
use Rattle.headline.proofs.Basics.{none-some, some-same, place_of, at-append, filter-has}
use Rattle.headline.proofs.Books.{ordered-more}
use Rattle.headline.proofs.Invariant.{notices_of, notice_at, IsNotice, IsSo, IsSoundNode, Holds, HoldsOn}
use Rattle.agreement.proofs.Beginnings.{begins_itself, begins-trans}
use Rattle.headline.proofs.Reached.{run-keeps, legal-holds}
use Rattle.headline.proofs.Entries.{IsAccepted, came_by, all-accepted, any-has}
use Rattle.headline.proofs.Amounts.{Amount, total_in, total_out, Once, Match, total-parts, matched, all-in}
use Rattle.headline.proofs.Payments.{taken_amounts, taken-once, taken-is, taken-all, taken-in, credits, credits-total, credits-once, credits-are, made_amounts, made-total, made-are, made-in, numbered-at, numbered-once, done-once, kept_orders, kept-total, kept-once, way-credits, way-done, way-kept, way-ordered}

begins-has : (rows history : List Row) → Begins rows history → (row : Row) → Contains rows row → Contains history row
begins-has rows history b row in' = subst (λ (l : List Row). Contains l row) b.is (Contains-append_left rows b.rest row in')

-- the node of a notice
notice-node : (nodes : List Node) (c i : ℕ) (cmd : Cmd) → notice_at nodes c i ≡ Some cmd
    → (x : Node) × (slice_get nodes c ≡ Some x) × (slice_get x.notices i ≡ Some cmd)
notice-node nodes c i cmd is = by (slice_get nodes c) refl is
  where
    by : (found : Option Node) → slice_get nodes c ≡ found → slice_get (notices_of found) i ≡ Some cmd
        → (x : Node) × (slice_get nodes c ≡ Some x) × (slice_get x.notices i ≡ Some cmd)
    by None at e = absurd (none-some cmd e)
    by (Some x) at e = (x, at, e)

abbrev numbers : ℕ → List ℕ
numbers n = range_with_len 1 n

-- of orders that are numbered by their places one number is one order
one-order : (os : List PaymentOrder) (n : ℕ) → map (λ (o : PaymentOrder). o.out) os ≡ numbers n → (a b : PaymentOrder) → Contains os a → Contains os b
    → a.out ≡ b.out → a ≡ b
one-order os n is a b in_a in_b same =
    let p = place_of os a in_a in
    let q = place_of os b in_b in
    let at_a = numbered-at os 1 n is p.0 a p.1 in
    let at_b = numbered-at os 1 n is q.0 b q.1 in
    let place : p.0 ≡ q.0 = omega arith in
    some-same a b (sym p.1 ∙ ap (λ i. slice_get os i) place ∙ q.1)

payment-is : (c out : ℕ) (cmd : Cmd) → is_payment c out cmd ≡ true → cmd ≡ Paid c out
payment-is c out (Paid ccy n) is =
    let both = and_parts (ccy == c) (n == out) is in
    ap (λ d. Paid d n) (eqb-true ccy c both.0) ∙ ap (λ k. Paid c k) (eqb-true n out both.1)
payment-is c out _ is = absurd (true≢false (sym is))

return-is : (c out : ℕ) (cmd : Cmd) → is_return c out cmd ≡ true → cmd ≡ Returned c out
return-is c out (Returned ccy n) is =
    let both = and_parts (ccy == c) (n == out) is in
    ap (λ d. Returned d n) (eqb-true ccy c both.0) ∙ ap (λ k. Returned c k) (eqb-true n out both.1)
return-is c out _ is = absurd (true≢false (sym is))

-- one of a sum is at most the sum
sum-has : {A : Type 0} (g : A → ℕ) (xs : List A) (x : A) → Contains xs x → g x ≤ sum_by g xs
sum-has g [] x in' = absurd (Contains-none x in')
sum-has {A} g (y ∷ xs) x in' = by (Contains-cases y x xs in') (sum-has g xs x)
  where
    by : (y ≡ x) ⊎ Contains xs x → (Contains xs x → g x ≤ sum_by g xs) → g x ≤ sum_by g (y ∷ xs)
    by (inl same) rest = let all = sum_by-cons g y xs in let one = ap g same in omega arith
    by (inr later) rest = let all = sum_by-cons g y xs in let low = rest later in omega arith

-- what is done is found by its number
done-there : (os : List PaymentOrder) (o : PaymentOrder) → Contains os o → list_any (λ (p : PaymentOrder). p.out == o.out) os ≡ true
done-there os o (k, low, is) =
    list_any_at (λ (p : PaymentOrder). p.out == o.out) os k o low (ap (λ (p : PaymentOrder). p.out == o.out) is ∙ eq-eqb o.out o.out refl)

-- the algebra of the account
adjusted : (came went funded paid back both uncredited undone unordered : ℕ) → came ≡ funded + uncredited → paid ≡ (both + undone) + back
    → went ≡ both + unordered
    → (pos came -ℤ pos went) ≡ ((pos funded -ℤ pos paid) +ℤ pos back) +ℤ (pos (uncredited + undone) -ℤ pos unordered)
adjusted came went funded paid back both uncredited undone unordered e g h = omega (arith, ints)

covering : (came went funded paid back both uncredited undone less : ℕ) → came ≡ funded + uncredited → paid ≡ (both + undone) + back → went ≡ both
    → pos 0 ≤ℤ ((pos funded -ℤ pos paid) +ℤ pos back) → less ≤ undone
    → pos less ≤ℤ (pos came -ℤ pos went)
covering came went funded paid back both uncredited undone less e g h covered low = omega (arith, ints)

not_short : (account : ℤ) (amt undone : ℕ) → pos undone ≤ℤ account → amt ≤ undone → int_lt account (pos amt) ≡ true → ⊥
not_short account amt undone covered low short = grind (arith, ints)

-- a book that the history begins with
module _ {setup : Setup} {choose : Choice Cmd} {f : ℕ} {cells : List Boot} {moves : List Move} {bank : Bank} (h : Holds setup choose f cells moves bank)
    (rows : List Row) (b : Begins rows h.history) where
  abbrev entries : List Entry
  entries = book_of setup rows

  asked : (row : Row) → Contains rows row → (c : ℕ) → c < length setup.currencies → row.client ≡ node_of c → IsNotice bank.nodes c row.number row.cmd
  asked row in' c low from = h.rows row (begins-has rows h.history b row in') c (let count = h.count in omega arith) from

  -- an entry of a node is one of its notices
  noticed : (e : Entry) (c : ℕ) → Contains entries e → c < length setup.currencies → e.client ≡ node_of c
      → (x : Node) × (i : ℕ) × (slice_get bank.nodes c ≡ Some x) × (slice_get x.notices i ≡ Some e.cmd)
  noticed e c in' low from =
      let t = came_by setup rows e in' in
      let n = asked t.row t.among c low (t.client ∙ from) in
      let s = notice-node bank.nodes c (t.row.number - 1) t.row.cmd n.is in
      (s.0, t.row.number - 1, s.1, s.2 ∙ ap (λ (cmd : Cmd). Some cmd) t.cmd)

  pub paid_in : (e : Entry) (c k m amt : ℕ) → Contains entries e → e.cmd ≡ Fund c k m amt → IsPayIn bank c k m amt
  paid_in e c k m amt in' is =
      let ok = subst (λ (cmd : Cmd). IsAccepted setup e.client cmd e.reply) is (all-accepted setup rows e in') in
      let n = noticed e c in' ok.1 ok.0 in
      let t = subst (λ (cmd : Cmd). IsSo c n.0 cmd) is ((h.nodes c n.0 n.2).notices n.1 e.cmd n.3) in
      record { node = n.0; is_there = n.2; counted = t.1; is = t.2 }

  pub paid : (c out : ℕ) → has_payment entries c out ≡ true → IsDone bank c out
  paid c out is =
      let t = any-has (λ (e : Entry). is_payment c out e.cmd) entries is in
      let cmd = payment-is c out t.0.cmd t.2 in
      let ok = subst (λ (k : Cmd). IsAccepted setup t.0.client k t.0.reply) cmd (all-accepted setup rows t.0 t.1) in
      let n = noticed t.0 c t.1 ok.1 ok.0 in
      let s = subst (λ (k : Cmd). IsSo c n.0 k) cmd ((h.nodes c n.0 n.2).notices n.1 t.0.cmd n.3) in
      record { node = n.0; is_there = n.2; done = s.1 }

  pub returned : (c out : ℕ) → has_return entries c out ≡ true → IsReturned bank c out
  returned c out is =
      let t = any-has (λ (e : Entry). is_return c out e.cmd) entries is in
      let cmd = return-is c out t.0.cmd t.2 in
      let ok = subst (λ (k : Cmd). IsAccepted setup t.0.client k t.0.reply) cmd (all-accepted setup rows t.0 t.1) in
      let n = noticed t.0 c t.1 ok.1 ok.0 in
      let s = subst (λ (k : Cmd). IsSo c n.0 k) cmd ((h.nodes c n.0 n.2).notices n.1 t.0.cmd n.3) in
      record { node = n.0; is_there = n.2; returned = s.1 }

  module _ (c : ℕ) (x : Node) (is_there : slice_get bank.nodes c ≡ Some x) where
    sound : IsSoundNode c x
    sound = h.nodes c x is_there

    -- what is credited was taken in
    credit-taken : (a : Amount) → Contains (credits c entries) a → Contains (taken_amounts x) a
    credit-taken a in' =
        let t = credits-are c entries a in' in
        let p = paid_in t.0 c a.number t.2.0 a.amt t.1 t.2.1 in
        let same : p.node ≡ x = some-same p.node x (sym p.is_there ∙ is_there) in
        taken-in x a t.2.0 p.counted (subst (λ (n : Node). slice_get n.pay_ins (a.number - 1) ≡ Some (record { member = t.2.0; amt = a.amt })) same p.is)

    credits-match : Match (credits c entries) (taken_amounts x)
    credits-match a z in_a in_z same =
        let p = taken-is x a (credit-taken a in_a) in
        let q = taken-is x z in_z in
        let one : p.0 ≡ q.0 = some-same p.0 q.0 (sym p.2 ∙ ap (λ n. slice_get x.pay_ins (n - 1)) same ∙ q.2) in
        sym p.3 ∙ ap (λ (i : PayIn). i.amt) one ∙ q.3

    once : Once (credits c entries)
    once = credits-once c entries (λ k. pay_ins-once setup rows c k)

    -- THE BANK'S ACCOUNT IS CREDITED with what the book has credited, and what it has not
    pub taken-in-all : came_in x ≡ funds entries c + not_credited c x entries
    taken-in-all =
        let parts = total-parts (credits c entries) (taken_amounts x) in
        let same = matched (credits c entries) (taken_amounts x) once (taken-once x) credits-match in
        let whole = all-in (taken_amounts x) (credits c entries) credit-taken in
        let sum = credits-total c entries in
        let all = taken-all x in
        let rest = way-credits c x entries in
        sym all ∙ parts ∙ ap (λ n. n + total_out (credits c entries) (taken_amounts x)) (sym same ∙ whole ∙ sum) ∙ ap (λ n. funds entries c + n) (sym rest)

    numbers_are : AreOrdered entries c
    numbers_are = are-ordered setup c rows

    -- the orders of the book, and those done, are orders of the history
    in-history : (o : PaymentOrder) → Contains (orders entries c) o → Contains (orders (book_of setup h.history) c) o
    in-history o in' = ordered-more setup rows h.history c o b in'

    done-history : (o : PaymentOrder) → Contains x.pay_outs o → Contains (orders (book_of setup h.history) c) o
    done-history o in' = (h.done c x o is_there in').ordered

    kept-has : (o : PaymentOrder) → Contains (kept_orders c entries) o → Contains (orders entries c) o
    kept-has o in' = filter-has (λ (p : PaymentOrder). not (has_return entries c p.out)) (orders entries c) o in'

    -- what the book has as returned is returned here, and so is not done
    returned-here : (out : ℕ) → has_return entries c out ≡ true → has_returned x out ≡ true
    returned-here out is = let r = returned c out is in
        subst (λ (n : Node). has_returned n out ≡ true) (some-same r.node x (sym r.is_there ∙ is_there)) r.returned

    not-back : (o : PaymentOrder) → Contains x.pay_outs o → has_return entries c o.out ≡ false
    not-back o in' = by (has_return entries c o.out) refl
      where
        by : (b : Bool) → has_return entries c o.out ≡ b → b ≡ false
        by true is = absurd (true≢false (sym (returned-here o.out is) ∙ sound.apart o.out (done-there x.pay_outs o in')))
        by false is = refl

    orders-match : Match (made_amounts (kept_orders c entries)) (made_amounts x.pay_outs)
    orders-match a z in_a in_z same =
        let p = made-are (kept_orders c entries) a in_a in
        let q = made-are x.pay_outs z in_z in
        let out : p.0.out ≡ q.0.out = ap (λ (i : Amount). i.number) p.2 ∙ same ∙ sym (ap (λ (i : Amount). i.number) q.2) in
        let one =
        one-order (orders (book_of setup h.history) c) _ (are-ordered setup c h.history).numbered p.0 q.0 (in-history p.0 (kept-has p.0 p.1))
        (done-history q.0 q.1) out in
        sym (ap (λ (i : Amount). i.amt) p.2) ∙ ap (λ (o : PaymentOrder). o.amt) one ∙ ap (λ (i : Amount). i.amt) q.2

    abbrev both : ℕ
    both = total_in (made_amounts x.pay_outs) (made_amounts (kept_orders c entries))

    -- WHAT THE BOOK PAYS OUT is done, or on the way, or returned
    pub ordered-all : all_paid_out entries c ≡ (both + not_done c x entries) + all_returned entries c
    ordered-all =
        kept-total setup c entries (all-accepted setup rows)
        ∙ ap (λ n. n + all_returned entries c) (total-parts (made_amounts x.pay_outs) (made_amounts (kept_orders c entries))
        ∙ ap (λ n. both + n) (sym (way-done c x entries)))

    -- WHAT THE NODE PAID OUT is in the book, or not yet
    pub done-all : went_out x ≡ both + not_ordered c x entries
    done-all =
        sym (made-total x.pay_outs) ∙ total-parts (made_amounts (kept_orders c entries)) (made_amounts x.pay_outs)
        ∙ ap (λ n. n + total_out (made_amounts (kept_orders c entries)) (made_amounts x.pay_outs))
        (sym (matched (made_amounts (kept_orders c entries)) (made_amounts x.pay_outs)
        (kept-once c entries (numbered-once (orders entries c) _ numbers_are.numbered))
        (done-once x sound.once) orders-match))
        ∙ ap (λ n. both + n) (sym (way-kept c x entries not-back))

    -- ACCOUNT EQUALLED FIGURE ADJUSTED
    pub account-is : account x ≡ figure setup entries c +ℤ way c x entries
    account-is =
        adjusted (came_in x) (went_out x) (funds entries c) (all_paid_out entries c) (all_returned entries c) both (not_credited c x entries)
        (not_done c x entries) (not_ordered c x entries) taken-in-all ordered-all done-all
        ∙ ap (λ z. z +ℤ way c x entries) (sym (is-covered setup c rows).difference)

    -- what the node has neither done nor returned it has not done, and the book has it not as returned
    known-done : not_known c x entries ≤ not_done c x entries
    known-done =
        sum-le (λ (o : PaymentOrder). if is_known x o.out then 0 else o.amt) (λ (o : PaymentOrder). if has_done x o.out || has_return entries c o.out then 0
        else o.amt)
        (λ o. by (has_done x o.out) (has_returned x o.out) (has_return entries c o.out) o.amt (returned-here o.out)) (orders entries c)
      where
        by : (done here book : Bool) (amt : ℕ) → (book ≡ true → here ≡ true) → (if done || here then 0 else amt) ≤ (if done || book then 0 else amt)
        by true here book amt h = omega arith
        by false true book amt h = omega arith
        by false false true amt h = absurd (true≢false (sym (h refl)))
        by false false false amt h = omega arith

    -- and the history has it too
    grown : not_known c x entries ≤ not_known c x (book_of setup h.history)
    grown =
        let more = begins setup rows b.rest in
        let os : orders (book_of setup h.history) c ≡ orders entries c ++ orders more.0 c =
        ap (λ (l : List Row). orders (book_of setup l) c) (sym b.is) ∙ ap (λ (es : List Entry). orders es c) more.1
        ∙ filter_map-append (λ (e : Entry). order_by c e.client e.cmd e.reply) entries more.0 in
        let sum = ap (λ (l : List PaymentOrder). sum_by (λ o. if is_known x o.out then 0 else o.amt) l) os in
        let parts = sum_by-append (λ (o : PaymentOrder). if is_known x o.out then 0 else o.amt) (orders entries c) (orders more.0 c) in
        omega arith

-- the whole history
module _ {setup : Setup} {choose : Choice Cmd} {f : ℕ} {cells : List Boot} {moves : List Move} {bank : Bank} (h : Holds setup choose f cells moves bank)
    (c : ℕ) (x : Node) (is_there : slice_get bank.nodes c ≡ Some x) where
  abbrev history_book : List Entry
  history_book = book_of setup h.history

  none-left : not_ordered c x history_book ≡ 0
  none-left =
      let all = all-in (made_amounts (orders history_book c)) (made_amounts x.pay_outs) (λ a in'.
      let t = made-are x.pay_outs a in' in
      subst (λ (z : Amount). Contains (made_amounts (orders history_book c)) z) t.2
      (made-in (orders history_book c) t.0 (h.done c x t.0 is_there t.1).ordered)) in
      let parts = total-parts (made_amounts (orders history_book c)) (made_amounts x.pay_outs) in
      let is = way-ordered c x history_book in
      omega arith

  pub covered : (rows : List Row) → Begins rows h.history → pos (not_known c x (book_of setup rows)) ≤ℤ account x
  covered rows b =
      let itself = begins_itself h.history in
      let cover = is-covered setup c h.history in
      let left = none-left in
      let went = done-all h h.history itself c x is_there in
      let more = grown h rows b c x is_there in
      let known = known-done h h.history itself c x is_there in
      covering (came_in x) (went_out x) (funds history_book c) (all_paid_out history_book c) (all_returned history_book c)
      (both h h.history itself c x is_there) (not_credited c x history_book) (not_done c x history_book) (not_known c x (book_of setup rows))
      (taken-in-all h h.history itself c x is_there) (ordered-all h h.history itself c x is_there) (omega arith)
      (subst (λ z. pos 0 ≤ℤ z) cover.difference cover.covered) (omega arith)

-- NO NODE IS EVER SHORT
short-is : (x : Node) (back step : NodeStep) (mine known member amount full closed short : Bool) → back.fault ≡ None → step.fault ≡ None
    → (if not mine then refuses x fault.NotMine else if known then does x [] else if not member then refuses x fault.UnknownMember else if not amount
    then refuses x fault.BadAmount
    else if full then refuses x fault.Spent else if closed then back else if short then refuses x fault.Short else step).fault ≡ Some fault.Short
    → (mine ≡ true) × (known ≡ false) × (short ≡ true)
short-is x back step true false true true false false true none silent is = (refl, refl, refl)
short-is x back step true false true true false false false none silent is = absurd (none-some _ (sym silent ∙ is))
short-is x back step true false true true false true short none silent is = absurd (none-some _ (sym none ∙ is))
short-is x back step true false true true true closed short none silent is = absurd (cc)
short-is x back step true false true false full closed short none silent is = absurd (cc)
short-is x back step true false false amount full closed short none silent is = absurd (cc)
short-is x back step true true member amount full closed short none silent is = absurd (none-some _ is)
short-is x back step false known member amount full closed short none silent is = absurd (cc)

module _ {setup : Setup} {choose : Choice Cmd} {f : ℕ} {cells : List Boot} {moves : List Move} {bank : Bank} (h : Holds setup choose f cells moves bank)
    (c : ℕ) (x : Node) (is_there : slice_get bank.nodes c ≡ Some x) (e : Envelope) (in' : Contains bank.post e) where
  order-not_short : (o : PaymentOrder) → e.msg ≡ PayOrder o → (on_order setup f c x o).fault ≡ Some fault.Short → ⊥
  order-not_short o msg is =
      let t =
      short-is x (notes f c (record x { returned = x.returned ++ o ∷ [] }) (Returned c o.out))
      (notes f c (record x { pay_outs = x.pay_outs ++ o ∷ [] }) (Paid c o.out))
      (o.ccy == c) (is_known x o.out) (has_member setup o.member) (is_amount o.amt) (is_full (length x.pay_outs + length x.returned)) (is_closed x o.member)
      (int_lt (account x) (pos o.amt)) refl refl is in
      let ordered = subst (λ d. Contains (orders (book_of setup h.history) d) o) (eqb-true o.ccy c t.0) (h.orders e o in' msg).ordered in
      let one = sum-has (λ (p : PaymentOrder). if is_known x p.out then 0 else p.amt) (orders (book_of setup h.history) c) o ordered in
      let amt : (if is_known x o.out then 0 else o.amt) ≡ o.amt = ap (λ b. if b then 0 else o.amt) t.1 in
      not_short (account x) o.amt (not_known c x (book_of setup h.history)) (covered h c x is_there h.history (begins_itself h.history)) (omega arith) t.2

  reply-not_short : (number : ℕ) → (on_reply setup f c x number).fault ≡ Some fault.Short → ⊥
  reply-not_short number is = by ((number == x.answered + 1) && nat_lt x.answered (length x.notices)) is
    where
      by : (b : Bool) → (if b then (let y = record x { answered = x.answered + 1 } in does y (notice_out f c y)) else does x []).fault ≡ Some fault.Short → ⊥
      by true is = none-some _ is
      by false is = none-some _ is

  message-not_short : (msg : MsgOf Cmd Answer PaymentOrder) → e.msg ≡ msg → (on_message setup f c x msg).fault ≡ Some fault.Short → ⊥
  message-not_short (Reply told) msg is = reply-not_short told.number is
  message-not_short (PayOrder order) msg is = order-not_short order msg is
  message-not_short _ msg is = cc

  pub never-short : (node_step setup f c x (node.Takes e)).fault ≡ Some fault.Short → ⊥
  never-short is = by (not (e.to == node_of c)) is
    where
      by : (b : Bool) → (if b then refuses x fault.NotMine else on_message setup f c x e.msg).fault ≡ Some fault.Short → ⊥
      by true is = cc
      by false is = message-not_short e.msg refl is

-- ONE MOMENT, AND TWO

module _ {setup : Setup} {f : ℕ} (list : LegalList setup f) where
  pub here : Holds setup list.choose f list.cells list.moves list.bank
  here = legal-holds setup (valid-members setup list.valid).1 list.choose f list.right list.cells list.moves list.bank list.legal.all list.legal.run

  pub later : (late : Continued list) → HoldsOn setup list.choose f list.cells here.history here.world (list.moves ++ late.moves) late.bank
  later late = run-keeps setup (valid-members setup list.valid).1 list.choose f list.right list.cells list.moves list.bank here late.moves late.bank late.run

  pub was-ordered : DoneWereOrdered list
  was-ordered c x order at in' = let t = here.done c x order at in' in (t.moment, t.by)

  module _ (late : Continued list) (x y : Site Cmd) (in_early : Contains list.bank.sites x) (in_late : Contains late.bank.sites y) where
    first : Begins (executed_rows x) (later late).holds.history
    first = begins-trans (here.begins x in_early) (later late).longer

    second : Begins (executed_rows y) (later late).holds.history
    second = (later late).holds.begins y in_late

    pub rows-agree : Agree (executed_rows x) (executed_rows y)
    rows-agree n a b at_a at_b =
        some-same a b (sym (at-append (executed_rows x) first.rest n a at_a) ∙ ap (λ (l : List Row). slice_get l n) (first.is ∙ sym second.is)
        ∙ at-append (executed_rows y) second.rest n b at_b)

    pub books-agree : (n : ℕ) → n ≤ length (executed_rows x) → n ≤ length (executed_rows y)
        → after_rows (opening setup) (take n (executed_rows x)) ≡ after_rows (opening setup) (take n (executed_rows y))
    books-agree n low high =
        ap (λ (l : List Row). after_rows (opening setup) l)
        (sym (take-append-le n (executed_rows x) first.rest low) ∙ ap (λ (l : List Row). take n l) (first.is ∙ sym second.is)
        ∙ take-append-le n (executed_rows y) second.rest high)

  pub paid_in_at : (x : Site Cmd) (e : Entry) (c k m amt : ℕ) → Contains list.bank.sites x → Contains (executed_book setup x) e → e.cmd ≡ Fund c k m amt
      → IsPayIn list.bank c k m amt
  paid_in_at x e c k m amt among in' is = paid_in here (executed_rows x) (here.begins x among) e c k m amt in' is

  pub covered-later : (late : Continued list) (x : Site Cmd) (c : ℕ) (n : Node) → Contains list.bank.sites x → slice_get late.bank.nodes c ≡ Some n
      → pos (not_known c n (executed_book setup x)) ≤ℤ account n
  covered-later late x c n in' at =
      covered (later late).holds c n at (executed_rows x) (begins-trans (here.begins x in') (later late).longer)
