-- One order of the book, where nothing else is left to do: its node has done or returned it already, and then the book has
-- its end; or the primary sends it, the node does or returns it, and tells the book.
use Rattle.std.proofs.Common.{◌≡◌, ◌⊎◌, inl, inr, ℕ, zero, suc, ◌+◌, ◌-◌, ◌<◌, ◌≤◌, ◌==◌, Bool, true, false, not, nat_le, if◌then◌else◌, List, [], ◌∷◌, ◌++◌, length, map, slice_get, slice_set, Option, Some, None, refl, sym, ap, ◌∙◌, subst, arith, length-append}
use Rattle.std.specs.Prelude.{Contains, pos, int_lt, count_by}
use Rattle.std.specs.Option.{option_map_or}
use Rattle.std.specs.List.{filter_map}
use Rattle.std.proofs.lemmas.Bool.{cases_eq, eq-eqb}
use Rattle.std.proofs.lemmas.Bool.Decides.{nat_tests}
use Rattle.std.proofs.lemmas.Option.{slice_get_within}
use Rattle.std.proofs.lemmas.List.Elements.{All-nil, All-cons, Contains-append_left, Contains-append_right}
use Rattle.pvp_types.specs.declared.setup.Setup.{Setup}
use Rattle.pvp_types.specs.declared.command.Cmd.{Cmd}
use Rattle.pvp_types.specs.declared.command.Cmd.TheVariants.{Paid, Returned}
use Rattle.pvp_types.specs.declared.command.Reply.{Reply as Answer}
use Rattle.pvp_types.specs.declared.command.PayOrder.{PayOrder as PaymentOrder}
use Rattle.pvp_types.specs.declared.step.Step.TheVariants.{Deliver as Delivers, Beat as Beats}
use Rattle.pvp_types.proofs.SetupLemmas.{valid-members, valid-currencies}
use Rattle.vr_types.specs.declared.event.EventOf.TheVariants.{Deliver, Beat}
use Rattle.vr_types.specs.declared.event.Status.{Status}
use Rattle.vr_types.specs.declared.event.SiteFault.TheVariants.{NotUp}
use Rattle.vr_types.specs.declared.limits.TheConstants.{MAX_ROWS}
use Rattle.vr_types.specs.Group.{sites, primary, actor_of, to_all}
use Rattle.vr_types.specs.Normal.{news, beats_normal}
use Rattle.vr_types.specs.Rows.{newest}
use Rattle.vr_types.specs.Site.{Site, is_running, is_down, executed_rows}
use Rattle.vr_types.specs.Step as site
use Rattle.vr_types.specs.Handling.{site_step, is_refused, refused_or, on_beat, envelopes, reply_to, order_to, machine_of}
use Rattle.agreement.specs.Promises.{Begins}
use Rattle.agreement.proofs.Repeating.{has_last}
use Rattle.agreement.proofs.Beginnings.{begins_itself, append_begins}
use Rattle.pvp_book.specs.Answer.{Row, after_rows, book_of, has_member, is_amount}
use Rattle.pvp_book.specs.Ledger.{Ledger, node_of, opening, outstanding_orders}
use Rattle.pvp_book.specs.Orders.{orders, is_end, has_end}
use Rattle.rtgs_node.specs.declared.event.NodeEvent.TheVariants as node
use Rattle.rtgs_node.specs.declared.fault.NodeFault.TheVariants as fault
use Rattle.rtgs_node.specs.Node as nodes
use Rattle.rtgs_node.specs.Node.{Envelope, Node, NodeStep, account, is_known, is_closed, is_full, notes, with_return, with_pay_out, on_return, on_pay_out, node_step}
use Rattle.headline.specs.declared.step.ClientEvent.TheVariants as client
use Rattle.headline.specs.declared.step.Move.TheVariants.{Takes}
use Rattle.headline.specs.declared.step.Turn.{Turn}
use Rattle.headline.specs.declared.step.Turn.TheVariants.{OfSite, OfNode}
use Rattle.headline.specs.Machine.{book}
use Rattle.headline.specs.Bank.{Bank, turn_of, with_site, with_node}
use Rattle.headline.specs.Legal.{Leads, LegalList}
use Rattle.agreement.specs.Progress.{runs_at, AreWorking}
use Rattle.headline.specs.Progress.{IsGentle}
use Rattle.headline.proofs.Basics.{some-same, at-end, there, map-in, set-here, push-has}
use Rattle.headline.proofs.Books.{held-is, held-setup, orders-ccy}
use Rattle.headline.proofs.Invariant.{notices_of, Holds}
use Rattle.headline.proofs.Reached.{legal-holds}
use Rattle.headline.proofs.Laws.{never-short}
use Rattle.headline.proofs.Turns.{turn_of_node, turn_of_site}
use Rattle.headline.proofs.Runs.{longer_list}
use Rattle.headline.proofs.Stages.{Comes, stays, comes_then}
use Rattle.headline.proofs.Waits.{IsTold, notice_served, HasNumber, numbered, set-other, if_yes, if_no}
use Rattle.headline.proofs.Known.{Knows, WasDue, legal_knows, same_number, end_says}
use Rattle.headline.proofs.Settled.{here, HasPrimary, primary_here, works_rows, log_begins, once_whole, HasRow, heard_row, no_more}
use Rattle.headline.proofs.Endings.{ends_now, ended_by, orders_same, IsMade, is_made, is_due}

-- a set that changes nothing
set_same : {A : Type 0} (xs : List A) (i : ℕ) (x : A) → slice_get xs i ≡ Some x → slice_set xs i x ≡ xs
set_same [] i x at = refl
set_same {A} (y ∷ xs) zero x at = ap (λ (z : A). z ∷ xs) (sym (some-same y x at))
set_same {A} (y ∷ xs) (suc i) x at = ap (λ (l : List A). y ∷ l) (set_same xs i x at)

-- each node's notices are answered
abbrev pub AreCalm : Bank → Type 0
AreCalm bank = (c : ℕ) (x : Node) → slice_get bank.nodes c ≡ Some x → x.answered ≡ length x.notices

-- a node's pay-ins are the same, and what it has paid out since was ordered in this log's book
pub record IsGrown (setup : Setup) (log : List Row) (d : ℕ) (w z : Node) : Type 0 where
  pub pay_ins : z.pay_ins ≡ w.pay_ins
  pub pay_outs : (o : PaymentOrder) → Contains z.pay_outs o → Contains w.pay_outs o ⊎ Contains (orders (book_of setup log) d) o

-- and so of each node
abbrev pub AreGrown : Setup → List Row → Bank → Bank → Type 0
AreGrown setup log before after = (d : ℕ) (z : Node) → slice_get after.nodes d ≡ Some z
    → (w : Node) × (slice_get before.nodes d ≡ Some w) × IsGrown setup log d w z

-- nodes that have not changed
pub grown_still : (setup : Setup) (log : List Row) (bank : Bank) → AreGrown setup log bank bank
grown_still setup log bank d z at = (z, at, record { pay_ins = refl; pay_outs = λ o in'. inl in' })

-- an order has its end in the book, and what was ordered is the same
pub record IsDone (setup : Setup) (f view : ℕ) (log : List Row) (c out : ℕ) (before after : Bank) : Type 0 where
  pub more : List Row
  pub grows : length more ≤ length log + 1
  pub longer : Begins log more
  pub ordered : (d : ℕ) → orders (book_of setup more) d ≡ orders (book_of setup log) d
  pub ended : has_end (book_of setup more) c out ≡ true
  pub working : AreWorking f view more after.sites
  pub runs : (i : ℕ) → runs_at before.sites i ≡ true → runs_at after.sites i ≡ true
  pub calm : AreCalm after
  pub nodes : AreGrown setup log before after
  pub clients : after.clients ≡ before.clients

module _ (setup : Setup) (f : ℕ) (some : 1 ≤ f) (list : LegalList setup f) (view : ℕ) (log : List Row) (are : AreWorking f view log list.bank.sites)
    (room : length log < MAX_ROWS) (calm : AreCalm list.bank)
    (c : ℕ) (x : Node) (at : slice_get list.bank.nodes c ≡ Some x) (order : PaymentOrder) (ordered : Contains (orders (book_of setup log) c) order) where
  abbrev holds : Holds setup list.choose f list.cells list.moves list.bank
  holds = here setup f some list view log are

  low : c < length setup.currencies
  low = let a = slice_get_within list.bank.nodes c x at in let b = holds.count in omega arith

  few : c < 8
  few = let a = low in let d = (valid-currencies setup list.valid).1 in omega arith

  knows : Knows setup list.choose f list.cells list.moves list.bank c x
  knows = legal_knows setup list.choose f list.cells (valid-members setup list.valid).1 list.right list.legal.all list.moves list.bank list.legal.run c x at

  mine : order.ccy ≡ c
  mine = orders-ccy (book_of setup log) c order ordered

  -- a row of the log with a number of the node's is its notice
  is_notice : (row : Row) → Contains log row → row.client ≡ node_of c → (1 ≤ row.number) × (slice_get x.notices (row.number - 1) ≡ Some row.cmd)
  is_notice row in' from =
      let b = log_begins setup f some list view log are holds in
      let n = holds.rows row (subst (λ (l : List Row). Contains l row) b.is (left log b.rest row in')) c (slice_get_within list.bank.nodes c x at) from in
      (n.counted, ap (λ (o : Option Node). slice_get (notices_of o) (row.number - 1)) (sym at) ∙ n.is)
    where
      left : (xs ys : List Row) (r : Row) → Contains xs r → Contains (xs ++ ys) r
      left xs ys r h = Contains-append_left xs ys r h

  -- A KNOWN ORDER
  known_ended : is_known x order.out ≡ true → has_end (book_of setup log) c order.out ≡ true
  known_ended known =
      let t = knows.ends order.out known in
      let low_notice = slice_get_within x.notices t.0 t.1 t.2 in
      let all = calm c x at in
      let row : HasRow setup f some list view log are room c (t.0 + 1) =
      heard_row setup f some list view log are room c (t.0 + 1) (knows.heard t.0 (omega arith)) in
      let due : WasDue setup list.choose f list.cells list.moves list.bank c (t.0 + 1) order.out = knows.due t.0 t.1 order.out t.2 t.3 in
      let n = is_notice row.row row.among row.client in
      let back : row.row.number - 1 ≡ t.0 = (let e = row.number_is in omega arith) in
      let cmd : t.1 ≡ row.row.cmd = some-same t.1 row.row.cmd (sym t.2 ∙ (ap (λ (k : ℕ). slice_get x.notices k) (sym back) ∙ n.1)) in
      ended_by setup due.holds.history log c order.out row.row due.order low (once_whole setup f some list view log are room due.moment due.holds) due.ordered
      due.out_is row.among row.client
      (ap (is_end c order.out) (sym cmd) ∙ t.3) (λ old. due.fresh row.row old row.client row.number_is)

  -- A NEW ONE
  module _ (open_still : has_end (book_of setup log) c order.out ≡ false) (fresh : is_known x order.out ≡ false) where
    p : ℕ
    p = primary f view

    lead : HasPrimary setup f some list view log are
    lead = primary_here setup f some list view log are

    s : Site Cmd
    s = lead.site

    told : site.Step Cmd Answer PaymentOrder
    told = record (site.does s (to_all f p (news s (slice_get s.log s.done)))) { orders = true }

    beat_is : site_step {R = Answer} {O = PaymentOrder} list.choose f p s Beat ≡ told
    unfolding beats_normal told s lead p
    beat_is =
        ap (λ (st : Status). refused_or {R = Answer} {O = PaymentOrder} s (if is_down st then Some NotUp else None) (on_beat f p s st)) lead.works.status
        ∙ if_yes (primary f s.view == p) _ _ (eq-eqb _ _ (ap (primary f) lead.works.view_is))

    beaten : Bank
    beaten = with_site list.bank p s (envelopes book (opening setup) p told)

    beats : Leads setup list.choose f list.bank (Takes (Beats (actor_of p))) beaten
    unfolding beaten told s p
    beats = record {
      turn_is = OfSite p Beat;
      has_turn = ap (λ (u : Turn). Some u) (turn_of_site Beat node.Beats client.Beats p);
      acts = record {
        before = lead.site;
        is_there = lead.at;
        allowed = ap (λ (t : site.Step Cmd Answer PaymentOrder). is_refused t.ending) beat_is;
        leads = ap (λ (t : site.Step Cmd Answer PaymentOrder). with_site list.bank p t.site (envelopes book (opening setup) p t)) (sym beat_is);
      };
    }

    list_told : LegalList setup f
    list_told = longer_list list (Takes (Beats (actor_of p)) ∷ []) beaten (beaten, beats, refl)

    same_sites : beaten.sites ≡ list.bank.sites
    unfolding beaten p s
    same_sites = set_same list.bank.sites (primary f view) lead.site lead.at

    -- the envelope with the order
    mail : Envelope
    mail = order_to p (node_of c, order)

    outstanding_is : book.orders (machine_of book (opening setup) s) ≡ outstanding_orders setup (book_of setup log)
    unfolding s
    outstanding_is =
        ap (λ (held : Ledger). outstanding_orders held.setup held.entries) (held-is (opening setup) (executed_rows lead.site))
        ∙ (ap (λ (rows : List Row). outstanding_orders (after_rows (opening setup) rows).setup (book_of setup rows)) (works_rows view log lead.site lead.works)
        ∙ ap (λ (st : Setup). outstanding_orders st (book_of setup log)) (held-setup (opening setup) log))

    posted : Contains beaten.post mail
    unfolding beaten told mail
    posted =
        Contains-append_right list.bank.post (envelopes book (opening setup) p told) mail
        (Contains-append_right (told.sent ++ filter_map (reply_to book (opening setup) p told.site) told.replies)
        (map (order_to p) (book.orders (machine_of book (opening setup) s))) mail
        (map-in (order_to p) (book.orders (machine_of book (opening setup) s)) (node_of c, order)
        (subst (λ (l : List (ℕ × PaymentOrder)). Contains l (node_of c, order)) (sym outstanding_is)
        (is_due setup (book_of setup log) c order low ordered open_still))))

    -- THE NODE
    not_full : is_full (length x.pay_outs + length x.returned) ≡ false
    not_full =
        let a = no_more setup f some list view log are room c x.answered (λ k h. knows.heard k h) in
        let b = knows.count in
        let d = calm c x at in
        above (length x.pay_outs + length x.returned) (omega arith)
      where
        above : (n : ℕ) → n < MAX_ROWS → nat_le MAX_ROWS n ≡ false
        above n h = grind (arith, nat_tests, h)

    made : IsMade setup order
    made = is_made setup log c order ordered

    -- what the node then is, before it notes the order's end
    record Handles : Type 0 where
      y : Node
      cmd : Cmd
      step : node_step setup f c x (node.Takes mail) ≡ notes f c y cmd
      says : is_end c order.out cmd ≡ true
      notices : y.notices ≡ x.notices
      answered : y.answered ≡ x.answered
      pay_ins : y.pay_ins ≡ x.pay_ins
      pay_outs : (o : PaymentOrder) → Contains y.pay_outs o → Contains x.pay_outs o ⊎ (order ≡ o)

    -- it passes the checks
    passes : node_step setup f c x (node.Takes mail) ≡ (if is_closed x order.member then on_return setup f c x order else on_pay_out setup f c x order)
    unfolding mail
    passes =
        if_no (not (node_of c == node_of c)) _ _ (ap not (same_number (node_of c)))
        ∙ (if_no (not (order.ccy == c)) _ _ (ap not (eq-eqb order.ccy c mine))
        ∙ (if_no (is_known x order.out) _ _ fresh
        ∙ (if_no (not (has_member setup order.member)) _ _ (ap not made.member)
        ∙ (if_no (not (is_amount order.amt)) _ _ (ap not made.amount)
        ∙ if_no (is_full (length x.pay_outs + length x.returned)) _ _ not_full))))

    still_at : slice_get beaten.nodes c ≡ Some x
    unfolding beaten
    still_at = at

    not_short : (node_step setup f c x (node.Takes mail)).fault ≡ Some fault.Short → ⊥
    unfolding list_told
    not_short =
        never-short (legal-holds setup (valid-members setup list.valid).1 list.choose f list.right list.cells list_told.moves list_told.bank list_told.legal.all
        list_told.legal.run) c x still_at mail posted

    handles : Handles
    handles = by_closed (is_closed x order.member) passes
      where
        by_short : (b : Bool)
            → node_step setup f c x (node.Takes mail) ≡ (if b then nodes.refuses x fault.Short else notes f c (with_pay_out x order) (Paid c order.out))
            → Handles
        by_short true e = absurd (not_short (ap (λ (t : NodeStep). t.fault) e))
        by_short false e =
            record {
              y = with_pay_out x order;
              cmd = Paid c order.out;
              step = e;
              says = end_says c order.out;
              notices = refl;
              answered = refl;
              pay_ins = refl;
              pay_outs = λ o in'. push-has x.pay_outs order o in';
            }

        by_closed : (b : Bool) → node_step setup f c x (node.Takes mail) ≡ (if b then on_return setup f c x order else on_pay_out setup f c x order) → Handles
        by_closed true e =
            record {
              y = with_return x order;
              cmd = Returned c order.out;
              step = e;
              says = end_says c order.out;
              notices = refl;
              answered = refl;
              pay_ins = refl;
              pay_outs = λ o in'. inl in';
            }
        by_closed false e = by_short (int_lt (account x) (pos order.amt)) e

    abbrev y : Node
    y = record handles.y { notices = handles.y.notices ++ handles.cmd ∷ [] }

    abbrev sent : List Envelope
    sent = (notes f c handles.y handles.cmd).sent

    noted : Bank
    noted = with_node beaten c y sent

    number : HasNumber beaten (OfNode c (node.Takes mail))
    unfolding mail
    number = numbered beaten mail (OfNode c (node.Takes mail)) posted to_node
      where
        to_node : turn_of mail.to (Deliver mail) (node.Takes mail) (client.Takes mail) ≡ OfNode c (node.Takes mail)
        to_node = turn_of_node (Deliver mail) (node.Takes mail) (client.Takes mail) c (let h = few in omega arith)

    takes : Leads setup list.choose f beaten (Takes (Delivers number.number)) noted
    unfolding noted
    takes = record {
      turn_is = OfNode c (node.Takes mail);
      has_turn = number.is;
      acts = record {
        before = x;
        is_there = still_at;
        allowed = ap (λ (t : NodeStep). t.fault) handles.step;
        leads = ap (λ (t : NodeStep). with_node beaten c t.node t.sent) (sym handles.step);
      };
    }

    list_noted : LegalList setup f
    unfolding list_told beaten
    list_noted = longer_list list_told (Takes (Delivers number.number) ∷ []) noted (noted, takes, refl)

    noted_sites : noted.sites ≡ list.bank.sites
    unfolding noted
    noted_sites = same_sites

    are_noted : AreWorking f view log noted.sites
    are_noted = record {
      many =
          subst (λ (l : List (Site Cmd)). f < count_by (λ i. option_map_or (λ (z : Site Cmd). is_running z.status) (slice_get l i) false) (sites f))
          (sym noted_sites) are.many;
      leads =
          subst (λ (l : List (Site Cmd)). option_map_or (λ (z : Site Cmd). is_running z.status) (slice_get l (primary f view)) false ≡ true)
          (sym noted_sites) are.leads;
      each = λ z in'. are.each z (subst (λ (l : List (Site Cmd)). Contains l z) noted_sites in');
    }

    at_noted : slice_get noted.nodes c ≡ Some y
    unfolding noted
    at_noted = set-here beaten.nodes c x y still_at

    is_out : slice_get y.notices y.answered ≡ Some handles.cmd
    is_out =
        ap (λ (n : ℕ). slice_get y.notices n) (handles.answered ∙ (calm c x at ∙ ap (length {A = Cmd}) (sym handles.notices)))
        ∙ at-end handles.y.notices handles.cmd

    heard : Comes list_noted (IsTold f view c log y list_noted.bank)
    unfolding list_noted noted
    heard = notice_served setup f some list_noted view log are_noted room c y handles.cmd at_noted is_out

    -- its row is new
    not_old : newest log (node_of c) ≡ y.answered + 1 → ⊥
    not_old same =
        let l = has_last log (node_of c) (y.answered + 1) (omega arith) same in
        let n = is_notice l.last.1 (there log (l.last.0 - 1) l.last.1 l.there.at) l.there.of in
        let within = slice_get_within x.notices (l.last.1.number - 1) l.last.1.cmd n.1 in
        let a = calm c x at in
        let b = handles.answered in
        let d = l.number_is in
        omega arith

    abbrev row : Row
    row = record { client = node_of c; number = y.answered + 1; cmd = handles.cmd }

    grown : heard.holds.more ≡ log ++ row ∷ []
    grown = by heard.holds.rows
      where
        by : ((heard.holds.more ≡ log) × (newest log (node_of c) ≡ y.answered + 1))
            ⊎ (heard.holds.more ≡ log ++ record { client = node_of c; number = y.answered + 1; cmd = heard.holds.notice } ∷ [])
            → heard.holds.more ≡ log ++ row ∷ []
        by (inl old) = absurd (not_old old.1)
        by (inr new) =
            let same : heard.holds.notice ≡ handles.cmd = some-same heard.holds.notice handles.cmd (sym heard.holds.was_out ∙ is_out) in
            new ∙ ap (λ (k : Cmd). log ++ record { client = node_of c; number = y.answered + 1; cmd = k } ∷ []) same

    calm_after : AreCalm heard.after
    unfolding list_noted noted beaten
    calm_after d z at_z = by (cases_eq d c)
      where
        others : (d ≡ c → ⊥) → slice_get list.bank.nodes d ≡ Some z
        others apart = sym (set-other list.bank.nodes c y d apart) ∙ (sym (heard.holds.others d apart) ∙ at_z)

        by : (d ≡ c) ⊎ (d ≡ c → ⊥) → z.answered ≡ length z.notices
        by (inr apart) = calm d z (others apart)
        by (inl is) =
            let same : record y { answered = y.answered + 1 } ≡ z =
            some-same _ z (sym heard.holds.here ∙ (ap (λ (k : ℕ). slice_get heard.after.nodes k) (sym is) ∙ at_z)) in
            let a = calm c x at in
            let b = handles.answered in
            let e = ap (length {A = Cmd}) handles.notices in
            let l = length-append handles.y.notices (handles.cmd ∷ []) in
            subst (λ (n : Node). n.answered ≡ length n.notices) same (omega arith)

    nodes_after : AreGrown setup log list.bank heard.after
    unfolding list_noted noted beaten
    nodes_after d z at_z = by (cases_eq d c)
      where
        by_order : (o : PaymentOrder) → Contains x.pay_outs o ⊎ (order ≡ o) → Contains x.pay_outs o ⊎ Contains (orders (book_of setup log) c) o
        by_order o (inl old) = inl old
        by_order o (inr new) = inr (subst (λ (p : PaymentOrder). Contains (orders (book_of setup log) c) p) new ordered)

        grown_here : IsGrown setup log c x (record y { answered = y.answered + 1 })
        grown_here = record { pay_ins = handles.pay_ins; pay_outs = λ o in'. by_order o (handles.pay_outs o in') }

        by : (d ≡ c) ⊎ (d ≡ c → ⊥) → (w : Node) × (slice_get list.bank.nodes d ≡ Some w) × IsGrown setup log d w z
        by (inr apart) =
            (z, sym (set-other list.bank.nodes c y d apart) ∙ (sym (heard.holds.others d apart) ∙ at_z), record { pay_ins = refl; pay_outs = λ o in'. inl in' })
        by (inl is) =
            let same : record y { answered = y.answered + 1 } ≡ z =
            some-same _ z (sym heard.holds.here ∙ (ap (λ (k : ℕ). slice_get heard.after.nodes k) (sym is) ∙ at_z)) in
            subst (λ (k : ℕ). (w : Node) × (slice_get list.bank.nodes k ≡ Some w) × IsGrown setup log k w z) (sym is)
            (x, at, subst (λ (n : Node). IsGrown setup log c x n) same grown_here)

    runs_before : (i : ℕ) → runs_at list.bank.sites i ≡ true → runs_at noted.sites i ≡ true
    runs_before i e = ap (λ (l : List (Site Cmd)). option_map_or (λ (z : Site Cmd). is_running z.status) (slice_get l i) false) noted_sites ∙ e

    new_done : Comes list (IsDone setup f view log c order.out list.bank)
    unfolding list_told list_noted noted beaten
    new_done =
        comes_then list (λ b. b ≡ beaten) (IsDone setup f view log c order.out list.bank)
        (record {
          moves = Takes (Beats (actor_of p)) ∷ [];
          after = beaten;
          run = (beaten, beats, refl);
          gentle = All-cons IsGentle (Takes (Beats (actor_of p))) [] tt (All-nil IsGentle);
          holds = refl;
        })
        (comes_then list_told (λ b. b ≡ noted) (IsDone setup f view log c order.out list.bank)
        (record {
          moves = Takes (Delivers number.number) ∷ [];
          after = noted;
          run = (noted, takes, refl);
          gentle = All-cons IsGentle (Takes (Delivers number.number)) [] tt (All-nil IsGentle);
          holds = refl;
        })
        (record {
          moves = heard.moves;
          after = heard.after;
          run = heard.run;
          gentle = heard.gentle;
          holds = record {
            more = heard.holds.more;
            grows = heard.holds.grows;
            longer = subst (λ (l : List Row). Begins log l) (sym grown) (append_begins log (row ∷ []));
            ordered = λ d. ap (λ (l : List Row). orders (book_of setup l) d) grown ∙ orders_same setup log row c order.out d handles.says;
            ended =
                ap (λ (l : List Row). has_end (book_of setup l) c order.out) grown ∙ ends_now setup log c order.out row order low
                ordered refl refl handles.says;
            working = heard.holds.working;
            runs = λ i e. heard.holds.runs i (runs_before i e);
            calm = calm_after;
            nodes = nodes_after;
            clients = heard.holds.clients;
          };
        }))

  pub order_done : Comes list (IsDone setup f view log c order.out list.bank)
  order_done = by (has_end (book_of setup log) c order.out) refl (is_known x order.out) refl
    where
      ended_already : has_end (book_of setup log) c order.out ≡ true → Comes list (IsDone setup f view log c order.out list.bank)
      ended_already ended = stays list (IsDone setup f view log c order.out list.bank) (record {
        more = log;
        grows = omega arith;
        longer = begins_itself log;
        ordered = λ d. refl;
        ended = ended;
        working = are;
        runs = λ i e. e;
        calm = calm;
        nodes = grown_still setup log list.bank;
        clients = refl;
      })

      by : (e : Bool) → has_end (book_of setup log) c order.out ≡ e → (k : Bool) → is_known x order.out ≡ k
          → Comes list (IsDone setup f view log c order.out list.bank)
      by true ended k known = ended_already ended
      by false ended true known = ended_already (known_ended known)
      by false ended false known = new_done ended known
