-- Each order of the book is done or returned and has its end, one after another: then nothing is left to do, and nothing
-- is on the way between any node and the book.
use Rattle.std.proofs.Common.{◌≡◌, ◌⊎◌, inl, inr, ℕ, ◌+◌, ◌-◌, ◌*◌, ◌<◌, ◌≤◌, Bool, true, false, if◌then◌else◌, ℤ, pos, ◌+ℤ◌, ◌-ℤ◌, List, [], ◌∷◌, ◌++◌, length, take, drop, count_by, sum_by, slice_get, Option, Some, None, refl, sym, ap, ◌∙◌, subst, arith, true≢false}
use Rattle.std.specs.Prelude.{◌||◌, Contains, IsSomeAnd, is_some}
use Rattle.std.specs.Option.{option_map_or}
use Rattle.std.proofs.lemmas.Int.{ints}
use Rattle.std.proofs.lemmas.List.{take-append-drop, length-append}
use Rattle.std.proofs.lemmas.Option.{slice_get_within}
use Rattle.std.proofs.lemmas.List.Elements.{All-append}
use Rattle.pvp_types.specs.declared.setup.Setup.{Setup}
use Rattle.pvp_types.specs.declared.command.Cmd.{Cmd}
use Rattle.pvp_types.specs.declared.command.Cmd.TheVariants.{Paid, Returned}
use Rattle.pvp_types.specs.declared.command.PayOrder.{PayOrder as PaymentOrder}
use Rattle.pvp_types.proofs.SetupLemmas.{valid-members}
use Rattle.vr_types.specs.declared.limits.TheConstants.{MAX_ROWS}
use Rattle.vr_types.specs.Site.{Site, is_running, executed_rows}
use Rattle.vr_types.proofs.ChoosingPick.{Contains-here, Contains-there, Contains-cases, Contains-none}
use Rattle.agreement.specs.Promises.{Begins}
use Rattle.agreement.proofs.Beginnings.{begins-trans, begins_itself}
use Rattle.pvp_book.specs.declared.entry.Entry.{Entry}
use Rattle.pvp_book.specs.Answer.{Row, book_of, has_order}
use Rattle.pvp_book.specs.Ledger.{has_pay_in, figure, node_of, outstanding_orders}
use Rattle.pvp_book.specs.Orders.{orders, is_payment, has_payment, is_return, has_return, is_end, has_end}
use Rattle.rtgs_node.specs.Node.{Node, account, has_done, has_returned, is_known}
use Rattle.rtgs_node.specs.declared.payment.PayIn.{PayIn}
use Rattle.headline.specs.Bank.{Bank}
use Rattle.headline.specs.Client.{Client}
use Rattle.headline.specs.Headline.{IsDone as IsPaid, IsReturned}
use Rattle.headline.specs.Legal.{LegalList, Moment, MomentOf}
use Rattle.headline.specs.Way.{not_credited, not_done, not_ordered, way}
use Rattle.agreement.specs.Progress.{runs_at, AreWorking, WorksIn}
use Rattle.headline.specs.Progress.{IsGentle, CanGoOn, NothingOnTheWay, AllIsDone, SitesProgress, Rests, Progresses, open_in, may_be_open, waiting_count, unanswered_count}
use Rattle.headline.specs.Progress as progress
use Rattle.headline.proofs.Basics.{some-same, there, place_of}
use Rattle.headline.proofs.Invariant.{Holds}
use Rattle.headline.proofs.Laws as laws
use Rattle.headline.proofs.Onward as onward
use Rattle.headline.proofs.Runs.{run_append, longer_list, moment_longer}
use Rattle.headline.proofs.Stages.{Comes, stays, comes_then}
use Rattle.headline.proofs.Resting.{RestsWith, rests_with, there_is, rows_with_ends}
use Rattle.headline.proofs.Books.{ordered-more}
use Rattle.headline.proofs.Endings.{end_stays, order_there, is_due, is_outstanding, more_open}
use Rattle.headline.proofs.Reached.{legal-holds}
use Rattle.headline.proofs.Settled.{here, log_begins, whole, once_whole}
use Rattle.headline.proofs.Credited.{credit_stays, credited, sum_none, none_uncredited}
use Rattle.headline.proofs.Ends.{AreCalm, IsGrown, AreGrown, grown_still, IsDone, order_done}

-- an order, with the client number of its node
abbrev pub Due : Type 0
Due = ℕ × PaymentOrder

-- these orders have their ends, and what was ordered is the same
pub record AreDone (setup : Setup) (f view : ℕ) (log : List Row) (todo : List Due) (before after : Bank) : Type 0 where
  pub more : List Row
  pub longer : Begins log more
  pub ordered : (d : ℕ) → orders (book_of setup more) d ≡ orders (book_of setup log) d
  pub ended : (c : ℕ) (order : PaymentOrder) → Contains todo (node_of c, order) → has_end (book_of setup more) c order.out ≡ true
  pub working : AreWorking f view more after.sites
  pub runs : (i : ℕ) → runs_at before.sites i ≡ true → runs_at after.sites i ≡ true
  pub calm : AreCalm after
  pub nodes : AreGrown setup log before after
  pub clients : after.clients ≡ before.clients

-- first one, then the other
grown_then : (setup : Setup) (log more : List Row) (before middle after : Bank) → ((d : ℕ) → orders (book_of setup more) d ≡ orders (book_of setup log) d)
    → AreGrown setup log before middle → AreGrown setup more middle after → AreGrown setup log before after
grown_then setup log more before middle after same first second d z at =
    let t = second d z at in
    let u = first d t.0 t.1 in
    (u.0, u.1, record { pay_ins = t.2.pay_ins ∙ u.2.pay_ins; pay_outs = λ o in'. by u.0 t.0 u.2 o (t.2.pay_outs o in') })
  where
    by : (u w : Node) → IsGrown setup log d u w → (o : PaymentOrder) → Contains w.pay_outs o ⊎ Contains (orders (book_of setup more) d) o
        → Contains u.pay_outs o ⊎ Contains (orders (book_of setup log) d) o
    by u w g o (inl old) = g.pay_outs o old
    by u w g o (inr new) = inr (subst (λ (os : List PaymentOrder). Contains os o) (same d) new)

module _ (setup : Setup) (f : ℕ) (some : 1 ≤ f) (view : ℕ) where
  -- each of these is an order of the book
  record IsOrderOf (log : List Row) (due : Due) : Type 0 where
    ccy : ℕ
    node : due.0 ≡ node_of ccy
    low : ccy < length setup.currencies
    ordered : Contains (orders (book_of setup log) ccy) due.1

  AreOrders : List Row → List Due → Type 0
  AreOrders log todo = (due : Due) → Contains todo due → IsOrderOf log due

  do_orders : (todo : List Due) (list : LegalList setup f) (log : List Row) → AreWorking f view log list.bank.sites → AreCalm list.bank → AreOrders log todo
      → length log + length todo ≤ MAX_ROWS
      → Comes list (AreDone setup f view log todo list.bank)
  unfolding AreOrders
  do_orders [] list log are calm these room = stays list (AreDone setup f view log [] list.bank) (record {
    more = log;
    longer = begins_itself log;
    ordered = λ d. refl;
    ended = λ c order in'. absurd (Contains-none (node_of c, order) in');
    working = are;
    runs = λ i e. e;
    calm = calm;
    nodes = grown_still setup log list.bank;
    clients = refl;
  })
  do_orders (first ∷ todo) list log are calm these room = do_first (these first (Contains-here first todo)) (λ l lg a q o r. do_orders todo l lg a q o r)
    where
      Rest : Type 0
      Rest = (l : LegalList setup f) (lg : List Row) → AreWorking f view lg l.bank.sites → AreCalm l.bank → AreOrders lg todo
          → length lg + length todo ≤ MAX_ROWS → Comes l (AreDone setup f view lg todo l.bank)

      do_first : IsOrderOf log first → Rest → Comes list (AreDone setup f view log (first ∷ todo) list.bank)
      do_first is rest =
          let count = (here setup f some list view log are).count in
          let x = there_is list.bank.nodes is.ccy (let low = is.low in omega (arith, low, count)) in
          let one = order_done setup f some list view log are (omega (arith, room)) calm is.ccy x.0 x.1 first.1 is.ordered in
          let r = rest (longer_list list one.moves one.after one.run) one.holds.more one.holds.working one.holds.calm
          (λ due in'. still one.after one.holds due (these due (Contains-there first due todo in')))
          (let g = one.holds.grows in omega (arith, room, g)) in
          comes_then list (IsDone setup f view log is.ccy first.1.out list.bank) (AreDone setup f view log (first ∷ todo) list.bank) one
          (record {
            moves = r.moves;
            after = r.after;
            run = r.run;
            gentle = r.gentle;
            holds = record {
              more = r.holds.more;
              longer = begins-trans one.holds.longer r.holds.longer;
              ordered = λ d. r.holds.ordered d ∙ one.holds.ordered d;
              ended = λ c o in'. by one.after r.after one.holds r.holds c o (Contains-cases first (node_of c, o) todo in');
              working = r.holds.working;
              runs = λ i e. r.holds.runs i (one.holds.runs i e);
              calm = r.holds.calm;
              nodes = grown_then setup log one.holds.more list.bank one.after r.after one.holds.ordered one.holds.nodes r.holds.nodes;
              clients = r.holds.clients ∙ one.holds.clients;
            };
          })
        where
          still : (middle : Bank) (d : IsDone setup f view log is.ccy first.1.out list.bank middle) (due : Due) → IsOrderOf log due → IsOrderOf d.more due
          still middle d due o = record {
            ccy = o.ccy;
            node = o.node;
            low = o.low;
            ordered = subst (λ (os : List PaymentOrder). Contains os due.1) (sym (d.ordered o.ccy)) o.ordered;
          }

          by : (middle end : Bank) (d : IsDone setup f view log is.ccy first.1.out list.bank middle) (r : AreDone setup f view d.more todo middle end)
              → (c : ℕ) (o : PaymentOrder) → (first ≡ (node_of c, o)) ⊎ Contains todo (node_of c, o) → has_end (book_of setup r.more) c o.out ≡ true
          by middle end d r c o (inr later) = r.ended c o later
          by middle end d r c o (inl same) =
              let number = ap (λ (due : Due). due.0) same in
              let node = is.node in
              let ccy : is.ccy ≡ c = omega (arith, number, node) in
              subst (λ (k : ℕ). has_end (book_of setup r.more) k o.out ≡ true) ccy
              (subst (λ (p : PaymentOrder). has_end (book_of setup r.more) is.ccy p.out ≡ true) (ap (λ (due : Due). due.1) same)
              (end_stays setup d.more r.more is.ccy first.1.out r.longer d.ended))

-- an end is a payment or a return
end_parts : (entries : List Entry) (c out : ℕ) → has_end entries c out ≡ true → (has_payment entries c out ≡ true) ⊎ (has_return entries c out ≡ true)
end_parts [] c out is = absurd (true≢false (sym is))
end_parts (e ∷ es) c out is = by (is_payment c out e.cmd) (is_return c out e.cmd) (is_end c out e.cmd) (one e.cmd) is (end_parts es c out)
  where
    one : (cmd : Cmd) → is_end c out cmd ≡ (is_payment c out cmd || is_return c out cmd)
    one (Paid ccy n) = or_false (is_payment c out (Paid ccy n))
      where
        or_false : (b : Bool) → b ≡ (b || false)
        or_false true = refl
        or_false false = refl
    one (Returned ccy n) = refl
    one _ = refl

    by : (a b both : Bool) → both ≡ (a || b) → (both || has_end es c out) ≡ true
        → (has_end es c out ≡ true → (has_payment es c out ≡ true) ⊎ (has_return es c out ≡ true))
        → ((a || has_payment es c out) ≡ true) ⊎ ((b || has_return es c out) ≡ true)
    by true b both same h rest = inl refl
    by false true both same h rest = inr refl
    by false false both same h rest = rest (ap (λ t. t || has_end es c out) (sym same) ∙ h)

or_left : (a b : Bool) → a ≡ true → (a || b) ≡ true
or_left true b e = refl
or_left false b e = absurd (true≢false (sym e))

or_right : (a b : Bool) → b ≡ true → (a || b) ≡ true
or_right true b e = refl
or_right false b e = e

-- a site that works runs
works_run : (all : List (Site Cmd)) (i view : ℕ) (log : List Row) → IsSomeAnd (slice_get all i) (WorksIn view log) → runs_at all i ≡ true
works_run all i view log works = by (slice_get all i) works
  where
    by : (o : Option (Site Cmd)) → IsSomeAnd o (WorksIn view log) → option_map_or (λ (z : Site Cmd). is_running z.status) o false ≡ true
    by None works = absurd works
    by (Some y) works = ap is_running works.status

-- a site that runs is there, and so is what is said of each that runs
by_place : (P : Site Cmd → Type 0) (all : List (Site Cmd)) (i : ℕ) → runs_at all i ≡ true → ((y : Site Cmd) → Contains all y → is_running y.status ≡ true → P y)
    → IsSomeAnd (slice_get all i) P
by_place P all i runs each = by (slice_get all i) refl runs
  where
    by : (o : Option (Site Cmd)) → slice_get all i ≡ o → option_map_or (λ (z : Site Cmd). is_running z.status) o false ≡ true → IsSomeAnd o P
    by None at runs = absurd (true≢false (sym runs))
    by (Some y) at runs = each y (there all i y at) runs

-- WHERE NOTHING IS LEFT

-- the open orders of a log, by the first of its rows
open_behind : (setup : Setup) (rows more log : List Row) → rows ++ more ≡ log → open_in setup log ≤ open_in setup rows + (length log - length rows)
open_behind setup rows more log is =
    let opens = more_open setup rows more in
    let same = ap (open_in setup) is in
    let long = length-append rows more in
    let many = ap (length {A = Row}) is in
    omega (arith, opens, same, long, many)

-- and of a site's log, by its executed rows
few_open : (setup : Setup) (x : Site Cmd) → open_in setup x.log ≤ may_be_open setup x
few_open setup x = by (is_running x.status)
  where
    by : (b : Bool)
        → let executed = if b then take x.done x.log else [] in open_in setup x.log ≤ open_in setup executed + (length x.log - length executed)
    by true = open_behind setup (take x.done x.log) (drop x.done x.log) x.log (take-append-drop x.done x.log)
    by false = open_behind setup [] x.log x.log refl

module _ (setup : Setup) (f : ℕ) (some : 1 ≤ f) (list : LegalList setup f) (can : CanGoOn setup f list.bank) where
  sites_go : SitesProgress list
  sites_go = onward.sites_go_on setup f some list can

  list_sites : LegalList setup f
  list_sites = longer_list list sites_go.moves sites_go.after sites_go.run

  -- the log, what waits, and the ends of open orders have room
  room : rows_with_ends setup sites_go.log + 2 * waiting_count sites_go.after + unanswered_count sites_go.after < MAX_ROWS
  room =
      let space = can.space sites_go.had.0 sites_go.had.1 in
      let rows = few_open setup sites_go.had.0 in
      let log_is = ap (rows_with_ends setup) sites_go.had.2 in
      let same_clients = ap (λ (l : List Client). count_by (λ (k : Client). is_some k.waiting) l) sites_go.clients in
      let same_notices = ap (λ (l : List Node). sum_by (λ (n : Node). length n.notices - n.answered) l) sites_go.nodes in
      omega (arith, space, rows, log_is, same_clients, same_notices)

  rest_all : RestsWith setup f some sites_go.view list_sites sites_go.log
  unfolding list_sites
  rest_all = rests_with setup f some sites_go.view list_sites sites_go.log sites_go.work.working room

  rest : Rests list_sites sites_go.view
  rest = rest_all.rests

  list_rest : LegalList setup f
  list_rest = longer_list list_sites rest.moves rest.after rest.run

  calm_rest : AreCalm list_rest.bank
  unfolding list_rest list_sites
  calm_rest c y at =
      let a = (here setup f some list_sites sites_go.view sites_go.log sites_go.work.working).count in
      let b = (here setup f some list_rest sites_go.view rest.log rest.working).count in
      let low = slice_get_within rest.after.nodes c y at in
      let t = there_is sites_go.after.nodes c (omega arith) in
      (rest.nodes c t.0 y t.1 at).all

  all_done : Comes list_rest (AreDone setup f sites_go.view rest.log (outstanding_orders setup (book_of setup rest.log)) list_rest.bank)
  unfolding list_rest list_sites rest AreOrders
  all_done = do_orders setup f some sites_go.view (outstanding_orders setup (book_of setup rest.log)) list_rest rest.log rest.working calm_rest
      (λ due in'. (let o = is_outstanding setup (book_of setup rest.log) due in' in record { ccy = o.ccy; node = o.node; low = o.low; ordered = o.ordered }))
      (let b = rest_all.grows in let d = room in omega (arith, b, d))

  list_done : LegalList setup f
  list_done = longer_list list_rest all_done.moves all_done.after all_done.run

  -- each order has its end
  ended_there : (c : ℕ) (n : Node) (order : PaymentOrder) → slice_get all_done.after.nodes c ≡ Some n
      → Contains (orders (book_of setup all_done.holds.more) c) order → has_end (book_of setup all_done.holds.more) c order.out ≡ true
  unfolding list_done list_rest list_sites
  ended_there c n order at in' = by (has_end (book_of setup rest.log) c order.out) refl
    where
      by : (b : Bool) → has_end (book_of setup rest.log) c order.out ≡ b → has_end (book_of setup all_done.holds.more) c order.out ≡ true
      by true old = end_stays setup rest.log all_done.holds.more c order.out all_done.holds.longer old
      by false open_still =
          let a = (here setup f some list_done sites_go.view all_done.holds.more all_done.holds.working).count in
          let low = slice_get_within all_done.after.nodes c n at in
          all_done.holds.ended c order
          (is_due setup (book_of setup rest.log) c order (omega (arith, a, low))
          (subst (λ (os : List PaymentOrder). Contains os order) (all_done.holds.ordered c) in') open_still)

  -- an order that has its end is known to its node
  known_there : (c : ℕ) (n : Node) (out : ℕ) → slice_get all_done.after.nodes c ≡ Some n → has_end (book_of setup all_done.holds.more) c out ≡ true
      → is_known n out ≡ true
  unfolding list_done list_rest list_sites
  known_there c n out at is = by (end_parts (book_of setup all_done.holds.more) c out is)
    where
      h : Holds setup list_done.choose f list_done.cells list_done.moves list_done.bank
      h = here setup f some list_done sites_go.view all_done.holds.more all_done.holds.working

      begins : Begins all_done.holds.more h.history
      begins = log_begins setup f some list_done sites_go.view all_done.holds.more all_done.holds.working h

      by : (has_payment (book_of setup all_done.holds.more) c out ≡ true) ⊎ (has_return (book_of setup all_done.holds.more) c out ≡ true)
          → is_known n out ≡ true
      by (inl pays) =
          let d : IsPaid list_done.bank c out = laws.paid h all_done.holds.more begins c out pays in
          or_left (has_done n out) (has_returned n out) (subst (λ (k : Node). has_done k out ≡ true) (some-same d.node n (sym d.is_there ∙ at)) d.done)
      by (inr returns) =
          let d : IsReturned list_done.bank c out = laws.returned h all_done.holds.more begins c out returns in
          or_right (has_done n out) (has_returned n out) (subst (λ (k : Node). has_returned k out ≡ true) (some-same d.node n (sym d.is_there ∙ at)) d.returned)

  -- clients are served, and stay so
  served_there : (k : ℕ) (x y : Client) → slice_get list.bank.clients k ≡ Some x → slice_get all_done.after.clients k ≡ Some y → progress.IsServed x y
  unfolding list_rest list_sites
  served_there k x y at at' =
      rest.clients k x y (ap (λ (l : List Client). slice_get l k) sites_go.clients ∙ at)
      (ap (λ (l : List Client). slice_get l k) (sym all_done.holds.clients) ∙ at')

  idle_there : (y : Client) → Contains all_done.after.clients y → y.waiting ≡ None
  unfolding list_done list_rest list_sites
  idle_there y in' =
      let t = place_of all_done.after.clients y in' in
      let low = slice_get_within all_done.after.clients t.0 y t.1 in
      let a = (here setup f some list_sites sites_go.view sites_go.log sites_go.work.working).people in
      let b = (here setup f some list_done sites_go.view all_done.holds.more all_done.holds.working).people in
      let same = ap (length {A = Client}) sites_go.clients in
      let x = there_is list.bank.clients t.0 (omega arith) in
      (served_there t.0 x.0 y x.1 t.1).idle

  runs_there : (i : ℕ) → runs_at sites_go.after.sites i ≡ true → runs_at all_done.after.sites i ≡ true
  unfolding list_rest list_sites
  runs_there i e = all_done.holds.runs i (rest.runs i e)

  -- what was executed is in the log
  rest_room : length rest.log < MAX_ROWS
  unfolding rest list_sites
  rest_room = let a = rest_all.grows in let d = room in omega (arith, a, d)

  -- a moment of the list is one of the list as it goes on
  at_first : MomentOf list → Moment setup list.choose f list.cells list_rest.moves list_rest.bank
  unfolding list_rest list_sites
  at_first m = moment_longer list_sites rest.moves rest.after rest.run (moment_longer list sites_go.moves sites_go.after sites_go.run m)

  kept_there : (m : MomentOf list) (x : Site Cmd) → Contains m.then.sites x → Begins (executed_rows x) all_done.holds.more
  unfolding list_rest list_sites at_first
  kept_there m x in' =
      begins-trans (before.begins x in')
      (begins-trans (once_whole setup f some list_rest sites_go.view rest.log rest.working rest_room (at_first m) before) all_done.holds.longer)
    where
      before : Holds setup list.choose f list.cells m.before m.then
      before = legal-holds setup (valid-members setup list.valid).1 list.choose f list.right list.cells m.before m.then m.legal.all m.legal.run

  -- NOTHING IS ON THE WAY

  abbrev book_there : List Entry
  book_there = book_of setup all_done.holds.more

  module _ (c : ℕ) (n : Node) (at : slice_get all_done.after.nodes c ≡ Some n) where
    -- each pay-in was credited before the orders were done
    credited_there : (k : ℕ) (p : PayIn) → slice_get n.pay_ins k ≡ Some p → has_pay_in book_there c (k + 1) ≡ true
    unfolding list_rest list_sites
    credited_there k p paid =
        let t = all_done.holds.nodes c n at in
        credit_stays setup rest.log all_done.holds.more c (k + 1) all_done.holds.longer
        (credited setup f some list_rest sites_go.view rest.log rest.working rest_room c t.0 t.1 (calm_rest c t.0 t.1) k p
        (ap (λ (l : List PayIn). slice_get l k) (sym t.2.pay_ins) ∙ paid))

    -- each pay-out is an order of the book
    ordered_there : (o : PaymentOrder) → Contains n.pay_outs o → Contains (orders book_there c) o
    unfolding list_rest list_sites
    ordered_there o in' = let t = all_done.holds.nodes c n at in
        subst (λ (os : List PaymentOrder). Contains os o) (sym (all_done.holds.ordered c)) (by t.0 t.1 (t.2.pay_outs o in'))
      where
        h : Holds setup list_rest.choose f list_rest.cells list_rest.moves list_rest.bank
        h = here setup f some list_rest sites_go.view rest.log rest.working

        by : (w : Node) → slice_get rest.after.nodes c ≡ Some w → Contains w.pay_outs o ⊎ Contains (orders (book_of setup rest.log) c) o
            → Contains (orders (book_of setup rest.log) c) o
        by w at_w (inl old) =
            ordered-more setup h.history rest.log c o (whole setup f some list_rest sites_go.view rest.log rest.working rest_room h)
            (h.done c w o at_w old).ordered
        by w at_w (inr new) = new

    -- each order is paid or returned in the book, and so done here or returned there
    done_there : (o : PaymentOrder) → Contains (orders book_there c) o → (if has_done n o.out || has_return book_there c o.out then 0 else o.amt) ≡ 0
    unfolding list_done list_rest list_sites
    done_there o in' = by (end_parts book_there c o.out (ended_there c n o at in'))
      where
        h : Holds setup list_done.choose f list_done.cells list_done.moves list_done.bank
        h = here setup f some list_done sites_go.view all_done.holds.more all_done.holds.working

        none : (b : Bool) → b ≡ true → (if b then 0 else o.amt) ≡ 0
        none true e = refl
        none false e = absurd (true≢false (sym e))

        by : (has_payment book_there c o.out ≡ true) ⊎ (has_return book_there c o.out ≡ true)
            → (if has_done n o.out || has_return book_there c o.out then 0 else o.amt) ≡ 0
        by (inl pays) =
            let d : IsPaid list_done.bank c o.out =
            laws.paid h all_done.holds.more (log_begins setup f some list_done sites_go.view all_done.holds.more all_done.holds.working h) c o.out pays in
            none _ (or_left (has_done n o.out) (has_return book_there c o.out)
            (subst (λ (k : Node). has_done k o.out ≡ true) (some-same d.node n (sym d.is_there ∙ at)) d.done))
        by (inr returns) = none _ (or_right (has_done n o.out) (has_return book_there c o.out) returns)

    nothing_on_way : NothingOnTheWay setup c n book_there
    unfolding list_done list_rest list_sites
    nothing_on_way = record {
      pay_ins = λ k low. (let t = there_is n.pay_ins k low in credited_there k t.0 t.1);
      pay_outs = ordered_there;
      credited = uncredited;
      done = undone;
      ordered = unordered;
      account_is = account_same;
    }
      where
        uncredited : not_credited c n book_there ≡ 0
        uncredited = none_uncredited c n book_there credited_there

        undone : not_done c n book_there ≡ 0
        undone = sum_none (λ (o : PaymentOrder). if has_done n o.out || has_return book_there c o.out then 0 else o.amt) (orders book_there c) done_there

        unordered : not_ordered c n book_there ≡ 0
        unordered = sum_none (λ (o : PaymentOrder). if has_order book_there c o.out then 0 else o.amt) n.pay_outs
            (λ o in'. ap (λ (b : Bool). if b then 0 else o.amt) (order_there (orders book_there c) o o.out (ordered_there o in') refl))

        h : Holds setup list_done.choose f list_done.cells list_done.moves list_done.bank
        h = here setup f some list_done sites_go.view all_done.holds.more all_done.holds.working

        account_adds : account n ≡ figure setup book_there c +ℤ way c n book_there
        account_adds =
            laws.account-is h all_done.holds.more (log_begins setup f some list_done sites_go.view all_done.holds.more all_done.holds.working h) c n at

        nothing : (a b : ℤ) (x y z : ℕ) → a ≡ b +ℤ (pos (x + y) -ℤ pos z) → x ≡ 0 → y ≡ 0 → z ≡ 0 → a ≡ b
        nothing a b x y z e p q r = omega (arith, ints)

        account_same : account n ≡ figure setup book_there c
        account_same =
            nothing (account n) (figure setup book_there c) (not_credited c n book_there) (not_done c n book_there)
            (not_ordered c n book_there) account_adds uncredited undone unordered

  pub progresses : Progresses list
  unfolding list_done list_rest list_sites
  progresses = record {
    moves = sites_go.moves ++ (rest.moves ++ all_done.moves);
    after = all_done.after;
    run = run_append setup list.choose f sites_go.moves (rest.moves ++ all_done.moves) list.bank sites_go.after all_done.after sites_go.run
        (run_append setup list.choose f rest.moves all_done.moves sites_go.after rest.after all_done.after rest.run all_done.run);
    gentle =
        All-append IsGentle sites_go.moves (rest.moves ++ all_done.moves) sites_go.gentle
        (All-append IsGentle rest.moves all_done.moves rest.gentle all_done.gentle);
    view = sites_go.view;
    log = all_done.holds.more;
    work = record {
      working = all_done.holds.working;
      each = λ i x at left. by_place (WorksIn sites_go.view all_done.holds.more) all_done.after.sites i
          (runs_there i (works_run sites_go.after.sites i sites_go.view sites_go.log (sites_go.work.each i x at left)))
          (λ y in' run. all_done.holds.working.each y in' run);
      near = sites_go.work.near;
    };
    kept = kept_there;
    done = record {
      requests = idle_there;
      notices = λ n in'. let t = place_of all_done.after.nodes n in' in all_done.holds.calm t.0 n t.1;
      orders_done = λ c n order at in'. by c n order at (ended_there c n order at in');
      on_the_way = λ c n at. nothing_on_way c n at;
    };
    served = served_there;
  }
    where
      by : (c : ℕ) (n : Node) (order : PaymentOrder) → slice_get all_done.after.nodes c ≡ Some n
          → has_end (book_of setup all_done.holds.more) c order.out ≡ true
          → (is_known n order.out ≡ true) × (has_end (book_of setup all_done.holds.more) c order.out ≡ true)
      by c n order at is = (known_there c n order.out at is, is)
