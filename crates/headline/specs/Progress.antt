-- NO DEAD END: where f+1 sites run, no view number is near the last and logs have room for what is open, the bank can
-- go on, without a crash and without new business, until each client's request and each node's notice is answered, and
-- each order is done or returned at its node and reported to the book.
use Rattle.std.specs.Prelude.{◌≡◌, ℕ, ◌+◌, ◌-◌, ◌*◌, ◌<◌, true, List, [], ◌∷◌, ◌++◌, length, slice_get, All, Contains, Some, None, count_by, sum_by, is_some, IsSome, ⊤}
use Rattle.pvp_types.specs.declared.setup.Setup.{Setup}
use Rattle.pvp_types.specs.declared.command.Cmd.{Cmd}
use Rattle.pvp_types.specs.declared.command.PayOrder.{PayOrder as PaymentOrder}
use Rattle.pvp_types.specs.declared.step.Step.{Step}
use Rattle.pvp_types.specs.declared.step.Step.TheVariants.{Deliver as Delivers, PayIn as PaysIn, Close as Closes, Submit as Submits, Beat as Beats, Timer as Times, Crash as Crashes, Restart as Restarts}
use Rattle.vr_types.specs.declared.limits.TheConstants.{MAX_ROWS}
use Rattle.vr_types.specs.declared.message.MsgOf.TheVariants.{Reply}
use Rattle.vr_types.specs.Execution.{answer_at}
use Rattle.vr_types.specs.Site.{Site, executed_rows}
use Rattle.agreement.specs.Promises.{Begins}
use Rattle.agreement.specs.Progress.{CanGoOn as SitesCanGoOn, RunOn, AreWorking, ComeToWork, HadLog}
use Rattle.pvp_book.specs.declared.entry.Entry.{Entry}
use Rattle.pvp_book.specs.Answer.{Row, book_of}
use Rattle.pvp_book.specs.Orders.{orders, has_end}
use Rattle.pvp_book.specs.Ledger.{opening, figure, has_pay_in, outstanding_orders}
use Rattle.rtgs_node.specs.Node.{Envelope, Node, account, is_known}
use Rattle.headline.specs.declared.step.Move.{Move}
use Rattle.headline.specs.declared.step.Move.TheVariants.{Takes, Falls}
use Rattle.headline.specs.Machine.{book}
use Rattle.headline.specs.Bank.{Bank}
use Rattle.headline.specs.Client.{Client}
use Rattle.headline.specs.Legal.{IsRun, LegalList, MomentOf}
use Rattle.headline.specs.Way.{not_credited, not_done, not_ordered}

-- a delivery, a beat, a timer or a restart
abbrev pub IsGentleStep : Step → Type 0
IsGentleStep (Delivers number) = ⊤
IsGentleStep (PaysIn ccy member amt) = ⊥
IsGentleStep (Closes ccy member) = ⊥
IsGentleStep (Submits number cmd) = ⊥
IsGentleStep (Beats actor) = ⊤
IsGentleStep (Times site) = ⊤
IsGentleStep (Crashes site) = ⊥
IsGentleStep (Restarts site) = ⊤

abbrev pub IsGentle : Move → Type 0
IsGentle (Takes step) = IsGentleStep step
IsGentle (Falls step cell) = ⊥

-- how many clients wait for an answer
abbrev pub waiting_count : Bank → ℕ
waiting_count bank = count_by (λ client. is_some client.waiting) bank.clients

-- how many notices of nodes are not answered
abbrev pub unanswered_count : Bank → ℕ
unanswered_count bank = sum_by (λ n. length n.notices - n.answered) bank.nodes

-- how many orders of a log's book are open
abbrev pub open_in : Setup → List Row → ℕ
open_in setup log = length (outstanding_orders setup (book_of setup log))

-- How many orders may be open in a site's log: those of the book of its executed rows, and one for each other row.
abbrev pub may_be_open : Setup → Site Cmd → ℕ
may_be_open setup x =
    let executed = executed_rows x in open_in setup executed + (length x.log - length executed)

-- The sites can go on, and each log has room for what is open: for two rows for each client that waits, its request and
-- the end of an order that this may be, for one for each notice that is not answered and for each open order; and one
-- more.
pub record CanGoOn (setup : Setup) (f : ℕ) (bank : Bank) : Type 0 where
  pub sites : SitesCanGoOn f bank.sites
  pub space : (x : Site Cmd) → Contains bank.sites x
      → length x.log + may_be_open setup x + 2 * waiting_count bank + unanswered_count bank < MAX_ROWS

-- Nothing is on the way between a node and a book: each pay-in is credited, each pay-out is an order of the book, and
-- the three amounts that are on the way are 0; so the account is the figure.
pub record NothingOnTheWay (setup : Setup) (c : ℕ) (n : Node) (entries : List Entry) : Type 0 where
  pub pay_ins : (k : ℕ) → k < length n.pay_ins → has_pay_in entries c (k + 1) ≡ true
  pub pay_outs : (order : PaymentOrder) → Contains n.pay_outs order → Contains (orders entries c) order
  pub credited : not_credited c n entries ≡ 0
  pub done : not_done c n entries ≡ 0
  pub ordered : not_ordered c n entries ≡ 0
  pub account_is : account n ≡ figure setup entries c

-- Nothing is left to do: no client waits, each notice is answered, each order of this log's book is done or returned at
-- its node, and has its end in the book, and nothing is on the way between any node and the book.
pub record AllIsDone (setup : Setup) (bank : Bank) (log : List Row) : Type 0 where
  pub requests : (k : Client) → Contains bank.clients k → k.waiting ≡ None
  pub notices : (n : Node) → Contains bank.nodes n → n.answered ≡ length n.notices
  pub orders_done : (c : ℕ) (n : Node) (order : PaymentOrder)
      → slice_get bank.nodes c ≡ Some n → Contains (orders (book_of setup log) c) order
      → (is_known n order.out ≡ true) × (has_end (book_of setup log) c order.out ≡ true)
  pub on_the_way : (c : ℕ) (n : Node) → slice_get bank.nodes c ≡ Some n → NothingOnTheWay setup c n (book_of setup log)

-- the log begins with what any site had executed at any moment of the list
abbrev pub KeepsExecuted : {setup : Setup} {f : ℕ} → LegalList setup f → List Row → Type 0
KeepsExecuted list log =
    (moment : MomentOf list) (x : Site Cmd) → Contains moment.then.sites x → Begins (executed_rows x) log

-- ITS FIRST PART: the sites come to work; nodes and clients stay as they are
pub record SitesProgress {setup : Setup} {f : ℕ} (list : LegalList setup f) : Type 0 where
  pub moves : List Move
  pub after : Bank
  pub run : IsRun setup list.choose f list.bank moves after
  pub gentle : All IsGentle moves
  pub view : ℕ
  pub log : List Row
  pub work : ComeToWork f view log list.bank.sites after.sites
  pub had : HadLog log list.bank.sites
  pub kept : KeepsExecuted list log
  pub nodes : after.nodes ≡ list.bank.nodes
  pub clients : after.clients ≡ list.bank.clients

-- ITS SECOND PART: a REQUEST in the post is executed by all that work, and its REPLY is in the post
pub record Serves {setup : Setup} {f : ℕ} (list : LegalList setup f)
    (view : ℕ) (log : List Row) (row : Row) : Type 0 where
  pub moves : List Move
  pub after : Bank
  pub run : IsRun setup list.choose f list.bank moves after
  pub gentle : All IsGentle moves
  pub working : AreWorking f view (log ++ row ∷ []) after.sites
  pub runs : RunOn list.bank.sites after.sites
  pub reply : Envelope
  pub posted : Contains after.post reply
  pub to : reply.to ≡ row.client
  pub in_view : ℕ
  pub said : let answer = answer_at book (opening setup) (log ++ row ∷ []) (length log + 1) row in
      reply.msg ≡ Reply (record { view = in_view; number = row.number; reply = answer })
  pub post : (e : Envelope) → Contains list.bank.post e → Contains after.post e
  pub nodes : after.nodes ≡ list.bank.nodes
  pub clients : after.clients ≡ list.bank.clients

-- what becomes of a client: if it did not wait, it is as it was; if it waited, its request is answered
pub record IsServed (x y : Client) : Type 0 where
  pub still : x.waiting ≡ None → y ≡ x
  pub same : y.number ≡ x.number
  pub idle : y.waiting ≡ None
  pub answered : IsSome x.waiting → IsSome y.answer

-- and of a node: each of its notices is answered
pub record IsHeard (x y : Node) : Type 0 where
  pub same : y.notices ≡ x.notices
  pub all : y.answered ≡ length y.notices
  pub books : (y.pay_ins ≡ x.pay_ins) × (y.pay_outs ≡ x.pay_outs) × (y.returned ≡ x.returned)

-- each of these clients is served, by its number
abbrev pub AreServed : List Client → List Client → Type 0
AreServed before after =
    (k : ℕ) (x y : Client) → slice_get before k ≡ Some x → slice_get after k ≡ Some y
    → IsServed x y

-- and each of these nodes is heard
abbrev pub AreHeard : List Node → List Node → Type 0
AreHeard before after =
    (c : ℕ) (x y : Node) → slice_get before c ≡ Some x → slice_get after c ≡ Some y → IsHeard x y

-- ITS THIRD PART: each client's request and each node's notice is answered
pub record Rests {setup : Setup} {f : ℕ} (list : LegalList setup f) (view : ℕ) : Type 0 where
  pub moves : List Move
  pub after : Bank
  pub run : IsRun setup list.choose f list.bank moves after
  pub gentle : All IsGentle moves
  pub log : List Row
  pub working : AreWorking f view log after.sites
  pub runs : RunOn list.bank.sites after.sites
  pub clients : AreServed list.bank.clients after.clients
  pub nodes : AreHeard list.bank.nodes after.nodes

-- PROGRESS, of the whole bank: sites work in one view with one log, and in its book nothing is left to do
pub record Progresses {setup : Setup} {f : ℕ} (list : LegalList setup f) : Type 0 where
  pub moves : List Move
  pub after : Bank
  pub run : IsRun setup list.choose f list.bank moves after
  pub gentle : All IsGentle moves
  pub view : ℕ
  pub log : List Row
  pub work : ComeToWork f view log list.bank.sites after.sites
  pub kept : KeepsExecuted list log
  pub done : AllIsDone setup after log
  pub served : AreServed list.bank.clients after.clients
