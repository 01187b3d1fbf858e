-- What holds under every legal list. Its parts do not mention views, votes or messages between sites.
use Rattle.std.specs.Prelude.{◌≡◌, ℕ, ◌-◌, ◌≤◌, ◌==◌, true, false, List, length, take, slice_get, count_by, Contains, Some, pos, ◌+ℤ◌, ◌≤ℤ◌}
use Rattle.pvp_types.specs.declared.setup.Setup.{Setup}
use Rattle.pvp_types.specs.declared.command.Cmd.{Cmd}
use Rattle.pvp_types.specs.declared.command.Cmd.TheVariants.{Fund}
use Rattle.pvp_types.specs.declared.command.PayOrder.{PayOrder as PaymentOrder}
use Rattle.vr_types.specs.Site.{Site, executed_rows}
use Rattle.agreement.specs.Promises.{Agree}
use Rattle.pvp_book.specs.declared.entry.Entry.{Entry}
use Rattle.pvp_book.specs.Ledger.{opening, figure}
use Rattle.pvp_book.specs.Orders.{orders, has_payment, has_return, is_end}
use Rattle.pvp_book.specs.Answer.{after_rows, book_of}
use Rattle.pvp_book.specs.Laws.{BothLegs, IsCovered, PayInsOnce}
use Rattle.rtgs_node.specs.declared.event.NodeEvent.TheVariants as node
use Rattle.rtgs_node.specs.declared.fault.NodeFault.TheVariants as fault
use Rattle.rtgs_node.specs.Node.{Envelope, Node, account, has_done, has_returned, node_step}
use Rattle.headline.specs.Bank.{Bank}
use Rattle.headline.specs.Legal.{LegalList, MomentOf}
use Rattle.headline.specs.Way.{not_known, way}

-- the entries of the book that a site holds: those of the rows that it has executed
abbrev pub executed_book : Setup → Site Cmd → List Entry
executed_book setup x = book_of setup (executed_rows x)

-- EQUAL BOOKS: of any two sites, at any two moments

-- both have executed the same row at each place that both have
abbrev pub RowsAgree : Bank → Bank → Type 0
RowsAgree early late =
    (x y : Site Cmd) → Contains early.sites x → Contains late.sites y → Agree (executed_rows x) (executed_rows y)

-- and held the same book at that place
abbrev pub BooksAgree : Setup → Bank → Bank → Type 0
BooksAgree setup early late =
    (x y : Site Cmd) (n : ℕ) → Contains early.sites x → Contains late.sites y
    → n ≤ length (executed_rows x) → n ≤ length (executed_rows y)
    → after_rows (opening setup) (take n (executed_rows x)) ≡ after_rows (opening setup) (take n (executed_rows y))

-- BOTH LEGS OR NEITHER

-- each pair settled on both or on neither
abbrev pub PairsAreWhole : Setup → Bank → Type 0
PairsAreWhole setup bank = (x : Site Cmd) → Contains bank.sites x → BothLegs setup (executed_book setup x)

-- so the bank's figure in a currency is pay-ins less pay-outs plus what was returned, and never below 0
abbrev pub FiguresAreCovered : Setup → Bank → Type 0
FiguresAreCovered setup bank =
    (x : Site Cmd) (c : ℕ) → Contains bank.sites x → IsCovered setup (executed_book setup x) c

-- CREDITED OR DEBITED ONCE

-- no book credits a pay-in twice
abbrev pub CreditedOnce : Setup → Bank → Type 0
CreditedOnce setup bank = (x : Site Cmd) → Contains bank.sites x → PayInsOnce (executed_book setup x)

-- a currency's node has a pay-in of this number, from this member and of this amount
pub record IsPayIn (bank : Bank) (c k m amt : ℕ) : Type 0 where
  pub node : Node
  pub is_there : slice_get bank.nodes c ≡ Some node
  pub counted : 1 ≤ k
  pub is : slice_get node.pay_ins (k - 1) ≡ Some (record { member = m; amt = amt })

-- a pay-in that a book credits was paid in
abbrev pub CreditsWerePaidIn : Setup → Bank → Type 0
CreditsWerePaidIn setup bank =
    (x : Site Cmd) (e : Entry) (c k m amt : ℕ) → Contains bank.sites x → Contains (executed_book setup x) e
    → e.cmd ≡ Fund c k m amt → IsPayIn bank c k m amt

-- no node does an order twice
abbrev pub DoneOnce : Bank → Type 0
DoneOnce bank =
    (c : ℕ) (x : Node) (out : ℕ) → slice_get bank.nodes c ≡ Some x → count_by (λ o. o.out == out) x.pay_outs ≤ 1

-- a site has executed a book in which this is an order of the currency
pub record IsOrdered (setup : Setup) (bank : Bank) (c : ℕ) (order : PaymentOrder) : Type 0 where
  pub site : Site Cmd
  pub among : Contains bank.sites site
  pub ordered : Contains (orders (executed_book setup site) c) order

-- an order that a node has paid out was ordered at some moment
abbrev pub DoneWereOrdered : {setup : Setup} {f : ℕ} → LegalList setup f → Type 0
DoneWereOrdered {setup} list =
    (c : ℕ) (x : Node) (order : PaymentOrder) → slice_get list.bank.nodes c ≡ Some x → Contains x.pay_outs order
    → (moment : MomentOf list) × IsOrdered setup moment.then c order

-- a currency's node has done the order of this number
pub record IsDone (bank : Bank) (c out : ℕ) : Type 0 where
  pub node : Node
  pub is_there : slice_get bank.nodes c ≡ Some node
  pub done : has_done node out ≡ true

-- an order that a book counts as paid is done at its node
abbrev pub PaidAreDone : Setup → Bank → Type 0
PaidAreDone setup bank =
    (x : Site Cmd) (c out : ℕ) → Contains bank.sites x → has_payment (executed_book setup x) c out ≡ true
    → IsDone bank c out

-- no book has two reports on one order: it is paid once, or returned once
abbrev pub EndedOnce : Setup → Bank → Type 0
EndedOnce setup bank =
    (x : Site Cmd) (c out : ℕ) → Contains bank.sites x → count_by (λ e. is_end c out e.cmd) (executed_book setup x) ≤ 1

-- a currency's node has returned the order of this number
pub record IsReturned (bank : Bank) (c out : ℕ) : Type 0 where
  pub node : Node
  pub is_there : slice_get bank.nodes c ≡ Some node
  pub returned : has_returned node out ≡ true

-- an order that a book counts as returned is returned at its node
abbrev pub ReturnsAreReturned : Setup → Bank → Type 0
ReturnsAreReturned setup bank =
    (x : Site Cmd) (c out : ℕ) → Contains bank.sites x → has_return (executed_book setup x) c out ≡ true
    → IsReturned bank c out

-- no node both does and returns an order
abbrev pub DoneOrReturned : Bank → Type 0
DoneOrReturned bank =
    (c : ℕ) (x : Node) (out : ℕ) → slice_get bank.nodes c ≡ Some x → has_done x out ≡ true → has_returned x out ≡ false

-- ACCOUNT EQUALLED FIGURE ADJUSTED by the payments on the way; the book of a site that does not run is empty
abbrev pub AccountsMatch : Setup → Bank → Type 0
AccountsMatch setup bank =
    (x : Site Cmd) (c : ℕ) (n : Node) → Contains bank.sites x → slice_get bank.nodes c ≡ Some n
    → let entries = executed_book setup x in account n ≡ figure setup entries c +ℤ way c n entries

-- NO NODE IS EVER SHORT

-- the orders of a book that was ever executed, as far as the node has neither done nor returned them, are covered by
-- the bank's account
abbrev pub OrdersAreCovered : Setup → Bank → Bank → Type 0
OrdersAreCovered setup early late =
    (x : Site Cmd) (c : ℕ) (n : Node) → Contains early.sites x → slice_get late.nodes c ≡ Some n
    → pos (not_known c n (executed_book setup x)) ≤ℤ account n

-- so no order that was sent is refused for lack of money
abbrev pub NeverShort : Setup → ℕ → Bank → Type 0
NeverShort setup f bank =
    (c : ℕ) (x : Node) (e : Envelope) → slice_get bank.nodes c ≡ Some x → Contains bank.post e
    → (node_step setup f c x (node.Takes e)).fault ≡ Some fault.Short → ⊥
