-- What holds of every bank that a legal list leads to.
use Rattle.std.proofs.Common.{◌≡◌, ◌⊎◌, ℕ, suc, ◌-◌, ◌<◌, ◌≤◌, ◌==◌, true, false, List, [], length, slice_get, count_by, Option, Some, None}
use Rattle.std.specs.Prelude.{Contains, ⊤}
use Rattle.pvp_types.specs.declared.setup.Setup.{Setup}
use Rattle.pvp_types.specs.declared.command.Cmd.{Cmd}
use Rattle.pvp_types.specs.declared.command.Cmd.TheVariants.{Fund, Paid, Returned}
use Rattle.pvp_types.specs.declared.command.Reply.{Reply as Answer}
use Rattle.pvp_types.specs.declared.command.PayOrder.{PayOrder as PaymentOrder}
use Rattle.vr_types.specs.declared.cell.Boot.{Boot}
use Rattle.vr_types.specs.declared.event.EventOf.TheVariants.{Deliver}
use Rattle.vr_types.specs.declared.message.MsgOf.TheVariants.{Request, Reply, PayOrder}
use Rattle.vr_types.specs.declared.message.ReplyOf.{ReplyOf}
use Rattle.vr_types.specs.declared.message.RequestOf.{RequestOf}
use Rattle.vr_types.specs.Site.{Site, executed_rows}
use Rattle.vr_types.specs.Choice.{Choice}
use Rattle.agreement.specs.Worlds as worlds
use Rattle.vr_types.specs.Handling.{reply_to}
use Rattle.agreement.specs.Worlds.{Replied, World, Happening, step_of}
use Rattle.agreement.specs.Promises.{Begins}
use Rattle.pvp_book.specs.Ledger.{node_of, opening}
use Rattle.pvp_book.specs.Orders.{orders}
use Rattle.pvp_book.specs.Answer.{Row, book_of}
use Rattle.headline.specs.Machine.{book}
use Rattle.rtgs_node.specs.Node.{Envelope, Node, has_done, has_returned}
use Rattle.headline.specs.declared.step.Move.{Move}
use Rattle.headline.specs.Bank.{Bank}
use Rattle.headline.specs.Legal.{IsLegal, Moment}
use Rattle.headline.specs.Headline.{IsOrdered}
use Rattle.headline.proofs.Between.{is_between}

-- NOTICES

abbrev pub notices_of : Option Node → List Cmd
notices_of None = []
notices_of (Some x) = x.notices

abbrev pub notice_at : List Node → ℕ → ℕ → Option Cmd
notice_at nodes c i = slice_get (notices_of (slice_get nodes c)) i

-- the command is this notice of the currency's node
pub record IsNotice (nodes : List Node) (c number : ℕ) (cmd : Cmd) : Type 0 where
  pub counted : 1 ≤ number
  pub is : notice_at nodes c (number - 1) ≡ Some cmd

-- a node asks for nothing but its notices, by their numbers
abbrev pub AsksAs : List Node → ℕ → ℕ → Cmd → Type 0
AsksAs nodes client number cmd = (c : ℕ) → c < length nodes → client ≡ node_of c → IsNotice nodes c number cmd

abbrev pub IsAsked : List Node → Envelope → Type 0
IsAsked nodes e = (asked : RequestOf Cmd) → e.msg ≡ Request asked → AsksAs nodes e.from asked.number asked.cmd

-- what a notice says is so at the node
abbrev pub IsSo : ℕ → Node → Cmd → Type 0
IsSo c x (Fund d k m amt) = (d ≡ c) × (1 ≤ k) × (slice_get x.pay_ins (k - 1) ≡ Some (record { member = m; amt = amt }))
IsSo c x (Paid d out) = (d ≡ c) × (has_done x out ≡ true)
IsSo c x (Returned d out) = (d ≡ c) × (has_returned x out ≡ true)
IsSo c x _ = ⊤

-- what a node has told the bank is so, no order is done twice, and none is both done and returned
pub record IsSoundNode (c : ℕ) (x : Node) : Type 0 where
  pub notices : (i : ℕ) (cmd : Cmd) → slice_get x.notices i ≡ Some cmd → IsSo c x cmd
  pub once : (out : ℕ) → count_by (λ o. o.out == out) x.pay_outs ≤ 1
  pub apart : (out : ℕ) → has_done x out ≡ true → has_returned x out ≡ false

abbrev pub SitesWorld : Type 0
SitesWorld = World Cmd Answer PaymentOrder

abbrev pub SitesEvents : Type 0
SitesEvents = List (Happening Cmd Answer PaymentOrder)

module _ (setup : Setup) (choose : Choice Cmd) (f : ℕ) (cells : List Boot) where
  -- a site had executed a book with this order at some moment, and the book of the history has it
  pub record IsOrder (moves : List Move) (bank : Bank) (history : List Row) (c : ℕ) (order : PaymentOrder) : Type 0 where
    pub moment : Moment setup choose f cells moves bank
    pub by : IsOrdered setup moment.then c order
    pub ordered : Contains (orders (book_of setup history) c) order

  -- a REPLY was sent by a step of the sites alone, whose sender stood in the bank at some moment
  pub record IsReply (moves : List Move) (bank : Bank) (world : SitesWorld) (e : Envelope) : Type 0 where
    pub reply : Replied Cmd
    pub moment : Moment setup choose f cells moves bank
    pub is_there : slice_get moment.then.sites reply.from ≡ Some reply.sender
    pub among : Contains world.replies reply
    pub is : reply_to book (opening setup) reply.from reply.sender reply.place ≡ Some e

  -- THE INVARIANT. The history is the longest that any site ever executed: what every site has executed begins it.
  pub record Holds (moves : List Move) (bank : Bank) : Type 0 where
    pub legal : IsLegal setup choose f cells moves bank
    -- the sites have a legal list of their own
    pub events : SitesEvents
    pub world : SitesWorld
    pub alone : worlds.IsLegal choose f cells events world
    pub sites : world.sites ≡ bank.sites
    -- the history
    pub history : List Row
    pub begins : (x : Site Cmd) → Contains bank.sites x → Begins (executed_rows x) history
    pub one : (more : SitesEvents) (later : SitesWorld) (y : Site Cmd) → worlds.IsRun choose f world more later → Contains later.sites y
        → Begins (executed_rows y) history ⊎ Begins history (executed_rows y)
    pub rows : (row : Row) → Contains history row → AsksAs bank.nodes row.client row.number row.cmd
    pub asked : (i : ℕ) (e : Envelope) → Contains events (step_of i (Deliver e)) → IsAsked bank.nodes e
    pub arrived : (i : ℕ) (e : Envelope) → Contains events (step_of i (Deliver e)) → Contains bank.post e
    -- the post
    pub between : (e : Envelope) → Contains bank.post e → is_between e.msg ≡ true → Contains world.sent e
    pub back : (e : Envelope) → Contains world.sent e → Contains bank.post e
    pub told : (r : Replied Cmd) (e : Envelope) → Contains world.replies r → reply_to book (opening setup) r.from r.sender r.place ≡ Some e
        → Contains bank.post e
    pub requests : (e : Envelope) → Contains bank.post e → IsAsked bank.nodes e
    pub orders : (e : Envelope) (order : PaymentOrder) → Contains bank.post e → e.msg ≡ PayOrder order → IsOrder moves bank history order.ccy order
    pub replies : (e : Envelope) (said : ReplyOf Answer) → Contains bank.post e → e.msg ≡ Reply said → IsReply moves bank world e
    -- nodes and clients
    pub count : length bank.nodes ≡ length setup.currencies
    pub people : length bank.clients ≡ suc (length setup.members)
    pub nodes : (c : ℕ) (x : Node) → slice_get bank.nodes c ≡ Some x → IsSoundNode c x
    pub done : (c : ℕ) (x : Node) (order : PaymentOrder) → slice_get bank.nodes c ≡ Some x → Contains x.pay_outs order → IsOrder moves bank history c order

  -- it holds here, over a history that begins with this one, and in a world of sites that goes on from this one
  pub record HoldsOn (least : List Row) (from : SitesWorld) (moves : List Move) (bank : Bank) : Type 0 where
    pub holds : Holds moves bank
    pub longer : Begins least holds.history
    pub more : SitesEvents
    pub run : worlds.IsRun choose f from more holds.world
