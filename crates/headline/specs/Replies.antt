-- The answers to clients, and what logs keep.
use Rattle.std.specs.Prelude.{◌≡◌, ℕ, ◌-◌, ◌<◌, ◌≤◌, ◌==◌, ◌⊎◌, if◌then◌else◌, List, length, take, slice_get, Contains, Option, Some, None}
use Rattle.std.specs.List.{filter_map}
use Rattle.pvp_types.specs.declared.setup.Setup.{Setup}
use Rattle.pvp_types.specs.declared.command.Cmd.{Cmd}
use Rattle.pvp_types.specs.declared.command.Reply.{Reply as Answer}
use Rattle.pvp_types.specs.declared.step.Step.{Step}
use Rattle.pvp_types.specs.declared.step.Step.TheVariants.{Submit as Submits}
use Rattle.vr_types.specs.declared.actors.TheConstants.{FIRST_NODE}
use Rattle.vr_types.specs.declared.event.Status.TheVariants.{Normal}
use Rattle.vr_types.specs.declared.message.MsgOf.TheVariants.{Reply}
use Rattle.vr_types.specs.declared.message.ReplyOf.{ReplyOf}
use Rattle.vr_types.specs.Group.{actor_of}
use Rattle.vr_types.specs.Site.{Site, executed_rows}
use Rattle.vr_types.specs.Execution.{answer_at}
use Rattle.agreement.specs.Promises.{row_at, IsRising, Begins}
use Rattle.pvp_book.specs.Ledger.{opening}
use Rattle.pvp_book.specs.Answer.{Row}
use Rattle.headline.specs.Machine.{book}
use Rattle.rtgs_node.specs.Node.{Envelope}
use Rattle.headline.specs.declared.step.Move.{Move}
use Rattle.headline.specs.declared.step.Move.TheVariants.{Takes, Falls}
use Rattle.headline.specs.Bank.{Bank}
use Rattle.headline.specs.Client.{Client}
use Rattle.headline.specs.Legal.{LegalList, Continued, MomentOf, MomentUpTo}

-- in every log the numbers of each client rise
abbrev pub LogsRise : Bank → Type 0
LogsRise bank = (x : Site Cmd) → Contains bank.sites x → IsRising x.log

-- the site is in the bank at one moment or at the other
abbrev pub IsSiteOf : Bank → Bank → Site Cmd → Type 0
IsSiteOf early late x = Contains early.sites x ⊎ Contains late.sites x

-- an envelope of the post is this REPLY
pub record WasTold (bank : Bank) (e : Envelope) (said : ReplyOf Answer) : Type 0 where
  pub posted : Contains bank.post e
  pub is : e.msg ≡ Reply said

-- The sender of an envelope has executed, in the REPLY's view, a row of the client that the envelope is for, with the
-- REPLY's number; and its answer is the book's at that row's place.
pub record HasAnswered (setup : Setup) (bank : Bank) (e : Envelope) (said : ReplyOf Answer) : Type 0 where
  pub sender : ℕ
  pub site : Site Cmd
  pub is_there : slice_get bank.sites sender ≡ Some site
  pub from : e.from ≡ actor_of sender
  pub in_view : site.view ≡ said.view
  pub place : ℕ
  pub row : Row
  pub counted : 1 ≤ place
  pub executed : row_at (executed_rows site) place ≡ Some row
  pub client : row.client ≡ e.to
  pub named : row.number ≡ said.number
  pub right : said.reply ≡ answer_at book (opening setup) (executed_rows site) place row

-- each REPLY answers a row that its sender had executed by then
abbrev pub AnsweredWereExecuted : {setup : Setup} {f : ℕ} → LegalList setup f → Type 0
AnsweredWereExecuted {setup} list =
    (e : Envelope) (said : ReplyOf Answer) → WasTold list.bank e said
    → (moment : MomentOf list) × HasAnswered setup moment.then e said

-- all REPLYs to one request of a client carry the same answer
abbrev pub AnswersAgree : Bank → Type 0
AnswersAgree bank =
    (d e : Envelope) (a b : ReplyOf Answer) → WasTold bank d a → WasTold bank e b → d.to ≡ e.to → a.number ≡ b.number
    → a.reply ≡ b.reply

-- it is the book's answer, at the place of that request's row in the executed rows of any site at either moment
abbrev pub AnswersAreRight : Setup → Bank → Bank → Type 0
AnswersAreRight setup early late =
    (e : Envelope) (said : ReplyOf Answer) (x : Site Cmd) (place : ℕ) (row : Row) → WasTold late e said
    → IsSiteOf early late x → 1 ≤ place → row_at (executed_rows x) place ≡ Some row → row.client ≡ e.to
    → row.number ≡ said.number
    → said.reply ≡ answer_at book (opening setup) (executed_rows x) place row

-- What a site had executed up to the row that it answered in a view begins the log of every site that is normal in a
-- later view, at either moment.
pub record Stays {setup : Setup} {f : ℕ} (early : LegalList setup f) (late : Continued early)
    (e : Envelope) (said : ReplyOf Answer) : Type 0 where
  pub moment : MomentUpTo early late
  pub by : HasAnswered setup moment.then e said
  pub begin : (x : Site Cmd) → IsSiteOf early.bank late.bank x → x.status ≡ Normal → said.view < x.view
      → Begins (take by.place (executed_rows by.site)) x.log

abbrev pub AnsweredRowsStay : {setup : Setup} {f : ℕ} (early : LegalList setup f) → Continued early → Type 0
AnsweredRowsStay early late =
    (e : Envelope) (said : ReplyOf Answer) → WasTold late.bank e said → Stays early late e said

-- a REPLY was sent to this client for just its last request, with this answer
pub record WasSentTo (bank : Bank) (client : ℕ) (x : Client) (answer : Answer) : Type 0 where
  pub e : Envelope
  pub said : ReplyOf Answer
  pub told : WasTold bank e said
  pub to : e.to ≡ client
  pub named : said.number ≡ x.number
  pub right : said.reply ≡ answer

-- what a client has as its answer was sent to it
abbrev pub AnswersWereTold : Bank → Type 0
AnswersWereTold bank =
    (client : ℕ) (x : Client) (answer : Answer) → slice_get bank.clients client ≡ Some x → x.answer ≡ Some answer
    → WasSentTo bank client x answer

-- what a move submits at the client of this number
abbrev pub submitted_in : ℕ → Step → Option Cmd
submitted_in client (Submits number cmd) = if number == client then Some cmd else None
submitted_in client _ = None

abbrev pub submitted_by : ℕ → Move → Option Cmd
submitted_by client (Takes step) = submitted_in client step
submitted_by client (Falls step cell) = None

-- all that was submitted there, in order
abbrev pub submitted : ℕ → List Move → List Cmd
submitted client moves = filter_map (submitted_by client) moves

-- the command is what was submitted there as request `number`, counted from 1
pub record IsSubmitted (moves : List Move) (client number : ℕ) (cmd : Cmd) : Type 0 where
  pub counted : 1 ≤ number
  pub is : slice_get (submitted client moves) (number - 1) ≡ Some cmd

-- each row of a client has the command that was submitted there under the row's number
abbrev pub RowsWereSubmitted : {setup : Setup} {f : ℕ} → LegalList setup f → Type 0
RowsWereSubmitted list =
    (x : Site Cmd) (row : Row) → Contains list.bank.sites x → Contains x.log row → row.client < FIRST_NODE
    → IsSubmitted list.moves row.client row.number row.cmd

-- and the number of a client's last request is how many were submitted there
abbrev pub RequestsAreCounted : {setup : Setup} {f : ℕ} → LegalList setup f → Type 0
RequestsAreCounted list =
    (client : ℕ) (x : Client) → slice_get list.bank.clients client ≡ Some x
    → x.number ≡ length (submitted client list.moves)
