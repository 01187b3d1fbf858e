-- What holds of sites under every legal list. Places are counted from 1.
use Rattle.std.specs.Prelude.{◌≡◌, ℕ, ◌-◌, ◌<◌, ◌≤◌, ◌⊎◌, ◌↔◌, true, List, ◌∷◌, ◌++◌, length, take, map, slice_get, Contains, All, Option, Some, ⊤}
use Rattle.std.specs.List.{filter_map, flat_map}
use Rattle.vr_types.specs.declared.event.EventOf.{EventOf}
use Rattle.vr_types.specs.declared.event.EventOf.TheVariants.{Deliver}
use Rattle.vr_types.specs.declared.event.Status.TheVariants.{Normal, Change, Recovering}
use Rattle.vr_types.specs.declared.machine.Machine.{Ghosts}
use Rattle.vr_types.specs.declared.message.EnvelopeOf.{EnvelopeOf}
use Rattle.vr_types.specs.declared.message.DoViewChangeOf.{DoViewChangeOf}
use Rattle.vr_types.specs.declared.message.MsgOf.{MsgOf}
use Rattle.vr_types.specs.declared.message.MsgOf.TheVariants.{Request, Prepare, PrepareOk, Commit, StartViewChange, DoViewChange, StartView, GetState, NewState, Recovery, RecoveryResponse, Reply, PayOrder}
use Rattle.vr_types.specs.declared.row.RowOf.{RowOf}
use Rattle.vr_types.specs.Execution.{held_after, answer_at}
use Rattle.vr_types.specs.Group.{actor_of, mail}
use Rattle.vr_types.specs.Choice.{AreFresh}
use Rattle.vr_types.specs.Messages.{rows_of_state}
use Rattle.vr_types.specs.Site.{Site, is_running, executed_rows}
use Rattle.vr_types.specs.Step.{Step, Handled}
use Rattle.vr_types.specs.Handling.{votes_used, responses_used, site_step, machine_of, reply_to, order_to, envelopes}
use Rattle.agreement.specs.Worlds.{World, Replied, Ordered, Happening, step_of, stepped, IsRun, IsLegal, LegalList, IsNoRestart}

-- the row at a place
abbrev pub row_at : {C : Type 0} → List (RowOf C) → ℕ → Option (RowOf C)
row_at rows place = slice_get rows (place - 1)

-- WHAT IS EXECUTED

-- two lists have the same row at each place that both have
abbrev pub Agree : {C : Type 0} → List (RowOf C) → List (RowOf C) → Type 0
Agree {C} xs ys =
    (n : ℕ) (x y : RowOf C) → slice_get xs n ≡ Some x → slice_get ys n ≡ Some y → x ≡ y

-- any site of the one world and any of the other have executed the same row at each place that both have
abbrev pub SitesAgree : {C R O : Type 0} → World C R O → World C R O → Type 0
SitesAgree {C} early late =
    (x y : Site C) → Contains early.sites x → Contains late.sites y
    → Agree (executed_rows x) (executed_rows y)

-- so the first n rows of both are the same, where both have n
abbrev pub FirstRowsAgree : {C R O : Type 0} → World C R O → World C R O → Type 0
FirstRowsAgree {C} early late =
    (x y : Site C) (n : ℕ) → Contains early.sites x → Contains late.sites y
    → n ≤ length (executed_rows x) → n ≤ length (executed_rows y)
    → take n (executed_rows x) ≡ take n (executed_rows y)

-- of two rows of one client the later has the greater number
abbrev pub IsRising : {C : Type 0} → List (RowOf C) → Type 0
IsRising {C} log =
    (n m : ℕ) (a b : RowOf C) → n < m → slice_get log n ≡ Some a → slice_get log m ≡ Some b
    → a.client ≡ b.client → a.number < b.number

-- in every log the numbers of each client rise
abbrev pub LogsRise : {C R O : Type 0} → World C R O → Type 0
LogsRise {C} world = (x : Site C) → Contains world.sites x → IsRising x.log

-- no event of the list is a restart
abbrev pub NeverRestarts : {C R O : Type 0} → List (Happening C R O) → Type 0
NeverRestarts events = All (λ h. IsNoRestart h.event) events

-- WHAT IS COLLECTED, AND HOW A VOTE BINDS

-- the messages that a site collects for a view change are fresh, and so are those that it collects while it recovers
abbrev pub CollectedAreFresh : {C R O : Type 0} → World C R O → Type 0
CollectedAreFresh {C} world =
    (x : Site C) → Contains world.sites x
    → (x.status ≡ Change → AreFresh (λ start. start.from) (λ start. start.known) x.collected.starts
    × AreFresh (λ vote. vote.from) (λ vote. vote.known) x.collected.votes)
    × (x.status ≡ Recovering → AreFresh (λ response. response.from) (λ response. response.known) x.collected.responses)

-- a site that ever sent a DOVIEWCHANGE runs in no view below it, whether or not it restarted since
abbrev pub VotesBind : {C R O : Type 0} → World C R O → Type 0
VotesBind {C} {R} {O} world =
    (i to : ℕ) (msg : DoViewChangeOf C) (x : Site C) → Contains world.sent (mail i to (DoViewChange msg))
    → slice_get world.sites i ≡ Some x → is_running x.status ≡ true → msg.view ≤ x.view

-- WHAT CLIENTS RECEIVE

-- the rows up to the one that a reply answers, as its sender had them
abbrev pub answered_rows : {C : Type 0} → Replied C → List (RowOf C)
answered_rows reply = take reply.place reply.sender.log

-- these rows begin a log
pub record Begins {C : Type 0} (rows log : List (RowOf C)) : Type 0 where
  pub rest : List (RowOf C)
  pub is : rows ++ rest ≡ log

-- a reply is for a row that its sender had executed
pub record IsExecuted {C : Type 0} (reply : Replied C) : Type 0 where
  pub counted : 1 ≤ reply.place
  pub row : RowOf C
  pub is_there : row_at (executed_rows reply.sender) reply.place ≡ Some row

-- a REPLY of a machine's site says that this is the answer to a client's request
pub record Tells {H C R O S : Type 0} (m : Ghosts H C R O S) (start : H)
    (reply : Replied C) (client number : ℕ) (answer : R) : Type 0 where
  pub envelope : EnvelopeOf C R O
  pub is : reply_to m start reply.from reply.sender reply.place ≡ Some envelope
  pub to : envelope.to ≡ client
  pub view : ℕ
  pub msg : envelope.msg ≡ Reply (record { view = view; number = number; reply = answer })

-- all replies to one request are for one place, after the same rows
abbrev pub RepliesAgree : {C R O : Type 0} → World C R O → Type 0
RepliesAgree {C} world =
    (a b : Replied C) (row other : RowOf C) → Contains world.replies a → Contains world.replies b
    → row_at a.sender.log a.place ≡ Some row → row_at b.sender.log b.place ≡ Some other
    → row.client ≡ other.client → row.number ≡ other.number
    → (a.place ≡ b.place) × (answered_rows a ≡ answered_rows b)

-- all replies to one request carry one answer
abbrev pub AnswersAgree : {H C R O S : Type 0} → Ghosts H C R O S → H → World C R O → Type 0
AnswersAgree {H} {C} {R} m start world =
    (a b : Replied C) (client number : ℕ) (x y : R)
    → Contains world.replies a → Contains world.replies b
    → Tells m start a client number x → Tells m start b client number y → x ≡ y

-- every answer is the machine's, at the place of that request's row in the executed rows of any site of either world
abbrev pub AnswersAreRight : {H C R O S : Type 0}
    → Ghosts H C R O S → H → World C R O → World C R O → Type 0
AnswersAreRight {H} {C} {R} m start early late =
    (reply : Replied C) (answer : R) (x : Site C) (place : ℕ) (row : RowOf C)
    → Contains late.replies reply → Contains early.sites x ⊎ Contains late.sites x
    → 1 ≤ place → row_at (executed_rows x) place ≡ Some row
    → Tells m start reply row.client row.number answer
    → answer ≡ answer_at m start (executed_rows x) place row

-- the rows up to one that was ever answered in a view begin the log of every site that is normal in a later view
abbrev pub AnsweredRowsStay : {C R O : Type 0} → World C R O → World C R O → Type 0
AnsweredRowsStay {C} early late =
    (reply : Replied C) (x : Site C)
    → Contains late.replies reply → Contains early.sites x ⊎ Contains late.sites x
    → x.status ≡ Normal → reply.sender.view < x.view
    → Begins (answered_rows reply) x.log

-- NOTHING IS INVENTED

-- a client's REQUEST for a row
abbrev pub request_of : {C R O : Type 0} → ℕ → RowOf C → EnvelopeOf C R O
request_of to row = record { from = row.client; to = to; msg = Request (record { number = row.number; cmd = row.cmd }) }

-- a row came by a REQUEST of its client, with its number and its command, that was delivered
pub record WasAsked {C R O : Type 0} (events : List (Happening C R O))
    (row : RowOf C) : Type 0 where
  pub site : ℕ
  pub to : ℕ
  pub taken : Contains events (step_of site (Deliver (request_of to row)))

-- the rows that a message between sites has
abbrev pub RowsAre : {C R O : Type 0} → (RowOf C → Type 0) → MsgOf C R O → Type 0
RowsAre P (Request msg) = ⊤
RowsAre P (Prepare msg) = P msg.row
RowsAre P (PrepareOk msg) = ⊤
RowsAre P (Commit msg) = ⊤
RowsAre P (StartViewChange msg) = ⊤
RowsAre P (DoViewChange msg) = All P msg.rows
RowsAre P (StartView msg) = All P msg.rows
RowsAre P (GetState msg) = ⊤
RowsAre P (NewState msg) = All P msg.rows
RowsAre P (Recovery msg) = ⊤
RowsAre P (RecoveryResponse msg) = All P (rows_of_state msg.state)
RowsAre P (Reply msg) = ⊤
RowsAre P (PayOrder order) = ⊤

-- each row of every log was asked for
abbrev pub LogsWereAsked : {C R O : Type 0} → List (Happening C R O) → World C R O → Type 0
LogsWereAsked {C} events world =
    (x : Site C) → Contains world.sites x → All (WasAsked events) x.log

-- each row in every message that was ever sent was asked for
abbrev pub MessagesWereAsked : {C R O : Type 0} → List (Happening C R O) → World C R O → Type 0
MessagesWereAsked {C} {R} {O} events world =
    (envelope : EnvelopeOf C R O) → Contains world.sent envelope
    → RowsAre (WasAsked events) envelope.msg

-- Site i took this step in the list: the events before it lead to a world in which it is the site's step, and the
-- events after it go on from the world after the step, in which the site is as the step leaves it.
pub record Took {C R O : Type 0} {f : ℕ} (list : LegalList C R O f)
    (i : ℕ) (step : Step C R O) : Type 0 where
  pub before : List (Happening C R O)
  pub event : EventOf C R O
  pub after : List (Happening C R O)
  pub parts : before ++ step_of i event ∷ after ≡ list.events
  pub world : World C R O
  pub legal : IsLegal list.choose f list.cells before world
  pub site : Site C
  pub was : slice_get world.sites i ≡ Some site
  pub is : step ≡ site_step list.choose f i site event
  pub stands : slice_get (stepped world i step).sites i ≡ Some step.site
  pub rest : IsRun list.choose f (stepped world i step) after list.world

-- The DOVIEWCHANGEs by which a step of the list decides whether a view opens are fresh, and so are the responses by
-- which a step decides whether a state is regained.
abbrev pub UsedAreFresh : {C R O : Type 0} {f : ℕ} → LegalList C R O f → Type 0
UsedAreFresh {C} {R} {O} {f} list =
    (i : ℕ) (step : Step C R O) (took : Took list i step) (envelope : EnvelopeOf C R O)
    → took.event ≡ Deliver envelope → step.ending ≡ Handled
    → AreFresh (λ vote. vote.from) (λ vote. vote.known) (votes_used f i took.site envelope.from envelope.msg)
    × AreFresh (λ response. response.from) (λ response. response.known)
    (responses_used took.site envelope.from envelope.msg)

-- a REPLY was sent in a step of the list, by a site that had executed the row by then
pub record WasReplied {C R O : Type 0} {f : ℕ} (list : LegalList C R O f)
    (reply : Replied C) : Type 0 where
  pub step : Step C R O
  pub took : Took list reply.from step
  pub sender : reply.sender ≡ step.site
  pub sent : Contains step.replies reply.place
  pub executed : IsExecuted reply

-- open orders were sent in a step of the list, by a site that is normal after it
pub record WasOrdered {C R O : Type 0} {f : ℕ} (list : LegalList C R O f)
    (order : Ordered C) : Type 0 where
  pub step : Step C R O
  pub took : Took list order.from step
  pub sender : order.sender ≡ step.site
  pub sent : step.orders ≡ true
  pub normal : order.sender.status ≡ Normal

-- every REPLY was sent in this way
abbrev pub RepliesWereSent : {C R O : Type 0} {f : ℕ} → LegalList C R O f → Type 0
RepliesWereSent {C} list =
    (reply : Replied C) → Contains list.world.replies reply → WasReplied list reply

-- open orders were sent in this way each time
abbrev pub OrdersWereSent : {C R O : Type 0} {f : ℕ} → LegalList C R O f → Type 0
OrdersWereSent {C} list =
    (order : Ordered C) → Contains list.world.orders order → WasOrdered list order

-- the REPLYs that were ever sent, as envelopes
abbrev pub replies_sent : {H C R O S : Type 0}
    → Ghosts H C R O S → H → World C R O → List (EnvelopeOf C R O)
replies_sent m start world =
    filter_map (λ reply. reply_to m start reply.from reply.sender reply.place) world.replies

-- the open orders that were ever sent, as envelopes
abbrev pub orders_sent : {H C R O S : Type 0}
    → Ghosts H C R O S → H → World C R O → List (EnvelopeOf C R O)
orders_sent m start world =
    flat_map
    (λ order. map (order_to order.from) (m.orders (machine_of m start order.sender)))
    world.orders

-- all that was ever sent, to sites and to clients
abbrev pub all_sent : {H C R O S : Type 0}
    → Ghosts H C R O S → H → World C R O → List (EnvelopeOf C R O)
all_sent m start world = world.sent ++ replies_sent m start world ++ orders_sent m start world

-- after a step of a site, what was ever sent is what was sent before, and what the step sends
abbrev pub GrowsByStep : {H C R O S : Type 0}
    → Ghosts H C R O S → H → World C R O → ℕ → Step C R O → Type 0
GrowsByStep {H} {C} {R} {O} m start world site step =
    (envelope : EnvelopeOf C R O) → Contains (all_sent m start (stepped world site step)) envelope
    ↔ (Contains (all_sent m start world) envelope ⊎ Contains (envelopes m start site step) envelope)

-- The envelope is a REPLY that a step of the list sent, to the client of a row that the site had executed by then, with
-- the machine's answer at the row's place in its executed rows.
pub record IsRightReply {H C R O S : Type 0} (m : Ghosts H C R O S) (start : H)
    {f : ℕ} (list : LegalList C R O f) (envelope : EnvelopeOf C R O) : Type 0 where
  pub site : ℕ
  pub step : Step C R O
  pub took : Took list site step
  pub place : ℕ
  pub sent : Contains step.replies place
  pub row : RowOf C
  pub counted : 1 ≤ place
  pub executed : row_at (executed_rows step.site) place ≡ Some row
  pub from : envelope.from ≡ actor_of site
  pub to : envelope.to ≡ row.client
  pub msg : envelope.msg
      ≡ Reply (record {
        view = step.site.view;
        number = row.number;
        reply = answer_at m start (executed_rows step.site) place row;
      })

-- The envelope is an order that a step of the list sent, open for this client after the rows that the site had executed
-- by then.
pub record IsOpenOrder {H C R O S : Type 0} (m : Ghosts H C R O S) (start : H)
    {f : ℕ} (list : LegalList C R O f) (envelope : EnvelopeOf C R O) : Type 0 where
  pub site : ℕ
  pub step : Step C R O
  pub took : Took list site step
  pub sent : step.orders ≡ true
  pub normal : step.site.status ≡ Normal
  pub order : O
  pub is_open : Contains (m.orders (held_after m start (executed_rows step.site))) (envelope.to, order)
  pub from : envelope.from ≡ actor_of site
  pub msg : envelope.msg ≡ PayOrder order
