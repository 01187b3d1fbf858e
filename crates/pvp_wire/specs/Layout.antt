-- What a frame has in it: the shape of each kind of value, defined once.
use Rattle.std.specs.Prelude.{ℕ, ◌==◌, ◌&&◌, nat_le, Bool, false, List, [], ◌∷◌, Option, Some, None, Ok, Err, if◌then◌else◌}
use Rattle.pvp_types.specs.declared.command.Cmd.{Cmd}
use Rattle.pvp_types.specs.declared.command.Cmd.TheVariants.{Instruct, Rescind, Fund, Settle, PayOut, Paid, Returned}
use Rattle.pvp_types.specs.declared.command.Instruction.{Instruction}
use Rattle.pvp_types.specs.declared.command.PayOrder as orders
use Rattle.pvp_types.specs.declared.command.Reason.{Reason}
use Rattle.pvp_types.specs.declared.command.Reason.TheVariants.{NotYours, UnknownMember, UnknownCurrency, BadAmount, Repeated, Mismatch, UnknownReference, Late, Short, TestFails, BankShort}
use Rattle.pvp_types.specs.declared.command.Reply as replies
use Rattle.pvp_types.specs.declared.command.Reply.TheVariants.{Done, Matched, Settled, Order, No}
use Rattle.vr_types.specs.declared.message.DoViewChangeOf.{DoViewChangeOf}
use Rattle.vr_types.specs.declared.message.MsgOf.{MsgOf}
use Rattle.vr_types.specs.declared.message.MsgOf.TheVariants.{Request, Prepare, PrepareOk, Commit, StartViewChange, DoViewChange, StartView, GetState, NewState, Recovery, RecoveryResponse, Reply, PayOrder}
use Rattle.vr_types.specs.declared.message.NewStateOf.{NewStateOf}
use Rattle.vr_types.specs.declared.message.PrepareOf.{PrepareOf}
use Rattle.vr_types.specs.declared.message.RecoveryResponseOf.{RecoveryResponseOf}
use Rattle.vr_types.specs.declared.message.ReplyOf.{ReplyOf}
use Rattle.vr_types.specs.declared.message.RequestOf.{RequestOf}
use Rattle.vr_types.specs.declared.message.StartViewChange as start_view_changes
use Rattle.vr_types.specs.declared.message.StartViewOf.{StartViewOf}
use Rattle.vr_types.specs.declared.message.StateOf.{StateOf}
use Rattle.vr_types.specs.declared.limits.TheConstants.{MOST_SITES}
use Rattle.vr_types.specs.declared.row.RowOf.{RowOf}
use Rattle.vr_types.specs.Actors.{is_actor, is_client}
use Rattle.pvp_wire.specs.declared.fault.WireFault.TheVariants.{Field, Length, Kind}
use Rattle.pvp_wire.specs.declared.stamped.Stamp.{Stamp}
use Rattle.pvp_wire.specs.Shape.{Reads, as_part, Shape, wide, wide_of, ◌of◌and◌, lastly, whole, pair, list_of, in_place, nothing, ByShape, with_tag, spelled_by, fits_by}

-- the bank's messages
abbrev pub BankMsg : Type 0
BankMsg = MsgOf Cmd replies.Reply orders.PayOrder

-- a row of its log
abbrev pub BankRow : Type 0
BankRow = RowOf Cmd

-- ---- commands

-- what a side instructs
abbrev pub instruct : Shape Instruction
instruct =
    whole (wide 4 of (λ asked. asked.reference) and wide 2 of (λ asked. asked.other) and
    wide 1 of (λ asked. asked.sell) and wide 8 of (λ asked. asked.sell_amt) and
    wide 1 of (λ asked. asked.buy) and lastly (wide 8) (λ asked. asked.buy_amt))
    (λ reference other sell sell_amt buy buy_amt. record {
      reference = reference;
      other = other;
      sell = sell;
      buy = buy;
      sell_amt = sell_amt;
      buy_amt = buy_amt;
    })

-- a pay-in: the currency, its number, the member, the amount
abbrev pub fund : Shape (ℕ × ℕ × ℕ × ℕ)
fund =
    whole (wide 1 of (λ f. f.0) and wide 4 of (λ f. f.1) and wide 2 of (λ f. f.2) and lastly (wide 8) (λ f. f.3))
    (λ ccy pay member amt. (ccy, pay, member, amt))

-- a currency and an amount
abbrev pub amount : Shape (ℕ × ℕ)
amount = pair (wide 1) (wide 8)

-- a currency and the number of an order
abbrev pub order_number : Shape (ℕ × ℕ)
order_number = pair (wide 1) (wide 4)

-- for each command its tag, the shape of its fields, and the fields
abbrev pub per_command {ℓ} : {R : Type ℓ} → ByShape R → Cmd → R
per_command put (Instruct asked) = put _ 1 instruct asked
per_command put (Rescind reference) = put _ 2 (wide 4) reference
per_command put (Fund ccy pay member amt) = put _ 3 fund (ccy, pay, member, amt)
per_command put (Settle most) = put _ 4 (wide 4) most
per_command put (PayOut ccy amt) = put _ 5 amount (ccy, amt)
per_command put (Paid ccy out) = put _ 6 order_number (ccy, out)
per_command put (Returned ccy out) = put _ 7 order_number (ccy, out)

-- the command of a tag
unfoldable pub command_at : List ℕ → Reads Cmd
command_at [] = Err Length
command_at (tag ∷ bytes) =
    if tag == 1 then as_part Instruct (instruct.read false bytes)
    else if tag == 2 then as_part Rescind ((wide 4).read false bytes)
    else if tag == 3 then as_part (λ f. Fund f.0 f.1 f.2 f.3) (fund.read false bytes)
    else if tag == 4 then as_part Settle ((wide 4).read false bytes)
    else if tag == 5 then as_part (λ a. PayOut a.0 a.1) (amount.read false bytes)
    else if tag == 6 then as_part (λ o. Paid o.0 o.1) (order_number.read false bytes)
    else if tag == 7 then as_part (λ o. Returned o.0 o.1) (order_number.read false bytes)
    else Err Field

-- a command
abbrev pub command : Shape Cmd
command = record { spell = per_command with_tag; Fits = per_command fits_by; read = λ refused. command_at }

-- ---- answers

-- the number of a reason's code, B1 to B11
abbrev pub reason_number : Reason → ℕ
reason_number NotYours = 1
reason_number UnknownMember = 2
reason_number UnknownCurrency = 3
reason_number BadAmount = 4
reason_number Repeated = 5
reason_number Mismatch = 6
reason_number UnknownReference = 7
reason_number Late = 8
reason_number Short = 9
reason_number TestFails = 10
reason_number BankShort = 11

-- the reason of a code's number
abbrev pub reason_at : List ℕ → Reads Reason
reason_at [] = Err Length
reason_at (n ∷ bytes) =
    if n == 1 then Ok (NotYours, bytes)
    else if n == 2 then Ok (UnknownMember, bytes)
    else if n == 3 then Ok (UnknownCurrency, bytes)
    else if n == 4 then Ok (BadAmount, bytes)
    else if n == 5 then Ok (Repeated, bytes)
    else if n == 6 then Ok (Mismatch, bytes)
    else if n == 7 then Ok (UnknownReference, bytes)
    else if n == 8 then Ok (Late, bytes)
    else if n == 9 then Ok (Short, bytes)
    else if n == 10 then Ok (TestFails, bytes)
    else if n == 11 then Ok (BankShort, bytes)
    else Err Field

-- a reason, by the number of its code
abbrev pub reason : Shape Reason
reason = record { spell = λ why. reason_number why ∷ []; Fits = λ why. Unit {0}; read = λ refused. reason_at }

-- for each answer its tag, and its field where it has one
abbrev pub per_reply {ℓ} : {R : Type ℓ} → ByShape R → replies.Reply → R
per_reply put Done = put _ 1 nothing tt
per_reply put Matched = put _ 2 nothing tt
per_reply put (Settled count) = put _ 3 (wide 4) count
per_reply put (Order out) = put _ 4 (wide 4) out
per_reply put (No why) = put _ 5 reason why

-- the answer of a tag
unfoldable pub reply_at : List ℕ → Reads replies.Reply
reply_at [] = Err Length
reply_at (tag ∷ bytes) =
    if tag == 1 then Ok (Done, bytes)
    else if tag == 2 then Ok (Matched, bytes)
    else if tag == 3 then as_part Settled ((wide 4).read false bytes)
    else if tag == 4 then as_part Order ((wide 4).read false bytes)
    else if tag == 5 then as_part No (reason.read false bytes)
    else Err Field

-- an answer
abbrev pub reply : Shape replies.Reply
reply = record { spell = per_reply with_tag; Fits = per_reply fits_by; read = λ refused. reply_at }

-- a pay-out's order
unfoldable pub order : Shape orders.PayOrder
order =
    whole (wide 1 of (λ due. due.ccy) and wide 4 of (λ due. due.out) and wide 2 of (λ due. due.member) and
    lastly (wide 8) (λ due. due.amt))
    (λ ccy out member amt. record { ccy = ccy; out = out; member = member; amt = amt })

-- ---- rows, boots and states

-- a row: its client, its number, its command
unfoldable pub row : Shape BankRow
row =
    whole (wide_of 2 is_client of (λ r. r.client) and wide 4 of (λ r. r.number) and lastly command (λ r. r.cmd))
    (λ client number cmd. record { client = client; number = number; cmd = cmd })

-- their count, then the rows
unfoldable pub rows : Shape (List BankRow)
rows = list_of (wide 2) row

-- a group has 1 to 7 sites
abbrev pub is_site_count : ℕ → Bool
is_site_count count = nat_le 1 count && nat_le count MOST_SITES

-- the boot numbers that a sender knew: the number of sites, then the boot number of each
unfoldable pub boots : Shape (List ℕ)
boots = list_of (wide_of 1 is_site_count) (wide 4)

-- how many rows are executed, then the rows
unfoldable pub state : Shape (StateOf Cmd)
state =
    whole (wide 2 of (λ s. s.done) and lastly rows (λ s. s.rows))
    (λ done rows. record { done = done; rows = rows })

-- 0, or 1 and the state
abbrev pub per_option {ℓ} : {R : Type ℓ} → ByShape R → Option (StateOf Cmd) → R
per_option put None = put _ 0 nothing tt
per_option put (Some s) = put _ 1 state s

-- the state if the flag is 1
unfoldable pub option_at : Bool → List ℕ → Reads (Option (StateOf Cmd))
option_at refused [] = Err Length
option_at refused (flag ∷ bytes) =
    if flag == 0 then Ok (None, bytes)
    else if flag == 1 then as_part Some (state.read refused bytes)
    else Err Field

-- a state, or none
abbrev pub state_option : Shape (Option (StateOf Cmd))
state_option = record { spell = per_option with_tag; Fits = per_option fits_by; read = option_at }

-- ---- messages: the fields of each

unfoldable pub request : Shape (RequestOf Cmd)
request =
    whole (wide 4 of (λ m. m.number) and lastly command (λ m. m.cmd))
    (λ number cmd. record { number = number; cmd = cmd })

unfoldable pub prepare : Shape (PrepareOf Cmd)
prepare =
    whole (wide 4 of (λ m. m.view) and wide 2 of (λ m. m.place) and wide 2 of (λ m. m.done) and
    lastly row (λ m. m.row))
    (λ view place done row. record { view = view; place = place; done = done; row = row })

-- a view and a number of two bytes
abbrev pub view_and_place : Shape (ℕ × ℕ)
view_and_place = pair (wide 4) (wide 2)

unfoldable pub start_view_change : Shape start_view_changes.StartViewChange
start_view_change =
    whole (wide 4 of (λ m. m.view) and lastly boots (λ m. m.known))
    (λ view known. record { view = view; known = known })

unfoldable pub do_view_change : Shape (DoViewChangeOf Cmd)
do_view_change =
    whole (wide 4 of (λ m. m.view) and wide 4 of (λ m. m.last_normal) and wide 2 of (λ m. m.done) and
    in_place boots of (λ m. m.known) and lastly rows (λ m. m.rows))
    (λ view last_normal done known rows. record {
      view = view;
      last_normal = last_normal;
      done = done;
      rows = rows;
      known = known;
    })

unfoldable pub start_view : Shape (StartViewOf Cmd)
start_view =
    whole (wide 4 of (λ m. m.view) and wide 2 of (λ m. m.done) and lastly rows (λ m. m.rows))
    (λ view done rows. record { view = view; done = done; rows = rows })

unfoldable pub new_state : Shape (NewStateOf Cmd)
new_state =
    whole (wide 4 of (λ m. m.view) and wide 2 of (λ m. m.base) and wide 2 of (λ m. m.done) and
    lastly rows (λ m. m.rows))
    (λ view base done rows. record { view = view; base = base; done = done; rows = rows })

unfoldable pub recovery_response : Shape (RecoveryResponseOf Cmd)
recovery_response =
    whole (wide 4 of (λ m. m.view) and wide 4 of (λ m. m.nonce) and in_place boots of (λ m. m.known) and
    lastly state_option (λ m. m.state))
    (λ view nonce known state. record { view = view; nonce = nonce; state = state; known = known })

unfoldable pub answer : Shape (ReplyOf replies.Reply)
answer =
    whole (wide 4 of (λ m. m.view) and wide 4 of (λ m. m.number) and lastly reply (λ m. m.reply))
    (λ view number reply. record { view = view; number = number; reply = reply })

-- for each message its kind, the shape of its fields, and the fields
abbrev pub per_message {ℓ} : {R : Type ℓ} → ByShape R → BankMsg → R
per_message put (Request msg) = put _ 1 request msg
per_message put (Prepare msg) = put _ 2 prepare msg
per_message put (PrepareOk msg) = put _ 3 view_and_place (msg.view, msg.place)
per_message put (Commit msg) = put _ 4 view_and_place (msg.view, msg.done)
per_message put (StartViewChange msg) = put _ 5 start_view_change msg
per_message put (DoViewChange msg) = put _ 6 do_view_change msg
per_message put (StartView msg) = put _ 7 start_view msg
per_message put (GetState msg) = put _ 8 view_and_place (msg.view, msg.base)
per_message put (NewState msg) = put _ 9 new_state msg
per_message put (Recovery msg) = put _ 10 (wide 4) msg.nonce
per_message put (RecoveryResponse msg) = put _ 11 recovery_response msg
per_message put (Reply msg) = put _ 12 answer msg
per_message put (PayOrder due) = put _ 13 order due

-- the kind of a message
abbrev pub kind : BankMsg → ℕ
kind = per_message (λ A kind shape x. kind)

-- how the fields of a message are spelled, and that they fit
abbrev pub body : BankMsg → List ℕ
body = per_message spelled_by

abbrev pub MessageFits : BankMsg → Type 0
MessageFits = per_message fits_by

-- the fields of a message of this kind; there are only the kinds 1 to 13
unfoldable pub message_at : Bool → ℕ → List ℕ → Reads BankMsg
message_at refused kind bytes =
    if kind == 1 then as_part Request (request.read false bytes)
    else if kind == 2 then as_part Prepare (prepare.read false bytes)
    else if kind == 3 then
    as_part (λ x. PrepareOk (record { view = x.0; place = x.1 })) (view_and_place.read false bytes)
    else if kind == 4 then as_part (λ x. Commit (record { view = x.0; done = x.1 })) (view_and_place.read false bytes)
    else if kind == 5 then as_part StartViewChange (start_view_change.read false bytes)
    else if kind == 6 then as_part DoViewChange (do_view_change.read refused bytes)
    else if kind == 7 then as_part StartView (start_view.read refused bytes)
    else if kind == 8 then as_part (λ x. GetState (record { view = x.0; base = x.1 })) (view_and_place.read false bytes)
    else if kind == 9 then as_part NewState (new_state.read refused bytes)
    else if kind == 10 then as_part (λ n. Recovery (record { nonce = n })) ((wide 4).read false bytes)
    else if kind == 11 then as_part RecoveryResponse (recovery_response.read refused bytes)
    else if kind == 12 then as_part Reply (answer.read false bytes)
    else if kind == 13 then as_part PayOrder (order.read false bytes)
    else Err Kind

-- ---- stamps

-- the actor that sends, its clock, and the envelope's place among those sent at that moment
unfoldable pub stamp : Shape Stamp
stamp =
    whole (wide_of 2 is_actor of (λ s. s.actor) and wide 8 of (λ s. s.clock) and lastly (wide 4) (λ s. s.index))
    (λ actor clock index. record { actor = actor; clock = clock; index = index })
