-- Messages and envelopes in words.
use Rattle.std.specs.Prelude.{ℕ, List, [], ◌++◌, codes, decimal}
use Rattle.std.specs.Option.{option_map_or}
use Rattle.pvp_types.specs.declared.setup.Setup.{Setup}
use Rattle.pvp_types.specs.declared.command.Cmd.{Cmd}
use Rattle.pvp_types.specs.declared.command.Reply.{Reply as Answer}
use Rattle.pvp_types.specs.declared.command.PayOrder.{PayOrder as PaymentOrder}
use Rattle.pvp_types.specs.Reply.{reply_text}
use Rattle.vr_types.specs.declared.message.MsgOf.{MsgOf}
use Rattle.vr_types.specs.declared.message.MsgOf.TheVariants.{Request, Prepare, PrepareOk, Commit, StartViewChange, DoViewChange, StartView, GetState, NewState, Recovery, RecoveryResponse, Reply, PayOrder}
use Rattle.vr_types.specs.declared.message.StateOf.{StateOf}
use Rattle.rtgs_node.specs.Node.{Envelope}
use Rattle.pvp_trace.specs.Names.{actor_text}
use Rattle.pvp_trace.specs.Words.{command_text, order_text, row_text, rows_text, boots_text}

-- a number that has this name
abbrev pub field_text : List ℕ → ℕ → List ℕ
field_text name number = codes " " ++ name ++ codes " " ++ decimal number

abbrev pub view_text : ℕ → List ℕ
view_text view = field_text (codes "view") view

abbrev pub done_text : ℕ → List ℕ
done_text done = field_text (codes "done") done

-- a primary's state, where the answer has one
abbrev pub state_text : Setup → StateOf Cmd → List ℕ
state_text setup state = done_text state.done ++ rows_text setup state.rows

-- A MESSAGE: its kind, and its fields

abbrev pub kind_name : MsgOf Cmd Answer PaymentOrder → List ℕ
kind_name (Request msg) = codes "REQUEST"
kind_name (Prepare msg) = codes "PREPARE"
kind_name (PrepareOk msg) = codes "PREPAREOK"
kind_name (Commit msg) = codes "COMMIT"
kind_name (StartViewChange msg) = codes "STARTVIEWCHANGE"
kind_name (DoViewChange msg) = codes "DOVIEWCHANGE"
kind_name (StartView msg) = codes "STARTVIEW"
kind_name (GetState msg) = codes "GETSTATE"
kind_name (NewState msg) = codes "NEWSTATE"
kind_name (Recovery msg) = codes "RECOVERY"
kind_name (RecoveryResponse msg) = codes "RECOVERYRESPONSE"
kind_name (Reply msg) = codes "REPLY"
kind_name (PayOrder order) = codes "PAYORDER"

abbrev pub fields_text : Setup → MsgOf Cmd Answer PaymentOrder → List ℕ
fields_text setup (Request msg) = codes " " ++ decimal msg.number ++ codes " " ++ command_text setup msg.cmd
fields_text setup (Prepare msg) =
    view_text msg.view ++ field_text (codes "place") msg.place ++ done_text msg.done ++ codes " row "
    ++ row_text setup msg.row
fields_text setup (PrepareOk msg) = view_text msg.view ++ field_text (codes "place") msg.place
fields_text setup (Commit msg) = view_text msg.view ++ done_text msg.done
fields_text setup (StartViewChange msg) = view_text msg.view ++ boots_text msg.known
fields_text setup (DoViewChange msg) =
    view_text msg.view ++ field_text (codes "normal") msg.last_normal ++ done_text msg.done
    ++ rows_text setup msg.rows ++ boots_text msg.known
fields_text setup (StartView msg) = view_text msg.view ++ done_text msg.done ++ rows_text setup msg.rows
fields_text setup (GetState msg) = view_text msg.view ++ field_text (codes "base") msg.base
fields_text setup (NewState msg) =
    view_text msg.view ++ field_text (codes "base") msg.base ++ done_text msg.done ++ rows_text setup msg.rows
fields_text setup (Recovery msg) = field_text (codes "nonce") msg.nonce
fields_text setup (RecoveryResponse msg) =
    view_text msg.view ++ field_text (codes "nonce") msg.nonce ++ option_map_or
    (state_text setup) msg.state [] ++ boots_text msg.known
fields_text setup (Reply msg) =
    view_text msg.view ++ field_text (codes "to") msg.number ++ codes " " ++ reply_text msg.reply
fields_text setup (PayOrder order) = codes " " ++ order_text setup order

abbrev pub message_text : Setup → MsgOf Cmd Answer PaymentOrder → List ℕ
message_text setup msg = kind_name msg ++ fields_text setup msg

-- an envelope: who says what to whom
abbrev pub envelope_text : Setup → Envelope → List ℕ
envelope_text setup e =
    actor_text setup e.from ++ codes " -> " ++ actor_text setup e.to ++ codes "  " ++ message_text setup e.msg
