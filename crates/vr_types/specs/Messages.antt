-- What a message is, and what it carries, whatever its kind.
use Rattle.std.specs.Prelude.{ℕ, Bool, true, false, List, [], ◌∷◌, Option, Some, None}
use Rattle.vr_types.specs.declared.message.MsgOf.{MsgOf}
use Rattle.vr_types.specs.declared.message.MsgOf.TheVariants.{Request, Prepare, StartViewChange, DoViewChange, StartView, NewState, Recovery, RecoveryResponse}
use Rattle.vr_types.specs.declared.message.StateOf.{StateOf}
use Rattle.vr_types.specs.declared.row.RowOf.{RowOf}

abbrev pub is_request : {C R O : Type 0} → MsgOf C R O → Bool
is_request (Request msg) = true
is_request _ = false

-- the rows of the state that an answer to a recovering site holds
abbrev pub rows_of_state : {C : Type 0} → Option (StateOf C) → List (RowOf C)
rows_of_state None = []
rows_of_state (Some state) = state.rows

-- the rows that a message carries
abbrev pub rows_in : {C R O : Type 0} → MsgOf C R O → List (RowOf C)
rows_in (Prepare msg) = msg.row ∷ []
rows_in (DoViewChange msg) = msg.rows
rows_in (StartView msg) = msg.rows
rows_in (NewState msg) = msg.rows
rows_in (RecoveryResponse msg) = rows_of_state msg.state
rows_in _ = []

-- the boot numbers that its sender knew, where the message carries them
abbrev pub known_in : {C R O : Type 0} → MsgOf C R O → Option (List ℕ)
known_in (StartViewChange msg) = Some msg.known
known_in (DoViewChange msg) = Some msg.known
known_in (RecoveryResponse msg) = Some msg.known
known_in _ = None

-- the nonce with which a RECOVERY asks for the state; None for any other message
abbrev pub asked_nonce : {C R O : Type 0} → MsgOf C R O → Option ℕ
asked_nonce (Recovery msg) = Some msg.nonce
asked_nonce _ = None

-- a message of a kind that carries no list of rows
abbrev pub has_fixed_size : {C R O : Type 0} → MsgOf C R O → Bool
has_fixed_size (DoViewChange msg) = false
has_fixed_size (StartView msg) = false
has_fixed_size (NewState msg) = false
has_fixed_size (RecoveryResponse msg) = false
has_fixed_size _ = true
