-- What is sent of the boot cell was saved before.
use Rattle.std.specs.Prelude.{◌≡◌, IfSome}
use Rattle.vr_types.specs.declared.cell.Boot.{Boot}
use Rattle.vr_types.specs.declared.message.MsgOf.{MsgOf}
use Rattle.vr_types.specs.Cell.{nonce_of}
use Rattle.vr_types.specs.Messages.{asked_nonce}

-- A RECOVERY carries the count of restarts that the cell holds. No other message carries anything of the cell.
abbrev pub IsSavedFor : {C R O : Type 0} → Boot → MsgOf C R O → Type 0
IsSavedFor cell msg = IfSome (asked_nonce msg) (λ nonce. nonce ≡ nonce_of cell)
