-- The two parts in which the fields of a message are written: all in front of its rows, and the rows page by page.
use Rattle.std.specs.Prelude.{ℕ, ◌*◌, List, [], take, drop, Option, Some, None}
use Rattle.std.specs.List.{flat_map}
use Rattle.vr_types.specs.declared.message.MsgOf.TheVariants.{DoViewChange, StartView, NewState, RecoveryResponse}
use Rattle.vr_types.specs.declared.message.StateOf.{StateOf}
use Rattle.vr_types.specs.Pages.{page_rows}
use Rattle.pvp_types.specs.declared.command.Cmd.{Cmd}
use Rattle.pvp_wire.specs.Layout.{BankMsg, BankRow, row, rows}

-- the rows of a state, where there is one
abbrev pub rows_of : Option (StateOf Cmd) → Option (List BankRow)
rows_of None = None
rows_of (Some state) = Some state.rows

-- the rows at the end of a message
abbrev pub last_rows : BankMsg → Option (List BankRow)
last_rows (DoViewChange msg) = Some msg.rows
last_rows (StartView msg) = Some msg.rows
last_rows (NewState msg) = Some msg.rows
last_rows (RecoveryResponse msg) = rows_of msg.state
last_rows _ = None

-- their bytes
abbrev pub spelled : Option (List BankRow) → List ℕ
spelled None = []
spelled (Some log) = flat_map row.spell log

-- the rows of a page, counted from 0; none behind the last one
abbrev pub rows_at : List BankRow → ℕ → List BankRow
rows_at rows page = take page_rows (drop (page_rows * page) rows)

-- they fit
abbrev pub LastFits : Option (List BankRow) → Type 0
LastFits None = Unit {0}
LastFits (Some log) = rows.Fits log

-- how many bytes a piece has room for
abbrev pub room : ℕ
room = 64
