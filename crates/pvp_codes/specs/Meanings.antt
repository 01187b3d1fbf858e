-- What the codes mean that are printed of setups, scripts, commands, audits, frames, journals and boot cells, in words.
-- What those of a step mean is said in pvp_trace.
use Rattle.std.specs.Prelude.{ℕ, List, codes}
use Rattle.pvp_types.specs.declared.setup.SetupFault.{SetupFault}
use Rattle.pvp_types.specs.declared.setup.SetupFault.TheVariants.{SiteCount, CurrencyCount, CurrencyCode, Rate, Haircut, MemberCount, MemberName, ListLength, Limit}
use Rattle.pvp_types.specs.declared.command.Reason.{Reason}
use Rattle.pvp_types.specs.declared.command.Reason.TheVariants as reason
use Rattle.pvp_text.specs.declared.setup.TextFault.{TextFault}
use Rattle.pvp_text.specs.declared.setup.TextFault.TheVariants as text
use Rattle.pvp_text.specs.declared.script.LineCode.{LineCode}
use Rattle.pvp_text.specs.declared.script.LineCode.TheVariants as line
use Rattle.pvp_rooms.specs.declared.verdict.AuditTest.{AuditTest}
use Rattle.pvp_rooms.specs.declared.verdict.AuditTest.TheVariants as audit
use Rattle.pvp_wire.specs.declared.fault.WireFault.{WireFault}
use Rattle.pvp_wire.specs.declared.fault.WireFault.TheVariants as wire
use Rattle.pvp_cell.specs.declared.fault.OpenFault.{OpenFault}
use Rattle.pvp_cell.specs.declared.fault.OpenFault.TheVariants as cell
use Rattle.pvp_journal.specs.declared.fault.JournalWhy.{JournalWhy}
use Rattle.pvp_journal.specs.declared.fault.JournalWhy.TheVariants as journal
use Rattle.pvp_journal.specs.declared.fault.WriteFault.{WriteFault}
use Rattle.pvp_journal.specs.declared.fault.WriteFault.TheVariants as write
use Rattle.pvp_journal.specs.declared.fault.EvidenceWhy.{EvidenceWhy}
use Rattle.pvp_journal.specs.declared.fault.EvidenceWhy.TheVariants as evidence
use Rattle.pvp_journal.specs.declared.fault.ShelfFault.{ShelfFault}
use Rattle.pvp_journal.specs.declared.fault.ShelfFault.TheVariants as shelf
use Rattle.pvp_places.specs.declared.fault.PlaceWhy.{PlaceWhy}
use Rattle.pvp_places.specs.declared.fault.PlaceWhy.TheVariants as place
use Rattle.pvp_places.specs.declared.fault.FolderWhy.{FolderWhy}
use Rattle.pvp_places.specs.declared.fault.FolderWhy.TheVariants as folder
use Rattle.pvp_places.specs.declared.fault.TerminalWhy.{TerminalWhy}
use Rattle.pvp_places.specs.declared.fault.TerminalWhy.TheVariants as terminal
use Rattle.pvp_places.specs.declared.serving.ServeFault.{ServeFault}
use Rattle.pvp_places.specs.declared.serving.ServeFault.TheVariants as serve

abbrev pub rule_meaning : SetupFault → List ℕ
rule_meaning SiteCount = codes "the sites are not 3, 5 or 7"
rule_meaning CurrencyCount = codes "the currencies are not 1 to 8"
rule_meaning CurrencyCode = codes "a currency's code is not three letters A to Z, or stands twice"
rule_meaning Rate = codes "a rate is not 1 to 1000000"
rule_meaning Haircut = codes "a haircut is not 0 to 9999"
rule_meaning MemberCount = codes "the members are not 1 to 64"
rule_meaning MemberName =
    codes
    "a member's name is not 1 to 8 of A to Z and digits, a letter first, or it stands twice, is OP or is a currency's code"
rule_meaning ListLength = codes "a member's short limits or deposits are not one for each currency"
rule_meaning Limit = codes "a limit is not 0 to 1000000000000000000, or a deposit is not 0 to 1000000000000000"

abbrev pub text_meaning : TextFault → List ℕ
text_meaning text.NotJson = codes "the text is no JSON"
text_meaning text.BadMember =
    codes "a field of an object is missing or of another type; a number is digits alone, below 2^64"
text_meaning text.NoMemory = codes "memory was refused"
text_meaning (text.BadSetup rule) = rule_meaning rule

abbrev pub line_meaning : LineCode → List ℕ
line_meaning line.Byte = codes "a byte outside 32 to 126"
line_meaning line.UnknownWord =
    codes "the first word, or a command's, is unknown, or the first word is not of the script's kind"
line_meaning line.WordCount = codes "too many or too few words"
line_meaning line.Number = codes "a number that is malformed or too large for its field"
line_meaning line.UnknownName = codes "a name that nothing has, or that may not stand there"
line_meaning line.LineLength = codes "a line of more than 256 bytes"
line_meaning line.LineCount = codes "more than 65535 lines"
line_meaning line.NoMemory = codes "memory was refused"

abbrev pub reason_meaning : Reason → List ℕ
reason_meaning reason.NotYours = codes "the sender is of the wrong kind, or no side of the pair that it takes back"
reason_meaning reason.UnknownMember =
    codes "the sender or a member that is named is not in the setup, or the other side is the sender itself"
reason_meaning reason.UnknownCurrency = codes "a currency is not in the setup, or is sold for itself"
reason_meaning reason.BadAmount = codes "an amount is not 1 to 1000000000000"
reason_meaning reason.Repeated = codes "this was done already"
reason_meaning reason.Mismatch = codes "the instruction is not the exact mirror of the one that waits"
reason_meaning reason.UnknownReference = codes "there is no such pair or order, or the number is 0"
reason_meaning reason.Late = codes "the pair is settled or taken back"
reason_meaning reason.Short = codes "the sender's balance is below the amount"
reason_meaning reason.TestFails = codes "the sender would fail its tests once the amount is paid out"
reason_meaning reason.BankShort = codes "the bank's figure is below the amount"

abbrev pub audit_meaning : AuditTest → List ℕ
audit_meaning audit.Stamped = codes "what is delivered is not what its stamp names, or may not come to this actor"
audit_meaning audit.Clock = codes "a clock is not above the one before it and above its stamp's"
audit_meaning audit.Answered = codes "the event cannot come out as it is recorded"
audit_meaning audit.End = codes "the end state does not read like the replay's"
audit_meaning audit.Receipts = codes "an event is no seat's next receipt, or a receipt is left over"
audit_meaning audit.NoMemory = codes "memory was refused"

abbrev pub wire_meaning : WireFault → List ℕ
wire_meaning wire.Short = codes "the bytes end within a frame"
wire_meaning wire.TooLong = codes "the frame's length is above 4194304"
wire_meaning wire.Version = codes "the version is not 2"
wire_meaning wire.Kind = codes "no message has this kind"
wire_meaning wire.Field = codes "a field has a value that it may not have"
wire_meaning wire.Length = codes "the fields end before the frame does, or after it"
wire_meaning wire.NoMemory = codes "memory was refused"

-- of a live run whose actors cannot be audited
abbrev pub seats_meaning : List ℕ
seats_meaning =
    codes "a live run lost a seat, or a site of it had not begun with a new cell, so its actors could not be audited"

abbrev pub journal_meaning : JournalWhy → List ℕ
journal_meaning journal.Magic = codes "the bytes do not begin with PVPJ"
journal_meaning journal.Version = codes "the version is neither 1 nor 2"
journal_meaning journal.Head = codes "the head is cut off, or its opening has another flag"
journal_meaning journal.Length = codes "a record's length does not have its complement behind it"
journal_meaning journal.Checksum = codes "a record has another checksum"
journal_meaning (journal.Record _) = codes "a record says nothing that its actor may do"
journal_meaning journal.NoMemory = codes "memory was refused"

abbrev pub record_meaning : WriteFault → List ℕ
record_meaning write.Unfit = codes "an event has no text"
record_meaning write.NoMemory = codes "memory was refused"

abbrev pub cell_meaning : OpenFault → List ℕ
cell_meaning cell.Lost = codes "no boot cell is there"
cell_meaning cell.Length = codes "what is there has not the length of a boot cell"
cell_meaning cell.Damaged = codes "a boot cell's count and its complement do not fit each other"
cell_meaning cell.Present = codes "a boot cell that is to be made is there already"
cell_meaning cell.Store = codes "the store of a boot cell failed"
cell_meaning cell.NoMemory = codes "memory was refused"

abbrev pub evidence_meaning : EvidenceWhy → List ℕ
evidence_meaning evidence.Setup = codes "the journal is of a bank whose setup has another text"
evidence_meaning evidence.Life = codes "the journal is of another life of the bank than one before it"
evidence_meaning evidence.Stranger = codes "the bank has no such actor, or it opened over what such an actor does not"
evidence_meaning evidence.Twice = codes "a journal before it is the same actor's"
evidence_meaning evidence.Missing = codes "no journal is the actor's"

abbrev pub shelf_meaning : ShelfFault → List ℕ
shelf_meaning shelf.Full = codes "there is no room left for a file"
shelf_meaning shelf.Failed = codes "a file or its folder could not be made or written"
shelf_meaning shelf.Present = codes "there are files already where new ones are to be put"

-- a line of a peers file or a keys file
abbrev pub place_meaning : PlaceWhy → List ℕ
place_meaning place.Form = codes "a line is not two words with spaces between them"
place_meaning place.Name = codes "the bank has no actor of this name that may stand here"
place_meaning place.Address = codes "an address is not HOST:PORT with a port from 1 to 65535"
place_meaning place.Key = codes "a key is not 64 digits of 0 to 9, and a to f or A to F"
place_meaning place.Twice = codes "a name stands a second time"
place_meaning place.Missing = codes "the actor has no line, and needs one"

-- an actor or its folder that no process can serve
abbrev pub folder_meaning : FolderWhy → List ℕ
folder_meaning folder.Actor = codes "the bank has no such actor"
folder_meaning folder.Failed = codes "the folder could not be made, or a file there not be read or written"
folder_meaning folder.Locked = codes "another process serves the folder"
folder_meaning folder.Unsynced =
    codes "the end of the journal may be lost, and a node or a client cannot recover it from others"
folder_meaning folder.Cell = codes "the boot cell and the journal are not of one site"
folder_meaning folder.History = codes "no actor can have taken what the journal tells"
folder_meaning folder.Open = codes "without keys a site listens on this machine alone, unless the network is trusted"
folder_meaning folder.Unbegun =
    codes "the folder has no actor: `pvpsim begin` makes one, once; one that was lost may not be made anew"
folder_meaning folder.Begun = codes "an actor was begun in the folder before, and may not be begun again"
folder_meaning folder.Window = codes "a window opens at an address of this machine alone"

-- what a terminal does not ask for
abbrev pub terminal_meaning : TerminalWhy → List ℕ
terminal_meaning terminal.Share =
    codes "the client has used up its share of the log's rows: what is left of them is for letting money out"
terminal_meaning terminal.Full = codes "the rows that the log has left are for letting money out"

-- why a process does not serve, whatever its code is
abbrev pub served_meaning : ServeFault → List ℕ
served_meaning (serve.Setup fault) = text_meaning fault
served_meaning (serve.File paper) = codes "a file that it needs could not be read"
served_meaning (serve.Line paper line why) = place_meaning why
served_meaning (serve.Missing paper actor) = place_meaning place.Missing
served_meaning (serve.Folder why) = folder_meaning why
served_meaning (serve.Journal why at) = journal_meaning why
served_meaning (serve.Other why) = evidence_meaning why
served_meaning (serve.Cell fault) = cell_meaning fault
served_meaning (serve.Log fault) = shelf_meaning fault
served_meaning serve.Unfit = record_meaning write.Unfit
served_meaning serve.Output = codes "standard output could not be written: an answer is still owed"
served_meaning serve.Net = codes "there is no thread to be had, or no listener at the site's address"
served_meaning serve.Clock = codes "there is no greater clock"
served_meaning serve.NoMemory = codes "memory was refused"
