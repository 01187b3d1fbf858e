-- All codes that the program or its parts print, and the text that has each with its meaning.
use Rattle.std.specs.Prelude.{◌≡◌, ◌≢◌, ℕ, true, List, [], ◌∷◌, ◌++◌, map, codes}
use Rattle.std.specs.List.{flat_map}
use Rattle.pvp_types.specs.declared.command.Reason.{Reason}
use Rattle.pvp_types.specs.declared.command.Reason.TheVariants as reason
use Rattle.pvp_types.specs.Setup.{rules, rule_text, is_among, are_different}
use Rattle.pvp_types.specs.Reply.{reason_text}
use Rattle.pvp_text.specs.declared.setup.TextFault.{TextFault}
use Rattle.pvp_text.specs.declared.setup.TextFault.TheVariants as text
use Rattle.pvp_text.specs.declared.script.LineCode.{LineCode}
use Rattle.pvp_text.specs.declared.script.LineCode.TheVariants as line
use Rattle.pvp_text.specs.Script.{line_code_text}
use Rattle.vr_types.specs.declared.event.SiteFault.{SiteFault}
use Rattle.vr_types.specs.declared.event.SiteFault.TheVariants as site
use Rattle.rtgs_node.specs.declared.fault.NodeFault.{NodeFault}
use Rattle.rtgs_node.specs.declared.fault.NodeFault.TheVariants as node
use Rattle.pvp_world.specs.declared.fault.WorldFault.{WorldFault}
use Rattle.pvp_world.specs.declared.fault.WorldFault.TheVariants as world
use Rattle.pvp_world.specs.Fault.{fault_text}
use Rattle.pvp_trace.specs.Meanings.{meaning as step_meaning}
use Rattle.pvp_rooms.specs.declared.verdict.AuditTest.{AuditTest}
use Rattle.pvp_rooms.specs.declared.verdict.AuditTest.TheVariants as audit
use Rattle.pvp_wire.specs.declared.fault.WireFault.{WireFault}
use Rattle.pvp_wire.specs.declared.fault.WireFault.TheVariants as wire
use Rattle.pvp_wire.specs.Fault.{fault_code_text}
use Rattle.pvp_cell.specs.declared.fault.OpenFault.{OpenFault}
use Rattle.pvp_cell.specs.declared.fault.OpenFault.TheVariants as cell
use Rattle.pvp_cell.specs.Fault.{fault_code_text as cell_code}
use Rattle.pvp_journal.specs.declared.fault.JournalWhy.{JournalWhy}
use Rattle.pvp_journal.specs.declared.fault.JournalWhy.TheVariants as journal
use Rattle.pvp_journal.specs.declared.fault.WriteFault.{WriteFault}
use Rattle.pvp_journal.specs.declared.fault.WriteFault.TheVariants as write
use Rattle.pvp_journal.specs.Fault.{why_code as journal_code, write_code}
use Rattle.pvp_journal.specs.declared.fault.EvidenceWhy.{EvidenceWhy}
use Rattle.pvp_journal.specs.declared.fault.EvidenceWhy.TheVariants as evidence
use Rattle.pvp_journal.specs.Fault.{evidence_code}
use Rattle.pvp_journal.specs.declared.fault.ShelfFault.{ShelfFault}
use Rattle.pvp_journal.specs.declared.fault.ShelfFault.TheVariants as shelf
use Rattle.pvp_journal.specs.Fault.{shelf_code}
use Rattle.pvp_places.specs.declared.fault.PlaceWhy.{PlaceWhy}
use Rattle.pvp_places.specs.declared.fault.PlaceWhy.TheVariants as place
use Rattle.pvp_places.specs.declared.fault.FolderWhy.{FolderWhy}
use Rattle.pvp_places.specs.declared.fault.FolderWhy.TheVariants as folder
use Rattle.pvp_places.specs.declared.fault.TerminalWhy.{TerminalWhy}
use Rattle.pvp_places.specs.declared.fault.TerminalWhy.TheVariants.{Share, Full}
use Rattle.pvp_places.specs.Fault.{place_code, folder_code, terminal_code}
use Rattle.pvp_codes.specs.declared.code.Code.{Code}
use Rattle.pvp_codes.specs.declared.code.Code.TheVariants.{Setup, Line, Refusal, Step, Audit, Frame, Seats, Journal, Record, Cell, Evidence, Shelf, Place, Folder, Terminal}
use Rattle.pvp_codes.specs.Meanings.{text_meaning, line_meaning, reason_meaning, audit_meaning, wire_meaning, seats_meaning, journal_meaning, record_meaning, cell_meaning, evidence_meaning, shelf_meaning, place_meaning, folder_meaning, terminal_meaning}

-- ---- a code and its meaning

-- the program prints J3 as `fault memory`, and so no line of the table has it
abbrev pub setup_code : TextFault → List ℕ
setup_code text.NotJson = codes "J1"
setup_code text.BadMember = codes "J2"
setup_code text.NoMemory = codes "J3"
setup_code (text.BadSetup rule) = rule_text rule

abbrev pub audit_code : AuditTest → List ℕ
audit_code audit.Stamped = codes "A1"
audit_code audit.Clock = codes "A2"
audit_code audit.Answered = codes "A3"
audit_code audit.End = codes "A4"
audit_code audit.Receipts = codes "A5"
audit_code audit.NoMemory = codes "A6"

-- THE CODE that is printed
abbrev pub code_text : Code → List ℕ
code_text (Setup fault) = setup_code fault
code_text (Line code) = line_code_text code
code_text (Refusal why) = reason_text why
code_text (Step fault) = fault_text fault
code_text (Audit why) = audit_code why
code_text (Frame fault) = fault_code_text fault
code_text Seats = codes "E1"
code_text (Journal why) = journal_code why
code_text (Record fault) = write_code fault
code_text (Cell fault) = cell_code fault
code_text (Evidence why) = evidence_code why
code_text (Shelf fault) = shelf_code fault
code_text (Place why) = place_code why
code_text (Folder why) = folder_code why
code_text (Terminal why) = terminal_code why

-- WHAT IT MEANS
abbrev pub meaning : Code → List ℕ
meaning (Setup fault) = text_meaning fault
meaning (Line code) = line_meaning code
meaning (Refusal why) = reason_meaning why
meaning (Step fault) = step_meaning fault
meaning (Audit why) = audit_meaning why
meaning (Frame fault) = wire_meaning fault
meaning Seats = seats_meaning
meaning (Journal why) = journal_meaning why
meaning (Record fault) = record_meaning fault
meaning (Cell fault) = cell_meaning fault
meaning (Evidence why) = evidence_meaning why
meaning (Shelf fault) = shelf_meaning fault
meaning (Place why) = place_meaning why
meaning (Folder why) = folder_meaning why
meaning (Terminal why) = terminal_meaning why

-- ---- all of them

abbrev pub line_codes : List LineCode
line_codes =
    line.Byte ∷ line.UnknownWord ∷ line.WordCount ∷ line.Number ∷ line.UnknownName ∷ line.LineLength
    ∷ line.LineCount ∷ line.NoMemory ∷ []

abbrev pub reasons : List Reason
reasons =
    reason.NotYours ∷ reason.UnknownMember ∷ reason.UnknownCurrency ∷ reason.BadAmount
    ∷ reason.Repeated ∷ reason.Mismatch
    ∷ reason.UnknownReference ∷ reason.Late ∷ reason.Short ∷ reason.TestFails ∷ reason.BankShort ∷ []

abbrev pub world_faults : List WorldFault
world_faults = world.NoSuchEnvelope ∷ world.NoSuchActor ∷ world.Outstanding ∷ world.NoMemory ∷ []

abbrev pub site_faults : List SiteFault
site_faults =
    site.NoMemory ∷ site.CellFault ∷ site.NotUp ∷ site.AlreadyUp ∷ site.ViewsSpent ∷ site.BootsSpent ∷ site.NotMine ∷ []

abbrev pub node_faults : List NodeFault
node_faults =
    node.Short ∷ node.UnknownMember ∷ node.BadAmount ∷ node.NoMemory ∷ node.Spent ∷ node.NotMine ∷ node.Closed ∷ []

abbrev pub audit_tests : List AuditTest
audit_tests = audit.Stamped ∷ audit.Clock ∷ audit.Answered ∷ audit.End ∷ audit.Receipts ∷ audit.NoMemory ∷ []

abbrev pub frame_faults : List WireFault
frame_faults = wire.Short ∷ wire.TooLong ∷ wire.Version ∷ wire.Kind ∷ wire.Field ∷ wire.Length ∷ wire.NoMemory ∷ []

-- M6 stands once, whatever is wrong in a record
abbrev pub journal_whys : List JournalWhy
journal_whys =
    journal.Magic ∷ journal.Version ∷ journal.Head ∷ journal.Length ∷ journal.Checksum
    ∷ journal.Record wire.Field ∷ journal.NoMemory ∷ []

abbrev pub record_faults : List WriteFault
record_faults = write.Unfit ∷ write.NoMemory ∷ []

abbrev pub cell_faults : List OpenFault
cell_faults = cell.Lost ∷ cell.Length ∷ cell.Damaged ∷ cell.Present ∷ cell.Store ∷ cell.NoMemory ∷ []

abbrev pub evidence_whys : List EvidenceWhy
evidence_whys = evidence.Setup ∷ evidence.Life ∷ evidence.Stranger ∷ evidence.Twice ∷ evidence.Missing ∷ []

abbrev pub shelf_faults : List ShelfFault
shelf_faults = shelf.Full ∷ shelf.Failed ∷ shelf.Present ∷ []

abbrev pub place_whys : List PlaceWhy
place_whys = place.Form ∷ place.Name ∷ place.Address ∷ place.Key ∷ place.Twice ∷ place.Missing ∷ []

abbrev pub folder_whys : List FolderWhy
folder_whys =
    folder.Actor ∷ folder.Failed ∷ folder.Locked ∷ folder.Unsynced ∷ folder.Cell ∷ folder.History ∷ folder.Open
    ∷ folder.Unbegun ∷ folder.Begun ∷ []

abbrev pub terminal_whys : List TerminalWhy
terminal_whys = Share ∷ Full ∷ []

-- setups, scripts, commands, steps of the world, of sites, nodes and clients, audits, frames, live runs, journals,
-- records, boot cells, the journals of one bank, and where they are put
abbrev pub all_codes : List Code
all_codes =
    Setup text.NotJson ∷ Setup text.BadMember ∷ map (λ broken. Setup (text.BadSetup broken)) rules
    ++ map (λ code. Line code) line_codes
    ++ map (λ why. Refusal why) reasons
    ++ map (λ fault. Step fault) world_faults
    ++ map (λ fault. Step (world.Site fault)) site_faults
    ++ map (λ fault. Step (world.Node fault)) node_faults
    ++ Step world.Spent ∷ map (λ why. Audit why) audit_tests
    ++ map (λ fault. Frame fault) frame_faults
    ++ Seats ∷ map (λ why. Journal why) journal_whys
    ++ map (λ fault. Record fault) record_faults
    ++ map (λ fault. Cell fault) cell_faults
    ++ map (λ why. Evidence why) evidence_whys
    ++ map (λ fault. Shelf fault) shelf_faults
    ++ map (λ why. Place why) place_whys
    ++ map (λ why. Folder why) folder_whys
    ++ map (λ why. Terminal why) terminal_whys ++ Folder folder.Window ∷ []

-- a line: the code, two spaces, its meaning
abbrev pub code_line : Code → List ℕ
code_line code = code_text code ++ codes "  " ++ meaning code ++ codes "\n"

-- THE TEXT OF ALL CODES
abbrev pub codes_text : List ℕ
codes_text = flat_map code_line all_codes

-- ---- what holds of the table

-- each code stands in it, but J3, which the program prints as `fault memory`
abbrev pub EachIsTold : Type 0
EachIsTold = (code : Code) → code ≢ Setup text.NoMemory → is_among (code_text code) (map code_text all_codes) ≡ true

-- none stands twice
abbrev pub NoneIsToldTwice : Type 0
NoneIsToldTwice = are_different (map code_text all_codes) ≡ true
