-- Each code has its line in the table.
use Rattle.std.proofs.Common.{◌≡◌, refl}
use Rattle.pvp_types.specs.declared.command.Reason.TheVariants as reason
use Rattle.pvp_types.specs.declared.setup.SetupFault.TheVariants as rule
use Rattle.pvp_text.specs.declared.setup.TextFault.TheVariants as text
use Rattle.pvp_text.specs.declared.script.LineCode.TheVariants as line
use Rattle.vr_types.specs.declared.event.SiteFault.TheVariants as site
use Rattle.rtgs_node.specs.declared.fault.NodeFault.TheVariants as node
use Rattle.pvp_world.specs.declared.fault.WorldFault.TheVariants as world
use Rattle.pvp_rooms.specs.declared.verdict.AuditTest.TheVariants as audit
use Rattle.pvp_wire.specs.declared.fault.WireFault.TheVariants as wire
use Rattle.pvp_cell.specs.declared.fault.OpenFault.TheVariants as cell
use Rattle.pvp_journal.specs.declared.fault.JournalWhy.TheVariants as journal
use Rattle.pvp_journal.specs.declared.fault.WriteFault.TheVariants as write
use Rattle.pvp_journal.specs.declared.fault.EvidenceWhy.TheVariants as evidence
use Rattle.pvp_journal.specs.declared.fault.ShelfFault.TheVariants as shelf
use Rattle.pvp_places.specs.declared.fault.PlaceWhy.TheVariants as place
use Rattle.pvp_places.specs.declared.fault.FolderWhy.TheVariants as folder
use Rattle.pvp_places.specs.declared.fault.TerminalWhy.TheVariants as terminal
use Rattle.pvp_codes.specs.declared.code.Code.TheVariants.{Setup, Line, Refusal, Step, Audit, Frame, Seats, Journal, Record, Cell, Evidence, Shelf, Place, Folder, Terminal}
use Rattle.pvp_codes.specs.Codes.{EachIsTold}

pub each-told : EachIsTold
each-told (Setup text.NotJson) other = refl
each-told (Setup text.BadMember) other = refl
each-told (Setup text.NoMemory) other = absurd (other refl)
each-told (Setup (text.BadSetup rule.SiteCount)) other = refl
each-told (Setup (text.BadSetup rule.CurrencyCount)) other = refl
each-told (Setup (text.BadSetup rule.CurrencyCode)) other = refl
each-told (Setup (text.BadSetup rule.Rate)) other = refl
each-told (Setup (text.BadSetup rule.Haircut)) other = refl
each-told (Setup (text.BadSetup rule.MemberCount)) other = refl
each-told (Setup (text.BadSetup rule.MemberName)) other = refl
each-told (Setup (text.BadSetup rule.ListLength)) other = refl
each-told (Setup (text.BadSetup rule.Limit)) other = refl
each-told (Line line.Byte) other = refl
each-told (Line line.UnknownWord) other = refl
each-told (Line line.WordCount) other = refl
each-told (Line line.Number) other = refl
each-told (Line line.UnknownName) other = refl
each-told (Line line.LineLength) other = refl
each-told (Line line.LineCount) other = refl
each-told (Line line.NoMemory) other = refl
each-told (Refusal reason.NotYours) other = refl
each-told (Refusal reason.UnknownMember) other = refl
each-told (Refusal reason.UnknownCurrency) other = refl
each-told (Refusal reason.BadAmount) other = refl
each-told (Refusal reason.Repeated) other = refl
each-told (Refusal reason.Mismatch) other = refl
each-told (Refusal reason.UnknownReference) other = refl
each-told (Refusal reason.Late) other = refl
each-told (Refusal reason.Short) other = refl
each-told (Refusal reason.TestFails) other = refl
each-told (Refusal reason.BankShort) other = refl
each-told (Step world.NoSuchEnvelope) other = refl
each-told (Step world.NoSuchActor) other = refl
each-told (Step world.Outstanding) other = refl
each-told (Step world.Spent) other = refl
each-told (Step world.NoMemory) other = refl
each-told (Step (world.Site site.NoMemory)) other = refl
each-told (Step (world.Site site.CellFault)) other = refl
each-told (Step (world.Site site.NotUp)) other = refl
each-told (Step (world.Site site.AlreadyUp)) other = refl
each-told (Step (world.Site site.ViewsSpent)) other = refl
each-told (Step (world.Site site.BootsSpent)) other = refl
each-told (Step (world.Site site.NotMine)) other = refl
each-told (Step (world.Node node.Short)) other = refl
each-told (Step (world.Node node.UnknownMember)) other = refl
each-told (Step (world.Node node.BadAmount)) other = refl
each-told (Step (world.Node node.NoMemory)) other = refl
each-told (Step (world.Node node.Spent)) other = refl
each-told (Step (world.Node node.NotMine)) other = refl
each-told (Step (world.Node node.Closed)) other = refl
each-told (Audit audit.Stamped) other = refl
each-told (Audit audit.Clock) other = refl
each-told (Audit audit.Answered) other = refl
each-told (Audit audit.End) other = refl
each-told (Audit audit.Receipts) other = refl
each-told (Audit audit.NoMemory) other = refl
each-told (Frame wire.Short) other = refl
each-told (Frame wire.TooLong) other = refl
each-told (Frame wire.Version) other = refl
each-told (Frame wire.Kind) other = refl
each-told (Frame wire.Field) other = refl
each-told (Frame wire.Length) other = refl
each-told (Frame wire.NoMemory) other = refl
each-told Seats other = refl
each-told (Journal journal.Magic) other = refl
each-told (Journal journal.Version) other = refl
each-told (Journal journal.Head) other = refl
each-told (Journal journal.Length) other = refl
each-told (Journal journal.Checksum) other = refl
each-told (Journal (journal.Record fault)) other = refl
each-told (Journal journal.NoMemory) other = refl
each-told (Record write.Unfit) other = refl
each-told (Record write.NoMemory) other = refl
each-told (Cell cell.Lost) other = refl
each-told (Cell cell.Length) other = refl
each-told (Cell cell.Damaged) other = refl
each-told (Cell cell.Present) other = refl
each-told (Cell cell.Store) other = refl
each-told (Cell cell.NoMemory) other = refl
each-told (Evidence evidence.Setup) other = refl
each-told (Evidence evidence.Life) other = refl
each-told (Evidence evidence.Stranger) other = refl
each-told (Evidence evidence.Twice) other = refl
each-told (Evidence evidence.Missing) other = refl
each-told (Shelf shelf.Full) other = refl
each-told (Shelf shelf.Failed) other = refl
each-told (Shelf shelf.Present) other = refl
each-told (Place place.Form) other = refl
each-told (Place place.Name) other = refl
each-told (Place place.Address) other = refl
each-told (Place place.Key) other = refl
each-told (Place place.Twice) other = refl
each-told (Place place.Missing) other = refl
each-told (Folder folder.Actor) other = refl
each-told (Folder folder.Failed) other = refl
each-told (Folder folder.Locked) other = refl
each-told (Folder folder.Unsynced) other = refl
each-told (Folder folder.Cell) other = refl
each-told (Folder folder.History) other = refl
each-told (Folder folder.Open) other = refl
each-told (Folder folder.Unbegun) other = refl
each-told (Folder folder.Begun) other = refl
each-told (Folder folder.Window) other = refl
each-told (Terminal terminal.Share) other = refl
each-told (Terminal terminal.Full) other = refl
