-- Which fault of a run each fault of its parts becomes.
use Rattle.std.specs.Prelude.{ℕ}
use Rattle.pvp_text.specs.declared.book.RunFault.{RunFault}
use Rattle.pvp_text.specs.declared.book.RunFault.TheVariants as run
use Rattle.pvp_text.specs.declared.setup.TextFault.{TextFault}
use Rattle.pvp_text.specs.declared.setup.TextFault.TheVariants as text
use Rattle.pvp_command.specs.declared.fault.Fault.{Fault}
use Rattle.pvp_command.specs.declared.fault.Fault.TheVariants.{Setup, Line, NoSuchSite, NotToShow, NotToHide, File, Output, Net, Seats, Journal, Evidence, Missing, Shelf, Unfit, NoMemory}
use Rattle.pvp_journal.specs.declared.fault.JournalFault.{JournalFault}
use Rattle.pvp_journal.specs.declared.fault.JournalWhy.{JournalWhy}
use Rattle.pvp_journal.specs.declared.fault.JournalWhy.TheVariants as bytes
use Rattle.pvp_audit.specs.declared.gather.EvidenceFault.{EvidenceFault}
use Rattle.pvp_audit.specs.declared.gather.EvidenceFault.TheVariants as evidence
use Rattle.pvp_audit.specs.declared.shelf.PutFault.{PutFault}
use Rattle.pvp_audit.specs.declared.shelf.PutFault.TheVariants as put
use Rattle.pvp_command.specs.declared.files.FileFault.{FileFault}
use Rattle.pvp_command.specs.declared.files.Source.{Source}
use Rattle.pvp_live.specs.declared.running.LiveFault.{LiveFault}
use Rattle.pvp_live.specs.declared.running.LiveFault.TheVariants as live
use Rattle.pvp_command.specs.declared.files.FileFault.TheVariants as file

-- a setup's fault; lack of memory is the same in whichever part
abbrev pub text_told : TextFault → Fault
text_told text.NotJson = Setup text.NotJson
text_told text.BadMember = Setup text.BadMember
text_told text.NoMemory = NoMemory
text_told (text.BadSetup rule) = Setup (text.BadSetup rule)

abbrev pub run_told : RunFault → Fault
run_told (run.Line at) = Line at.line at.code
run_told run.NoMemory = NoMemory
run_told run.Output = Output

abbrev pub file_told : Source → FileFault → Fault
file_told source (file.Unread why) = File source why
file_told source file.NoMemory = NoMemory

abbrev pub live_told : LiveFault → Fault
live_told live.Net = Net
live_told live.NoMemory = NoMemory
live_told live.Seats = Seats

-- what is wrong with the bytes of the journal at a place; lack of memory is the same of each
abbrev pub wrong_told : ℕ → ℕ → JournalWhy → Fault
wrong_told place at bytes.NoMemory = NoMemory
wrong_told place at why = Journal place why at

abbrev pub journal_told : ℕ → JournalFault → Fault
journal_told place fault = wrong_told place fault.at fault.why

abbrev pub evidence_told : EvidenceFault → Fault
evidence_told (evidence.Journal place why) = Evidence place why
evidence_told (evidence.Missing actor) = Missing actor
evidence_told evidence.NoMemory = NoMemory

abbrev pub put_told : PutFault → Fault
put_told (put.Shelf fault) = Shelf fault
put_told put.Unfit = Unfit
put_told put.NoMemory = NoMemory

-- a site or an actor that is not there is a fault of the command line
abbrev pub status_told : Fault → ℕ
status_told (Setup fault) = 1
status_told (Line line code) = 1
status_told (NoSuchSite site) = 2
status_told (NotToShow place) = 2
status_told (NotToHide place) = 2
status_told (File source why) = 1
status_told Output = 1
status_told Net = 1
status_told Seats = 1
status_told (Journal place why at) = 1
status_told (Evidence place why) = 1
status_told (Missing actor) = 1
status_told (Shelf fault) = 1
status_told Unfit = 1
status_told NoMemory = 1
