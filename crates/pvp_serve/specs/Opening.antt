-- What is found in an actor's folder as it is opened.
use Rattle.std.specs.Prelude.{◌≡◌, ℕ, ◌==◌, Bool, true, false, not, List, take, Option, Some, None, Result, Ok, Err, bytes_eq, codes, if◌then◌else◌}
use Rattle.std.specs.declared.alloc.AllocError.{AllocError}
use Rattle.pvp_journal.specs.declared.head.Head.{Head}
use Rattle.pvp_journal.specs.declared.journal.Journal.{Journal}
use Rattle.pvp_journal.specs.declared.journal.Left.{Left}
use Rattle.pvp_journal.specs.declared.journal.Left.TheVariants.{Nothing, Torn}
use Rattle.pvp_journal.specs.declared.fault.JournalFault.{JournalFault}
use Rattle.pvp_journal.specs.declared.fault.JournalWhy.{JournalWhy}
use Rattle.pvp_journal.specs.declared.fault.JournalWhy.TheVariants as why
use Rattle.pvp_journal.specs.Journals.{IsRead, ReadsJournal}
use Rattle.pvp_journal.specs.declared.fault.EvidenceWhy.{EvidenceWhy}
use Rattle.pvp_journal.specs.declared.fault.EvidenceWhy.TheVariants as evidence
use Rattle.pvp_journal.specs.declared.ways.RestartFault.{RestartFault}
use Rattle.pvp_journal.specs.declared.ways.RestartFault.TheVariants.{Misfit, ClockSpent, Unwritten}
use Rattle.vr_types.specs.declared.cell.Boot.{Boot}
use Rattle.pvp_cell.specs.declared.fault.OpenFault.{OpenFault}
use Rattle.pvp_cell.specs.declared.fault.OpenFault.TheVariants as opens
use Rattle.pvp_places.specs.declared.fault.FolderWhy.TheVariants as folder
use Rattle.pvp_places.specs.declared.serving.ServeFault.{ServeFault}
use Rattle.pvp_places.specs.declared.serving.ServeFault.TheVariants as serve
use Rattle.pvp_places.specs.Told.{write_told}
use Rattle.pvp_serve.specs.declared.folder.Marked.{Marked}
use Rattle.pvp_serve.specs.declared.folder.Marked.TheVariants as marked

-- what a mark that is there says of its folder's actor: it is being begun, or was
abbrev pub marked_by : List ℕ → Marked
marked_by text = if bytes_eq text (codes "begun\n") then marked.Begun else marked.Served

-- AN ACTOR MAY BE BEGUN in a folder of such a mark, where some of its files stand or none: nothing stands there, or it
-- was begun before and cut off
abbrev pub may_begin : Marked → Bool → Bool
may_begin marked.Never has_files = not has_files
may_begin marked.Begun has_files = true
may_begin marked.Served has_files = false

-- AN ACTOR MAY BE SERVED from a folder: it was begun to its end, and not all of it is lost
abbrev pub may_serve : Marked → Bool → Bool
may_serve marked.Never has_files = has_files
may_serve marked.Begun has_files = false
may_serve marked.Served has_files = has_files

-- it is begun, or refused as one that was begun before (X9)
abbrev pub begins_so : Bool → Result (Unit {0}) ServeFault
begins_so true = Ok tt
begins_so false = Err (serve.Folder folder.Begun)

-- it is served, or refused as one that was not begun (X8)
abbrev pub serves_so : Bool → Result (Unit {0}) ServeFault
serves_so true = Ok tt
serves_so false = Err (serve.Folder folder.Unbegun)

-- WHETHER A BOOT CELL STANDS that was read so, whole or damaged; a store that fails and refused memory are reported
abbrev pub cell_stands : Result Boot OpenFault → Result Bool ServeFault
cell_stands (Err opens.Lost) = Ok false
cell_stands (Err opens.Store) = Err (serve.Cell opens.Store)
cell_stands (Err opens.NoMemory) = Err serve.NoMemory
cell_stands read = Ok true

-- why a site does not come back, as the fault that is reported
abbrev pub restart_told : RestartFault → ServeFault
restart_told Misfit = serve.Folder folder.Cell
restart_told ClockSpent = serve.Clock
restart_told (Unwritten fault) = write_told fault

-- what came back, or why it does not
abbrev pub came_back : {A : Type 0} → Result A RestartFault → Result A ServeFault
came_back (Ok back) = Ok back
came_back (Err fault) = Err (restart_told fault)

-- an actor that replayed its history, or why it did not: its events cannot have come out so, or memory was refused
abbrev pub came_again : {A : Type 0} → Result (Option A) AllocError → Result A ServeFault
came_again (Ok (Some again)) = Ok again
came_again (Ok None) = Err (serve.Folder folder.History)
came_again (Err refused) = Err serve.NoMemory

-- WHAT IS WRONG WITH THE HEAD OF A JOURNAL in the folder of an actor of a bank: it is of another setup (V1), of another
-- life of the bank (V2) or of another actor (V3). The first 16 bytes of a bank's id are of its setup, and the others
-- its life
abbrev pub wrong_in : List ℕ → ℕ → Head → Option EvidenceWhy
wrong_in bank me head =
    if not (bytes_eq (take 16 head.bank) (take 16 bank)) then Some evidence.Setup
    else if not (bytes_eq head.bank bank) then Some evidence.Life
    else if not (head.actor == me) then Some evidence.Stranger
    else None

-- the bytes of a journal without the record that was cut off at their end
abbrev pub kept_of : List ℕ → Left → List ℕ
kept_of bytes Nothing = bytes
kept_of bytes (Torn at) = take at bytes

abbrev pub IsUntorn : List ℕ → List ℕ → Type 0
IsUntorn bytes kept = (journal : Journal) × IsRead bytes journal × (kept ≡ kept_of bytes journal.left)

-- why a journal is not read, as the fault that is reported
abbrev pub why_told : JournalWhy → ℕ → ServeFault
why_told why.NoMemory at = serve.NoMemory
why_told why at = serve.Journal why at

abbrev pub journal_told : JournalFault → ServeFault
journal_told fault = why_told fault.why fault.at

-- these bytes are no journal, for the reason that is reported
abbrev pub IsDamaged : List ℕ → ServeFault → Type 0
IsDamaged bytes told = (fault : JournalFault) × ReadsJournal bytes (Err fault) × (told ≡ journal_told fault)
