-- The line that explains a fault, and why there may be none.
use Rattle.std.specs.Prelude.{◌≡◌, ◌⊎◌, ℕ, ◌-◌, ◌==◌, List, ◌++◌, Option, Some, None, Result, Ok, Err, codes, decimal, option_map, slice_get, IsSome, IfSome, IsOk, if◌then◌else◌}
use Rattle.pvp_types.specs.declared.setup.Setup.{Setup}
use Rattle.pvp_text.specs.SetupText.{setup_text}
use Rattle.pvp_text.specs.declared.script.Kind.{Kind}
use Rattle.pvp_text.specs.declared.script.LineFault.{LineFault}
use Rattle.pvp_text.specs.declared.setup.TextFault.{TextFault}
use Rattle.pvp_codes.specs.Explained.{setup_explained, line_explained}
use Rattle.pvp_journal.specs.declared.fault.WriteFault.TheVariants.{Unfit}
use Rattle.pvp_journal.specs.declared.fault.EvidenceWhy.TheVariants.{Missing}
use Rattle.pvp_codes.specs.declared.code.Code.{Code}
use Rattle.pvp_codes.specs.declared.code.Code.TheVariants as code
use Rattle.pvp_codes.specs.Codes.{meaning}
use Rattle.pvp_command.specs.Sources.{Names}
use Rattle.pvp_command.specs.declared.fault.Fault.{Fault}
use Rattle.pvp_command.specs.declared.fault.Fault.TheVariants as told
use Rattle.pvp_command.specs.declared.files.FileFault.{FileFault}
use Rattle.pvp_command.specs.declared.files.Source.{Source}
use Rattle.pvp_command.specs.declared.files.Source.TheVariants.{Setup as OfSetup, Script as OfScript, Journal as OfJournal, Secret as OfSecret}
use Rattle.pvp_command.specs.Files.{file_line}
use Rattle.pvp_command.specs.Request.{TellsFile, TellsSetup}

-- that of a fault on a script, whose setup was read
abbrev pub line_with : LineFault → Kind → Result Setup TextFault → List ℕ → Option (List ℕ)
line_with fault kind (Ok setup) script = Some (line_explained fault kind setup script)
line_with fault kind (Err bad) script = None

abbrev pub line_of_script : LineFault → Kind → List ℕ → List ℕ → Option (List ℕ)
line_of_script fault kind setup script = line_with fault kind (setup_text setup) script

-- the name of a file of a command
abbrev pub name_of : Names → Source → Option (List ℕ)
name_of sources OfSetup = Some sources.setup
name_of sources OfScript = sources.script
name_of sources OfSecret = None
name_of sources (OfJournal place) = if place == 0 then None else slice_get sources.journals (place - 1)

-- the lines of a journal, of an actor without one, and of journals that were not kept
abbrev pub journal_line : List ℕ → List ℕ → List ℕ
journal_line name why = codes "journal \"" ++ name ++ codes "\": " ++ why ++ codes "\n"

abbrev pub actor_line : ℕ → List ℕ
actor_line actor = codes "actor " ++ decimal actor ++ codes ": " ++ meaning (code.Evidence Missing) ++ codes "\n"

abbrev pub folder_line : List ℕ → List ℕ
folder_line why = codes "folder: " ++ why ++ codes "\n"

-- that of the journal at a place, of which this is said
abbrev pub line_of_journal : Names → ℕ → Code → Option (List ℕ)
line_of_journal sources place told =
    option_map (λ name. journal_line name (meaning told)) (name_of sources (OfJournal place))

-- a fault on a script is explained where there is a script: by what is known of its bytes and of the setup's
abbrev pub ExplainsLine : (List ℕ → Option (List ℕ)) → Names → LineFault → Option (List ℕ) → Option (List ℕ) → Type 0
ExplainsLine known sources fault None line = line ≡ None
ExplainsLine known sources fault (Some script) line =
    IsSome line × IfSome (known sources.setup) (λ setup_bytes. IfSome (known script) (λ script_bytes.
    line ≡ line_of_script fault sources.kind setup_bytes script_bytes))

-- what a bank that runs by itself takes of the machine
abbrev pub net_line : List ℕ
net_line =
    codes
    "net: a listener could not be opened, or a connection not be made, over the loopback of this machine; each actor has a listener, each site two connections with each other actor, and each connection two of the files that `ulimit -n` allows\n"

-- THE LINE THAT EXPLAINS A FAULT of a run over these sources, of whose bytes so much is known: a fault on the setup has
-- one, and so have one on the script that there is, a file that was not read, and the connections of a live run; no
-- other has one
abbrev pub Explains : (List ℕ → Option (List ℕ)) → Names → Fault → Option (List ℕ) → Type 0
Explains known sources (told.Setup fault) line =
    IsSome line × IfSome (known sources.setup) (λ bytes. line ≡ Some (setup_explained fault bytes))
Explains known sources (told.Line number code) line =
    ExplainsLine known sources (record { line = number; code = code }) sources.script line
Explains known sources (told.NoSuchSite site) line = line ≡ None
Explains known sources (told.NotToShow place) line = line ≡ None
Explains known sources (told.NotToHide place) line = line ≡ None
Explains known sources (told.File source why) line =
    line ≡ option_map (λ name. file_line source name why) (name_of sources source)
Explains known sources told.Output line = line ≡ None
Explains known sources told.Net line = line ≡ Some net_line
Explains known sources told.Seats line = line ≡ None
Explains known sources (told.Journal place why at) line = line ≡ line_of_journal sources place (code.Journal why)
Explains known sources (told.Evidence place why) line = line ≡ line_of_journal sources place (code.Evidence why)
Explains known sources (told.Missing actor) line = line ≡ Some (actor_line actor)
Explains known sources (told.Shelf fault) line = line ≡ Some (folder_line (meaning (code.Shelf fault)))
Explains known sources told.Unfit line = line ≡ Some (folder_line (meaning (code.Record Unfit)))
Explains known sources told.NoMemory line = line ≡ None

-- ---- why there may be none

-- a file that cannot be read again, or lack of memory
abbrev pub HindersFile : Source → (FileFault → Type 0) → Fault → Type 0
HindersFile source fails why = TellsFile source fails why ⊎ (why ≡ told.NoMemory)

-- of a line of a script also that its setup does not read any more; the script is read after it
abbrev pub HindersLine : (FileFault → Type 0) → List ℕ → (FileFault → Type 0) → Fault → Type 0
HindersLine fails setup script_fails why =
    TellsFile OfSetup fails why
    ⊎ (TellsSetup setup why ⊎ (IsOk (setup_text setup) × HindersFile OfScript script_fails why))

-- nothing does where there is no script, as there is no line
abbrev pub HindersScript : (List ℕ → Option (List ℕ)) → (List ℕ → FileFault → Type 0) → List ℕ → Option (List ℕ) → Fault
    → Type 0
HindersScript known fails setup None why = ⊥
HindersScript known fails setup (Some script) why =
    IfSome (known setup) (λ bytes. HindersLine (fails setup) bytes (fails script) why)

-- WHAT HINDERS THE EXPLANATION of a fault: nothing where it has none
abbrev pub Hinders : (List ℕ → Option (List ℕ)) → (List ℕ → FileFault → Type 0) → Names → Fault → Fault → Type 0
Hinders known fails sources (told.Setup fault) why = HindersFile OfSetup (fails sources.setup) why
Hinders known fails sources (told.Line line code) why = HindersScript known fails sources.setup sources.script why
Hinders known fails sources (told.NoSuchSite site) why = ⊥
Hinders known fails sources (told.NotToShow place) why = ⊥
Hinders known fails sources (told.NotToHide place) why = ⊥
Hinders known fails sources (told.File source unread) why = why ≡ told.NoMemory
Hinders known fails sources told.Output why = ⊥
Hinders known fails sources told.Net why = why ≡ told.NoMemory
Hinders known fails sources told.Seats why = ⊥
Hinders known fails sources (told.Journal place it at) why = why ≡ told.NoMemory
Hinders known fails sources (told.Evidence place it) why = why ≡ told.NoMemory
Hinders known fails sources (told.Missing actor) why = why ≡ told.NoMemory
Hinders known fails sources (told.Shelf fault) why = why ≡ told.NoMemory
Hinders known fails sources told.Unfit why = why ≡ told.NoMemory
Hinders known fails sources told.NoMemory why = ⊥
