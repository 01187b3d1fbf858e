-- What a live run writes, and which fault it reports, where the bytes of its files are known.
use Rattle.std.specs.Prelude.{◌≡◌, ◌⊎◌, ℕ, List, Option, Some, None, Ok, IsOk, IfSome, length, map, option_map}
use Rattle.std.specs.Io.KnownBytes.{Appends}
use Rattle.pvp_types.specs.declared.setup.Setup.{Setup}
use Rattle.pvp_text.specs.declared.script.Line.{Line}
use Rattle.pvp_text.specs.declared.script.Kind.TheVariants.{Live}
use Rattle.pvp_text.specs.SetupText.{setup_text}
use Rattle.pvp_text.specs.Script.{script_at}
use Rattle.pvp_audit.specs.Judged.{Left}
use Rattle.pvp_audit.specs.declared.verdict.Verdict.{Verdict}
use Rattle.pvp_audit.specs.declared.verdict.Verdict.TheVariants.{Yes, No}
use Rattle.pvp_live.specs.Told.{WasJudged, verdict_text}
use Rattle.pvp_live.specs.Scripts.{script_text}
use Rattle.pvp_journal.specs.Bank.{bank_of}
use Rattle.pvp_audit.specs.Shelves.{File, Gets, file_of}
use Rattle.pvp_audit.specs.declared.shelf.PutFault.{PutFault}
use Rattle.pvp_command.specs.declared.lives.Told.{Told}
use Rattle.pvp_command.specs.Fault.{put_told}
use Rattle.pvp_command.specs.declared.lives.Ending.{Ending}
use Rattle.pvp_command.specs.declared.lives.Ending.TheVariants.{Books, Script}
use Rattle.pvp_command.specs.declared.fault.Fault.{Fault}
use Rattle.pvp_command.specs.declared.fault.Fault.TheVariants.{Net, Seats, NoMemory, Output}
use Rattle.pvp_command.specs.declared.files.FileFault.{FileFault}
use Rattle.pvp_command.specs.declared.files.Source.TheVariants.{Setup as OfSetup}
use Rattle.pvp_command.specs.Request.{TellsFile, TellsSetup, TellsScript}

-- an audit that says no has a status of its own
abbrev pub status_judged : Verdict → ℕ
status_judged (Yes world) = 0
status_judged (No actor event why) = 3

-- the status of a run that no fault ended: it is done, or an audit says no
abbrev pub IsFaultless : ℕ → Type 0
IsFaultless status = (status ≡ 0) ⊎ (status ≡ 3)

-- the books that a run left, or the script that plays it again
abbrev pub ending_text : Ending → Verdict → List ℕ
ending_text Books verdict = verdict_text verdict
ending_text Script verdict = script_text verdict

-- the name of the folder for journals, where there is one
abbrev pub folder_of : Told → Option (List ℕ)
folder_of told = option_map (λ name. name.now) told.journal

-- the journals of what actors left were put into a folder, where one is named, with the id of some life of their bank
abbrev pub KeptIn : Option (List ℕ) → List ℕ → Setup → List Left → Option (List File) → Option (List File) → Type 0
KeptIn None text s closed before after = after ≡ before
KeptIn (Some folder) text s closed before after =
    (life : List ℕ) × (length life ≡ 16) × Gets (map (file_of folder s (bank_of text life)) closed) before after

-- what all actors of the bank left was judged, their journals were kept where that is asked for, and the verdict is
-- written
pub record IsTold (told : Told) (text : List ℕ) (s : Setup) (before after : Option (List File))
    (old new : Option (List ℕ)) (status : ℕ) : Type 0 where
  pub closed : List Left
  pub verdict : Verdict
  pub judged : WasJudged s closed verdict
  pub kept : KeptIn (folder_of told) text s closed before after
  pub written : Appends old new (ending_text told.ending verdict)
  pub ended : status ≡ status_judged verdict

abbrev pub LivesScript : Told → List ℕ → Setup → List ℕ → Option (List File) → Option (List File) → Option (List ℕ)
    → Option (List ℕ) → ℕ → Type 0
LivesScript told text s script before after old new status =
    (lines : List Line) × (script_at Live s script ≡ Ok lines) × IsTold told text s before after old new status

abbrev pub LiveWrites : Told → List ℕ → List ℕ → Option (List File) → Option (List File) → Option (List ℕ)
    → Option (List ℕ) → ℕ → Type 0
LiveWrites told setup script before after old new status =
    (s : Setup) × (setup_text setup ≡ Ok s) × LivesScript told setup s script before after old new status

-- a text was not written: memory was refused, or the writer failed
abbrev pub IsTextFault : Fault → Type 0
IsTextFault told = (told ≡ NoMemory) ⊎ (told ≡ Output)

-- journals were not put into their folder
abbrev pub IsPutFault : Fault → Type 0
IsPutFault told = (fault : PutFault) × (told ≡ put_told fault)

-- what may end a live run once its script is read: that it could not be run, or its journals not be kept, and then
-- nothing is written; lack of memory, or that the writer failed
abbrev pub LifeStops : {W : Type 0} → W → W → Fault → Type 0
LifeStops old new told = (((told ≡ Net) ⊎ (told ≡ Seats) ⊎ IsPutFault told) × (new ≡ old)) ⊎ IsTextFault told

-- the fault of a live script, where its bytes are known: its file's or its first faulty line, and then nothing is
-- written; or, of one that reads right, what ended the run
abbrev pub TellsLive : {W : Type 0} → (FileFault → Type 0) → Setup → Option (List ℕ) → W → W → Fault → Type 0
TellsLive fails s script old new told =
    TellsScript fails Live s script old new told ⊎ IfSome script
    (λ bytes. IsOk (script_at Live s bytes) × LifeStops old new told)

-- the fault of a live run: a file's or the setup's, and then nothing is written; or the script's
abbrev pub LiveTells : {W : Type 0} → (FileFault → Type 0) → List ℕ → (FileFault → Type 0) → Option (List ℕ) → W → W
    → Fault → Type 0
LiveTells fails setup script_fails script old new told =
    ((TellsFile OfSetup fails told ⊎ TellsSetup setup told) × (new ≡ old))
    ⊎ ((s : Setup) × (setup_text setup ≡ Ok s) × TellsLive script_fails s script old new told)
