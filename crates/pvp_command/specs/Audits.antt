-- What an audit of journals writes, and which fault it reports, where the bytes of its files are known.
use Rattle.std.specs.Prelude.{◌≡◌, ◌⊎◌, ℕ, ◌+◌, Bool, true, false, List, [], ◌∷◌, ◌++◌, take, slice_get, if◌then◌else◌, Option, Some, None, Ok, Err, codes, decimal, IfSome}
use Rattle.std.specs.Io.KnownBytes.{Appends}
use Rattle.pvp_types.specs.declared.setup.Setup.{Setup}
use Rattle.pvp_text.specs.SetupText.{setup_text}
use Rattle.pvp_trace.specs.Names.{actor_text}
use Rattle.pvp_wire.specs.declared.stamped.Stamp.{Stamp}
use Rattle.pvp_journal.specs.declared.fault.JournalFault.{JournalFault}
use Rattle.pvp_journal.specs.declared.journal.Journal.{Journal}
use Rattle.pvp_journal.specs.Journals.{IsRead, ReadsJournal}
use Rattle.pvp_audit.specs.declared.verdict.Verdict.{Verdict}
use Rattle.pvp_audit.specs.declared.verdict.Verdict.TheVariants.{No}
use Rattle.pvp_rooms.specs.declared.verdict.AuditTest.TheVariants.{Stamped}
use Rattle.pvp_audit.specs.declared.history.History.{History}
use Rattle.pvp_audit.specs.declared.gather.EvidenceFault.{EvidenceFault}
use Rattle.pvp_journal.specs.Bank.{mark_of}
use Rattle.pvp_audit.specs.Gathered.{AreOneBank, GatherFails}
use Rattle.pvp_audit.specs.Cut.{IsGreatestCut}
use Rattle.pvp_audit.specs.Unseen.{HasBlanks, unseen_in}
use Rattle.pvp_audit.specs.Histories.{JudgesHistories}
use Rattle.pvp_command.specs.declared.audits.Auditing.{Auditing}
use Rattle.pvp_command.specs.declared.fault.Fault.{Fault}
use Rattle.pvp_command.specs.declared.fault.Fault.TheVariants.{NoMemory}
use Rattle.pvp_command.specs.declared.files.FileFault.{FileFault}
use Rattle.pvp_command.specs.declared.files.Source.TheVariants.{Setup as OfSetup, Journal as OfJournal}
use Rattle.pvp_command.specs.Fault.{journal_told, evidence_told}
use Rattle.pvp_command.specs.Lives.{IsTextFault, ending_text, status_judged}
use Rattle.pvp_command.specs.Request.{TellsFile, TellsSetup}

-- ---- the journals

-- the file of a name reads as a journal, where its bytes are known
abbrev pub ReadsFile : (List ℕ → Option (List ℕ)) → List ℕ → Journal → Type 0
ReadsFile known name journal = IfSome (known name) (λ bytes. IsRead bytes journal)

-- so of each, in order
abbrev pub AreReadFrom : (List ℕ → Option (List ℕ)) → List (List ℕ) → List Journal → Type 0
AreReadFrom known [] [] = Unit {0}
AreReadFrom known (name ∷ names) (journal ∷ more) = ReadsFile known name journal × AreReadFrom known names more
AreReadFrom known _ _ = ⊥

-- the file of a name is not read, or its bytes are no journal, or lack of memory is reported
abbrev pub IsBadFile : (List ℕ → Option (List ℕ)) → (List ℕ → FileFault → Type 0) → ℕ → List ℕ → Fault → Type 0
IsBadFile known fails place name told =
    TellsFile (OfJournal place) (fails name) told
    ⊎ ((fault : JournalFault) × (told ≡ journal_told place fault)
    × IfSome (known name) (λ bytes. ReadsJournal bytes (Err fault)))

-- the first that is bad, at a place counted from 1
pub record IsBadAt (known : List ℕ → Option (List ℕ)) (fails : List ℕ → FileFault → Type 0) (names : List (List ℕ))
    (told : Fault) : Type 0 where
  pub before : ℕ
  pub name : List ℕ
  pub journals : List Journal
  pub there : slice_get names before ≡ Some name
  pub read : AreReadFrom known (take before names) journals
  pub bad : IsBadFile known fails (before + 1) name told

abbrev pub IsBadAmong : (List ℕ → Option (List ℕ)) → (List ℕ → FileFault → Type 0) → List (List ℕ) → Fault → Type 0
IsBadAmong known fails names told = IsBadAt known fails names told ⊎ (told ≡ NoMemory)

-- ---- the verdict

-- the histories themselves are judged, or their greatest cut
abbrev pub IsTaken : Bool → List History → List History → Type 0
IsTaken true histories judged = IsGreatestCut judged histories
IsTaken false histories judged = judged ≡ histories

abbrev pub IsJudgedSo : Auditing → Setup → List History → Option (List ℕ) → Option (List ℕ) → ℕ → Type 0
IsJudgedSo how s histories old new status =
    (judged : List History) × (verdict : Verdict) × IsTaken how.cuts histories judged
    × JudgesHistories s judged verdict
    × Appends old new (ending_text how.ending verdict) × (status ≡ status_judged verdict)

-- the clients who are taken to have asked for nothing: none where the greatest cut is judged, which would leave out all
-- that they asked for
abbrev pub unseen_for : Auditing → Setup → List Journal → List ℕ
unseen_for how s journals = if how.cuts then [] else unseen_in s journals

-- WHAT AN AUDIT WRITES: its files read as journals; these, with one without a record of each such client, are all of
-- one bank; and how their histories were judged is written
abbrev pub AuditsBank : Auditing → (List ℕ → Option (List ℕ)) → Setup → List ℕ → List (List ℕ) → Option (List ℕ)
    → Option (List ℕ) → ℕ → Type 0
AuditsBank how known s mark names old new status =
    (journals all : List Journal) × (histories : List History) × AreReadFrom known names journals
    × HasBlanks journals (unseen_for how s journals) all × AreOneBank s mark all histories
    × IsJudgedSo how s histories old new status

abbrev pub AuditWrites : Auditing → (List ℕ → Option (List ℕ)) → List ℕ → List (List ℕ) → Option (List ℕ)
    → Option (List ℕ) → ℕ → Type 0
AuditWrites how known setup names old new status =
    (s : Setup) × (setup_text setup ≡ Ok s) × AuditsBank how known s (mark_of setup) names old new status

-- ---- its faults

-- the first bad journal, or why these are not all of one bank, and then nothing is written; or memory was refused to
-- the verdict, or the writer failed
abbrev pub BankStops : {W : Type 0} → Auditing → (List ℕ → Option (List ℕ)) → (List ℕ → FileFault → Type 0) → Setup
    → List ℕ → List (List ℕ) → W → W → Fault → Type 0
BankStops how known fails s mark names old new told =
    (IsBadAmong known fails names told × (new ≡ old))
    ⊎ ((journals : List Journal) × AreReadFrom known names journals
    × (((all : List Journal) × (fault : EvidenceFault) × HasBlanks journals (unseen_for how s journals) all
    × (told ≡ evidence_told fault) × GatherFails s mark all fault × (new ≡ old))
    ⊎ IsTextFault told))

abbrev pub AuditTells : {W : Type 0} → Auditing → (List ℕ → Option (List ℕ)) → (List ℕ → FileFault → Type 0) → List ℕ
    → List ℕ → List (List ℕ) → W → W → Fault → Type 0
AuditTells how known fails setup text names old new told =
    ((TellsFile OfSetup (fails setup) told ⊎ TellsSetup text told) × (new ≡ old))
    ⊎ ((s : Setup) × (setup_text text ≡ Ok s) × BankStops how known fails s (mark_of text) names old new told)

-- how many of an actor's events are cut off, in words
abbrev pub cut_text : Setup → ℕ → ℕ → ℕ → List ℕ
cut_text s actor count lost =
    actor_text s actor ++ codes ": " ++ decimal lost ++ codes " of " ++ decimal count ++ codes " events are cut off\n"

-- and that a client was not seen
abbrev pub unseen_text : Setup → ℕ → List ℕ
unseen_text s client = codes "not seen: " ++ actor_text s client ++ codes "\n"

-- the event that an A1 is about: of which actor, and which of its events
abbrev pub unsent_in : Verdict → Option (ℕ × ℕ)
unsent_in (No actor event Stamped) = Some (actor, event)
unsent_in _ = None

-- and which envelope an event brings that no journal of its sender has
abbrev pub event_text : ℕ → ℕ → ℕ → List ℕ
event_text event clock index =
    codes ": event " ++ decimal event ++ codes ", at clock " ++ decimal clock ++ codes ", brings envelope "
    ++ decimal index

abbrev pub clock_text : ℕ → List ℕ
clock_text clock = codes " sent at clock " ++ decimal clock

abbrev pub sent_text : Setup → Stamp → List ℕ
sent_text s stamp = codes " of what " ++ actor_text s stamp.actor ++ clock_text stamp.clock

abbrev pub none_text : Setup → ℕ → List ℕ
none_text s sender = codes "; no journal of " ++ actor_text s sender

abbrev pub for_text : Setup → ℕ → List ℕ
for_text s actor = codes " has such an envelope for " ++ actor_text s actor ++ codes "\n"

abbrev pub lack_text : Setup → Stamp → ℕ → List ℕ
lack_text s stamp actor = sent_text s stamp ++ none_text s stamp.actor ++ for_text s actor

abbrev pub unsent_text : Setup → ℕ → ℕ → ℕ → Stamp → List ℕ
unsent_text s actor event clock stamp =
    actor_text s actor ++ event_text event clock stamp.index ++ lack_text s stamp actor
