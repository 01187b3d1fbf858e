-- How a request ends, by the bytes of its files where these are known.
use Rattle.std.specs.Prelude.{◌≡◌, ◌⊎◌, ℕ, List, map, Option, IfSome}
use Rattle.std.specs.Io.KnownBytes.{Appends}
use Rattle.pvp_codes.specs.Codes.{codes_text}
use Rattle.pvp_command.specs.declared.fault.Fault.{Fault}
use Rattle.pvp_command.specs.declared.fault.Fault.TheVariants.{Net, NoMemory, Output}
use Rattle.pvp_command.specs.declared.files.FileFault.{FileFault}
use Rattle.pvp_command.specs.declared.request.Request.{Request}
use Rattle.pvp_command.specs.declared.request.Request.TheVariants.{Check, Book, Play, Live, Audit, Keys, Serve, Codes}
use Rattle.pvp_command.specs.Request.{CheckWrites, CheckTells, BookWrites, BookTells, PlayWrites, PlayTells}
use Rattle.pvp_command.specs.Lives.{LiveWrites, LiveTells}
use Rattle.pvp_command.specs.Audits.{AuditWrites, AuditTells}
use Rattle.pvp_audit.specs.Shelves.{File}

-- what it writes on a machine without threads and net, and the status that goes with it
abbrev pub Writes : (List ℕ → Option (List ℕ)) → Request → Option (List ℕ) → Option (List ℕ) → ℕ → Type 0
Writes known (Check setup) old new status = (status ≡ 0) × IfSome (known setup.now) (λ bytes. CheckWrites bytes old new)
Writes known (Book setup script) old new status =
    (status ≡ 0) × IfSome (known setup.now)
    (λ rules. IfSome (known script.now) (λ bytes. BookWrites rules bytes old new))
Writes known (Play show frame setup script fails) old new status =
    (status ≡ 0) × IfSome (known setup.now)
    (λ rules. IfSome (known script.now) (λ bytes. PlayWrites show rules frame fails.items bytes old new))
Writes known (Live told setup script) old new status = ⊥
Writes known (Audit how setup journals) old new status =
    IfSome (known setup.now) (λ rules. AuditWrites how known rules
    (map (λ name. name.now) journals.items) old new status)
Writes known (Keys setup secret folder) old new status = ⊥
Writes known (Serve task) old new status = ⊥
Writes known Codes old new status = (status ≡ 0) × Appends old new codes_text

-- on any machine, where journals may be put on a shelf too
abbrev pub Ends : (List ℕ → Option (List ℕ)) → Request → Option (List File) → Option (List File) → Option (List ℕ)
    → Option (List ℕ) → ℕ → Type 0
Ends known (Live told setup script) before after old new status =
    IfSome (known setup.now) (λ rules. IfSome (known script.now)
    (λ bytes. LiveWrites told rules bytes before after old new status))
-- keys are put on a shelf
Ends known (Keys setup secret folder) before after old new status = (new ≡ old) × (status ≡ 0)
Ends known request before after old new status = (after ≡ before) × Writes known request old new status

-- A REQUEST WAS DONE: its whole text is written, where the bytes of its files are known, and it has this status
abbrev pub IsWritten : (List ℕ → Option (List ℕ)) → Option (List ℕ) → Option (List ℕ) → ℕ → Type 0
IsWritten known old new status = (request : Request) × Writes known request old new status

-- on any machine
abbrev pub HasEnded : (List ℕ → Option (List ℕ)) → Option (List File) → Option (List File) → Option (List ℕ)
    → Option (List ℕ) → ℕ → Type 0
HasEnded known before after old new status = (request : Request) × Ends known request before after old new status

-- which fault it reports on a machine without threads and net, and where nothing is written then
abbrev pub Tells : {W : Type 0} → (List ℕ → Option (List ℕ)) → (List ℕ → FileFault → Type 0) → Request → W → W → Fault
    → Type 0
Tells known fails (Check setup) old new told =
    IfSome (known setup.now) (λ bytes. CheckTells (fails setup.now) bytes old new told)
Tells known fails (Book setup script) old new told =
    IfSome (known setup.now) (λ rules. BookTells (fails setup.now) rules (fails script.now)
    (known script.now) old new told)
Tells known fails (Play show frame setup script saves) old new told =
    IfSome (known setup.now) (λ rules. PlayTells (fails setup.now) rules frame saves.items (fails script.now)
    (known script.now) old new told)
Tells known fails (Live told_how setup script) old new told =
    IfSome (known setup.now) (λ rules. LiveTells (fails setup.now) rules (fails script.now)
    (known script.now) old new told) × (new ≡ old)
Tells known fails (Audit how setup journals) old new told =
    IfSome (known setup.now) (λ rules. AuditTells how known fails setup.now rules
    (map (λ name. name.now) journals.items) old new told)
Tells known fails (Keys setup secret folder) old new told = (told ≡ Output) × (new ≡ old)
Tells known fails (Serve task) old new told = (told ≡ Net) × (new ≡ old)
Tells known fails Codes old new told = (told ≡ NoMemory) ⊎ (told ≡ Output)

-- which fault it reports on any machine
abbrev pub Stops : {W : Type 0} → (List ℕ → Option (List ℕ)) → (List ℕ → FileFault → Type 0) → Request → W → W → Fault
    → Type 0
Stops known fails (Live told_how setup script) old new told =
    IfSome (known setup.now) (λ rules. LiveTells (fails setup.now) rules (fails script.now)
    (known script.now) old new told)
Stops known fails (Keys setup secret folder) old new told = new ≡ old
Stops known fails request old new told = Tells known fails request old new told
