-- A disk as a boot cell sees it: one name, and a new file beside it. What is in the page cache alone is lost in a
-- crash.
use Rattle.std.specs.Prelude.{◌≡◌, ◌⊎◌, ℕ, Bool, true, false, List, Option, Some, None, IsSomeAnd, Result, Ok, Err, Vec}
use Rattle.std.specs.Option.{option_map}
use Rattle.std.specs.declared.alloc.Global.{Global}
use Rattle.vr_types.specs.declared.cell.Boot.{Boot}
use Rattle.pvp_cell.specs.declared.fault.OpenFault.{OpenFault}
use Rattle.pvp_cell.specs.declared.fault.OpenFault.TheVariants.{Lost}
use Rattle.pvp_cell.specs.Text.{cell_text, boot_told}

-- a file: its bytes, and whether the disk has them
pub record File : Type 0 where
  pub bytes : List ℕ
  pub is_synced : Bool

-- A DISK
pub record Disk : Type 0 where
  -- the file that a crash leaves under the name; of one that was not synced it may leave any bytes. Nobody sees it
  -- before a crash, so where a call leaves open which of two files that is, the store is free to have it settled then
  pub kept : Option File
  -- the file that is read there
  pub shown : Option File
  -- the new file, while it has another name
  pub staged : Option File

-- a new file of these bytes, none of which the disk need have
abbrev pub written : List ℕ → Disk → Disk
written bytes disk = record disk { staged = Some (record { bytes = bytes; is_synced = false }) }

-- nothing is known of the new file any more
abbrev pub dropped : Disk → Disk
dropped disk = record disk { staged = None }

-- the file, once the disk has its bytes
abbrev pub as_synced : File → File
as_synced file = record file { is_synced = true }

-- the disk has the bytes of the new file
abbrev pub synced : Disk → Disk
synced disk = record disk { staged = option_map as_synced disk.staged }

-- the new file has the name, for those who read it
abbrev pub renamed : Disk → Disk
renamed disk = record disk { shown = disk.staged; staged = None }

-- the disk has under the name what is read there
abbrev pub settled : Disk → Disk
settled disk = record disk { kept = disk.shown }

-- what a read found is what is there
abbrev pub IsFound : Option File → Option (Vec ℕ Global) → Type 0
IsFound shown found = option_map (λ bytes. bytes.items) found ≡ option_map (λ file. file.bytes) shown

-- a file of these bytes, which the disk has
abbrev pub whole : List ℕ → Option File
whole bytes = Some (record { bytes = bytes; is_synced = true })

-- THE DISK HAS EXACTLY THESE BYTES: every crash leaves them, and who reads finds them
abbrev pub Has : List ℕ → Disk → Type 0
Has bytes disk = (disk.kept ≡ whole bytes) × (disk.shown ≡ whole bytes)

-- THE DISK HAS WHAT IT HAD, OR THESE BYTES: so it is of what a crash leaves, and of what is read
abbrev pub HasOldOr : List ℕ → Disk → Disk → Type 0
HasOldOr bytes old new =
    ((new.kept ≡ old.kept) ⊎ (new.kept ≡ whole bytes)) × ((new.shown ≡ old.shown) ⊎ (new.shown ≡ whole bytes))

-- the new file has these bytes, and so has the disk; all else is as it was
abbrev pub Stages : List ℕ → Disk → Disk → Type 0
Stages bytes old new = (new.kept ≡ old.kept) × (new.shown ≡ old.shown) × (new.staged ≡ whole bytes)

-- who reads finds what was there, and every crash leaves what it would have left
abbrev pub Stays : Disk → Disk → Type 0
Stays old new = (new.kept ≡ old.kept) × (new.shown ≡ old.shown)

-- the new file is in its place
abbrev pub Publishes : Disk → Disk → Type 0
Publishes old new = (new.kept ≡ old.staged) × (new.shown ≡ old.staged)

-- the new file may be in its place
abbrev pub MayPublish : Disk → Disk → Type 0
MayPublish old new =
    ((new.kept ≡ old.kept) ⊎ (new.kept ≡ old.staged)) × ((new.shown ≡ old.shown) ⊎ (new.shown ≡ old.staged))

-- where the disk was known it is, and this holds of before and after
abbrev pub Goes : (Disk → Disk → Type 0) → Option Disk → Option Disk → Type 0
Goes step (Some old) new = IsSomeAnd new (λ disk. step old disk)
Goes step None new = Unit {0}

-- WHERE THE DISK WAS KNOWN it is, and has exactly these bytes
abbrev pub Gets : List ℕ → Option Disk → Option Disk → Type 0
Gets bytes old new = Goes (λ _ disk. Has bytes disk) old new

-- what a file says, or why it is none of a cell
abbrev pub boot_in : Option File → Result Boot OpenFault
boot_in (Some file) = boot_told file.bytes
boot_in None = Err Lost

-- the disk is as it was, or has in that place the text of the boot that is read there
abbrev pub StaysOrSettles : Disk → Disk → Type 0
StaysOrSettles old new =
    (new ≡ old) ⊎ ((boot : Boot) × (boot_in old.shown ≡ Ok boot) × HasOldOr (cell_text boot) old new)

-- it was read as one of two boots
abbrev pub IsOneOf : Boot → Boot → Result Boot OpenFault → Type 0
IsOneOf a b told = (told ≡ Ok a) ⊎ (told ≡ Ok b)
