-- Where journals are put, and under which names.
use Rattle.std.specs.Prelude.{◌≡◌, ℕ, All, List, ◌++◌, map, Option, Some, codes}
use Rattle.std.specs.Option.{option_map}
use Rattle.std.specs.declared.io.ErrorKind.{ErrorKind}
use Rattle.std.specs.declared.io.ErrorKind.TheVariants.{AlreadyExists, StorageFull}
use Rattle.pvp_types.specs.declared.setup.Setup.{Setup}
use Rattle.pvp_trace.specs.Names.{actor_text}
use Rattle.pvp_journal.specs.declared.fault.WriteFault.{WriteFault}
use Rattle.pvp_journal.specs.declared.fault.WriteFault.TheVariants as write
use Rattle.pvp_journal.specs.Fits.{IsJournalable}
use Rattle.pvp_journal.specs.Spelling.{journal_text}
use Rattle.pvp_journal.specs.Summaries.{entry_of}
use Rattle.pvp_journal.specs.declared.head.Version.TheVariants.{Two}
use Rattle.pvp_audit.specs.Judged.{Left}
use Rattle.pvp_journal.specs.declared.fault.ShelfFault.{ShelfFault}
use Rattle.pvp_journal.specs.declared.fault.ShelfFault.TheVariants.{Full, Failed, Present}
use Rattle.pvp_audit.specs.declared.shelf.PutFault.{PutFault}
use Rattle.pvp_audit.specs.declared.shelf.PutFault.TheVariants.{Shelf, Unfit, NoMemory}

abbrev pub put_told : WriteFault → PutFault
put_told write.Unfit = Unfit
put_told write.NoMemory = NoMemory

-- why a call of the machine failed, by the kind of its error
abbrev pub shelf_told : ErrorKind → ShelfFault
shelf_told StorageFull = Full
shelf_told AlreadyExists = Present
shelf_told _ = Failed

-- WHY THE JOURNAL OF AN ACTOR IS NOT PUT AWAY, where the shelf said this last: it is what the shelf said; or an event
-- that the actor took has no text; or memory was refused
abbrev pub PutFails : Option ShelfFault → Left → PutFault → Type 0
PutFails said left (Shelf fault) = said ≡ Some fault
PutFails said left Unfit = ¬ (All (IsJournalable left.number) (map entry_of left.history.items))
PutFails said left NoMemory = Unit {0}

pub record File : Type 0 where
  pub name : List ℕ
  pub bytes : List ℕ

-- the name of an actor's journal in a folder
abbrev pub file_name : List ℕ → Setup → ℕ → List ℕ
file_name folder setup actor = folder ++ codes "/" ++ actor_text setup actor ++ codes ".journal"

-- THE FILE OF AN ACTOR of a bank: the journal of all that it took
abbrev pub file_of : List ℕ → Setup → List ℕ → Left → File
file_of folder setup bank left = record {
  name = file_name folder setup left.number;
  bytes = journal_text (record { version = Two; actor = left.number; opening = left.opening; bank = bank })
      (map entry_of left.history.items);
}

-- these files came behind those that were there
abbrev pub Gets : List File → Option (List File) → Option (List File) → Type 0
Gets more old new = new ≡ option_map (λ files. files ++ more) old
