-- What a store in memory shows, and which of its calls fails.
use Rattle.std.specs.Prelude.{◌≡◌, ℕ, suc, Bool, true, [], take, Option, Some, None, if◌then◌else◌}
use Rattle.std.specs.Option.{option_map}
use Rattle.pvp_cell.specs.declared.memory.StoredFile.{StoredFile}
use Rattle.pvp_cell.specs.declared.memory.MemStore.{MemStore}
use Rattle.pvp_cell.specs.Disk.{File, Disk}

abbrev pub file_of : StoredFile → File
file_of file = record { bytes = take file.size file.bytes; is_synced = file.is_synced }

-- the disk of a store in memory
abbrev pub disk_of : MemStore → Disk
disk_of store =
    record {
      kept = option_map file_of store.kept;
      shown = option_map file_of store.shown;
      staged = option_map file_of store.staged;
    }

abbrev pub store_faults : MemStore → ℕ
store_faults store = store.failures

-- where a call is left to fail, how many come before it
abbrev pub calls_before_fault : MemStore → Option ℕ
calls_before_fault store = store.before_fault

-- whether that call is done all the same
abbrev pub takes_at_fault : MemStore → Bool
takes_at_fault store = store.takes

-- whether the disk has a rename only once the folder is synced
abbrev pub is_lazy : MemStore → Bool
is_lazy store = store.is_lazy

-- no call is left to fail
abbrev pub IsReliable : MemStore → Type 0
IsReliable store = calls_before_fault store ≡ None

-- how many calls come before the one that fails, after one more
abbrev pub after_call : Option ℕ → Option ℕ
after_call (Some (suc n)) = Some n
after_call other = None

-- what a crash leaves of a file: one that was not synced it empties
abbrev pub landed : File → File
landed file = record { bytes = (if file.is_synced then file.bytes else []); is_synced = true }

-- WHAT IS THERE AFTER A CRASH: what the disk has under the name, and no new file
abbrev pub crashed : Disk → Disk
crashed disk = record { kept = option_map landed disk.kept; shown = option_map landed disk.kept; staged = None }
