-- What a store that is cut off shows.
use Rattle.std.specs.Prelude.{ℕ, Option, if◌then◌else◌}
use Rattle.std.specs.Option.{option_map}
use Rattle.pvp_cell.specs.declared.cut.CutStore.{CutStore}
use Rattle.pvp_cell.specs.Disk.{Disk, dropped}

abbrev pub inner_of : {S : Type 0} → CutStore S → S
inner_of store = store.inner

-- how many calls are left to be made
abbrev pub calls_left : {S : Type 0} → CutStore S → ℕ
calls_left store = store.left

abbrev pub cut_faults : {S : Type 0} → CutStore S → ℕ
cut_faults store = store.failures

-- the disk of the store inside; of the new file nothing is known any more where a call on it was refused
abbrev pub cut_disk : {S : Type 0} → (S → Option Disk) → CutStore S → Option Disk
cut_disk disk store = if store.has_dropped then option_map dropped (disk store.inner) else disk store.inner
