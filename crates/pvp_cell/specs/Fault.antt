-- How a fault of a cell is printed, and which fault of a cell one of its store is.
use Rattle.std.specs.Prelude.{ℕ, List, codes}
use Rattle.pvp_cell.specs.declared.fault.OpenFault.{OpenFault}
use Rattle.pvp_cell.specs.declared.fault.OpenFault.TheVariants as cell
use Rattle.pvp_cell.specs.declared.store.StoreFault.{StoreFault}
use Rattle.pvp_cell.specs.declared.store.StoreFault.TheVariants as store

abbrev pub fault_code_text : OpenFault → List ℕ
fault_code_text cell.Lost = codes "U1"
fault_code_text cell.Length = codes "U2"
fault_code_text cell.Damaged = codes "U3"
fault_code_text cell.Present = codes "U4"
fault_code_text cell.Store = codes "U5"
fault_code_text cell.NoMemory = codes "U6"

abbrev pub store_told : StoreFault → OpenFault
store_told store.Failed = cell.Store
store_told store.NoMemory = cell.NoMemory
