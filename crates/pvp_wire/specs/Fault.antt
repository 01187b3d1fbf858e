-- How a fault is printed: its code.
use Rattle.std.specs.Prelude.{ℕ, List, codes}
use Rattle.pvp_wire.specs.declared.fault.WireFault.{WireFault}
use Rattle.pvp_wire.specs.declared.fault.WireFault.TheVariants.{Short, TooLong, Version, Kind, Field, Length, NoMemory}

abbrev pub fault_code_text : WireFault → List ℕ
fault_code_text Short = codes "F1"
fault_code_text TooLong = codes "F2"
fault_code_text Version = codes "F3"
fault_code_text Kind = codes "F4"
fault_code_text Field = codes "F5"
fault_code_text Length = codes "F6"
fault_code_text NoMemory = codes "F7"
