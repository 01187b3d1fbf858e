-- How the fault that ends a process of the bank is printed.
use Rattle.std.specs.Prelude.{ℕ, List, ◌++◌, codes, decimal}
use Rattle.pvp_text.specs.SetupText.{fault_text}
use Rattle.pvp_journal.specs.Fault.{why_code as journal_code}
use Rattle.pvp_journal.specs.Fault.{evidence_code}
use Rattle.pvp_journal.specs.Fault.{shelf_code}
use Rattle.pvp_cell.specs.Fault.{fault_code_text as cell_code}
use Rattle.pvp_places.specs.declared.serving.ServeFault.{ServeFault}
use Rattle.pvp_places.specs.declared.serving.ServeFault.TheVariants as serve
use Rattle.pvp_places.specs.Fault.{place_code, folder_code}

abbrev pub fault_line : ServeFault → List ℕ
fault_line (serve.Setup fault) = codes "fault " ++ fault_text fault
fault_line (serve.File paper) = codes "fault file"
fault_line (serve.Line paper line why) = codes "fault line " ++ decimal line ++ codes " " ++ place_code why
fault_line (serve.Missing paper actor) = codes "fault actor " ++ decimal actor ++ codes " Q6"
fault_line (serve.Folder why) = codes "fault data " ++ folder_code why
fault_line (serve.Journal why at) = codes "fault journal 1 " ++ journal_code why ++ codes " " ++ decimal at
fault_line (serve.Other why) = codes "fault journal 1 " ++ evidence_code why
fault_line (serve.Cell fault) = codes "fault cell " ++ cell_code fault
fault_line (serve.Log fault) = codes "fault journals " ++ shelf_code fault
fault_line serve.Unfit = codes "fault journals M8"
fault_line serve.Net = codes "fault net"
fault_line serve.Output = codes "fault output"
fault_line serve.Clock = codes "fault clock"
fault_line serve.NoMemory = codes "fault memory"
