-- How the faults of a process' files, of its folder and of what its terminal asks for are printed.
use Rattle.std.specs.Prelude.{ℕ, List, codes}
use Rattle.pvp_places.specs.declared.fault.PlaceWhy.{PlaceWhy}
use Rattle.pvp_places.specs.declared.fault.PlaceWhy.TheVariants as place
use Rattle.pvp_places.specs.declared.fault.FolderWhy.{FolderWhy}
use Rattle.pvp_places.specs.declared.fault.FolderWhy.TheVariants as folder
use Rattle.pvp_places.specs.declared.fault.TerminalWhy.{TerminalWhy}
use Rattle.pvp_places.specs.declared.fault.TerminalWhy.TheVariants.{Share, Full}

abbrev pub place_code : PlaceWhy → List ℕ
place_code place.Form = codes "Q1"
place_code place.Name = codes "Q2"
place_code place.Address = codes "Q3"
place_code place.Key = codes "Q4"
place_code place.Twice = codes "Q5"
place_code place.Missing = codes "Q6"

abbrev pub folder_code : FolderWhy → List ℕ
folder_code folder.Actor = codes "X1"
folder_code folder.Failed = codes "X2"
folder_code folder.Locked = codes "X3"
folder_code folder.Unsynced = codes "X4"
folder_code folder.Cell = codes "X5"
folder_code folder.History = codes "X6"
folder_code folder.Open = codes "X7"
folder_code folder.Unbegun = codes "X8"
folder_code folder.Begun = codes "X9"
folder_code folder.Window = codes "X12"

abbrev pub terminal_code : TerminalWhy → List ℕ
terminal_code Share = codes "X10"
terminal_code Full = codes "X11"
