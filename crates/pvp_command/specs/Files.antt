-- Why a file of a command is not read, in words, and when an output no longer has a reader.
use Rattle.std.specs.Prelude.{ℕ, Bool, true, false, List, ◌++◌, codes}
use Rattle.std.specs.declared.io.ErrorKind.{ErrorKind}
use Rattle.std.specs.declared.io.ErrorKind.TheVariants as kinds
use Rattle.pvp_command.specs.declared.files.FileFault.{FileFault}
use Rattle.pvp_command.specs.declared.files.FileFault.TheVariants as fault
use Rattle.pvp_command.specs.declared.files.Unread.{Unread}
use Rattle.pvp_command.specs.declared.files.Unread.TheVariants.{Missing, Forbidden, Folder, NoFolder, Name, Size, Other}
use Rattle.pvp_command.specs.declared.files.Source.{Source}
use Rattle.pvp_command.specs.declared.files.Source.TheVariants.{Setup, Script, Journal, Secret}

-- what an error of the system says of a file
abbrev pub unread_of : ErrorKind → Unread
unread_of kinds.NotFound = Missing
unread_of kinds.PermissionDenied = Forbidden
unread_of kinds.IsADirectory = Folder
unread_of kinds.NotADirectory = NoFolder
unread_of kinds.InvalidFilename = Name
unread_of kinds.InvalidInput = Name
unread_of _ = Other

-- the reader of an output is gone
abbrev pub is_gone : ErrorKind → Bool
is_gone kinds.BrokenPipe = true
is_gone _ = false

-- lack of memory is no fault of the file
abbrev pub file_fault_of : ErrorKind → FileFault
file_fault_of kinds.OutOfMemory = fault.NoMemory
file_fault_of kind = fault.Unread (unread_of kind)

abbrev pub unread_text : Unread → List ℕ
unread_text Missing = codes "there is no such file"
unread_text Forbidden = codes "the system does not allow to read it"
unread_text Folder = codes "it is a folder"
unread_text NoFolder = codes "a part of its path is no folder"
unread_text Name = codes "no file can have this name"
unread_text Size = codes "it is larger than 64 MiB, or has no end"
unread_text Other = codes "the system could not read it"

abbrev pub source_text : Source → List ℕ
source_text Setup = codes "setup"
source_text Script = codes "script"
source_text (Journal place) = codes "journal"
source_text Secret = codes "secret"

-- THE LINE OF A FILE that was not read: which it is, its name, and why
abbrev pub file_line : Source → List ℕ → Unread → List ℕ
file_line source name why = source_text source ++ codes " \"" ++ name ++ codes "\": " ++ unread_text why ++ codes "\n"
