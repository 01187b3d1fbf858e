-- Which fault of a process reports a fault of one of its parts.
use Rattle.pvp_journal.specs.declared.fault.WriteFault.{WriteFault}
use Rattle.pvp_journal.specs.declared.fault.WriteFault.TheVariants as write
use Rattle.pvp_places.specs.declared.serving.ServeFault.{ServeFault}
use Rattle.pvp_places.specs.declared.serving.ServeFault.TheVariants as serve

-- M8, or lack of memory
abbrev pub write_told : WriteFault → ServeFault
write_told write.Unfit = serve.Unfit
write_told write.NoMemory = serve.NoMemory
