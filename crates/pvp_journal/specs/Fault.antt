-- The codes of what may be wrong with a journal.
use Rattle.std.specs.Prelude.{ℕ, List, codes}
use Rattle.pvp_journal.specs.declared.fault.JournalWhy.{JournalWhy}
use Rattle.pvp_journal.specs.declared.fault.JournalWhy.TheVariants.{Magic, Version, Head, Length, Checksum, Record, NoMemory}
use Rattle.pvp_journal.specs.declared.fault.WriteFault.{WriteFault}
use Rattle.pvp_journal.specs.declared.fault.WriteFault.TheVariants as write
use Rattle.pvp_journal.specs.declared.fault.EvidenceWhy.{EvidenceWhy}
use Rattle.pvp_journal.specs.declared.fault.EvidenceWhy.TheVariants as evidence
use Rattle.pvp_journal.specs.declared.fault.ShelfFault.{ShelfFault}
use Rattle.pvp_journal.specs.declared.fault.ShelfFault.TheVariants as shelf

abbrev pub why_code : JournalWhy → List ℕ
why_code Magic = codes "M1"
why_code Version = codes "M2"
why_code Head = codes "M3"
why_code Length = codes "M4"
why_code Checksum = codes "M5"
why_code (Record fault) = codes "M6"
why_code NoMemory = codes "M7"

abbrev pub write_code : WriteFault → List ℕ
write_code write.Unfit = codes "M8"
write_code write.NoMemory = codes "M9"

abbrev pub evidence_code : EvidenceWhy → List ℕ
evidence_code evidence.Setup = codes "V1"
evidence_code evidence.Life = codes "V2"
evidence_code evidence.Stranger = codes "V3"
evidence_code evidence.Twice = codes "V4"
evidence_code evidence.Missing = codes "V5"

abbrev pub shelf_code : ShelfFault → List ℕ
shelf_code shelf.Full = codes "V6"
shelf_code shelf.Failed = codes "V7"
shelf_code shelf.Present = codes "V8"
