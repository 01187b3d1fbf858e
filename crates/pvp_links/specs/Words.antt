-- Why a stream is no longer read, in words.
use Rattle.std.specs.Prelude.{ℕ, List, codes}
use Rattle.pvp_wire.specs.Fault.{fault_code_text}
use Rattle.pvp_links.specs.declared.fault.LinkFault.{LinkFault}
use Rattle.pvp_links.specs.declared.fault.LinkFault.TheVariants as fault

abbrev pub fault_word : LinkFault → List ℕ
fault_word fault.Hello = codes "no hello"
fault_word fault.Stranger = codes "a stranger"
fault_word fault.Length = codes "no length"
fault_word fault.Tag = codes "another tag"
fault_word (fault.Wire why) = fault_code_text why
fault_word fault.Sender = codes "another sender"
fault_word fault.Receiver = codes "another receiver"
fault_word fault.NoMemory = codes "no memory"
