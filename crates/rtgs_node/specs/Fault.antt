-- How a fault of a node is printed: its code.
use Rattle.std.specs.Prelude.{ℕ, List, codes}
use Rattle.rtgs_node.specs.declared.fault.NodeFault.{NodeFault}
use Rattle.rtgs_node.specs.declared.fault.NodeFault.TheVariants.{Short, UnknownMember, BadAmount, NoMemory, Spent, NotMine, Closed}

abbrev pub fault_text : NodeFault → List ℕ
fault_text Short = codes "N1"
fault_text UnknownMember = codes "N2"
fault_text BadAmount = codes "N3"
fault_text NoMemory = codes "N4"
fault_text Spent = codes "N5"
fault_text NotMine = codes "N6"
fault_text Closed = codes "N7"
