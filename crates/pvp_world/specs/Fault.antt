-- How a step that was not taken is printed: its code.
use Rattle.std.specs.Prelude.{ℕ, List, codes}
use Rattle.vr_types.specs.declared.event.SiteFault.{SiteFault}
use Rattle.vr_types.specs.declared.event.SiteFault.TheVariants as site
use Rattle.rtgs_node.specs.Fault as node
use Rattle.pvp_world.specs.declared.fault.FallFault.{FallFault}
use Rattle.pvp_world.specs.declared.fault.FallFault.TheVariants.{Step as OfStep, Elsewhere}
use Rattle.pvp_world.specs.declared.fault.WorldFault.{WorldFault}
use Rattle.pvp_world.specs.declared.fault.WorldFault.TheVariants.{NoSuchEnvelope, NoSuchActor, Outstanding, Site, Node, Spent, NoMemory}

abbrev pub site_fault_text : SiteFault → List ℕ
site_fault_text site.NoMemory = codes "S1"
site_fault_text site.CellFault = codes "S2"
site_fault_text site.NotUp = codes "S3"
site_fault_text site.AlreadyUp = codes "S4"
site_fault_text site.ViewsSpent = codes "S5"
site_fault_text site.BootsSpent = codes "S6"
site_fault_text site.NotMine = codes "S7"

-- an actor's fault prints its own code
abbrev pub fault_text : WorldFault → List ℕ
fault_text NoSuchEnvelope = codes "G1"
fault_text NoSuchActor = codes "G2"
fault_text Outstanding = codes "G3"
fault_text (Site fault) = site_fault_text fault
fault_text (Node fault) = node.fault_text fault
fault_text Spent = codes "C1"
fault_text NoMemory = codes "G5"

-- and a fall that was not taken by the step's, or by its own
abbrev pub fall_fault_text : FallFault → List ℕ
fall_fault_text (OfStep fault) = fault_text fault
fall_fault_text Elsewhere = codes "G6"
