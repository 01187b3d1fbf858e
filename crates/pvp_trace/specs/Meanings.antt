-- What the codes of a step's faults mean, and why a site drops an event, in words.
use Rattle.std.specs.Prelude.{ℕ, List, codes}
use Rattle.vr_types.specs.declared.event.SiteFault.{SiteFault}
use Rattle.vr_types.specs.declared.event.SiteFault.TheVariants as site
use Rattle.vr_types.specs.declared.event.Why.{Why}
use Rattle.vr_types.specs.declared.event.Why.TheVariants.{Status, View, NotPrimary, Known, Stale, Full}
use Rattle.rtgs_node.specs.declared.fault.NodeFault.{NodeFault}
use Rattle.rtgs_node.specs.declared.fault.NodeFault.TheVariants as node
use Rattle.pvp_world.specs.declared.fault.WorldFault.{WorldFault}
use Rattle.pvp_world.specs.declared.fault.WorldFault.TheVariants.{NoSuchEnvelope, NoSuchActor, Outstanding, Site, Node, Spent, NoMemory}

abbrev pub site_meaning : SiteFault → List ℕ
site_meaning site.NoMemory = codes "memory was refused, and the site is down"
site_meaning site.CellFault = codes "the boot cell did not save, and the site is down"
site_meaning site.NotUp = codes "the site is down"
site_meaning site.AlreadyUp = codes "the site is not down"
site_meaning site.ViewsSpent = codes "there is no greater view"
site_meaning site.BootsSpent = codes "there is no greater boot number"
site_meaning site.NotMine = codes "not for this site, or of a sender who may not send it"

abbrev pub node_meaning : NodeFault → List ℕ
node_meaning node.Short = codes "the account that pays is short"
node_meaning node.UnknownMember = codes "there is no such member"
node_meaning node.BadAmount = codes "the amount is not 1 to 1000000000000"
node_meaning node.NoMemory = codes "memory was refused"
node_meaning node.Spent = codes "the node has 65535 such payments"
node_meaning node.NotMine = codes "not for this node"
node_meaning node.Closed = codes "the member's account is closed"

abbrev pub meaning : WorldFault → List ℕ
meaning NoSuchEnvelope = codes "no envelope has this number"
meaning NoSuchActor = codes "there is no such actor"
meaning Outstanding = codes "the client still waits for an answer"
meaning (Site fault) = site_meaning fault
meaning (Node fault) = node_meaning fault
meaning Spent = codes "the client has no greater request number"
meaning NoMemory = codes "memory was refused"

abbrev pub why_text : Why → List ℕ
why_text Status = codes "the site's status takes no part in it"
why_text View = codes "it is of another view"
why_text NotPrimary = codes "another site is the primary"
why_text Known = codes "the site has it already"
why_text Stale = codes "it is of an earlier time, or does not fit the log"
why_text Full = codes "the log is full"
