-- A node as an actor: a state is what it shows.
use Rattle.std.specs.Prelude.{◌≡◌, ◌⊎◌, ◌-◌, ℕ, true, List, length, Some, Result, Ok, Err, IfErr}
use Rattle.pvp_book.specs.Answer.{has_member}
use Rattle.rtgs_node.specs.declared.event.NodeEvent.{NodeEvent}
use Rattle.rtgs_node.specs.declared.event.NodeEvent.TheVariants.{PaysIn, Closes, Takes, Beats}
use Rattle.rtgs_node.specs.declared.fault.NodeFault.{NodeFault}
use Rattle.rtgs_node.specs.declared.fault.NodeFault.TheVariants.{NoMemory}
use Rattle.rtgs_node.specs.Node.{Envelope, opening_node, account, member_account}
use Rattle.rtgs_node.specs.Shown.{ShownNode, step_of, IsStep, IsRefusal}

-- the state after an event that came out so: a refusal changes nothing
abbrev pub after : ShownNode → NodeEvent → Result (List Envelope) NodeFault → ShownNode
after x event (Ok sent) = record x { node = (step_of x event).node }
after x event (Err fault) = x

-- how an event can come out: as the node's step sends, or as it refuses; lack of memory may always be
abbrev pub Comes : ShownNode → NodeEvent → Result (List Envelope) NodeFault → Type 0
Comes x event (Ok sent) = IsStep x (after x event (Ok sent)) (step_of x event) sent
Comes x event (Err fault) = (fault ≡ NoMemory) ⊎ ((step_of x event).fault ≡ Some fault)

-- a refusal is the step's; lack of memory is reported only where the step takes memory
abbrev pub Tells : ShownNode → ShownNode → NodeEvent → Result (List Envelope) NodeFault → Type 0
Tells old new event told = IfErr told (IsRefusal old new (step_of old event))

-- a copy of an envelope takes memory
abbrev pub Brings : NodeEvent → Type 0
Brings (PaysIn member amt) = ⊥
Brings (Closes member) = ⊥
Brings (Takes envelope) = Unit {0}
Brings Beats = ⊥

-- a node opens as one that has handled nothing
abbrev pub Opens : ShownNode → ShownNode → Type 0
Opens v x = x ≡ record v { node = opening_node }

-- what the node's reading calls show is of this state: of the returned orders, and of the notices that are not
-- answered, they show how many there are
pub record Reads (v x : ShownNode) : Type 0 where
  pub account : account v.node ≡ account x.node
  pub count : length v.setup.members ≡ length x.setup.members
  pub members : (m : ℕ) → has_member v.setup m ≡ true
      → member_account v.setup v.ccy m v.node ≡ member_account x.setup x.ccy m x.node
  pub pay_ins : v.node.pay_ins ≡ x.node.pay_ins
  pub pay_outs : v.node.pay_outs ≡ x.node.pay_outs
  pub returned : length v.node.returned ≡ length x.node.returned
  pub unanswered : length v.node.notices - v.node.answered ≡ length x.node.notices - x.node.answered
