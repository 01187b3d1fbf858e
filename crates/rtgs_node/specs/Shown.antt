-- What a node shows, and what its calls answer.
use Rattle.std.specs.Prelude.{◌≡◌, ◌⊎◌, ℕ, ◌+◌, ◌||◌, Bool, true, nat_lt, if◌then◌else◌, List, [], ◌∷◌, length, Option, Some, None}
use Rattle.pvp_types.specs.declared.setup.Setup.{Setup}
use Rattle.pvp_types.specs.declared.command.Cmd.{Cmd}
use Rattle.pvp_types.specs.declared.command.Cmd.TheVariants.{Fund, Paid}
use Rattle.pvp_types.specs.declared.command.PayOrder.{PayOrder}
use Rattle.pvp_types.specs.Setup.{faults}
use Rattle.rtgs_node.specs.declared.fault.NodeFault.{NodeFault}
use Rattle.rtgs_node.specs.declared.fault.NodeFault.TheVariants.{NoMemory}
use Rattle.rtgs_node.specs.declared.event.NodeEvent.{NodeEvent}
use Rattle.rtgs_node.specs.Node.{Envelope, Node, NodeStep, notes, notice_out, pay_in_checks, order_checks, with_pay_in, with_pay_out, on_return, on_order, on_reply, node_step}

-- the node of a currency of a setup
pub record ShownNode : Type 0 where
  pub setup : Setup
  pub ccy : ℕ
  pub node : Node

unfoldable pub step_of : ShownNode → NodeEvent → NodeStep
step_of shown event = node_step shown.setup (faults shown.setup) shown.ccy shown.node event

-- the step sends something, or makes a notice
abbrev pub takes_memory : Node → NodeStep → Bool
takes_memory x step = nat_lt 0 (length step.sent) || nat_lt (length x.notices) (length step.node.notices)

-- the node took a step, and answered what that sends
pub record IsStep (old new : ShownNode) (step : NodeStep) (sent : List Envelope) : Type 0 where
  pub allowed : step.fault ≡ None
  pub sends : sent ≡ step.sent
  pub node : new ≡ record old { node = step.node }

-- the node is as it was: the step is a refusal, or it takes memory, which was refused
pub record IsRefusal (old new : ShownNode) (step : NodeStep) (fault : NodeFault) : Type 0 where
  pub node : new ≡ old
  pub why : (step.fault ≡ Some fault)
      ⊎ ((fault ≡ NoMemory) × (step.fault ≡ None) × (takes_memory old.node step ≡ true))

-- PARTS OF THE STEP, of what is shown

abbrev pub order_step : ShownNode → PayOrder → NodeStep
order_step shown order = on_order shown.setup (faults shown.setup) shown.ccy shown.node order

abbrev pub reply_step : ShownNode → ℕ → NodeStep
reply_step shown number = on_reply shown.setup (faults shown.setup) shown.ccy shown.node number

-- a pay-in that no check refuses, a new order that is returned, and one that is done

abbrev pub credit_step : ShownNode → ℕ → ℕ → NodeStep
credit_step shown member amt =
    notes (faults shown.setup) shown.ccy (with_pay_in shown.node member amt)
    (Fund shown.ccy (length shown.node.pay_ins + 1) member amt)

abbrev pub given_back : ShownNode → PayOrder → NodeStep
given_back shown order = on_return shown.setup (faults shown.setup) shown.ccy shown.node order

abbrev pub paid_out : ShownNode → PayOrder → NodeStep
paid_out shown order =
    notes (faults shown.setup) shown.ccy (with_pay_out shown.node order) (Paid shown.ccy order.out)

-- what is sent of a new notice at once
abbrev pub sent_with : ShownNode → Cmd → List Envelope
sent_with shown cmd = (notes (faults shown.setup) shown.ccy shown.node cmd).sent

-- what is sent where this number of notices is answered
abbrev pub sent_after : ShownNode → ℕ → List Envelope
sent_after shown answered = notice_out (faults shown.setup) shown.ccy (record shown.node { answered = answered })

-- the fault of the first check that fails
abbrev pub first_fault : List (Bool × NodeFault) → Option NodeFault
first_fault [] = None
first_fault ((fails, fault) ∷ more) = if fails then Some fault else first_fault more

-- why a pay-in is refused, and an order that is not known
abbrev pub pay_in_fault : ShownNode → ℕ → ℕ → Option NodeFault
pay_in_fault shown member amt =
    first_fault (pay_in_checks shown.setup (faults shown.setup) shown.ccy shown.node member amt)

abbrev pub order_fault : ShownNode → PayOrder → Option NodeFault
order_fault shown order =
    first_fault (order_checks shown.setup (faults shown.setup) shown.ccy shown.node order)
