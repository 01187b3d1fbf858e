-- The node of USD, event by event: why it refuses, how many envelopes it sends, what the bank's account holds, and ALFA's.
use Rattle.std.proofs.Common.{◌≡◌, ℕ, List, [], ◌∷◌, length, Option, Some, None, refl, ℤ, pos}
use Rattle.pvp_types.specs.declared.command.Cmd.{Cmd}
use Rattle.pvp_types.specs.declared.command.Reply.{Reply as Answer}
use Rattle.pvp_types.specs.declared.command.Reply.TheVariants.{Done}
use Rattle.pvp_types.specs.declared.command.PayOrder.{PayOrder as PaymentOrder}
use Rattle.vr_types.specs.declared.message.MsgOf.{MsgOf}
use Rattle.vr_types.specs.declared.message.MsgOf.TheVariants.{Reply, PayOrder}
use Rattle.pvp_book.proofs.WorkedRows.{worked_setup}
use Rattle.rtgs_node.specs.declared.fault.NodeFault.{NodeFault}
use Rattle.rtgs_node.specs.declared.fault.NodeFault.TheVariants.{Short, UnknownMember, BadAmount, Closed}
use Rattle.rtgs_node.specs.declared.event.NodeEvent.TheVariants.{PaysIn, Closes, Takes, Beats}
use Rattle.rtgs_node.specs.declared.event.NodeEvent.{NodeEvent}
use Rattle.rtgs_node.specs.Node.{Node, NodeStep, opening_node, account, member_account, node_step}

told : NodeStep → Option NodeFault × ℕ × ℤ × ℤ
told step = (step.fault, length step.sent, account step.node, member_account worked_setup 1 1 step.node)

node_sees : Node → List NodeEvent → List (Option NodeFault × ℕ × ℤ × ℤ)
node_sees x [] = []
node_sees x (event ∷ more) =
    told (node_step worked_setup 1 1 x event) ∷ node_sees (node_step worked_setup 1 1 x event).node more

to_usd : MsgOf Cmd Answer PaymentOrder → NodeEvent
to_usd msg = Takes (record { from = 200; to = 102; msg = msg })

order : ℕ → ℕ → PaymentOrder
order out amt = record { ccy = 1; out = out; member = 1; amt = amt }

usd_node : node_sees opening_node (
    PaysIn 1 1200 ∷ PaysIn 1 8801 ∷ PaysIn 1 300 ∷ to_usd (Reply (record { view = 0; number = 1; reply = Done }))
    ∷ to_usd (Reply (record { view = 0; number = 1; reply = Done }))
    ∷ to_usd (PayOrder (order 1 200)) ∷ to_usd (PayOrder (order 1 200)) ∷ to_usd (PayOrder (order 2 200))
    ∷ to_usd (PayOrder (order 3 1101)) ∷ Beats ∷ [])
    ≡ (None, 3, pos 1200, pos 8800) ∷ (Some Short, 0, pos 1200, pos 8800) ∷ (None, 0, pos 1500, pos 8500)
    ∷ (None, 3, pos 1500, pos 8500) ∷ (None, 0, pos 1500, pos 8500)
    ∷ (None, 0, pos 1300, pos 8700) ∷ (None, 0, pos 1300, pos 8700) ∷ (None, 0, pos 1100, pos 8900)
    ∷ (Some Short, 0, pos 1100, pos 8900) ∷ (None, 3, pos 1100, pos 8900) ∷ []
unfolding node_sees told to_usd order
usd_node = refl

-- an account that is closed, once; then what the member pays in is refused, and what is ordered for it is returned once,
-- whatever the account holds; what was done before stays known
usd_closed : node_sees opening_node (
    PaysIn 1 1200 ∷ to_usd (PayOrder (order 1 200)) ∷ Closes 3 ∷ Closes 1 ∷ Closes 1 ∷ PaysIn 1 0 ∷ PaysIn 1 5
    ∷ to_usd (PayOrder (order 2 9999)) ∷ to_usd (PayOrder (order 2 9999)) ∷ to_usd (PayOrder (order 1 200))
    ∷ to_usd (Reply (record { view = 0; number = 1; reply = Done })) ∷ [])
    ≡ (None, 3, pos 1200, pos 8800) ∷ (None, 0, pos 1000, pos 9000) ∷ (Some UnknownMember, 0, pos 1000, pos 9000)
    ∷ (None, 0, pos 1000, pos 9000) ∷ (Some Closed, 0, pos 1000, pos 9000)
    ∷ (Some BadAmount, 0, pos 1000, pos 9000) ∷ (Some Closed, 0, pos 1000, pos 9000)
    ∷ (None, 0, pos 1000, pos 9000) ∷ (None, 0, pos 1000, pos 9000) ∷ (None, 0, pos 1000, pos 9000)
    ∷ (None, 3, pos 1000, pos 9000) ∷ []
unfolding node_sees told to_usd order
usd_closed = refl
