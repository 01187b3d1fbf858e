use Rattle.std.proofs.Common.{◌≡◌, inl, Bool, true, false, Some, refl}
use Rattle.std.specs.Prelude.{not, ◌==◌, if◌then◌else◌}
use Rattle.pvp_types.specs.declared.command.Cmd.{Cmd}
use Rattle.pvp_types.specs.declared.command.PayOrder.{PayOrder as PaymentOrder}
use Rattle.pvp_types.specs.declared.command.Reply.{Reply as Answer}
use Rattle.pvp_types.specs.Setup.{faults}
use Rattle.vr_types.specs.declared.message.MsgOf.{MsgOf}
use Rattle.vr_types.specs.declared.message.MsgOf.TheVariants.{Reply, PayOrder}
use Rattle.vr_types.specs.declared.message.ReplyOf.{ReplyOf}
use Rattle.pvp_book.specs.Ledger.{node_of}
use Rattle.rtgs_node.specs.declared.event.NodeEvent.TheVariants.{Takes}
use Rattle.rtgs_node.specs.declared.fault.NodeFault.TheVariants.{NotMine}
use Rattle.rtgs_node.specs.Node.{Envelope, NodeStep, on_message, refuses}
use Rattle.rtgs_node.specs.Shown.{ShownNode, step_of}
use Rattle.rtgs_node.proofs.node.Node.take.Goals as goal

-- what is neither an answer nor an order is not a node's
other-message : (x : ShownNode) (msg : MsgOf Cmd Answer PaymentOrder) → ((reply : ReplyOf Answer) → msg ≡ Reply reply → ⊥)
    → ((order : PaymentOrder) → msg ≡ PayOrder order → ⊥)
    → (on_message x.setup (faults x.setup) x.ccy x.node msg).fault ≡ Some NotMine
other-message x (Reply reply) not_reply not_order = absurd (not_reply reply refl)
other-message x (PayOrder order) not_reply not_order = absurd (not_order order refl)
other-message x _ not_reply not_order = refl

other-envelope : (x : ShownNode) (e : Envelope) → ((reply : ReplyOf Answer) → e.msg ≡ Reply reply → ⊥)
    → ((order : PaymentOrder) → e.msg ≡ PayOrder order → ⊥) → (step_of x (Takes e)).fault ≡ Some NotMine
unfolding step_of
other-envelope x e not_reply not_order = by (not (e.to == node_of x.ccy))
  where
    by : (b : Bool) → (if b then refuses x.node NotMine else on_message x.setup (faults x.setup) x.ccy x.node e.msg).fault ≡ Some NotMine
    by true = refl
    by false = other-message x e.msg not_reply not_order

pub returns : goal.returns
returns c = record {
  taken = tt;
  refused = record { node = refl; why = inl (other-envelope c.args.self.now c.args.envelope c.in_default.not-Reply c.in_default.not-PayOrder) };
}
