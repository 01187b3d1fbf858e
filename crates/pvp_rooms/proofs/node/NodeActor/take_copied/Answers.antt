use Rattle.std.proofs.Common.{◌+◌, ◌*◌, Ok, refl, ap, subst, ◌∙◌}
use Rattle.pvp_types.specs.Setup.{faults}
use Rattle.pvp_book.specs.Ledger.{node_of}
use Rattle.pvp_world.proofs.Sent.{requests-fixed}
use Rattle.pvp_rooms.specs.Requests.{HasRoom}
use Rattle.pvp_rooms.specs.Nodes.{Comes, after}
use Rattle.pvp_rooms.proofs.Requesting.{room_for, node_sends}
use Rattle.pvp_rooms.proofs.node.NodeActor.take_copied.Goals as goal

pub copies-requires-clause-room : goal.copies-requires-clause-room
copies-requires-clause-room c =
    let v = c.args.self.now in
    let sent = c.in-Ok.sent in
    room_for (faults v.setup) (node_of v.ccy) sent c.in_ok-room.room
    (node_sends v (after v c.args.event (Ok sent)) c.args.event sent (subst (Comes v c.args.event) c.in-Ok.is (c.take.ensures.step v refl).0))
    (subst (λ f. HasRoom (2 * f + 1) c.in_ok-room.room) (c.faults.ensures.faults ∙ ap faults c.setup.ensures.same) c.in_ok-room.ensures)

pub copies-requires-clause-fixed : goal.copies-requires-clause-fixed
copies-requires-clause-fixed c =
    let v = c.args.self.now in
    let sent = c.in-Ok.sent in
    requests-fixed (faults v.setup) (node_of v.ccy) sent
    (node_sends v (after v c.args.event (Ok sent)) c.args.event sent (subst (Comes v c.args.event) c.in-Ok.is (c.take.ensures.step v refl).0))
