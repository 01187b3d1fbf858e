use Rattle.std.proofs.Common.{◌+◌, ◌*◌, Ok, refl, subst}
use Rattle.pvp_world.proofs.Sent.{requests-fixed}
use Rattle.pvp_rooms.specs.Requests.{HasRoom}
use Rattle.pvp_rooms.specs.Clients.{Comes, after}
use Rattle.pvp_rooms.proofs.Requesting.{room_for, client_sends}
use Rattle.pvp_rooms.proofs.client.ClientActor.take_copied.Goals as goal

pub copies-requires-clause-room : goal.copies-requires-clause-room
copies-requires-clause-room c =
    let v = c.args.self.now in
    let sent = c.in-Ok.sent in
    room_for v.f v.me sent c.in_ok-room.room
    (client_sends v (after v c.args.event (Ok sent)) c.args.event sent (subst (Comes v c.args.event) c.in-Ok.is (c.take.ensures.step v refl).0))
    (subst (λ f. HasRoom (2 * f + 1) c.in_ok-room.room) c.faults.ensures c.in_ok-room.ensures)

pub copies-requires-clause-fixed : goal.copies-requires-clause-fixed
copies-requires-clause-fixed c =
    let v = c.args.self.now in
    let sent = c.in-Ok.sent in
    requests-fixed v.f v.me sent
    (client_sends v (after v c.args.event (Ok sent)) c.args.event sent (subst (Comes v c.args.event) c.in-Ok.is (c.take.ensures.step v refl).0))
