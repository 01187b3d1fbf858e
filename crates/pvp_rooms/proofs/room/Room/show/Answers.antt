use Rattle.pvp_rooms.proofs.room.Room.show.Goals as goal

pub returns : goal.returns
returns g c =
    let at = c.self.inside in
    let kept = c.self.invariant in
    (at.opening, at.history.items, at.actor, record { replayed = kept.replayed; rising = kept.rising }, c.see.ensures)
