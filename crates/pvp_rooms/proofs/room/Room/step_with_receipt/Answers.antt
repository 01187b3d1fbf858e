use Rattle.std.proofs.Common.{sym}
use Rattle.pvp_rooms.proofs.Growing.{room_next}
use Rattle.pvp_rooms.proofs.room.Room.step_with_receipt.Goals as goal

pub invariant_of-self-2 : goal.invariant_of-self-2
invariant_of-self-2 g c =
    let at = c.self.inside in
    rw (c.push_reserved.ensures.items, c.reserve.ensures.items, c.in-Ok.ensures.copy, c.in-Ok-take_copied.ensures.recorded)
    (room_next g.A.Actor (record { opening = at.opening; actor = at.actor; clock = at.clock; history = at.history.items })
    c.take_copied.new.self c.args.input c.in-Some.clock _ c.self.invariant
    (record { step = c.in-Ok-take_copied.ensures.step; opens = c.take_copied.ensures.opens; told = c.in-Ok-take_copied.ensures.told })
    (sym c.in-Some.ensures))

pub returns-clause-sound : goal.returns-clause-sound
returns-clause-sound g c =
    let at = c.self.inside in
    rw (c.push_reserved.ensures.items, c.reserve.ensures.items, c.in-Ok.ensures.copy, c.in-Ok-take_copied.ensures.recorded)
    (room_next g.A.Actor (record { opening = at.opening; actor = at.actor; clock = at.clock; history = at.history.items })
    c.take_copied.new.self c.args.input c.in-Some.clock _ c.self.invariant
    (record { step = c.in-Ok-take_copied.ensures.step; opens = c.take_copied.ensures.opens; told = c.in-Ok-take_copied.ensures.told })
    (sym c.in-Some.ensures))
