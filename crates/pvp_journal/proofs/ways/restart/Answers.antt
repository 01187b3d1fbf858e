use Rattle.std.proofs.Common.{◌≡◌, sym, subst}
use Rattle.pvp_parties.specs.Made.{memory}
use Rattle.pvp_parties.specs.Parties.{held_of}
use Rattle.pvp_journal.specs.Rooms.{GoesOn, bank_texts}
use Rattle.pvp_journal.specs.Resumed.{is_up, crash_of, a_restart, boots_known, falls_between, in_memory}
use Rattle.pvp_journal.proofs.Going.{restarts, falls, if_ok}
use Rattle.pvp_journal.proofs.ways.restart.Goals as goal

pub returns-in_ok-over-in-Restarts-clause-goes_on : goal.returns-in_ok-over-in-Restarts-clause-goes_on
returns-in_ok-over-in-Restarts-clause-goes_on g c =
    rw c.in-Restarts.is
    (if_ok c.room_after_event.result
    (λ back kept. restarts _ _ bank_texts g.L.Log.seen c.args.room c.in_ok-down-in-Restarts.down c.in_ok-over-in-Restarts.over back
    (crash_of (is_up c.args.room.actor)) a_restart c.in_ok-down-in-Restarts.ensures c.in_ok-over-in-Restarts.ensures kept)
    c.room_after_event.ensures)

pub returns-in_ok-over-in-FellAndRestarts-clause-goes_on : goal.returns-in_ok-over-in-FellAndRestarts-clause-goes_on
returns-in_ok-over-in-FellAndRestarts-clause-goes_on g c =
    let held = c.load-held.result in
    let known = boots_known (held_of memory c.args.room.actor) held in
    let down = c.in_ok-down-in-FellAndRestarts.down in
    let fell = c.in_ok-fell-in-FellAndRestarts.fell in
    let is_known : c.boots_known.result ≡ known = cc in
    let fallen : GoesOn in_memory in_memory bank_texts g.L.Log.seen down fell (falls_between known held.boots) =
    subst (λ n. GoesOn in_memory in_memory bank_texts g.L.Log.seen down fell (falls_between n held.boots)) is_known
    c.in_ok-fell-in-FellAndRestarts.ensures in
    rw (c.in-FellAndRestarts.is, sym c.load-held.ensures)
    (if_ok c.room_after_event-in-FellAndRestarts.result
    (λ back kept. falls _ _ bank_texts g.L.Log.seen c.args.room down fell c.in_ok-over-in-FellAndRestarts.over back
    (crash_of (is_up c.args.room.actor)) (falls_between known held.boots) a_restart
    c.in_ok-down-in-FellAndRestarts.ensures fallen c.in_ok-over-in-FellAndRestarts.ensures kept)
    c.room_after_event-in-FellAndRestarts.ensures)
