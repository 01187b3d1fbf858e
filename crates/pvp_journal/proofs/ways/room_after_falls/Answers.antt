use Rattle.pvp_journal.specs.Resumed.{in_memory}
use Rattle.pvp_journal.proofs.Going.{fell_none, fell_more, fell_all}
use Rattle.std.proofs.Common.{◌≤◌, ◌<◌, refl, arith}
use Rattle.pvp_journal.specs.Rooms.{bank_texts}
use Rattle.pvp_journal.proofs.ways.room_after_falls.Goals as goal

pub loop-boots-init : goal.loop-boots-init
loop-boots-init g c =
    (fell_none in_memory bank_texts g.L.Log.seen c.args.room c.args.known c.args.known (omega arith), λ none. refl)

pub loop-boots-preserved : goal.loop-boots-preserved
loop-boots-preserved g c =
    let known = c.args.known in
    let held = c.args.held in
    let boots = c.loop-boots.boots in
    let least : known ≤ boots = c.loop-boots.auto.boots in
    let less : boots < held = c.loop-boots-test.true in (
      fell_more in_memory bank_texts g.L.Log.seen c.args.room c.loop-boots.room c.in_ok-room.room known boots least
          c.loop-boots.invariant.0 c.in_ok-room.ensures,
      λ none. absurd (omega arith),
    )

pub returns : goal.returns
returns g c =
    fell_all in_memory bank_texts g.L.Log.seen c.args.room c.loop-boots.room c.args.known c.loop-boots.boots c.args.held
    c.loop-boots-test.false c.loop-boots.auto.boots-end c.loop-boots.invariant.1 c.loop-boots.invariant.0
