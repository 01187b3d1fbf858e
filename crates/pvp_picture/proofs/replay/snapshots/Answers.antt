use Rattle.std.proofs.Common.{Vec, Global}
use Rattle.pvp_picture.specs.declared.scene.Snapshot.{Snapshot}
use Rattle.pvp_picture.proofs.ReplayLemmas.{stand_more}
use Rattle.pvp_picture.proofs.replay.snapshots.Goals as goal

pub loop-attempt-preserved : goal.loop-attempt-preserved
loop-attempt-preserved c =
    let items = λ (snapshots : Vec Snapshot Global). snapshots.items in
    stand_more items c.args.world c.loop-attempt.world c.take_again.new.world c.args.noted.now c.loop-attempt.attempt-index _ c.loop-attempt.all.items
    c.push-in-loop-attempt.new.self.items c.in_ok-snapshots_of-2.field-0 c.loop-attempt-test.true c.in_ok-push-2.ensures.items
    c.in_ok-snapshots_of-2.ensures c.in_ok-take_again.ensures c.loop-attempt.invariant
