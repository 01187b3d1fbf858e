use Rattle.pvp_picture.specs.Replay.{snapshot_at}
use Rattle.pvp_picture.proofs.ReplayLemmas.{found_more}
use Rattle.pvp_picture.proofs.replay.snapshots_of.Goals as goal

pub loop-number-preserved : goal.loop-number-preserved
loop-number-preserved c =
    let more = found_more (snapshot_at c.args.world.now) c.loop-number.number in
    let pushed = c.in_ok-push_found.ensures in
    let is = c.snapshot.ensures in
    let before = c.loop-number.invariant in
    cc
