use Rattle.std.proofs.Common.{take}
use Rattle.std.specs.Prelude.{map}
use Rattle.pvp_picture.specs.Replay.{StandUpTo}
use Rattle.pvp_picture.proofs.replay.snapshots.Given as goal

-- the steps so far came out as they did
abbrev pub invariant-loop-attempt : goal.invariant-loop-attempt
invariant-loop-attempt l = StandUpTo l.fn.world (take l.attempt-index l.noted) l.world (map (λ snapshots. snapshots.items) l.all.items)
