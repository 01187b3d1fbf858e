use Rattle.std.proofs.Common.{◌≡◌}
use Rattle.std.specs.List.{filter_map, range_with_len}
use Rattle.pvp_picture.specs.Replay.{snapshot_at}
use Rattle.pvp_picture.proofs.replay.snapshots_of.Given as goal

-- where the sites so far stand
abbrev pub invariant-loop-number : goal.invariant-loop-number
invariant-loop-number l = l.all.items ≡ filter_map (snapshot_at l.world) (range_with_len 0 l.number)
