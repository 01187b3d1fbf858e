use Rattle.std.proofs.Common.{◌≡◌, ◌≤◌, take, min}
use Rattle.std.specs.Prelude.{sum_by}
use Rattle.pvp_world.proofs.GoingOn.{open_at}
use Rattle.pvp_world.proofs.world.World.unanswered_count.Given as goal

abbrev pub invariant-loop-node : goal.invariant-loop-node
invariant-loop-node g l = (l.count ≤ 65536) × (l.count ≡ min (sum_by open_at (take l.node-index l.node-items)) 65536)
