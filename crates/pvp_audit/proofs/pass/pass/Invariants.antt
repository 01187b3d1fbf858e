use Rattle.std.proofs.Common.{◌≡◌, length}
use Rattle.pvp_rooms.proofs.Grows.{events_left}
use Rattle.pvp_audit.proofs.Passing.{IsPassing}
use Rattle.pvp_audit.proofs.pass.pass.Given as goal

abbrev pub invariant-loop-k : goal.invariant-loop-k
invariant-loop-k l = record {
  same : length l.at.items ≡ length l.closed;
  so : IsPassing l.setup l.closed l.at.items l.numbers l.world;
}

abbrev pub decreases-loop-k : goal.decreases-loop-k
decreases-loop-k l = events_left l.closed l.at.items
