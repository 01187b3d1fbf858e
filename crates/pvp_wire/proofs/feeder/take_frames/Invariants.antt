use Rattle.std.proofs.Common.{◌-◌, ◌≤◌, drop, length}
use Rattle.pvp_wire.specs.Feeding.{Splits}
use Rattle.pvp_wire.proofs.feeder.take_frames.Given as goal

abbrev pub invariant-loop-size : goal.invariant-loop-size
invariant-loop-size l = (l.used ≤ length l.bytes) × Splits l.bytes l.frames.items (drop l.used l.bytes)

abbrev pub decreases-loop-size : goal.decreases-loop-size
decreases-loop-size l = length l.bytes - l.used
