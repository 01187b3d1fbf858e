use Rattle.pvp_audit.specs.Cut.{event_count}
use Rattle.pvp_audit.proofs.Cutting.{IsCutSoFar}
use Rattle.pvp_audit.proofs.cut.cut.Given as goal

-- nothing was cut off that a closed cut has
abbrev pub invariant-loop-cut : goal.invariant-loop-cut
invariant-loop-cut l = IsCutSoFar l.cut.items l.fn.histories.items

-- each time there are fewer events
abbrev pub decreases-loop-cut : goal.decreases-loop-cut
decreases-loop-cut l = event_count l.cut.items
