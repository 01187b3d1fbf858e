use Rattle.std.proofs.Common.{◌≡◌, take}
use Rattle.pvp_live.specs.Counts.{came_in_all}
use Rattle.pvp_live.proofs.counts.came_in_all.Given as goal

-- those so far are counted
abbrev pub invariant-loop-one : goal.invariant-loop-one
invariant-loop-one l = l.came ≡ came_in_all (take l.one-index l.closed)
