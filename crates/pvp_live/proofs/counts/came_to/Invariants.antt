use Rattle.std.proofs.Common.{◌≡◌, length, take, option_to_list}
use Rattle.std.specs.List.{sum_by}
use Rattle.pvp_live.specs.Counts.{counter_value}
use Rattle.pvp_live.proofs.counts.came_to.Given as goal

-- what came by the events so far is counted
abbrev pub invariant-loop-recorded : goal.invariant-loop-recorded
invariant-loop-recorded l = l.came ≡ counter_value (sum_by (λ recorded. length (option_to_list recorded.stamp)) (take l.recorded-index l.recorded-items))
