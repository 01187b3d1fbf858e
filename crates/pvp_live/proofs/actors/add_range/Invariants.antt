use Rattle.std.proofs.Common.{◌≡◌, ◌++◌}
use Rattle.std.specs.List.{range_with_len}
use Rattle.pvp_live.proofs.actors.add_range.Given as goal

-- those so far are added
abbrev pub invariant-loop-at : goal.invariant-loop-at
invariant-loop-at l = l.numbers.items ≡ l.fn.numbers.items ++ range_with_len l.first l.at
