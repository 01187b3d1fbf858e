use Rattle.std.proofs.Common.{◌≡◌, take}
use Rattle.std.specs.List.{list_any}
use Rattle.pvp_live.specs.Scripts.{is_fall}
use Rattle.pvp_live.proofs.scripts.has_fall.Given as goal

-- the moves so far were looked at
abbrev pub invariant-loop-at : goal.invariant-loop-at
invariant-loop-at l = l.found ≡ list_any is_fall (take l.at l.trail.items)
