use Rattle.std.proofs.Common.{◌≡◌, map, take}
use Rattle.pvp_audit.specs.Cut.{reach_in}
use Rattle.pvp_audit.proofs.cut.reaches_of.Given as goal

-- the histories so far have their reaches
abbrev pub invariant-loop-history : goal.invariant-loop-history
invariant-loop-history l = l.reaches.items ≡ map reach_in (take l.history-index l.histories)
