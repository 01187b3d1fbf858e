use Rattle.std.proofs.Common.{◌≡◌, max, drop}
use Rattle.pvp_audit.specs.Cut.{reach_of}
use Rattle.pvp_audit.proofs.cut.reach_of.Given as goal

-- it is the greatest clock so far
abbrev pub invariant-loop-entry : goal.invariant-loop-entry
invariant-loop-entry l = max l.clock (reach_of (drop l.entry-index l.entries)) ≡ reach_of l.entries
