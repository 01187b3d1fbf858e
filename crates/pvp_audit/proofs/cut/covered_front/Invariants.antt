use Rattle.std.proofs.Common.{◌≡◌, ◌+◌, drop}
use Rattle.pvp_audit.specs.Cut.{covered_front}
use Rattle.pvp_audit.proofs.cut.covered_front.Given as goal

-- all events so far are covered
abbrev pub invariant-loop-at : goal.invariant-loop-at
invariant-loop-at l = l.at + covered_front l.reaches (drop l.at l.entries) ≡ covered_front l.reaches l.entries
