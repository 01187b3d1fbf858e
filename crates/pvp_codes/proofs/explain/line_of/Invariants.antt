use Rattle.std.proofs.Common.{◌≡◌}
use Rattle.pvp_codes.specs.Explained.{after_lines}
use Rattle.pvp_codes.proofs.explain.line_of.Given as goal

-- so many lines were passed over
abbrev pub invariant-loop-passed : goal.invariant-loop-passed
invariant-loop-passed l = l.rest ≡ after_lines l._passed l.text
