use Rattle.std.proofs.Common.{◌≡◌, length}
use Rattle.pvp_command.specs.Fails.{names_twice}
use Rattle.pvp_command.proofs.fails.names_twice.Given as goal

abbrev pub invariant-loop-first : goal.invariant-loop-first
invariant-loop-first l = names_twice l.rest ≡ names_twice l.fails

abbrev pub decreases-loop-first : goal.decreases-loop-first
decreases-loop-first l = length l.rest
