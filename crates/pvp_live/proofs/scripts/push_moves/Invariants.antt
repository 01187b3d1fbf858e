use Rattle.std.proofs.Common.{◌≡◌, [], ◌++◌, string_bytes}
use Rattle.pvp_trace.proofs.TextLemmas.{so_far}
use Rattle.pvp_live.specs.Scripts.{line_text}
use Rattle.pvp_live.proofs.scripts.push_moves.Given as goal

-- the lines so far are written
abbrev pub invariant-loop-at : goal.invariant-loop-at
invariant-loop-at l = string_bytes l.text ≡ string_bytes l.fn.text ++ so_far (line_text l.world.setup) [] l.world.trail l.at
