use Rattle.std.proofs.Common.{◌≡◌, [], ◌++◌, string_bytes}
use Rattle.pvp_trace.proofs.TextLemmas.{so_far}
use Rattle.pvp_play.specs.Passing.{other_text}
use Rattle.pvp_play.proofs.passing.push_numbers.Given as goal

-- the others so far are written behind the first number
abbrev pub invariant-loop-number : goal.invariant-loop-number
invariant-loop-number l = string_bytes l.text ≡ string_bytes l.initial.text ++ so_far other_text [] l.others l.number-index
