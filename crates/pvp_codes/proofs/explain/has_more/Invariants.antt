use Rattle.std.proofs.Common.{◌≡◌, ◌+◌, length}
use Rattle.pvp_text.specs.ScriptWords.{words}
use Rattle.pvp_codes.proofs.explain.has_more.Given as goal

-- so many words were passed over
abbrev pub invariant-loop-passed : goal.invariant-loop-passed
invariant-loop-passed l = length (words l.line) ≡ l._passed + length (words l.rest)
