use Rattle.std.proofs.Common.{◌≡◌, drop}
use Rattle.pvp_text.specs.ScriptWords.{words}
use Rattle.pvp_codes.specs.Broken.{breaks, first_broken}
use Rattle.pvp_codes.proofs.broken.first_broken.Given as goal

-- no word so far breaks the rule
abbrev pub invariant-loop-field : goal.invariant-loop-field
invariant-loop-field l =
    first_broken (breaks l.code l.kind l.setup) l.form (words l.line)
    ≡ first_broken (breaks l.code l.kind l.setup) (drop l.field-index l.form) (words l.rest)
