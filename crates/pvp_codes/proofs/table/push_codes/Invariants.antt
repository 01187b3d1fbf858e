use Rattle.std.proofs.Common.{◌≡◌, ◌++◌, [], string_bytes}
use Rattle.pvp_codes.specs.Codes.{code_line}
use Rattle.pvp_trace.proofs.TextLemmas.{so_far}
use Rattle.pvp_codes.proofs.table.push_codes.Given as goal

-- the codes so far are written
abbrev pub invariant-loop-code : goal.invariant-loop-code
invariant-loop-code l = string_bytes l.text ≡ string_bytes l.fn.text ++ so_far code_line [] l.codes l.code-index
