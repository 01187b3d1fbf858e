use Rattle.std.proofs.Common.{◌≡◌, [], ◌++◌, string_bytes}
use Rattle.pvp_trace.proofs.TextLemmas.{so_far}
use Rattle.pvp_live.specs.Notes.{look_text}
use Rattle.pvp_live.proofs.notes.push_looks.Given as goal

-- the looks so far are told
abbrev pub invariant-loop-look : goal.invariant-loop-look
invariant-loop-look l = string_bytes l.text ≡ string_bytes l.fn.text ++ so_far (look_text l.setup) [] l.looks l.look-index
