use Rattle.std.proofs.Common.{◌≡◌, ◌++◌, string_bytes}
use Rattle.std.specs.Prelude.{codes}
use Rattle.pvp_trace.specs.Words.{boot_text}
use Rattle.pvp_trace.proofs.TextLemmas.{so_far}
use Rattle.pvp_trace.proofs.words.push_boots.Given as goal

-- the boots so far are written
abbrev pub invariant-loop-boot : goal.invariant-loop-boot
invariant-loop-boot l = string_bytes l.text ≡ string_bytes l.fn.text ++ so_far boot_text (codes " boots") l.boot-items l.boot-index
