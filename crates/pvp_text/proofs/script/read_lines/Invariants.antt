use Rattle.std.proofs.Common.{◌≡◌, ◌+◌, ◌≤◌, Option, length}
use Rattle.pvp_text.specs.declared.script.LineFault.{LineFault}
use Rattle.pvp_text.specs.Script.{lines_at}
use Rattle.pvp_text.specs.ScriptWords.{lines}
use Rattle.pvp_text.proofs.ScriptReading.{with_front, IsAhead}
use Rattle.pvp_text.proofs.script.read_lines.Given as goal

abbrev pub invariant-loop-line : goal.invariant-loop-line
invariant-loop-line l = record {
  so_far : (refused : Option LineFault) → IsAhead refused l.number
      → with_front l.found.items (lines_at refused l.kind l.setup l.number (lines l.rest)) ≡ lines_at refused l.kind l.setup 1 (lines l.text);
  counted : l.number + length (lines l.rest) ≤ 65536;
}

abbrev pub decreases-loop-line : goal.decreases-loop-line
decreases-loop-line l = length l.rest
