use Rattle.std.proofs.Common.{◌≡◌, ◌+◌, ◌≤◌, drop, length}
use Rattle.pvp_text.specs.ScriptFields.{values_at}
use Rattle.pvp_text.specs.ScriptWords.{words}
use Rattle.pvp_text.proofs.ScriptValues.{with_later}
use Rattle.pvp_text.proofs.script.reading.read_words.Given as goal

abbrev pub invariant-loop-field : goal.invariant-loop-field
invariant-loop-field l = record {
  so_far : values_at l.kind l.setup l.fields (words l.line)
      ≡ with_later l.fault l.values.items (values_at l.kind l.setup (drop l.field-index l.fields) (words l.rest));
  passed : length (words l.line) ≡ l.field-index + length (words l.rest);
  counted : length l.values.items ≤ l.field-index;
}
