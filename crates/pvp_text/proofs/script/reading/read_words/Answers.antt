use Rattle.std.proofs.Common.{◌≡◌, ◌+◌, ◌∷◌, [], ◌++◌, drop, get_or, length, sym, ap, ◌∙◌, arith, Some}
use Rattle.arrayvec.specs.ArrayVec.{ArrayVec}
use Rattle.std.proofs.lemmas.List.{drop_more, length-append}
use Rattle.pvp_text.specs.declared.script.fields.Value.{Value}
use Rattle.pvp_text.specs.declared.script.table.Field.TheVariants.{First}
use Rattle.pvp_text.specs.declared.script.fields.WordFault.{WordFault}
use Rattle.pvp_text.specs.ScriptFields.{graver_fault}
use Rattle.pvp_text.specs.ScriptWords.{words}
use Rattle.pvp_text.proofs.ScriptValues.{goes_on, goes_wrong}
use Rattle.pvp_text.proofs.script.reading.read_words.Goals as goal
use Rattle.pvp_text.proofs.script.reading.read_words.Goals.{in-Ok, in-Err}

pub loop-field-preserved : goal.loop-field-preserved
loop-field-preserved c =
    let field = get_or c.args.fields.now c.loop-field.field-index First in
    let fields = drop (c.loop-field.field-index + 1) c.args.fields.now in
    let row = drop_more c.args.fields.now c.loop-field.field-index First c.loop-field-test.true in
    let so_far = rw (row, c.in-Some.ensures.some) at c.loop-field.invariant.so_far in
    let passed : length (words c.args.line.now) ≡ c.loop-field.field-index + 1 + length (words c.in-Some.after.now) =
    omega (arith, c.loop-field.invariant.passed, ap length c.in-Some.ensures.some) in
    elim c.match-value_of.branch [
      | in-Ok w ↦
          let held : c.match-value_of.values.items ≡ c.loop-field.values.items ++ w.in-Ok.value ∷ [] =
          ap (λ (v : ArrayVec Value). v.items) w.values-is ∙ w.push.ensures.items in
          record {
            so_far = rw (w.fault-is, held, w.rest-is)
                (goes_on c.args.kind c.args.setup.now field fields c.in-Some.word.now (words c.in-Some.after.now) c.loop-field.fault
                c.loop-field.values.items _ _ so_far
                (sym c.value_of.ensures ∙ w.in-Ok.is));
            passed = rw w.rest-is passed;
            counted = rw held (omega (arith, c.loop-field.invariant.counted, length-append c.loop-field.values.items (w.in-Ok.value ∷ [])));
          }
      | in-Err w ↦
          let fault : c.match-value_of.fault ≡ Some (graver_fault c.loop-field.fault w.in-Err.found) =
          w.fault-is ∙ ap (λ (f : WordFault). Some f) w.graver_fault.ensures in
          let held : c.match-value_of.values.items ≡ c.loop-field.values.items = ap (λ (v : ArrayVec Value). v.items) w.values-is in
          record {
            so_far = rw (fault, w.rest-is)
                (goes_wrong c.args.kind c.args.setup.now field fields c.in-Some.word.now (words c.in-Some.after.now) c.loop-field.fault
                c.loop-field.values.items _ _ so_far
                (sym c.value_of.ensures ∙ w.in-Err.is));
            passed = rw w.rest-is passed;
            counted = rw held (omega (arith, c.loop-field.invariant.counted));
          }
    ]
