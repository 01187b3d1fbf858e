use Rattle.std.proofs.Common.{◌≡◌, ◌⊎◌, Err, subst, sym, arith}
use Rattle.pvp_text.specs.ScriptWords.{lines}
use Rattle.pvp_places.specs.declared.fault.PlaceFault.{PlaceFault}
use Rattle.pvp_places.specs.declared.fault.PlaceFault.TheVariants.{NoMemory}
use Rattle.pvp_places.specs.KeysFile.{keys_in, with_key}
use Rattle.pvp_places.proofs.Lines.{goes_on, stops, ends}
use Rattle.pvp_places.proofs.keys.read_keys.Goals as goal

pub returns-in-Err : goal.returns-in-Err
returns-in-Err c =
    let so_far = rw c.in-Some.ensures.some at c.loop-line.invariant.so_far in
    subst (λ (told : PlaceFault). (told ≡ NoMemory) ⊎ (keys_in c.args.setup.now c.args.bytes.now ≡ Err told)) (sym c.at.ensures)
    (stops (with_key c.args.setup.now) (Unit {0}) c.loop-line.shared.items c.read_line.new.shared.items c.loop-line.number c.in-Some.line.now
    (lines c.in-Some.after.now) _ c.in-Err.fault c.in-Err.ensures so_far)

pub loop-line-preserved : goal.loop-line-preserved
loop-line-preserved c =
    let so_far = rw c.in-Some.ensures.some at c.loop-line.invariant.so_far in
    let shorter = c.in-Some.ensures.shorter in
    record {
      so_far =
          goes_on (with_key c.args.setup.now) c.loop-line.shared.items c.read_line.new.shared.items c.loop-line.number c.in-Some.line.now
          (lines c.in-Some.after.now) _ c.in_default-read_line.ensures so_far;
      counted = omega (arith, shorter, c.loop-line.invariant.counted);
    }

pub returns : goal.returns
returns c = ends (with_key c.args.setup.now) c.loop-line.shared.items c.loop-line.number _ (rw c.in_default.ensures.none at c.loop-line.invariant.so_far)
