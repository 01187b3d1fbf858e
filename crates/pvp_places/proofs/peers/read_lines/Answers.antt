use Rattle.std.proofs.Common.{◌≡◌, ◌⊎◌, Err, subst, sym, arith}
use Rattle.pvp_text.specs.ScriptWords.{lines}
use Rattle.pvp_places.specs.declared.fault.PlaceFault.{PlaceFault}
use Rattle.pvp_places.specs.declared.fault.PlaceFault.TheVariants.{NoMemory}
use Rattle.pvp_places.specs.PeersFile.{lines_in, read_as, with_peer}
use Rattle.pvp_places.proofs.Lines.{goes_on, stops, ends}
use Rattle.pvp_places.proofs.peers.read_lines.Goals as goal

pub returns-in-Err : goal.returns-in-Err
returns-in-Err c =
    let so_far = rw c.in-Some.ensures.some at c.loop-line.invariant.so_far in
    subst (λ (told : PlaceFault). (told ≡ NoMemory) ⊎ (lines_in c.args.setup.now c.args.bytes.now ≡ Err told)) (sym c.at.ensures)
    (stops (with_peer c.args.setup.now) (Unit {0}) (read_as c.loop-line.peers) (read_as c.read_line.new.self) c.loop-line.number c.in-Some.line.now
    (lines c.in-Some.after.now) _ c.in-Err.fault c.in-Err.ensures so_far)

pub loop-line-preserved : goal.loop-line-preserved
loop-line-preserved c =
    let so_far = rw c.in-Some.ensures.some at c.loop-line.invariant.so_far in
    let shorter = c.in-Some.ensures.shorter in
    record {
      so_far =
          goes_on (with_peer c.args.setup.now) (read_as c.loop-line.peers) (read_as c.read_line.new.self) c.loop-line.number c.in-Some.line.now
          (lines c.in-Some.after.now) _ c.in_default-read_line.ensures so_far;
      counted = omega (arith, shorter, c.loop-line.invariant.counted);
    }

pub returns : goal.returns
returns c = ends (with_peer c.args.setup.now) (read_as c.loop-line.peers) c.loop-line.number _ (rw c.in_default.ensures.none at c.loop-line.invariant.so_far)
