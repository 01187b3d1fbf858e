use Rattle.std.proofs.Common.{length, map, refl, sym, ap, subst, ◌∙◌}
use Rattle.vr_types.specs.MemoryCell.{held_by, IsReliable}
use Rattle.std.proofs.lemmas.Option.{slice_get_read}
use Rattle.pvp_audit.specs.Banked.{AllAre}
use Rattle.pvp_audit.proofs.Furthers.{cells_next, cells_same, all_push}
use Rattle.pvp_audit.proofs.fitting.cells_of.Goals as goal

pub loop-k-preserved-in_default : goal.loop-k-preserved-in_default
loop-k-preserved-in_default c =
    let closed = c.args.closed.now in
    let k = c.loop-k.k in
    let one = c.index-closed-k.result in
    record {
      held =
          cells_same closed (map held_by c.loop-k.cells.items) k one (slice_get_read closed (length closed) k one refl c.loop-k-test.true c.index-closed-k.is)
          c.in_default.is c.loop-k.invariant.held;
      reliable = c.loop-k.invariant.reliable;
    }

pub loop-k-preserved : goal.loop-k-preserved
loop-k-preserved c =
    let closed = c.args.closed.now in
    let k = c.loop-k.k in
    let one = c.index-closed-k.result in
    record {
      held = ap (map held_by) c.in_ok-push.ensures.items
          ∙ cells_next closed c.loop-k.cells.items k one c.in-Some.boot c.of.result
          (slice_get_read closed (length closed) k one refl c.loop-k-test.true c.index-closed-k.is) c.in-Some.is c.of.ensures.held c.loop-k.invariant.held;
      reliable =
          subst (λ l. AllAre IsReliable l) (sym c.in_ok-push.ensures.items)
          (all_push IsReliable c.loop-k.cells.items c.of.result c.loop-k.invariant.reliable c.of.ensures.reliable);
    }
