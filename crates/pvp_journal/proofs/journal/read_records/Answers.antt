use Rattle.std.proofs.Common.{arith, ap, refl, length}
use Rattle.pvp_journal.proofs.Places.{after-shorter, one_more_at, damaged-wrong, stops}
use Rattle.pvp_journal.proofs.journal.read_records.Goals as goal

pub returns-in-Err : goal.returns-in-Err
returns-in-Err c =
    stops c.args.me (record { sum = c.args.before; bytes = c.args.bytes.now }) c.loop-piece.history.items
    (record { sum = c.loop-piece.sum; bytes = c.loop-piece.rest.now }) c.in-Err.why (length c.loop-piece.rest.now) c.loop-piece.invariant
    (damaged-wrong c.args.me (record { sum = c.loop-piece.sum; bytes = c.loop-piece.rest.now }) c.in-Err.why c.in-Err.ensures) refl

pub loop-piece-smaller : goal.loop-piece-smaller
loop-piece-smaller c =
    let stood = rw c.in-Ok-Whole.field-0-is at c.in-Ok-Whole.ensures in
    omega (arith, after-shorter c.loop-piece.sum c.loop-piece.rest.now stood.0, ap (λ l. length l) stood.3)

pub loop-piece-preserved : goal.loop-piece-preserved
loop-piece-preserved c =
    let stood = rw c.in-Ok-Whole.field-0-is at c.in-Ok-Whole.ensures in
    let kept = c.in_default.ensures in
    rw kept.2 (one_more_at c.args.me (record { sum = c.args.before; bytes = c.args.bytes.now }) c.loop-piece.history.items c.loop-piece.sum
    c.loop-piece.rest.now kept.0 c.in-Ok-Whole.piece.sum c.in-Ok-Whole.piece.after.now c.loop-piece.invariant stood.0
    (rw stood.1 at kept.1) stood.2 stood.3)
