use Rattle.std.proofs.Common.{arith}
use Rattle.pvp_wire.proofs.Formats.{all_bytes}
use Rattle.pvp_wire.proofs.Frames.{frame-takes}
use Rattle.pvp_journal.proofs.sent.stamped_at.Goals as goal

pub slice_bounds-result-count : goal.slice_bounds-result-count
slice_bounds-result-count c =
    let found =
    frame-takes c.args.bytes.now c.in_ok-stamped.stamped c.in_ok-stamped.size (all_bytes c.args.bytes.now (λ i. omega (arith, c.type_inv.bytes i)))
    c.in_ok-stamped.ensures in
    omega (arith, found.within)

pub slice_bounds-result-start : goal.slice_bounds-result-start
slice_bounds-result-start c =
    let found =
    frame-takes c.args.bytes.now c.in_ok-stamped.stamped c.in_ok-stamped.size (all_bytes c.args.bytes.now (λ i. omega (arith, c.type_inv.bytes i)))
    c.in_ok-stamped.ensures in
    omega (arith, found.within)
