use Rattle.std.proofs.Common.{arith}
use Rattle.pvp_wire.proofs.Formats.{all_bytes}
use Rattle.pvp_wire.proofs.Streams.{takes_one, cut_short}
use Rattle.pvp_wire.proofs.feeder.take_frames.Goals as goal

pub overflow_add-used : goal.overflow_add-used
overflow_add-used c =
    let one =
    takes_one c.args.bytes.now c.loop-size.frames.items c.loop-size.used c.in-Ok.ensures.0 c.in-Ok.size
    (all_bytes c.args.bytes.now (λ i. omega (arith, c.type_inv.bytes i))) c.loop-size.invariant.0 c.loop-size.invariant.1 c.in-Ok.ensures.1 in
    let fits = c.well_formed in
    omega (arith, one.within)

pub loop-size-smaller : goal.loop-size-smaller
loop-size-smaller c =
    let one =
    takes_one c.args.bytes.now c.loop-size.frames.items c.loop-size.used c.in-Ok.ensures.0 c.in-Ok.size
    (all_bytes c.args.bytes.now (λ i. omega (arith, c.type_inv.bytes i))) c.loop-size.invariant.0 c.loop-size.invariant.1 c.in-Ok.ensures.1 in
    omega (arith, one.within, one.some)

pub loop-size-preserved : goal.loop-size-preserved
loop-size-preserved c =
    let one =
    takes_one c.args.bytes.now c.loop-size.frames.items c.loop-size.used c.in-Ok.ensures.0 c.in-Ok.size
    (all_bytes c.args.bytes.now (λ i. omega (arith, c.type_inv.bytes i))) c.loop-size.invariant.0 c.loop-size.invariant.1 c.in-Ok.ensures.1 in
    rw c.in-Ok.ensures.2 (one.within, one.splits)

pub returns-in-Err-NoMemory-clause-refused : goal.returns-in-Err-NoMemory-clause-refused
returns-in-Err-NoMemory-clause-refused c =
    cut_short c.args.bytes.now c.keep_frame.new.frames c.loop-size.frames c.loop-size.used c.loop-size.invariant.0 c.loop-size.invariant.1
    c.in-Err-NoMemory.ensures.0 (rw c.in-Err-NoMemory.field-0-is at c.in-Err-NoMemory.ensures.1)
