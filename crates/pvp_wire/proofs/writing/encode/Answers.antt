use Rattle.std.proofs.Common.{◌++◌, length, ap, arith, length-append}
use Rattle.pvp_wire.specs.Spelling.{body}
use Rattle.pvp_wire.specs.Pieces.{spelled, last_rows}
use Rattle.pvp_wire.proofs.Lengths.{spelled-short}
use Rattle.pvp_wire.proofs.writing.encode.Goals as goal

pub push_head-requires-clause-short : goal.push_head-requires-clause-short
push_head-requires-clause-short g c =
    let msg = c.args.stamped.now.envelope.msg in
    let front = c.push_front.new.out.items in
    let whole = ap (λ l. length l) c.push_front.ensures.bytes in
    let parts = length-append front (spelled (last_rows msg)) in
    let start = ap (λ l. length (l ++ body msg)) c.new-front.ensures in
    let short = spelled-short c.args.stamped.now (c.push_front.ensures.fits c.rows_len.ensures.fits) c.requires in
    omega (arith, whole, parts, start, short, c.len.ensures.value, c.rows_len.ensures.exact)
