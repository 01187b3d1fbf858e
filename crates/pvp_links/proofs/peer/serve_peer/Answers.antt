use Rattle.std.proofs.Common.{length, length-append, ap, arith}
use Rattle.pvp_rooms.specs.Seats.{Held}
use Rattle.pvp_links.proofs.peer.serve_peer.Goals as goal

pub returns-clause-served : goal.returns-clause-served
returns-clause-served g c =
    let s = c.read_all-why.ensures.read in
    let before = ap length c.receipts-before.ensures in
    let after = ap length c.receipts.ensures in
    let seat = ap (λ (h : Held _ _). length h.receipts) s.seat in
    let both = length-append c.args.seat.now.receipts s.gained in
    record { stream = s; count = omega (arith, before, after, seat, both) }
