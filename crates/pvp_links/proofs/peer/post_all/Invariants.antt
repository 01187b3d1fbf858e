use Rattle.std.proofs.Common.{[]}
use Rattle.std.specs.Vec.Iter.{into_iter_items}
use Rattle.pvp_links.specs.Peers.{IsPosting}
use Rattle.pvp_links.specs.Puts.{HandsOn, Passes}
use Rattle.pvp_links.proofs.peer.post_all.Given as goal

abbrev pub invariant-loop-frame : goal.invariant-loop-frame
invariant-loop-frame g l =
    (goal.iterator-loop-frame g).can_next l.frame-iterator ×
    (goal.iterator-loop-frame g).is_finite l.frame-iterator ×
    IsPosting g.A.Served.delivery l.fn.frames.items l.fn.seat l.seat (into_iter_items l.frame-iterator) ×
    HandsOn g.O.Outbox.got g.A.Served.sent l.fn.cell.number l.fn.seat l.seat l.fn.outbox l.outbox ×
    Passes g.G.Gate.heard l.fn.cell.number l.fn.seat l.seat l.fn.gate l.gate []
