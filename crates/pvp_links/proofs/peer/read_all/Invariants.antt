use Rattle.std.proofs.Common.{[]}
use Rattle.pvp_links.specs.Peers.{IsReading}
use Rattle.pvp_links.specs.Puts.{HandsOn, Passes}
use Rattle.pvp_links.proofs.peer.read_all.Given as goal

abbrev pub invariant-loop : goal.invariant-loop
invariant-loop g l =
    IsReading g.A.Served.delivery (g.R.Read.remaining l.fn.reader) (g.R.Read.remaining l.reader) l.fn.seat l.seat l.feeder.held ×
    HandsOn g.O.Outbox.got g.A.Served.sent l.fn.cell.number l.fn.seat l.seat l.fn.outbox l.outbox ×
    Passes g.G.Gate.heard l.fn.cell.number l.fn.seat l.seat l.fn.gate l.gate []
