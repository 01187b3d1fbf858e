use Rattle.std.proofs.Common.{List, [], take, refl, sym, ap, ◌∙◌, subst, append-nil, arith}
use Rattle.pvp_rooms.specs.declared.message.Recorded.{Recorded}
use Rattle.pvp_rooms.specs.Seats.{Held}
use Rattle.pvp_wire.specs.Feeding.{IsFed}
use Rattle.pvp_links.specs.Peers.{HasRead, why_of}
use Rattle.pvp_links.specs.Puts.{LastRead}
use Rattle.pvp_links.specs.declared.peer.StreamEnd.TheVariants.{End, Cut}
use Rattle.pvp_links.proofs.Streams.{hands_none, hands_more, passes_none, passes_more, all_passed, unread_last, stopped_passes, memory_for, consumes_none, unread, reading_next, stopped, ended, feeds_ok, is_empty, told_at, ends_told, still_short}
use Rattle.pvp_links.proofs.peer.read_all.Goals as goal

pub loop-init : goal.loop-init
loop-init g c = (
  record {
    gained = [];
    seat = ap (λ (l : List (Recorded _ _)). let t : Held _ _ = record c.args.seat.now { receipts = l } in t) (sym (append-nil c.args.seat.now.receipts));
    read = [];
    consumed = consumes_none (g.R.Read.remaining c.args.reader.now);
    posted = [];
    splits = record { whole = sym (ap (λ f. f.held) c.new-feeder.ensures); each = λ k e h. absurd (omega (arith, h)) };
    receipts = tt;
  },
  hands_none g.O.Outbox.got g.A.Served.sent c.args.cell.now.number c.args.seat.now c.args.outbox.now,
  passes_none g.G.Gate.heard c.args.cell.now.number c.args.seat.now c.args.gate.now,
)

pub returns-in-Err-clause-read : goal.returns-in-Err-clause-read
returns-in-Err-clause-read g c =
    let d = g.A.Served.delivery in
    let before = g.R.Read.remaining c.args.reader.now in
    let now = g.R.Read.remaining c.read.new.self in
    let was = subst IsFed c.feeder.view_is c.feeder.invariant in
    let is = subst IsFed c.feeder-in-loop.view_is c.feeder-in-loop.invariant in
    subst (λ why. HasRead d before now c.args.seat.now c.loop.seat why) (sym c.why_of.ensures)
    (unread d before (g.R.Read.remaining c.loop.reader) now c.args.seat.now c.loop.seat c.loop.feeder.held _
    (why_of c.in-Err.fault) c.loop.invariant.0 c.in-Ok.ensures.bytes.0
    (ends_told c.in-Err.fault now _ (λ other. told_at c.loop.feeder.fault c.loop.feeder c.feed.new.self _ c.in-Err.fault c.in-Err.ensures was is other)
    (λ memory. memory_for c.loop.feeder.fault c.loop.feeder c.feed.new.self _ c.in-Err.fault c.in-Err.ensures was memory)))

pub returns-in-Some-post_all-clause-read : goal.returns-in-Some-post_all-clause-read
returns-in-Some-post_all-clause-read g c =
    stopped g.A.Served.delivery (g.R.Read.remaining c.args.reader.now) (g.R.Read.remaining c.loop.reader)
    (g.R.Read.remaining c.read.new.self) c.args.seat.now c.loop.seat c.post_all.new.seat c.loop.feeder.held _ c.feed.new.self.held c.in-Ok-feed.frames.items
    c.in-Some-post_all.why c.loop.invariant.0 c.in-Ok.ensures.bytes.0
    (feeds_ok c.loop.feeder.fault c.loop.feeder c.feed.new.self _ c.in-Ok-feed.frames c.in-Ok-feed.ensures) c.in-Some-post_all.ensures.posted

pub loop-preserved : goal.loop-preserved
loop-preserved g c = (
  reading_next g.A.Served.delivery (g.R.Read.remaining c.args.reader.now) (g.R.Read.remaining c.loop.reader)
      (g.R.Read.remaining c.read.new.self) c.args.seat.now c.loop.seat c.post_all.new.seat c.loop.feeder.held _ c.feed.new.self.held c.in-Ok-feed.frames.items
      c.loop.invariant.0 c.in-Ok.ensures.bytes.0
      (feeds_ok c.loop.feeder.fault c.loop.feeder c.feed.new.self _ c.in-Ok-feed.frames c.in-Ok-feed.ensures) c.in_default-post_all.ensures.posted,
  hands_more g.O.Outbox.got g.A.Served.sent c.args.cell.now.number c.args.seat.now c.loop.seat c.post_all.new.seat c.args.outbox.now c.loop.outbox
      c.post_all.new.outbox c.loop.invariant.1 c.post_all.ensures.handed,
  passes_more g.G.Gate.heard c.args.cell.now.number c.args.seat.now c.loop.seat c.post_all.new.seat c.args.gate.now c.loop.gate
      c.post_all.new.gate [] c.loop.invariant.2
      (all_passed g.G.Gate.heard c.args.cell.now.number c.loop.seat c.post_all.new.seat c.loop.gate c.post_all.new.gate c.in_default-post_all.ensures.passed),
)

pub returns-then-left-eq0-clause-read : goal.returns-then-left-eq0-clause-read
returns-then-left-eq0-clause-read g c =
    ended g.A.Served.delivery (g.R.Read.remaining c.args.reader.now) (g.R.Read.remaining c.read.new.self) c.args.seat.now
    c.post_all.new.seat c.feed.new.self.held End
    (reading_next g.A.Served.delivery (g.R.Read.remaining c.args.reader.now) (g.R.Read.remaining c.loop.reader)
    (g.R.Read.remaining c.read.new.self) c.args.seat.now c.loop.seat c.post_all.new.seat c.loop.feeder.held _ c.feed.new.self.held c.in-Ok-feed.frames.items
    c.loop.invariant.0 c.in-Ok.ensures.bytes.0
    (feeds_ok c.loop.feeder.fault c.loop.feeder c.feed.new.self _ c.in-Ok-feed.frames c.in-Ok-feed.ensures) c.in_default-post_all.ensures.posted)
    ((c.in-Ok.ensures.bytes.1 c.if-got-eq0.true (omega arith)), refl, is_empty c.feed.new.self.held (sym c.held-left.ensures ∙ c.if-left-eq0.true))

pub returns-then-got-eq0-clause-read : goal.returns-then-got-eq0-clause-read
returns-then-got-eq0-clause-read g c =
    ended g.A.Served.delivery (g.R.Read.remaining c.args.reader.now) (g.R.Read.remaining c.read.new.self) c.args.seat.now c.post_all.new.seat
    c.feed.new.self.held (Cut c.held-left.result)
    (reading_next g.A.Served.delivery (g.R.Read.remaining c.args.reader.now) (g.R.Read.remaining c.loop.reader)
    (g.R.Read.remaining c.read.new.self) c.args.seat.now c.loop.seat c.post_all.new.seat c.loop.feeder.held _ c.feed.new.self.held c.in-Ok-feed.frames.items
    c.loop.invariant.0 c.in-Ok.ensures.bytes.0
    (feeds_ok c.loop.feeder.fault c.loop.feeder c.feed.new.self _ c.in-Ok-feed.frames c.in-Ok-feed.ensures) c.in_default-post_all.ensures.posted) (
      (c.in-Ok.ensures.bytes.1 c.if-got-eq0.true (omega arith)),
      refl,
      c.held-left.ensures,
      omega (arith, c.if-left-eq0.false),
      still_short c.loop.feeder.fault c.loop.feeder c.feed.new.self _ c.in-Ok-feed.frames c.in-Ok-feed.ensures (subst IsFed c.feeder.view_is c.feeder.invariant)
          (subst IsFed c.feeder-in-loop.view_is c.feeder-in-loop.invariant) (ap (λ n. take n c.read.new.buf) c.if-got-eq0.true),
    )

pub returns-then-left-eq0-clause-handed : goal.returns-then-left-eq0-clause-handed
returns-then-left-eq0-clause-handed g c =
    hands_more g.O.Outbox.got g.A.Served.sent c.args.cell.now.number c.args.seat.now c.loop.seat c.post_all.new.seat c.args.outbox.now c.loop.outbox
    c.post_all.new.outbox c.loop.invariant.1 c.post_all.ensures.handed

pub returns-then-left-eq0-clause-passed : goal.returns-then-left-eq0-clause-passed
returns-then-left-eq0-clause-passed g c = record {
  last = [];
  ends = refl;
  passes =
      passes_more g.G.Gate.heard c.args.cell.now.number c.args.seat.now c.loop.seat c.post_all.new.seat c.args.gate.now c.loop.gate
      c.post_all.new.gate [] c.loop.invariant.2
      (all_passed g.G.Gate.heard c.args.cell.now.number c.loop.seat c.post_all.new.seat c.loop.gate c.post_all.new.gate c.in_default-post_all.ensures.passed);
}

pub returns-then-got-eq0-clause-handed : goal.returns-then-got-eq0-clause-handed
returns-then-got-eq0-clause-handed g c =
    hands_more g.O.Outbox.got g.A.Served.sent c.args.cell.now.number c.args.seat.now c.loop.seat c.post_all.new.seat c.args.outbox.now c.loop.outbox
    c.post_all.new.outbox c.loop.invariant.1 c.post_all.ensures.handed

pub returns-then-got-eq0-clause-passed : goal.returns-then-got-eq0-clause-passed
returns-then-got-eq0-clause-passed g c = record {
  last = [];
  ends = refl;
  passes =
      passes_more g.G.Gate.heard c.args.cell.now.number c.args.seat.now c.loop.seat c.post_all.new.seat c.args.gate.now c.loop.gate
      c.post_all.new.gate [] c.loop.invariant.2
      (all_passed g.G.Gate.heard c.args.cell.now.number c.loop.seat c.post_all.new.seat c.loop.gate c.post_all.new.gate c.in_default-post_all.ensures.passed);
}

pub returns-in-Err-clause-passed : goal.returns-in-Err-clause-passed
returns-in-Err-clause-passed g c = record {
  last = [];
  ends = subst (λ why. LastRead c.args.cell.now.number why []) (sym c.why_of.ensures) (unread_last c.args.cell.now.number c.in-Err.fault);
  passes = c.loop.invariant.2;
}

pub returns-in-Some-post_all-clause-handed : goal.returns-in-Some-post_all-clause-handed
returns-in-Some-post_all-clause-handed g c =
    hands_more g.O.Outbox.got g.A.Served.sent c.args.cell.now.number c.args.seat.now c.loop.seat c.post_all.new.seat c.args.outbox.now c.loop.outbox
    c.post_all.new.outbox c.loop.invariant.1 c.post_all.ensures.handed

pub returns-in-Some-post_all-clause-passed : goal.returns-in-Some-post_all-clause-passed
returns-in-Some-post_all-clause-passed g c =
    stopped_passes g.G.Gate.heard c.args.cell.now.number c.args.seat.now c.loop.seat c.post_all.new.seat c.args.gate.now c.loop.gate c.post_all.new.gate
    c.in-Some-post_all.why c.loop.invariant.2 c.in-Some-post_all.ensures.passed
