use Rattle.std.proofs.Common.{List, [], refl, sym, ap, subst, append-nil}
use Rattle.std.specs.Vec.Iter.{into_iter_items}
use Rattle.pvp_rooms.specs.declared.message.Recorded.{Recorded}
use Rattle.pvp_rooms.specs.Seats.{Held}
use Rattle.pvp_links.specs.Peers.{IsPosting}
use Rattle.pvp_links.specs.Puts.{refusal_passages, spent_passages}
use Rattle.pvp_links.proofs.Streams.{posting_next, hands_none, hands_more, hands_same, hands_one, passes_none, passes_more, passes_one, passes_last}
use Rattle.pvp_links.proofs.peer.post_all.Goals as goal

pub loop-frame-init : goal.loop-frame-init
loop-frame-init g c = (
  tt,
  tt,
  record {
    gained = [];
    seat = ap (λ (l : List (Recorded _ _)). let t : Held _ _ = record c.args.seat.now { receipts = l } in t) (sym (append-nil c.args.seat.now.receipts));
    posted = [];
    frames_are = sym c.into_iter-frame-iterator.ensures.into_iter_gives.0;
    receipts = tt;
  },
  hands_none g.O.Outbox.got g.A.Served.sent c.args.cell.now.number c.args.seat.now c.args.outbox.now,
  passes_none g.G.Gate.heard c.args.cell.now.number c.args.seat.now c.args.gate.now,
)

pub loop-frame-preserved : goal.loop-frame-preserved
loop-frame-preserved g c =
    let d = g.A.Served.delivery in
    let n = c.args.cell.now.number in
    let p = subst (IsPosting d c.args.frames.items c.args.seat.now c.loop-frame.seat) c.in-Some.ensures.steps.0 c.loop-frame.invariant.2 in (
      tt,
      tt,
      posting_next d c.args.frames.items c.args.seat.now c.loop-frame.seat c.post.new.seat c.in-Some.frame
          (into_iter_items c.next.new.self) _ p c.in-Done.ensures.receipts (record { event = c.deliver.ensures; stamp = refl }),
      hands_more g.O.Outbox.got g.A.Served.sent n c.args.seat.now c.loop-frame.seat c.post.new.seat c.args.outbox.now c.loop-frame.outbox
          c.put.new.self c.loop-frame.invariant.3
          (hands_one g.O.Outbox.got g.A.Served.sent n c.loop-frame.seat c.post.new.seat _ c.loop-frame.outbox c.put.new.self _ c.in-Done.ensures.receipts
          (λ i. record { actor = c.number.ensures i; clock = c.in-Done.clock; sent = c.sent_envelopes.ensures i }) c.put.ensures),
      passes_more g.G.Gate.heard n c.args.seat.now c.loop-frame.seat c.post.new.seat c.args.gate.now c.loop-frame.gate c.post.new.gate
          [] c.loop-frame.invariant.4
          (passes_one g.G.Gate.heard n c.loop-frame.seat c.post.new.seat _ c.loop-frame.gate c.post.new.gate c.in-Done.ensures.receipts
          c.in-Done.ensures.passed),
    )

pub returns-in-NoMemory-clause-handed : goal.returns-in-NoMemory-clause-handed
returns-in-NoMemory-clause-handed g c =
    let n = c.args.cell.now.number in
    hands_more g.O.Outbox.got g.A.Served.sent n c.args.seat.now c.loop-frame.seat c.post.new.seat c.args.outbox.now c.loop-frame.outbox
    c.loop-frame.outbox c.loop-frame.invariant.3
    (hands_same g.O.Outbox.got g.A.Served.sent n c.loop-frame.seat c.post.new.seat c.loop-frame.outbox c.in-NoMemory.ensures.receipts)

pub returns-in-NoMemory-clause-passed : goal.returns-in-NoMemory-clause-passed
returns-in-NoMemory-clause-passed g c =
    let n = c.args.cell.now.number in
    record {
      last = refusal_passages n;
      ends = refl;
      passes =
          passes_more g.G.Gate.heard n c.args.seat.now c.loop-frame.seat c.post.new.seat c.args.gate.now c.loop-frame.gate c.post.new.gate
          (refusal_passages n) c.loop-frame.invariant.4
          (passes_last g.G.Gate.heard n c.loop-frame.seat c.post.new.seat c.loop-frame.gate c.post.new.gate
          (refusal_passages n) c.in-NoMemory.ensures.receipts c.in-NoMemory.ensures.passed);
    }

pub returns-in-ClockSpent-clause-handed : goal.returns-in-ClockSpent-clause-handed
returns-in-ClockSpent-clause-handed g c =
    let n = c.args.cell.now.number in
    hands_more g.O.Outbox.got g.A.Served.sent n c.args.seat.now c.loop-frame.seat c.post.new.seat c.args.outbox.now c.loop-frame.outbox
    c.loop-frame.outbox c.loop-frame.invariant.3
    (hands_same g.O.Outbox.got g.A.Served.sent n c.loop-frame.seat c.post.new.seat c.loop-frame.outbox c.in-ClockSpent.ensures.receipts)

pub returns-in-ClockSpent-clause-passed : goal.returns-in-ClockSpent-clause-passed
returns-in-ClockSpent-clause-passed g c =
    let n = c.args.cell.now.number in
    record {
      last = spent_passages n;
      ends = refl;
      passes =
          passes_more g.G.Gate.heard n c.args.seat.now c.loop-frame.seat c.post.new.seat c.args.gate.now c.loop-frame.gate c.post.new.gate
          (spent_passages n) c.loop-frame.invariant.4
          (passes_last g.G.Gate.heard n c.loop-frame.seat c.post.new.seat c.loop-frame.gate c.post.new.gate
          (spent_passages n) c.in-ClockSpent.ensures.receipts c.in-ClockSpent.ensures.passed);
    }
