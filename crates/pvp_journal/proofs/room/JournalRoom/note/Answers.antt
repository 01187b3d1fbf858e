use Rattle.std.proofs.Common.{◌≡◌, Bool, refl, sym, subst}
use Rattle.pvp_rooms.specs.Runs.{Follows}
use Rattle.pvp_rooms.specs.Histories.{Takes}
use Rattle.pvp_journal.specs.Rooms.{Held, Keeps, NotedOne, Past, unstamped_record, with_pending}
use Rattle.pvp_journal.proofs.Going.{noted_one}
use Rattle.pvp_journal.proofs.room.JournalRoom.note.Goals as goal

pub invariant_of-ahead : goal.invariant_of-ahead
invariant_of-ahead g c =
    let m = g.A.Actor in
    let at = c.ahead.inside in
    let held : Held g.row.A-Opening.Denot g.row.A.Denot g.row.A-Outcome.Denot g.row.L.Denot =
    record {
      number = at.number;
      opening = at.opening;
      actor = at.actor;
      clock = at.clock;
      log = at.log;
      sum = at.sum;
      batch = at.batch.items;
      waiting = at.waiting.items;
    } in
    let kept = c.ahead.invariant in
    let P : Bool → m.State → Type 0 = λ can x. Follows m.comes m.after x c.args.event c.args.outcome (m.shows c.follow.new.self) can in (
      with_pending kept.0 (unstamped_record c.args.event c.in-Some.next c.args.outcome),
      rw (c.push_reserved.ensures.items, c.reserve.ensures.items, c.in_ok-ahead-inside.ensures.sum, c.in_ok-ahead-inside.ensures.written)
          (noted_one m g.A.Journaled.texts g.L.Log.seen held c.follow.new.self c.args.event c.in-Some.next c.args.outcome
          (λ x shows. subst (λ can. P can x) c.if-not-branch.false (c.in_ok-follow.ensures.step x shows))
          c.in_ok-follow.ensures.opens (sym c.in-Some.ensures) kept.0 kept.1),
    )

pub returns : goal.returns
returns g c =
    let m = g.A.Actor in
    let at = c.ahead.inside in
    let held : Held g.row.A-Opening.Denot g.row.A.Denot g.row.A-Outcome.Denot g.row.L.Denot =
    record {
      number = at.number;
      opening = at.opening;
      actor = at.actor;
      clock = at.clock;
      log = at.log;
      sum = at.sum;
      batch = at.batch.items;
      waiting = at.waiting.items;
    } in
    let new : Held g.row.A-Opening.Denot g.row.A.Denot g.row.A-Outcome.Denot g.row.L.Denot =
    record {
      number = at.number;
      opening = at.opening;
      actor = c.follow.new.self;
      clock = c.in-Some.next;
      log = at.log;
      sum = c.in_ok-ahead-inside.field-0;
      batch = c.write.new.out.items;
      waiting = c.push_reserved.new.self.items;
    } in
    let P : Bool → m.State → Type 0 = λ can x. Follows m.comes m.after x c.args.event c.args.outcome (m.shows c.follow.new.self) can in
    let step : (x : m.State) → m.shows at.actor x → Takes m.comes m.after x c.args.event c.args.outcome (m.shows c.follow.new.self) =
    λ x shows. subst (λ can. P can x) c.if-not-branch.false (c.in_ok-follow.ensures.step x shows) in
    let one : NotedOne m g.A.Journaled.texts g.L.Log.seen c.args.event c.args.outcome held new = record {
      number = refl;
      opening = refl;
      log = refl;
      next = sym c.in-Some.ensures;
      step = step;
      keeps = λ past kept.
          rw (c.push_reserved.ensures.items, c.reserve.ensures.items, c.in_ok-ahead-inside.ensures.sum, c.in_ok-ahead-inside.ensures.written)
          (noted_one m g.A.Journaled.texts g.L.Log.seen held c.follow.new.self c.args.event c.in-Some.next c.args.outcome
          step c.in_ok-follow.ensures.opens (sym c.in-Some.ensures) past kept);
    } in
    subst (λ old. NotedOne m g.A.Journaled.texts g.L.Log.seen c.args.event c.args.outcome old new) c.ahead.view_is one
