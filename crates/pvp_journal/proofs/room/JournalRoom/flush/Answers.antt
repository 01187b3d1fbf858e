use Rattle.std.proofs.Common.{◌≡◌, sym, ap, ◌∙◌, subst}
use Rattle.pvp_journal.specs.Log.{with_more}
use Rattle.pvp_journal.specs.Rooms.{Held, Keeps, Past, all_written}
use Rattle.pvp_journal.proofs.Batches.{flushed}
use Rattle.pvp_journal.proofs.room.JournalRoom.flush.Goals as goal

pub invariant_of-room : goal.invariant_of-room
invariant_of-room g c =
    let at = c.self.inside in
    let held : Held g.row.A-Opening.Denot g.row.A.Denot g.row.A-Outcome.Denot g.row.L.Denot =
    record {
      number = at.number;
      opening = at.opening;
      actor = at.actor;
      clock = at.clock;
      log = at.log;
      sum = at.sum;
      batch = at.batch.items;
      waiting = at.waiting.items;
    } in
    let kept = c.self.invariant in
    let log = c.write_batch.new.log in
    let appended = c.in_ok-write_batch.ensures.seen ∙ ap (with_more (g.L.Log.seen at.log)) c.as_slice.ensures.value in
    (all_written kept.0, rw (c.new.ensures.items, c.new-2.ensures.items) (flushed g.A.Actor g.A.Journaled.texts g.L.Log.seen held log kept.0 kept.1 appended))

pub returns-clause-flushes : goal.returns-clause-flushes
returns-clause-flushes g c = λ past keeps.
    let at = c.self.inside in
    let held : Held g.row.A-Opening.Denot g.row.A.Denot g.row.A-Outcome.Denot g.row.L.Denot =
    record {
      number = at.number;
      opening = at.opening;
      actor = at.actor;
      clock = at.clock;
      log = at.log;
      sum = at.sum;
      batch = at.batch.items;
      waiting = at.waiting.items;
    } in
    let kept = subst (λ room. Keeps g.A.Actor g.A.Journaled.texts g.L.Log.seen room past) (sym c.self.view_is) keeps in
    let log = c.write_batch.new.log in
    let appended = c.in_ok-write_batch.ensures.seen ∙ ap (with_more (g.L.Log.seen at.log)) c.as_slice.ensures.value in
    (kept.waiting, rw (c.new.ensures.items, c.new-2.ensures.items) (flushed g.A.Actor g.A.Journaled.texts g.L.Log.seen held log past kept appended))
