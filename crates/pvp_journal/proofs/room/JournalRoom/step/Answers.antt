use Rattle.std.proofs.Common.{◌≡◌, Err, ap, sym, subst}
use Rattle.std.proofs.lemmas.Result.{err_from_is_err_and}
use Rattle.pvp_journal.specs.declared.fault.WriteFault.TheVariants.{Unfit}
use Rattle.pvp_rooms.specs.Rooms.{Took, receipt}
use Rattle.pvp_journal.specs.Rooms.{HasNoText, Held, Keeps, TookOne, shown_room, with_pending}
use Rattle.pvp_journal.proofs.Batches.{taken}
use Rattle.pvp_journal.proofs.room.JournalRoom.step.Goals as goal

pub invariant_of-room-2 : goal.invariant_of-room-2
invariant_of-room-2 g c =
    let at = c.room.inside in
    let held : Held g.row.A-Opening.Denot g.row.A.Denot g.row.A-Outcome.Denot g.row.L.Denot =
    record {
      number = at.number;
      opening = at.opening;
      actor = at.actor;
      clock = at.clock;
      log = at.log;
      sum = at.sum;
      batch = at.batch.items;
      waiting = at.waiting.items;
    } in
    let kept = c.room.invariant in
    let outcome = c.take.result in (
      with_pending kept.0 (receipt c.args.input c.in-Some.clock outcome),
      rw (c.push_reserved.ensures.items, c.reserve.ensures.items, c.in_ok-room-inside.ensures.sum, c.in_ok-room-inside.ensures.written, c.in-Ok.ensures.copy)
          (taken g.A.Actor g.A.Journaled.texts g.L.Log.seen held c.take.new.self c.args.input c.in-Some.clock outcome kept.0 kept.1
          (record { step = c.take.ensures.step; opens = c.take.ensures.opens; told = c.take.ensures.told }) (sym c.in-Some.ensures)).1,
    )

pub returns-clause-ok : goal.returns-clause-ok
returns-clause-ok g c = λ past keeps.
    let at = c.room.inside in
    let held : Held g.row.A-Opening.Denot g.row.A.Denot g.row.A-Outcome.Denot g.row.L.Denot =
    record {
      number = at.number;
      opening = at.opening;
      actor = at.actor;
      clock = at.clock;
      log = at.log;
      sum = at.sum;
      batch = at.batch.items;
      waiting = at.waiting.items;
    } in
    let new : Held g.row.A-Opening.Denot g.row.A.Denot g.row.A-Outcome.Denot g.row.L.Denot =
    record {
      number = at.number;
      opening = at.opening;
      actor = c.take.new.self;
      clock = c.in-Some.clock;
      log = at.log;
      sum = c.in_ok-room-inside.field-0;
      batch = c.write.new.out.items;
      waiting = c.push_reserved.new.self.items;
    } in
    let kept = subst (λ room. Keeps g.A.Actor g.A.Journaled.texts g.L.Log.seen room past) (sym c.room.view_is) keeps in
    let outcome = c.take.result in
    let r = receipt c.args.input c.in-Some.clock outcome in
    let both : Took g.A.Actor c.args.input (shown_room held past) (shown_room new (with_pending past r)) c.in-Some.clock outcome
    × Keeps g.A.Actor g.A.Journaled.texts g.L.Log.seen new (with_pending past r) =
    rw (c.push_reserved.ensures.items, c.reserve.ensures.items, c.in_ok-room-inside.ensures.sum, c.in_ok-room-inside.ensures.written, c.in-Ok.ensures.copy)
    (taken g.A.Actor g.A.Journaled.texts g.L.Log.seen held c.take.new.self c.args.input c.in-Some.clock outcome past kept
    (record { step = c.take.ensures.step; opens = c.take.ensures.opens; told = c.take.ensures.told }) (sym c.in-Some.ensures)) in
    subst (λ room. TookOne g.A.Actor g.A.Journaled.texts g.L.Log.seen c.args.input room new past c.in-Some.clock) c.room.view_is (outcome, both.0, both.1)

-- src/room.rt
pub returns-in_err-room-inside-clause-unfit : goal.returns-in_err-room-inside-clause-unfit
returns-in_err-room-inside-clause-unfit g c = λ told.
    let at = c.room.inside in
    let held : Held g.row.A-Opening.Denot g.row.A.Denot g.row.A-Outcome.Denot g.row.L.Denot =
    record {
      number = at.number;
      opening = at.opening;
      actor = at.actor;
      clock = at.clock;
      log = at.log;
      sum = at.sum;
      batch = at.batch.items;
      waiting = at.waiting.items;
    } in
    let outcome = c.take.result in
    let clock = c.in-Some.clock in
    let p = err_from_is_err_and c.from_residual.result c.from_residual.ensures.1 in
    let is : c.in_err-room-inside.field-0.0 ≡ Unfit = cc (told, p.1, p.2) in
    subst (λ room. HasNoText g.A.Actor g.A.Journaled.fits c.args.input room) c.room.view_is (
      clock,
      outcome,
      sym c.in-Some.ensures,
      λ x shows. (c.take.ensures.step x shows).0,
      λ fits. c.in_err-room-inside.ensures.unfit (ap Err is)
          (subst (λ event. g.A.Journaled.fits at.number (record { event = event; stamp = c.args.input.stamp; clock = clock; outcome = outcome }))
          (sym c.in-Ok.ensures.copy) fits),
    )
