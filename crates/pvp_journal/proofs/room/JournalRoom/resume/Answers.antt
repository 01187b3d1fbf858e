use Rattle.pvp_journal.specs.Rooms.{Held, past_of}
use Rattle.pvp_journal.proofs.Batches.{stands}
use Rattle.pvp_journal.proofs.room.JournalRoom.resume.Goals as goal

pub invariant_of-result : goal.invariant_of-result
invariant_of-result g c =
    let held : Held g.row.A-Opening.Denot g.row.A.Denot g.row.A-Outcome.Denot g.row.L.Denot =
    record {
      number = c.args.number;
      opening = c.args.opening;
      actor = c.args.again.actor;
      clock = c.args.again.clock;
      log = c.args.log;
      sum = c.args.sum;
      batch = c.new.result.items;
      waiting = c.new-2.result.items;
    } in (
      past_of c.requires.0 (g.L.Log.seen c.args.log) c.args.sum,
      stands g.A.Actor g.A.Journaled.texts g.L.Log.seen held c.requires.0 c.requires.1 c.new.ensures.items c.new-2.ensures.items,
    )

pub returns-clause-keeps : goal.returns-clause-keeps
returns-clause-keeps g c = λ history again.
    let held : Held g.row.A-Opening.Denot g.row.A.Denot g.row.A-Outcome.Denot g.row.L.Denot =
    record {
      number = c.args.number;
      opening = c.args.opening;
      actor = c.args.again.actor;
      clock = c.args.again.clock;
      log = c.args.log;
      sum = c.args.sum;
      batch = c.new.result.items;
      waiting = c.new-2.result.items;
    } in
    stands g.A.Actor g.A.Journaled.texts g.L.Log.seen held history again c.new.ensures.items c.new-2.ensures.items
