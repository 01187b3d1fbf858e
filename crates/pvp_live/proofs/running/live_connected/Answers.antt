use Rattle.pvp_live.proofs.Seating.{keeps_read}
use Rattle.pvp_live.proofs.running.live_connected.Goals as goal

pub returns-clause-tally : goal.returns-clause-tally
returns-clause-tally g c =
    let tally = c.in_ok-seats.ensures.tally in
    record {
      cells = _;
      before = tally.before;
      after = tally.after;
      puts = tally.puts;
      new = tally.new;
      plays = tally.plays;
      kept = λ seat in'. keeps_read g.C.BootCell c.in_ok-seats.field-0.seats.items c.in_ok-close_all.field-0.items c.in_ok-closed.closed.items
          c.in_ok-closed.ensures c.in_ok-close_all.ensures.kept seat (tally.among seat in');
    }
