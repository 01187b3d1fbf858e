use Rattle.std.proofs.Common.{inl, inr}
use Rattle.pvp_live.proofs.running.run.Goals as goal

pub returns-clause-tally : goal.returns-clause-tally
returns-clause-tally g c =
    let played = c.serve_streams.ensures.played in
    record {
      before = c.args.own.items;
      after = c.serve_streams.new.player.seats.items;
      puts = played.puts;
      new = c.requires;
      plays = played.played;
      among = λ seat in'. c.in_ok-give_back-2.ensures.back seat (inl (c.in_ok-give_back.ensures.back seat (inr in')));
    }
