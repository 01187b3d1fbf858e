use Rattle.pvp_text.proofs.BookTextLemmas.{alone, ran-next, written-next, room-next}
use Rattle.pvp_text.proofs.book.run_lines.Goals as goal

pub loop-line-preserved : goal.loop-line-preserved
loop-line-preserved g c =
    let within = c.loop-line-test.true in
    let printed = alone _ _ _ _ c.as_str.ensures.value c.in_ok-push_statement.ensures.printed c.clear.ensures.bytes in
    let after = c.in_ok-push_statement.ensures.after in
    record {
      ran = ran-next _ _ _ c.args.lines.now c.loop-line.line-index _ within c.loop-line.invariant.ran after;
      written = written-next _ _ _ _ c.loop-line.book c.args.lines.now c.loop-line.line-index _ c.as_str.result.now within
          c.loop-line.invariant.ran printed c.loop-line.invariant.written c.in_ok-write_text.ensures.written;
      room = room-next c.loop-line.book c.push_statement.new.book c.args.lines.now c.loop-line.line-index _ within c.loop-line.invariant.room after;
    }
