use Rattle.pvp_text.proofs.BookTextLemmas.{appended}
use Rattle.pvp_window.specs.Status.{stream_item}
use Rattle.pvp_window.proofs.Parts.{one_more}
use Rattle.pvp_window.proofs.seen.push_streams.Goals as goal

pub loop-at-preserved : goal.loop-at-preserved
loop-at-preserved c =
    appended _ _ _ _ _ _ c.in_ok-push_stream.ensures c.loop-at.invariant
    (one_more (stream_item c.args.setup.now) c.args.streams.now c.loop-at.at _ c.loop-at-test.true)
