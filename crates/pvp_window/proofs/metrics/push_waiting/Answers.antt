use Rattle.pvp_text.proofs.BookTextLemmas.{appended}
use Rattle.pvp_window.specs.Metrics.{stream_line}
use Rattle.pvp_window.proofs.Parts.{next_more}
use Rattle.pvp_window.proofs.metrics.push_waiting.Goals as goal

pub loop-stream-preserved : goal.loop-stream-preserved
loop-stream-preserved c =
    appended _ _ _ _ _ _ c.in_ok-push_stream.ensures c.loop-stream.invariant
    (next_more (stream_line c.args.setup.now) c.args.streams.now c.loop-stream.stream-index _ c.loop-stream-test.true)
