use Rattle.pvp_types.proofs.Lists.{flat_map-range_with_len_more}
use Rattle.pvp_text.proofs.BookTextLemmas.{appended}
use Rattle.pvp_window.specs.Book.{queue_item}
use Rattle.pvp_window.proofs.book.push_queue.Goals as goal

pub loop-at-preserved : goal.loop-at-preserved
loop-at-preserved c =
    appended _ _ _ _ _ _ c.in_ok-push_queued.ensures c.loop-at.invariant
    (flat_map-range_with_len_more (queue_item c.args.book.now) c.loop-at.at)
