use Rattle.pvp_types.proofs.Lists.{flat_map-range_with_len_more}
use Rattle.pvp_text.proofs.BookTextLemmas.{appended}
use Rattle.pvp_window.specs.Book.{entry_item}
use Rattle.pvp_window.proofs.book.push_some_entries.Goals as goal

pub loop-at-preserved : goal.loop-at-preserved
loop-at-preserved c =
    appended _ _ _ _ _ _ c.in_ok-push_entry.ensures c.loop-at.invariant
    (flat_map-range_with_len_more (entry_item c.args.book.now c.args.from) c.loop-at.at)
