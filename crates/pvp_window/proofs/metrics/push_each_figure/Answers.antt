use Rattle.pvp_types.proofs.Lists.{flat_map-range_with_len_more}
use Rattle.pvp_text.proofs.BookTextLemmas.{appended}
use Rattle.pvp_window.specs.Metrics.{figure_line}
use Rattle.pvp_window.proofs.metrics.push_each_figure.Goals as goal

pub loop-c-preserved : goal.loop-c-preserved
loop-c-preserved c =
    appended _ _ _ _ _ _ c.in_ok-push_figure_line.ensures c.loop-c.invariant
    (flat_map-range_with_len_more (figure_line c.args.book.now) c.loop-c.c)
