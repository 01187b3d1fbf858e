use Rattle.pvp_types.proofs.Lists.{flat_map-range_with_len_more}
use Rattle.pvp_text.proofs.BookTextLemmas.{appended}
use Rattle.pvp_window.specs.Book.{balance_item}
use Rattle.pvp_window.proofs.book.push_balances.Goals as goal

pub loop-c-preserved : goal.loop-c-preserved
loop-c-preserved c =
    appended _ _ _ _ _ _ c.in_ok-push_balance.ensures c.loop-c.invariant
    (flat_map-range_with_len_more (balance_item c.args.book.now c.args.m c.args.member.now) c.loop-c.c)
