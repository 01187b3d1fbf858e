use Rattle.std.proofs.Common.{List, ℕ, Bor}
use Rattle.pvp_text.proofs.BookTextLemmas.{appended}
use Rattle.pvp_window.specs.Neighbours.{name_item}
use Rattle.pvp_window.proofs.Parts.{one_shown_more}
use Rattle.pvp_window.proofs.window.push_names.Goals as goal

pub loop-at-preserved : goal.loop-at-preserved
loop-at-preserved c =
    appended _ _ _ _ _ _ c.in_ok-push_item.ensures c.loop-at.invariant
    (one_shown_more name_item (λ (name : Bor (List ℕ)). name.now) c.args.names.now c.loop-at.at _ c.loop-at-test.true)
