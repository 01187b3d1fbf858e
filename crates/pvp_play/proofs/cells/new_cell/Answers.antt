use Rattle.std.proofs.Common.{sym, ap, ◌∙◌}
use Rattle.pvp_play.proofs.CellsLemmas.{before_at, armed-so, armed-not}
use Rattle.pvp_play.proofs.cells.new_cell.Goals as goal

pub returns-in-Some : goal.returns-in-Some
returns-in-Some c =
    armed-so c.args.fails.now c.args.site c.in-Some.fail c.failing.result (sym c.fail_of.ensures ∙ c.in-Some.is) c.failing.ensures.held c.failing.ensures.faults
    (c.failing.ensures.before_fault ∙ ap (λ n. before_at n) c.from.ensures) c.failing.ensures.keeps

pub returns-in-None : goal.returns-in-None
returns-in-None c =
    armed-not c.args.fails.now c.args.site c.new.result (sym c.fail_of.ensures ∙ c.in-None.is) c.new.ensures.held c.new.ensures.faults c.new.ensures.reliable
