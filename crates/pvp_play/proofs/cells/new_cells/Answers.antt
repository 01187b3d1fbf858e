use Rattle.std.proofs.Common.{◌+◌, length, length-append, ap, ◌∙◌, rules}
use Rattle.pvp_play.proofs.CellsLemmas.{cells-more, armed-none, armed-more}
use Rattle.pvp_play.proofs.cells.new_cells.Goals as goal

pub loop-site-init : goal.loop-site-init
loop-site-init c = record { new = search rules; count = search rules; armed = armed-none c.args.fails.now c.new-cells.result.items c.new-cells.ensures.items }

pub loop-site-preserved : goal.loop-site-preserved
loop-site-preserved c =
    let pushed = c.in_ok-push.ensures.items in
    record {
      new =
          cells-more c.loop-site.cells.items c.push.new.self.items c.loop-site.site c.new_cell.result pushed c.new_cell.ensures.held c.loop-site.invariant.new;
      count = ap length pushed ∙ length-append c.loop-site.cells.items _ ∙ ap (λ n. n + 1) c.loop-site.invariant.count;
      armed =
          armed-more c.args.fails.now c.loop-site.cells.items c.push.new.self.items c.loop-site.site c.new_cell.result pushed c.loop-site.invariant.count
          c.new_cell.ensures c.loop-site.invariant.armed;
    }
