use Rattle.std.proofs.Common.{List, min, ap, ◌∙◌, arith}
use Rattle.std.specs.Prelude.{sum_by}
use Rattle.rtgs_node.specs.Shown.{ShownNode}
use Rattle.pvp_world.specs.Progress.{unanswered_count}
use Rattle.pvp_world.proofs.GoingOn.{open_at, one_more}
use Rattle.pvp_world.proofs.Many.{take-whole}
use Rattle.pvp_world.proofs.world.World.unanswered_count.Goals as goal

pub loop-node-preserved : goal.loop-node-preserved
loop-node-preserved g c =
    let same = c.min-count.ensures in (
      omega (arith, same),
      same ∙ one_more c.deref-node-items.result.now c.loop-node.node-index c.node-item.result c.loop-node.count c.unanswered_count.result
          65536 c.loop-node-test.true
          c.node-item.is c.unanswered_count.ensures.count c.loop-node.invariant.1,
    )

pub returns : goal.returns
returns g c =
    c.loop-node.invariant.1
    ∙ (ap (λ (xs : List ShownNode). min (sum_by open_at xs) 65536)
    (take-whole c.deref-node-items.result.now c.loop-node.node-index c.loop-node-test.false ∙ c.deref-node-items.ensures.value)
    ∙ ap (λ v. min (unanswered_count v) 65536) c.self.view_is)
