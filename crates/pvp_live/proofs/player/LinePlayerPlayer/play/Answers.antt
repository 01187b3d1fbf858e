use Rattle.std.proofs.Common.{ap, ◌∙◌}
use Rattle.pvp_live.specs.Playing.{keeps}
use Rattle.pvp_live.proofs.PlayedLines.{playing_more}
use Rattle.pvp_live.proofs.player.LinePlayerPlayer.play.Goals as goal

pub loop-line-preserved : goal.loop-line-preserved
loop-line-preserved g c = (
  c.line.ensures.cells ∙ c.loop-line.invariant.0,
  c.line.ensures.lines ∙ c.loop-line.invariant.1,
  playing_more g.O.Outbox.got c.args.self.now.cells.now c.args.self.now.lines.now c.loop-line.line-index _ c.loop-line.self.cells.now
      (keeps c.args.self.now.seats.items c.args.self.now.refused) (keeps c.loop-line.self.seats.items c.loop-line.self.refused)
      (keeps c.line.new.self.seats.items c.line.new.self.refused)
      c.args.out.now c.loop-line.out c.line.new.out c.loop-line-test.true (ap (λ s. s.now) c.loop-line.invariant.0)
      c.loop-line.invariant.2 c.line.ensures.posted,
)
