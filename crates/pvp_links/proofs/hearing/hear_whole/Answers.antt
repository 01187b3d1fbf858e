use Rattle.std.proofs.Common.{Option, Some, Ok, subst, sym}
use Rattle.pvp_links.specs.declared.arrival.Piece.{Piece}
use Rattle.pvp_links.specs.Intakes.{TakesNext}
use Rattle.pvp_links.specs.declared.hearing.LinkEnd.{LinkEnd}
use Rattle.pvp_links.specs.declared.link.Link.{Link}
use Rattle.pvp_links.specs.Hearing.{HasTaken, IsTaking}
use Rattle.pvp_links.proofs.HeardOut.{taking_none, wrong, none_more, one_more}
use Rattle.pvp_links.proofs.hearing.hear_whole.Goals as goal

pub loop-init : goal.loop-init
loop-init g c = taking_none g.H.Hearer.got c.args.link.now c.args.intake.now c.args.hearer.now

pub returns-in-Err : goal.returns-in-Err
returns-in-Err g c =
    subst (λ (e : LinkEnd). HasTaken g.H.Hearer.got c.args.link.now c.loop.link c.args.intake.now c.next-in-loop.new.self c.args.hearer.now
    c.loop.hearer (Some e)) (sym c.end_at.ensures)
    (wrong g.H.Hearer.got c.args.link.now c.loop.link c.args.intake.now c.loop.intake c.next-in-loop.new.self c.args.hearer.now c.loop.hearer c.in-Err.fault
    c.loop.invariant c.in-Err.ensures)

pub returns-then-not-hear : goal.returns-then-not-hear
returns-then-not-hear g c = (
  subst (λ (l : Link). IsTaking g.H.Hearer.got c.args.link.now l c.args.intake.now c.next-in-loop.new.self c.args.hearer.now c.hear.new.self)
      (sym c.advance.ensures)
      (one_more g.H.Hearer.got c.args.link.now c.loop.link c.args.intake.now c.loop.intake c.next-in-loop.new.self c.args.hearer.now c.loop.hearer
      c.hear.new.self c.in-Ok-Some.piece c.loop.invariant (subst (λ (o : Option Piece). TakesNext c.loop.link c.loop.intake (Ok o) c.next-in-loop.new.self)
      c.in-Ok-Some.field-0-is c.in-Ok-Some.ensures) c.hear.ensures),
  tt,
)

pub loop-preserved : goal.loop-preserved
loop-preserved g c =
    subst (λ (l : Link). IsTaking g.H.Hearer.got c.args.link.now l c.args.intake.now c.next-in-loop.new.self c.args.hearer.now c.hear.new.self)
    (sym c.advance.ensures)
    (one_more g.H.Hearer.got c.args.link.now c.loop.link c.args.intake.now c.loop.intake c.next-in-loop.new.self c.args.hearer.now c.loop.hearer
    c.hear.new.self c.in-Ok-Some.piece c.loop.invariant (subst (λ (o : Option Piece). TakesNext c.loop.link c.loop.intake (Ok o) c.next-in-loop.new.self)
    c.in-Ok-Some.field-0-is c.in-Ok-Some.ensures) c.hear.ensures)
