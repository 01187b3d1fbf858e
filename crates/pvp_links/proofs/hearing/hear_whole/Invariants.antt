use Rattle.pvp_links.specs.Hearing.{IsTaking}
use Rattle.pvp_links.proofs.hearing.hear_whole.Given as goal

abbrev pub invariant-loop : goal.invariant-loop
invariant-loop g l = IsTaking g.H.Hearer.got l.fn.link l.link l.fn.intake l.intake l.fn.hearer l.hearer
