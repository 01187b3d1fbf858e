use Rattle.pvp_links.specs.Hearing.{IsHearing}
use Rattle.pvp_links.proofs.hearing.hear_all.Given as goal

abbrev pub invariant-loop : goal.invariant-loop
invariant-loop g l =
    IsHearing g.H.Hearer.got l.fn.link l.at l.fn.held (g.R.Read.remaining l.fn.reader) (g.R.Read.remaining l.reader) l.fn.hearer l.hearer l.intake
