use Rattle.std.proofs.Common.{IfNone, subst}
use Rattle.pvp_rooms.specs.Verdicts.{HoldOfAll, IsAlone}
use Rattle.pvp_audit.specs.Passed.{PassesSo}
use Rattle.pvp_audit.proofs.Judging.{ended_means}
use Rattle.pvp_audit.proofs.verdict.verdict_of.Goals as goal

pub one_pass-requires-clause-clocks : goal.one_pass-requires-clause-clocks
one_pass-requires-clause-clocks c =
    λ j d is. (subst (λ o. IfNone o (HoldOfAll c.args.closed.now (λ _ e. IsAlone e))) c.in_default.is c.in_ok-actor.ensures.none j d is).clocks

pub returns-in-All-clause-judges : goal.returns-in-All-clause-judges
returns-in-All-clause-judges c =
    let closed = c.args.closed.now in
    let alone = subst (λ o. IfNone o (HoldOfAll closed (λ _ e. IsAlone e))) c.in_default.is c.in_ok-actor.ensures.none in
    ended_means closed c.args.setup.now c.in-All.world (subst (PassesSo c.args.setup.now closed) c.in-All.is c.in_ok-actor-2.ensures) alone
    c.verdict_at_end.result c.verdict_at_end.ensures
