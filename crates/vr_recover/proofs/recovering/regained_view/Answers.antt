use Rattle.std.proofs.Common.{Some, ap, sym, subst, arith, ◌<◌, ◌∙◌}
use Rattle.vr_recover.proofs.Regains.{senders-same, regained_enough, regained_view_is}
use Rattle.vr_recover.proofs.recovering.regained_view.Goals as goal

pub returns-then-senders-config-clause-only : goal.returns-then-senders-config-clause-only
returns-then-senders-config-clause-only g c = λ regained h.
    let enough = regained_enough c.args.config.f c.args.kept.now regained h in
    absurd (omega (arith, c.senders.ensures, c.if-senders-config.true, enough))

pub returns-clause-enough : goal.returns-clause-enough
returns-clause-enough g c =
    let more : c.args.config.f < c.senders.result = c.if-senders-config.false in
    subst (λ n. c.args.config.f < n) (c.senders.ensures ∙ sym (senders-same c.args.config.f c.args.kept.now)) more

pub returns-clause-only : goal.returns-clause-only
returns-clause-only g c = λ regained h.
    ap (λ view. Some view) (regained_view_is c.args.config.f c.args.kept.now regained h _ c.greatest_view.ensures.above c.greatest_view.ensures.least)
