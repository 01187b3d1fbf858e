use Rattle.std.proofs.Common.{[], sym, ap, ◌∙◌}
use Rattle.vr_types.specs.Recovery.{regains}
use Rattle.vr_types.specs.Step.{does, executed_to, normal_in}
use Rattle.vr_recover.specs.Recovering.{responses_of, recovering_site, recovers_with}
use Rattle.vr_recover.proofs.ProgressLemmas.{nothing_chosen, regained_chosen}
use Rattle.vr_recover.proofs.progress.regain_where_due.Goals as goal

pub returns-in_ok-running-in-Some-clause-step : goal.returns-in_ok-running-in-Some-clause-step
returns-in_ok-running-in-Some-clause-step g c = λ choose acks right.
    let old = c.args.recovering.now in
    let kept = old.responses.items in
    let cell = c.args.boot in
    let view = c.in-Some.view in
    let state = c.in-Some.state in
    let chosen = regained_chosen c.args.config.f choose kept (record { view = view; state = state }) right c.requires.sound.one_each c.in-Some.ensures.some in
    ap (regains (recovering_site old acks cell)) chosen
    ∙ ap (λ x. does x []) (c.in_ok-running-in-Some.ensures.site kept acks cell)

pub returns-in-None-clause-step : goal.returns-in-None-clause-step
returns-in-None-clause-step g c = λ choose acks right.
    let old = c.args.recovering.now in
    let chosen = nothing_chosen c.args.config.f choose (responses_of old.responses.items) right c.in-None.ensures.none in
    ap (regains (recovering_site old acks c.args.boot)) chosen
    ∙ ap (λ now. does (recovers_with old.known now acks c.args.boot) []) (sym c.in-None.ensures.stays)
