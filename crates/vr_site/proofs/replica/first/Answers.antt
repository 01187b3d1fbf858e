use Rattle.std.proofs.Common.{[], sym, ap, ◌∙◌}
use Rattle.vr_types.specs.Step.{executed_to, normal_in}
use Rattle.vr_recover.specs.Recovering.{recovers_with}
use Rattle.vr_site.proofs.replica.first.Goals as goal

pub returns-clause-site : goal.returns-clause-site
returns-clause-site g c = λ cell.
    let known = c.of_none.result in
    sym (c.in_ok-running.ensures.site [] [] cell) ∙ ap (λ rows. executed_to 0 (normal_in 0 rows (recovers_with known [] [] cell))) c.new.ensures
    ∙ ap (λ k. executed_to 0 (normal_in 0 [] (recovers_with k [] [] cell))) c.of_none.ensures
