use Rattle.std.proofs.Common.{rules}
use Rattle.std.proofs.lemmas.Fn.{filter_same}
use Rattle.vr_recover.proofs.recovering.learn.Goals as goal

pub returns-clause-current : goal.returns-clause-current
returns-clause-current g c = filter_same _ _ _ (λ x b f' k. search rules) _ _ c.retain.ensures.filtered
