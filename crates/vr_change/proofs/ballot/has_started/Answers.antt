use Rattle.std.proofs.Common.{rules, tests, ◌==◌}
use Rattle.std.proofs.lemmas.Iterator.{YieldsList-from_slice}
use Rattle.std.proofs.lemmas.Iterator.Search.{any_from_yields_List}
use Rattle.std.proofs.Common.{◌∙◌}
use Rattle.vr_log.specs.Running.{start_of}
use Rattle.vr_change.proofs.Ballots.{list_any-map}
use Rattle.vr_change.proofs.ballot.has_started.Goals as goal

pub returns : goal.returns
returns c =
    any_from_yields_List (λ start. start.from == c.args.site) _ _ c.any.result c.any.ensures.ran (YieldsList-from_slice c.args.starts.now cc)
    (λ x b q k. search (rules, tests))
    ∙ list_any-map (λ start. start.from == c.args.site) start_of c.args.starts.now
