use Rattle.std.proofs.Common.{rules, tests, ◌==◌, ◌&&◌, ◌∙◌}
use Rattle.std.proofs.lemmas.Iterator.{YieldsList-from_slice}
use Rattle.std.proofs.lemmas.Iterator.Search.{any_from_yields_List}
use Rattle.vr_log.specs.Running.{start_of}
use Rattle.vr_change.specs.Ballot.{is_left}
use Rattle.vr_change.proofs.Ballots.{list_any-map}
use Rattle.vr_change.proofs.Left.{list_any-filter}
use Rattle.vr_change.proofs.ballot.has_start_left.Goals as goal

pub returns : goal.returns
returns g c =
    let known = c.args.running.now.known in
    let told = c.args.told.now in
    let starts = c.args.running.now.starts.items in
    any_from_yields_List (λ start. (start.from == c.args.site) && is_left known told start.from start.known) _ _ c.any.result c.any.ensures.ran
    (YieldsList-from_slice starts cc) (λ x b q k. search (rules, tests))
    ∙ list_any-map (λ start. (start.from == c.args.site) && is_left known told start.from start.known) start_of starts
    ∙ list_any-filter (λ start. start.from == c.args.site) (λ start. is_left known told start.from start.known) _
