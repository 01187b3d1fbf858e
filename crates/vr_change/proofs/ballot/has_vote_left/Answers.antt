use Rattle.std.proofs.Common.{rules, tests, ◌==◌, ◌&&◌, ◌∙◌}
use Rattle.std.proofs.lemmas.Iterator.{YieldsList-from_slice}
use Rattle.std.proofs.lemmas.Iterator.Search.{any_from_yields_List}
use Rattle.vr_log.specs.Running.{vote_of}
use Rattle.vr_change.specs.Ballot.{is_left}
use Rattle.vr_change.proofs.Ballots.{list_any-map}
use Rattle.vr_change.proofs.Left.{list_any-filter}
use Rattle.vr_change.proofs.ballot.has_vote_left.Goals as goal

pub returns : goal.returns
returns g c =
    let known = c.args.running.now.known in
    let told = c.args.told.now in
    let votes = c.args.running.now.votes.items in
    any_from_yields_List (λ vote. (vote.from == c.args.site) && is_left known told vote.from vote.known) _ _ c.any.result c.any.ensures.ran
    (YieldsList-from_slice votes cc) (λ x b q k. search (rules, tests))
    ∙ list_any-map (λ vote. (vote.from == c.args.site) && is_left known told vote.from vote.known) vote_of votes
    ∙ list_any-filter (λ vote. vote.from == c.args.site) (λ vote. is_left known told vote.from vote.known) _
