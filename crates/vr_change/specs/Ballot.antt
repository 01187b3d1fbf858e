-- The messages that a change of view collects, with the one that came.
use Rattle.std.specs.Prelude.{ℕ, ◌==◌, ◌&&◌, ◌||◌, Bool, true, not, nat_lt, List, filter, slice_get, Option, Some, None, [], ◌∷◌, ◌++◌, length, if◌then◌else◌}
use Rattle.vr_types.specs.Site.{Start, Vote, has_start, has_vote}
use Rattle.vr_types.specs.Step.{greater, is_outdated}
use Rattle.vr_change.specs.declared.ballot.Claim.{Claim}

-- the STARTVIEWCHANGEs, with the one that came where it is the first of its site
abbrev pub with_starter : List Start → Start → List Start
with_starter starts start = if has_start starts start.from then starts else starts ++ start ∷ []

-- the votes, with the one that came where it is the first of its site
abbrev pub with_ballot : {C : Type 0} → List (Vote C) → Vote C → List (Vote C)
with_ballot votes vote = if has_vote votes vote.from then votes else votes ++ vote ∷ []

-- whether a message is left as a site with these boot numbers learns what was told: it is not outdated then
abbrev pub is_left : List ℕ → List ℕ → ℕ → List ℕ → Bool
is_left known told from sent = not (is_outdated (greater known told) from sent)

-- the STARTVIEWCHANGEs that are left
abbrev pub starts_left : List ℕ → List ℕ → List Start → List Start
starts_left known told starts = filter (λ start. is_left known told start.from start.known) starts

-- the votes that are left
abbrev pub votes_left : {C : Type 0} → List ℕ → List ℕ → List (Vote C) → List (Vote C)
votes_left known told votes = filter (λ vote. is_left known told vote.from vote.known) votes

-- what decides between a vote and others
abbrev pub claim : {C : Type 0} → Vote C → Claim
claim vote = record { from = vote.from; last_normal = vote.last_normal; rows = length vote.log }

-- a vote of the first claim goes before one of the second
abbrev pub claims_before : Claim → Claim → Bool
claims_before a b =
    nat_lt b.last_normal a.last_normal
    || ((a.last_normal == b.last_normal) && (nat_lt b.rows a.rows
    || ((a.rows == b.rows) && nat_lt a.from b.from)))

-- the vote at an index, where there is an index
abbrev pub vote_at : {C : Type 0} → List (Vote C) → Option ℕ → Option (Vote C)
vote_at votes None = None
vote_at votes (Some at) = slice_get votes at

-- a vote goes before the best so far, where there is one
abbrev pub goes_past : {C : Type 0} → Vote C → Option (Vote C) → Bool
goes_past vote None = true
goes_past vote (Some best) = claims_before (claim vote) (claim best)
