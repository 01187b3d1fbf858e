-- The rows that a site keeps: in its log, and in the votes and the responses that it collects.
use Rattle.std.proofs.Common.{◌≡◌, ◌⊎◌, inl, inr, ℕ, ◌<◌, ◌==◌, Bool, true, false, not, if◌then◌else◌, List, [], ◌∷◌, ◌++◌, length, count_by, Some, None, subst, arith}
use Rattle.std.specs.Prelude.{All, Contains}
use Rattle.std.specs.List.{filter}
use Rattle.std.proofs.lemmas.List.Elements.{All-nil, All-push, Contains-append_cases}
use Rattle.vr_types.specs.declared.cell.Boot.{Boot}
use Rattle.vr_types.specs.declared.event.Status.{Status}
use Rattle.vr_types.specs.declared.row.RowOf.{RowOf}
use Rattle.vr_types.specs.Group.{sites}
use Rattle.vr_types.specs.Site.{Start, Vote, Response, Site, over, has_start, has_vote}
use Rattle.vr_types.specs.Choice.{Choice, IsRight}
use Rattle.vr_types.specs.Step.{learns, normal_in, executed_to}
use Rattle.vr_types.specs.Normal.{with_row}
use Rattle.vr_types.specs.Change.{with_start, with_vote, with_voted}
use Rattle.vr_types.specs.Recovery.{with_response}
use Rattle.vr_types.proofs.ChoosingPick.{Contains-cases, Contains-none}
use Rattle.vr_types.specs.Messages.{rows_of_state}
use Rattle.agreement.proofs.Members.{filter-has}
use Rattle.agreement.proofs.Quorums.{quorums_meet}
use Rattle.agreement.proofs.Tests.{found, Found}

-- the rows that a site keeps
pub record Keeps {C : Type 0} (P : RowOf C → Type 0) (x : Site C) : Type 0 where
  pub log : All P x.log
  pub votes : (v : Vote C) → Contains x.collected.votes v → All P v.log
  pub responses : (r : Response C) → Contains x.collected.responses r → All P (rows_of_state r.state)

module _ {C : Type 0} (P : RowOf C → Type 0) where
  pub over_rows : (cell : Boot) (status : Status) → Keeps P (over cell status)
  over_rows cell status = record { log = All-nil P; votes = λ v in'. absurd (Contains-none v in'); responses = λ r in'. absurd (Contains-none r in') }

  -- the picked log is one of those that are kept
  pub picked_rows : (f : ℕ) (choose : Choice C) → IsRight f choose → (x : Site C) → Keeps P x → f < count_by (has_vote x.collected.votes) (sites f)
      → All P (choose.pick x.collected.votes).log
  picked_rows f choose right x h many = h.votes (choose.pick x.collected.votes) (right.pick x.collected.votes some).kept
    where
      one : Found (λ (v : Vote C). v.from == (quorums_meet f (has_vote x.collected.votes) (has_vote x.collected.votes) many many).site) x.collected.votes
      one = found _ x.collected.votes (quorums_meet f (has_vote x.collected.votes) (has_vote x.collected.votes) many many).first

      some : 0 < length x.collected.votes
      some = let low = one.among.1 in omega arith

  module _ (x : Site C) (h : Keeps P x) where
    -- a log is taken
    pub normal_rows : (w k : ℕ) (log : List (RowOf C)) → All P log → Keeps P (executed_to k (normal_in w log x))
    normal_rows w k log all = record { log = all; votes = λ v in'. absurd (Contains-none v in'); responses = λ r in'. absurd (Contains-none r in') }

    pub executed_rows_kept : (k : ℕ) → Keeps P (executed_to k x)
    executed_rows_kept k = record { log = h.log; votes = h.votes; responses = h.responses }

    pub row_kept : (row : RowOf C) → P row → Keeps P (with_row row x)
    row_kept row p = record { log = All-push P x.log row h.log p; votes = h.votes; responses = h.responses }

    pub with_start_rows : (start : Start) → Keeps P (with_start start x)
    with_start_rows start = by_test (has_start x.collected.starts start.from)
      where
        by_test : (b : Bool) → Keeps P (if b then x else record x { collected = record (x.collected) { starts = x.collected.starts ++ start ∷ [] } })
        by_test true = h
        by_test false = record { log = h.log; votes = h.votes; responses = h.responses }

    pub with_vote_rows : (vote : Vote C) → All P vote.log → Keeps P (with_vote vote x)
    with_vote_rows vote all = by_test (has_vote x.collected.votes vote.from)
      where
        this : (v : Vote C) → (vote ≡ v) ⊎ Contains [] v → All P v.log
        this v (inl e) = subst (λ (u : Vote C). All P u.log) e all
        this v (inr none) = absurd (Contains-none v none)

        by_part : (v : Vote C) → Contains x.collected.votes v ⊎ Contains (vote ∷ []) v → All P v.log
        by_part v (inl in') = h.votes v in'
        by_part v (inr in') = this v (Contains-cases vote v [] in')

        by_test : (b : Bool) → Keeps P (if b then x else record x { collected = record (x.collected) { votes = x.collected.votes ++ vote ∷ [] } })
        by_test true = h
        by_test false = record { log = h.log; votes = λ v in'. by_part v (Contains-append_cases x.collected.votes (vote ∷ []) v in'); responses = h.responses }

    pub learns_rows : (told : List ℕ) → Keeps P (learns told x)
    learns_rows told = record {
      log = h.log;
      votes = λ v in'. h.votes v (filter-has _ x.collected.votes v in');
      responses = λ r in'. h.responses r (filter-has _ x.collected.responses r in');
    }

    pub with_voted_rows : Keeps P (with_voted x)
    with_voted_rows = record { log = h.log; votes = h.votes; responses = h.responses }

    pub with_response_rows : (response : Response C) → All P (rows_of_state response.state) → Keeps P (with_response response x)
    with_response_rows response all = record {
      log = h.log;
      votes = h.votes;
      responses = λ r in'. by_part r (Contains-append_cases (filter (λ old. not (old.from == response.from)) x.collected.responses) (response ∷ []) r in');
    }
      where
        this : (r : Response C) → (response ≡ r) ⊎ Contains [] r → All P (rows_of_state r.state)
        this r (inl e) = subst (λ (q : Response C). All P (rows_of_state q.state)) e all
        this r (inr none) = absurd (Contains-none r none)

        by_part : (r : Response C) → Contains (filter (λ old. not (old.from == response.from)) x.collected.responses) r ⊎ Contains (response ∷ []) r
            → All P (rows_of_state r.state)
        by_part r (inl in') = h.responses r (filter-has _ x.collected.responses r in')
        by_part r (inr in') = this r (Contains-cases response r [] in')

    pub state_rows : (b : Bool) → All P (rows_of_state (if b then Some (record { done = x.done; rows = x.log }) else None))
    state_rows true = h.log
    state_rows false = All-nil P
