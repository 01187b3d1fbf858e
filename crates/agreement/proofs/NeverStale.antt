-- No log with which a view opens is ever stale: it begins with what the site has executed.
use Rattle.std.proofs.Common.{◌≡◌, ◌⊎◌, inl, inr, ℕ, ◌<◌, ◌≤◌, Bool, true, false, ◌&&◌, ◌==◌, List, [], ◌∷◌, length, take, count_by, refl, subst, arith}
use Rattle.std.specs.Prelude.{Contains}
use lib.Pointwise.{pointwise}
use Rattle.std.proofs.lemmas.Bool.{cases_lt}
use Rattle.vr_types.specs.declared.event.Status.TheVariants.{Change}
use Rattle.vr_types.specs.declared.row.RowOf.{RowOf}
use Rattle.vr_types.specs.Rows.{is_same_row}
use Rattle.vr_types.specs.Group.{sites, primary}
use Rattle.vr_types.specs.Site.{Site, Vote, has_vote}
use Rattle.vr_types.specs.Choice.{Choice, IsPick, IsRight}
use Rattle.vr_types.specs.Step.{begins_with_executed}
use Rattle.vr_types.specs.Change.{ballot}
use Rattle.vr_types.proofs.ChoosingPick.{not_before, IsNotBefore}
use Rattle.agreement.specs.Promises.{Begins}
use Rattle.agreement.proofs.Beginnings.{begins_is_take}
use Rattle.agreement.proofs.Quorums.{quorums_meet}
use Rattle.agreement.proofs.Histories.{History}
use Rattle.agreement.proofs.PreparedRows.{IsUpto}
use Rattle.agreement.proofs.VotesCover.{IsVote}
use Rattle.agreement.proofs.Standing.{StandsRunning}
use Rattle.agreement.proofs.Elections.{IsElector}
use Rattle.agreement.proofs.Invariant.{Holds}
use Rattle.agreement.proofs.Facts.{both_are}
use Rattle.agreement.proofs.Opens.{begins_executed}
use Rattle.agreement.proofs.Tests.{eq_of, eq_test, change_runs, found, Found}

module _ {C : Type 0} (f : ℕ) (choose : Choice C) (right : IsRight f choose) where
  row_itself : (r : RowOf C) → is_same_row choose.same r r ≡ true
  row_itself r =
      by_tests (r.client == r.client) (r.number == r.number) (choose.same r.cmd r.cmd) (eq_test r.client r.client refl) (eq_test r.number r.number refl)
      ((right.same r.cmd r.cmd).1 refl)
    where
      by_tests : (a b c : Bool) → a ≡ true → b ≡ true → c ≡ true → (a && (b && c)) ≡ true
      by_tests true true c e d h = h
      by_tests true false c e d h = d
      by_tests false b c e d h = e

  rows_themselves : (xs : List (RowOf C)) → pointwise (is_same_row choose.same) xs xs ≡ true
  rows_themselves [] = refl
  rows_themselves (x ∷ xs) = both_are _ _ (row_itself x) (rows_themselves xs)

  -- a log that begins with these rows passes the test
  pub begins_passes : (x : Site C) (log : List (RowOf C)) → Begins (take x.done x.log) log → begins_with_executed choose.same x log ≡ true
  begins_passes x log b =
      subst (λ (l : List (RowOf C)). pointwise (is_same_row choose.same) (take x.done x.log) l ≡ true) (begins_is_take b) (rows_themselves (take x.done x.log))

  -- the log of the vote that is picked
  module _ {R O : Type 0} (g : History C R O) (s : ℕ → Site C) (me : ℕ) (holds : Holds f g s) (change : (s me).status ≡ Change)
      (leads : me ≡ primary f (s me).view)
      (many : f < count_by (has_vote (s me).collected.votes) (sites f)) where
    abbrev votes : List (Vote C)
    votes = (s me).collected.votes

    run : StandsRunning f g me (s me)
    run = (holds.sites me).running (change_runs _ change)

    one : Found (λ (v : Vote C). v.from == (quorums_meet f (has_vote votes) (has_vote votes) many many).site) votes
    one = found _ votes (quorums_meet f (has_vote votes) (has_vote votes) many many).first

    abbrev pick : Vote C
    pick = choose.pick votes

    is_pick : IsPick votes pick
    is_pick = right.pick votes (let low = one.among.1 in omega arith)

    good : (v : Vote C) → Contains votes v → IsVote f g v.from (ballot (s me).view v)
    good v in' = holds.said _ _ _ (run.votes change v in').1

    upto_of : (v n u m : ℕ) → v ≤ u → (v ≡ u → n ≤ m) → IsUpto v n u m
    upto_of v n u m h k = by_case (cases_lt v u)
      where
        by_case : (v < u) ⊎ (u ≤ v) → IsUpto v n u m
        by_case (inl l) = inl l
        by_case (inr l) = inr (let e : v ≡ u = omega arith in e, k (omega arith))

    elector : (j : ℕ) → Found (λ (v : Vote C). v.from == j) votes → IsElector g (s me).view pick.last_normal (length pick.log) j
    elector j x =
        let t = run.votes change x.item x.among in
        let n : IsNotBefore x.item pick = not_before x.item pick (is_pick.first x.item x.among) in
        subst (λ (i : ℕ). IsElector g (s me).view pick.last_normal (length pick.log) i) (eq_of x.item.from j x.passes)
        (record {
          to = t.0;
          u = x.item.last_normal;
          k = x.item.done;
          log = x.item.log;
          known = x.item.known;
          voted = t.1;
          best = upto_of _ _ _ _ n.view n.rows;
        })

    pub pick_begins : Begins (take (s me).done (s me).log) pick.log
    pick_begins = begins_executed f g s me pick.log pick.last_normal (has_vote votes) holds change leads
        (good pick is_pick.kept).below (good pick is_pick.kept).log_of many (λ j h. elector j (found _ votes h))

    -- so an opening is never dropped
    pub pick_passes : begins_with_executed choose.same (s me) pick.log ≡ true
    pick_passes = begins_passes (s me) pick.log pick_begins
