-- Each running site's DOVIEWCHANGE comes to the primary of the view, which opens it.
use Rattle.std.proofs.Common.{◌≡◌, ◌≢◌, ◌⊎◌, inl, inr, ℕ, ◌+◌, ◌*◌, ◌<◌, ◌≤◌, Bool, true, false, not, ◌&&◌, ◌||◌, ◌==◌, nat_lt, if◌then◌else◌, List, [], ◌∷◌, ◌++◌, length, count_by, refl, sym, ap, ◌∙◌, subst, arith, true≢false}
use Rattle.std.specs.Prelude.{Contains}
use Rattle.std.proofs.lemmas.Bool.{cases_eq}
use Rattle.std.proofs.lemmas.Bool.Decides.{nat_tests}
use Rattle.std.proofs.lemmas.List.Elements.{Contains-append_left, Contains-append_right, Contains-append_cases}
use Rattle.vr_types.specs.declared.event.EventOf.TheVariants.{Deliver, Beat}
use Rattle.vr_types.specs.declared.event.Status.TheVariants.{Normal, Change}
use Rattle.vr_types.specs.declared.message.EnvelopeOf.{EnvelopeOf}
use Rattle.vr_types.specs.declared.message.MsgOf.{MsgOf}
use Rattle.vr_types.specs.declared.message.MsgOf.TheVariants.{StartViewChange, DoViewChange, StartView}
use Rattle.vr_types.specs.Choice.{Choice, IsRight}
use Rattle.vr_types.specs.Group.{sites, primary, mail, to_all}
use Rattle.vr_types.specs.Site.{Site, Vote, boot_of, has_vote, is_normal, is_change, is_recovering}
use Rattle.vr_types.specs.Step.{Step, Handled, does, greater, is_outdated, learns, executed_to, normal_in, begins_with_executed}
use Rattle.vr_types.specs.Change.{Part, ballot, own_vote, with_vote, sends_vote, is_to_open, starts_later_view, opens_where_due, after_vote, on_do_view_change, beats_in_change}
use Rattle.vr_types.specs.Handling.{site_step, is_refused}
use Rattle.vr_types.proofs.ChoosingPick.{Contains-cases, Contains-none, Contains-here}
use Rattle.vr_types.proofs.Vectors.{greater_is}
use Rattle.agreement.specs.Worlds.{World}
use Rattle.agreement.specs.Progress.{GoesTo}
use Rattle.agreement.proofs.Members.{filter-has, filter-passes}
use Rattle.agreement.proofs.Histories.{History}
use Rattle.agreement.proofs.Invariant.{Holds}
use Rattle.agreement.proofs.Put.{put, put_here}
use Rattle.agreement.proofs.Moves.{Kept}
use Rattle.agreement.proofs.ChangeRules.{kept_after_vote}
use Rattle.agreement.proofs.NeverStale.{pick_passes}
use Rattle.agreement.proofs.Reached.{site_at, IsReached, first}
use Rattle.agreement.proofs.Going.{goes_step, goes_reached, taken, taken_same, taken_sent, taken_still, Reaches, reaches_then, sweep_on, goes_nowhere}
use Rattle.agreement.proofs.Lengths.{AllLong, run_long}
use Rattle.agreement.proofs.Counts.{has_site, sites_more}
use Rattle.agreement.proofs.Facts.{told_each, another, of_all_sites, site_back, both_are, known_most, known_own, size_is}
use Rattle.agreement.proofs.Tests.{eq_of, eq_test, lt_of, and_left, and_right, change_of, runs_up, change_runs, found, Found}
use Rattle.agreement.proofs.Waiting.{KeepsVote, Waits, current_of, not_outdated, if_yes, if_no, learns_keeps_vote, not_less, not_open}
use Rattle.agreement.proofs.Starts.{delivered, beat_change, IsSaid, IsTaken, comes, Gathers, boots_same}

-- the primary of view w counts votes: it has its own, and not enough
pub record Counts {C : Type 0} (f w me b : ℕ) (x : Site C) : Type 0 where
  pub status : x.status ≡ Change
  pub view : x.view ≡ w
  pub boots : x.cell.boots ≡ b
  pub own : KeepsVote x me b
  pub few : is_to_open f me x ≡ false

pub has_vote_of : {C : Type 0} (votes : List (Vote C)) (k : ℕ) (vote : Vote C) → Contains votes vote → vote.from ≡ k → has_vote votes k ≡ true
has_vote_of [] k vote in' e = absurd (Contains-none vote in')
has_vote_of {C} (a ∷ votes) k vote in' e = by_place (Contains-cases a vote votes in') (λ there. has_vote_of votes k vote there e)
  where
    either : (b c : Bool) → (b ≡ true) ⊎ (c ≡ true) → (b || c) ≡ true
    either true c h = refl
    either false c (inl h) = absurd (true≢false (sym h))
    either false c (inr h) = h

    by_place : (a ≡ vote) ⊎ Contains votes vote → (Contains votes vote → has_vote votes k ≡ true) → has_vote (a ∷ votes) k ≡ true
    by_place (inl same) rest = either (a.from == k) (has_vote votes k) (inl (eq_test a.from k (ap (λ (s : Vote C). s.from) same ∙ e)))
    by_place (inr there) rest = either (a.from == k) (has_vote votes k) (inr (rest there))

-- with the votes of f+1 sites, its own among them, the view opens
pub opens_by_votes : {C : Type 0} (f w me b : ℕ) (x : Site C) → x.status ≡ Change → x.view ≡ w → primary f w ≡ me → KeepsVote x me b
    → f < count_by (has_vote x.collected.votes) (sites f) → is_to_open f me x ≡ true
opens_by_votes f w me b x status view leads own many =
    both_are _ _ (ap is_change status) (both_are _ _ (eq_test (primary f x.view) me (ap (primary f) view ∙ leads))
    (both_are _ _ (has_vote_of x.collected.votes me own.vote own.among own.from) (grind (arith, nat_tests, many))))

module _ {C : Type 0} (f w me b : ℕ) (boots : ℕ → ℕ) (y : Site C) (vote : Vote C) where
  abbrev more : Site C
  more = record y { collected = record (y.collected) { votes = y.collected.votes ++ vote ∷ [] } }

  vote_keeps : (j n : ℕ) → KeepsVote y j n → KeepsVote (with_vote vote y) j n
  vote_keeps j n s = by_test (has_vote y.collected.votes vote.from)
    where
      by_test : (t : Bool) → KeepsVote (if t then y else more) j n
      by_test true = s
      by_test false = record { vote = s.vote; among = Contains-append_left y.collected.votes (vote ∷ []) s.vote s.among; from = s.from; current = s.current }

  vote_is_kept : ((a : Vote C) → Contains y.collected.votes a → boot_of y.known a.from ≤ boot_of a.known a.from) → boots vote.from ≤ boot_of y.known vote.from
      → boots vote.from ≤ boot_of vote.known vote.from
      → KeepsVote (with_vote vote y) vote.from (boots vote.from)
  vote_is_kept current low high = by_test (has_vote y.collected.votes vote.from) refl
    where
      by_test : (t : Bool) → has_vote y.collected.votes vote.from ≡ t → KeepsVote (if t then y else more) vote.from (boots vote.from)
      by_test true e =
          let a : Found (λ (s : Vote C). s.from == vote.from) y.collected.votes = found _ y.collected.votes e in
          let from = eq_of a.item.from vote.from a.passes in
          record {
            vote = a.item;
            among = a.among;
            from = from;
            current = subst (λ (i : ℕ). boots i ≤ boot_of a.item.known i) from (
                let h = current a.item a.among in
                let l : boots a.item.from ≤ boot_of y.known a.item.from = subst (λ (i : ℕ). boots i ≤ boot_of y.known i) (sym from) low in
                omega arith);
          }
      by_test false e =
          record { vote = vote; among = Contains-append_right y.collected.votes (vote ∷ []) vote (Contains-here vote []); from = refl; current = high }

  votes_good : (good : Vote C → Type 0) → ((v : Vote C) → Contains y.collected.votes v → good v) → good vote → (v : Vote C)
      → Contains (with_vote vote y).collected.votes v → good v
  votes_good good old new v in' = by_test (has_vote y.collected.votes vote.from) in'
    where
      last : (vote ≡ v) ⊎ Contains [] v → good v
      last (inl e) = subst (λ (u : Vote C). good u) e new
      last (inr none) = absurd (Contains-none v none)

      by_place : Contains y.collected.votes v ⊎ Contains (vote ∷ []) v → good v
      by_place (inl there) = old v there
      by_place (inr here) = last (Contains-cases vote v [] here)

      by_test : (t : Bool) → (let s : Site C = if t then y else more in Contains s.collected.votes v) → good v
      by_test true h = old v h
      by_test false h = by_place (Contains-append_cases y.collected.votes (vote ∷ []) v h)

  record IsLike (z : Site C) : Type 0 where
    status : z.status ≡ y.status
    view : z.view ≡ y.view
    cell : z.cell ≡ y.cell

  like : IsLike (with_vote vote y)
  like = by_test (has_vote y.collected.votes vote.from)
    where
      by_test : (t : Bool) → IsLike (if t then y else more)
      by_test true = record { status = refl; view = refl; cell = refl }
      by_test false = record { status = refl; view = refl; cell = refl }

-- the step by which a view opens
pub record Opens {C R O : Type 0} (f w me b : ℕ) (good : Vote C → Type 0) (step : Step C R O) : Type 0 where
  pub status : step.site.status ≡ Normal
  pub view : step.site.view ≡ w
  pub boots : step.site.cell.boots ≡ b
  pub acks : step.site.collected.acks ≡ []
  pub picked : (v : Vote C) × good v × (step.site.log ≡ v.log)
  pub sent : step.sent ≡ to_all f me (StartView (record { view = w; done = step.site.done; rows = step.site.log }))

-- the vote is kept, and the votes do not suffice yet
pub record KeepsOne {C : Type 0} (f w me b : ℕ) (boots : ℕ → ℕ) (good : Vote C → Type 0) (x : Site C) (k : ℕ) (y : Site C) : Type 0 where
  pub counts : Counts f w me b y
  pub has : KeepsVote y k (boots k)
  pub keeps : (j : ℕ) → KeepsVote x j (boots j) → KeepsVote y j (boots j)
  pub all : (v : Vote C) → Contains y.collected.votes v → good v

module _ {C R O : Type 0} (choose : Choice C) (f w me b : ℕ) (right : IsRight f choose) (boots : ℕ → ℕ) (good : Vote C → Type 0) where
  pub record TakesVote (x : Site C) (k : ℕ) (step : Step C R O) : Type 0 where
    pub handled : step.ending ≡ Handled
    pub ends : KeepsOne f w me b boots good x k step.site ⊎ Opens f w me b good step

  module _ (g : History C R O) (s : ℕ → Site C) (holds : Holds f g s) (vote : Vote C) (to : ℕ) (counts : Counts f w me b (s me))
      (leads : primary f w ≡ me) (is_b : b ≡ boots me)
      (known : (j : ℕ) → boot_of (s me).known j ≤ boots j) (knew : (j : ℕ) → boot_of vote.known j ≤ boots j)
      (is_k : boot_of vote.known vote.from ≡ boots vote.from)
      (said : Contains g.said (mail vote.from to (DoViewChange (ballot w vote)))) (all : (v : Vote C) → Contains (s me).collected.votes v
      → good v) (this : good vote) where
    abbrev y : Site C
    y = learns vote.known (s me)

    abbrev z : Site C
    z = with_vote vote y

    abbrev part : Part C R O
    part = record { site = z; sent = [] }

    current_y : (v : Vote C) → Contains y.collected.votes v → boot_of y.known v.from ≤ boot_of v.known v.from
    current_y v in' =
        current_of y.known v.known v.from (filter-passes (λ (a : Vote C). not (is_outdated (greater (s me).known vote.known) a.from a.known))
        (s me).collected.votes v in')

    keeps : (j : ℕ) → KeepsVote (s me) j (boots j) → KeepsVote z j (boots j)
    keeps j k = vote_keeps f w me b boots y vote j (boots j) (learns_keeps_vote f w me b boots (s me) vote.known known knew j k)

    own : KeepsVote z me b
    own = subst (λ (n : ℕ). KeepsVote z me n) (sym is_b) (keeps me (subst (λ (n : ℕ). KeepsVote (s me) me n) is_b counts.own))

    is_like : IsLike f w me b boots y vote z
    is_like = like f w me b boots y vote

    has : KeepsVote z vote.from (boots vote.from)
    has =
        vote_is_kept f w me b boots y vote current_y (let e = greater_is (s me).known vote.known vote.from in let d = is_k in omega arith) (let d = is_k in
        omega arith)

    -- no view is started, as it is in this one
    late : nat_lt w (s me).view ≡ false
    late = not_less w (s me).view (sym counts.view)

    other : (is_normal (s me).status && (w == (s me).view)) ≡ false
    other = ap (λ st. is_normal st && (w == (s me).view)) counts.status

    fresh : is_outdated (s me).known vote.from vote.known ≡ false
    fresh = not_outdated (s me).known vote.known vote.from (let a = known vote.from in let d = is_k in omega arith)

    begun : starts_later_view {R = R} {O = O} f me w y ≡ record { site = y; sent = [] }
    begun = if_no (nat_lt (s me).view w) _ _ (not_less (s me).view w counts.view)

    after_is : after_vote {R = R} {O = O} f me w vote (s me) ≡ part
    after_is = ap (λ (p : Part C R O). record p { site = with_vote vote p.site }) begun

    kept : Kept f g s me (does {R = R} {O = O} z [])
    kept = subst (λ (p : Part C R O). Kept f g s me (does p.site p.sent)) after_is
        (kept_after_vote f me g s holds to w vote (change_runs _ counts.status) late other fresh said)

    -- where it opens, the picked log passes
    fits : is_to_open f me z ≡ true → begins_with_executed choose.same z (choose.pick z.collected.votes).log ≡ true
    fits due =
        let t = put s me z in
        let e : t me ≡ z = put_here s me z in
        let due' : is_to_open f me (t me) ≡ true = ap (is_to_open f me) e ∙ due in
        let leads' = and_right (is_change (t me).status) _ due' in
        let rest = and_right (primary f (t me).view == me) _ leads' in
        let many = and_right (has_vote (t me).collected.votes me) _ rest in
        subst (λ (x : Site C). begins_with_executed choose.same x (choose.pick x.collected.votes).log ≡ true) e
        (pick_passes f choose right kept.history t me kept.holds (change_of _ (and_left (is_change (t me).status) _ due'))
        (sym (eq_of _ _ (and_left (primary f (t me).view == me) _ leads'))) (lt_of _ _ many))

    step_is : on_do_view_change {R = R} {O = O} choose f me (s me) w vote ≡ opens_where_due choose f me (s me) part
    unfolding on_do_view_change
    step_is =
        if_no (is_recovering (s me).status) _ _ (ap is_recovering counts.status)
        ∙ (if_no (nat_lt w (s me).view) _ _ late
        ∙ (if_no (not (primary f w == me)) _ _ (ap not (eq_test (primary f w) me leads))
        ∙ (if_no (is_normal (s me).status && (w == (s me).view)) _ _ other
        ∙ (if_no (is_outdated (s me).known vote.from vote.known) _ _ fresh
        ∙ ap (opens_where_due choose f me (s me)) after_is))))

    all_z : (v : Vote C) → Contains z.collected.votes v → good v
    all_z v in' =
        votes_good f w me b boots y vote good
        (λ u h. all u (filter-has (λ (a : Vote C). not (is_outdated (greater (s me).known vote.known) a.from a.known)) (s me).collected.votes u h)) this v
        in'

    -- where the view opens there is a vote
    some_votes : is_to_open f me z ≡ true → 0 < length z.collected.votes
    some_votes due = let low = own.among.1 in omega arith

    by_due : (due : Bool) → is_to_open f me z ≡ due → TakesVote (s me) vote.from (opens_where_due choose f me (s me) part)
    by_due false e =
        subst (λ (st : Step C R O). TakesVote (s me) vote.from st) (sym (if_yes (not (is_to_open f me z)) _ _ (ap not e)))
        (record {
          handled = refl;
          ends = inl (record {
            counts =
                record {
                  status = is_like.status ∙ counts.status;
                  view = is_like.view ∙ counts.view;
                  boots = ap (λ c. c.boots) is_like.cell ∙ counts.boots;
                  own = own;
                  few = e;
                };
            has = has;
            keeps = keeps;
            all = all_z;
          });
        })
    by_due true e =
        subst (λ (st : Step C R O). TakesVote (s me) vote.from st)
        (sym (if_no (not (is_to_open f me z)) _ _ (ap not e) ∙ if_no (not (begins_with_executed choose.same z (choose.pick z.collected.votes).log)) _ _
        (ap not (fits e))))
        (record {
          handled = refl;
          ends = inr (record {
            status = refl;
            view = is_like.view ∙ counts.view;
            boots = ap (λ c. c.boots) is_like.cell ∙ counts.boots;
            acks = refl;
            picked = (choose.pick z.collected.votes, all_z (choose.pick z.collected.votes) (right.pick z.collected.votes (some_votes e)).kept, refl);
            sent =
                ap
                (λ (v : ℕ).
                to_all f me
                (StartView (record {
                  view = v;
                  done = (executed_to (choose.most_done z.collected.votes) (normal_in z.view (choose.pick z.collected.votes).log z)).done;
                  rows = (choose.pick z.collected.votes).log;
                }))) (is_like.view ∙ counts.view);
          });
        })

    pub takes_vote : TakesVote (s me) vote.from (on_do_view_change {R = R} {O = O} choose f me (s me) w vote)
    takes_vote = subst (λ (st : Step C R O). TakesVote (s me) vote.from st) (sym step_is) (by_due (is_to_open f me z) refl)

module _ {C R O : Type 0} (choose : Choice C) (f : ℕ) where
  vote_goes : (v : World C R O) (i : ℕ) → i < length v.sites → (site_at v i).status ≡ Change → (site_at v i).collected.voted ≡ true
      → primary f (site_at v i).view ≢ i
      → Reaches choose f v (IsSaid choose f i (primary f (site_at v i).view) (DoViewChange (ballot (site_at v i).view (own_vote i (site_at v i)))) v)
  unfolding beats_in_change
  vote_goes v i small change voted apart = record { after = taken choose f v i Beat; goes = goes; holds = holds }
    where
      msg : MsgOf C R O
      msg = DoViewChange (ballot (site_at v i).view (own_vote i (site_at v i)))

      other : (a b : Bool) → a ≡ true → b ≡ false → (a && not b) ≡ true
      other true true e d = absurd (true≢false d)
      other true false e d = refl
      other false b e d = absurd (true≢false (sym e))

      differ : (a b : ℕ) → a ≢ b → (a == b) ≡ false
      differ a b h = by_test (a == b) refl
        where
          by_test : (t : Bool) → (a == b) ≡ t → t ≡ false
          by_test true e = absurd (h (eq_of a b e))
          by_test false e = refl

      step : site_step {R = R} {O = O} choose f i (site_at v i) Beat ≡ beats_in_change f i (site_at v i)
      step = beat_change choose f i (site_at v i) change

      goes : GoesTo choose f v (taken choose f v i Beat)
      goes = goes_step choose f v i Beat small tt tt (ap (λ (s : Step C R O). is_refused s.ending) step)

      votes : (if (site_at v i).collected.voted && not (primary f (site_at v i).view == i) then sends_vote {R = R} {O = O} f i (site_at v i) else [])
          ≡ sends_vote f i (site_at v i)
      votes =
          if_yes ((site_at v i).collected.voted && not (primary f (site_at v i).view == i)) (sends_vote f i (site_at v i)) []
          (other _ _ voted (differ _ _ apart))

      holds : IsSaid choose f i (primary f (site_at v i).view) msg v (taken choose f v i Beat)
      holds = record {
        goes = goes;
        same = taken_same choose f v i Beat small (ap (λ (s : Step C R O). s.site) step);
        sent =
            taken_sent choose f v i Beat (mail i (primary f (site_at v i).view) msg)
            (subst (λ (s : Step C R O). Contains s.sent (mail i (primary f (site_at v i).view) msg)) (sym step)
            (Contains-append_right (to_all f i (StartViewChange (record { view = (site_at v i).view; known = (site_at v i).known }))) _ _
            (subst (λ (es : List (EnvelopeOf C R O)). Contains es (mail i (primary f (site_at v i).view) msg)) (sym votes)
            (Contains-here (mail i (primary f (site_at v i).view) msg) []))));
        still = λ e in'. taken_still choose f v i Beat e in';
      }

  module _ (right : IsRight f choose) (some : 1 ≤ f) (w : ℕ) (up : ℕ → Bool) (up_small : (j : ℕ) → up j ≡ true → j < 2 * f + 1) (old mid : World C R O)
      (up_leads : up (primary f w) ≡ true) (gathered : Gathers choose f right some w up up_small old mid)
      (voted : (j : ℕ) → up j ≡ true → (site_at mid j).collected.voted ≡ true) where
    abbrev p : ℕ
    p = primary f w

    abbrev boots_of : ℕ → ℕ
    boots_of j = (site_at old j).cell.boots

    -- a vote has the log that its sender, a running site, had at first
    abbrev pub IsTrue : Vote C → Type 0
    IsTrue v = (up v.from ≡ true) × (v.log ≡ (site_at old v.from).log)

    -- the view is open, and all are told of it
    pub record IsOpen (v : World C R O) : Type 0 where
      pub status : (site_at v (primary f w)).status ≡ Normal
      pub view : (site_at v (primary f w)).view ≡ w
      pub boots : (site_at v (primary f w)).cell.boots ≡ (site_at old (primary f w)).cell.boots
      pub acks : (site_at v (primary f w)).collected.acks ≡ []
      pub picked : (u : Vote C) × ((up u.from ≡ true) × (u.log ≡ (site_at old u.from).log)) × ((site_at v (primary f w)).log ≡ u.log)
      pub told : (j : ℕ) → j < 2 * f + 1 → j ≢ primary f w
          → Contains v.sent
          (mail (primary f w) j (StartView (record { view = w; done = (site_at v (primary f w)).done; rows = (site_at v (primary f w)).log })))

    -- the other sites are as they were, and the primary counts votes, or has opened the view
    pub record Collects (v : World C R O) : Type 0 where
      pub is : IsReached f first v
      pub long : AllLong f v
      pub there : (j : ℕ) → j ≢ primary f w → site_at v j ≡ site_at mid j
      pub here : Counts f w (primary f w) (boots_of (primary f w)) (site_at v (primary f w)) ⊎ IsOpen v
      pub logs : (site_at v (primary f w)).status ≡ Change → (u : Vote C) → Contains (site_at v (primary f w)).collected.votes u
          → (up u.from ≡ true) × (u.log ≡ (site_at old u.from).log)

    abbrev Has : ℕ → World C R O → Type 0
    Has i v = KeepsVote (site_at v p) i (boots_of i) ⊎ IsOpen v

    record KeepsOn (a b : World C R O) : Type 0 where
      each : (i : ℕ) → Has i a → Has i b

    keeps_on_same : (a : World C R O) → KeepsOn a a
    keeps_on_same a = record { each = λ i k. k }

    keeps_on_more : (a b c : World C R O) → KeepsOn a b → KeepsOn b c → KeepsOn a c
    keeps_on_more a b c q r = record { each = λ i k. r.each i (q.each i k) }

    boots_now : (v : World C R O) → Collects v → (k : ℕ) → (site_at v k).cell.boots ≡ boots_of k
    boots_now v c k = by_site (cases_eq k p)
      where
        by_here : Counts f w p (boots_of p) (site_at v p) ⊎ IsOpen v → (site_at v p).cell.boots ≡ boots_of p
        by_here (inl h) = h.boots
        by_here (inr h) = h.boots

        by_site : (k ≡ p) ⊎ (k ≡ p → ⊥) → (site_at v k).cell.boots ≡ boots_of k
        by_site (inl e) = subst (λ (m : ℕ). (site_at v m).cell.boots ≡ boots_of m) (sym e) (by_here c.here)
        by_site (inr apart) = ap (λ (x : Site C). x.cell.boots) (c.there k apart) ∙ boots_same choose f right some w up up_small old mid gathered k

    -- the DOVIEWCHANGE of site i comes to the primary, which counts still
    vote_comes : (i : ℕ) → up i ≡ true → i ≢ p → (v : World C R O) → Collects v → Counts f w p (boots_of p) (site_at v p)
        → Reaches choose f v (λ u. Collects u × Has i u × KeepsOn v u)
    vote_comes i up_i apart v c counts =
        reaches_then choose f v (IsSaid choose f i p msg v) _ said (λ u s.
        reaches_then choose f u (IsTaken choose f p (step u) u) _ (arrives u s)
        (λ t is. record { after = t; goes = goes_nowhere choose f t; holds = by_end u s t is (takes u s).ends }))
      where
        same : site_at v i ≡ site_at mid i
        same = c.there i apart

        waits : Waits f w i (boots_of i) (site_at v i)
        waits = subst (λ (x : Site C). Waits f w i (boots_of i) x) (sym same) (gathered.waits i up_i)

        vote : Vote C
        vote = own_vote i (site_at v i)

        msg : MsgOf C R O
        msg = DoViewChange (ballot w vote)

        step : World C R O → Step C R O
        step u = on_do_view_change choose f p (site_at u p) w vote

        size : length v.sites ≡ 2 * f + 1
        size = size_is f v c.is

        small_i : i < 2 * f + 1
        small_i = up_small i up_i

        small_p : p < 2 * f + 1
        small_p = up_small p up_leads

        said : Reaches choose f v (IsSaid choose f i p msg v)
        said =
            subst (λ (n : ℕ). Reaches choose f v (IsSaid choose f i (primary f n) (DoViewChange (ballot n (own_vote i (site_at v i)))) v)) waits.changes.view
            (vote_goes v i (let a = size in let b = small_i in
            omega arith) waits.changes.status (ap (λ (x : Site C). x.collected.voted) same ∙ voted i up_i)
            (λ e. apart (sym (sym (ap (primary f) waits.changes.view) ∙ e))))

        reached : (u : World C R O) → IsSaid choose f i p msg v u → IsReached f first u
        reached u s = goes_reached choose f right v u c.is s.goes

        known_at : (u : World C R O) → IsSaid choose f i p msg v u → (k m : ℕ) → boot_of (site_at u k).known m ≤ boots_of m
        known_at u s k m =
            let a = known_most f u (reached u s) k m in
            let e = ap (λ (x : ℕ → Site C). (x m).cell.boots) s.same in
            let d = boots_now v c m in
            omega arith

        knew : (m : ℕ) → boot_of (site_at v i).known m ≤ boots_of m
        knew m = let a = known_most f v c.is i m in let d = boots_now v c m in omega arith

        is_i : boot_of (site_at v i).known i ≡ boots_of i
        is_i = known_own f v c.is i (runs_up _ (change_runs _ waits.changes.status)) ∙ boots_now v c i

        counts_at : (u : World C R O) → IsSaid choose f i p msg v u → Counts f w p (boots_of p) (site_at u p)
        counts_at u s = subst (λ (x : ℕ → Site C). Counts f w p (boots_of p) (x p)) (sym s.same) counts

        logs_at : (u : World C R O) → IsSaid choose f i p msg v u → (x : Vote C) → Contains (site_at u p).collected.votes x → IsTrue x
        logs_at u s x in' = c.logs counts.status x (subst (λ (y : ℕ → Site C). Contains (y p).collected.votes x) s.same in')

        takes : (u : World C R O) → IsSaid choose f i p msg v u → TakesVote choose f w p (boots_of p) right boots_of IsTrue (site_at u p) i (step u)
        takes u s =
            takes_vote choose f w p (boots_of p) right boots_of IsTrue (reached u s).history (site_at u) (reached u s).holds.holds vote p
            (counts_at u s) refl refl
            (known_at u s p) knew is_i ((reached u s).holds.said _ s.sent) (logs_at u s) (up_i, ap (λ (x : Site C). x.log) same ∙ gathered.logs i up_i)

        step_is : (u : World C R O) → IsSaid choose f i p msg v u → site_step choose f p (site_at u p) (Deliver (mail i p msg)) ≡ step u
        step_is u s =
            delivered choose f i p (site_at u p) msg (runs_up _ (change_runs _ (counts_at u s).status))
            (both_are _ _ (another f p i small_i apart) (of_all_sites f (site_at v i).known ((c.long i).is (runs_up _ (change_runs _ waits.changes.status)))))
            ∙ ap (λ (n : ℕ). on_do_view_change {R = R} {O = O} choose f p (site_at u p) w
            (record { from = n; last_normal = vote.last_normal; done = vote.done; log = vote.log; known = vote.known })) (site_back i)

        arrives : (u : World C R O) → IsSaid choose f i p msg v u → Reaches choose f u (IsTaken choose f p (step u) u)
        arrives u s =
            comes choose f u i p msg (step u) (let e = size_is f u (reached u s) in let b = small_p in
            omega arith) s.sent refl (step_is u s) (ap is_refused (takes u s).handled)

        elsewhere : (u : World C R O) → IsSaid choose f i p msg v u → (t : World C R O) → IsTaken choose f p (step u) u t → (j : ℕ) → j ≢ p
            → site_at t j ≡ site_at mid j
        elsewhere u s t is j apart' = is.there j apart' ∙ (ap (λ (x : ℕ → Site C). x j) s.same ∙ c.there j apart')

        collects : (u : World C R O) (s : IsSaid choose f i p msg v u) (t : World C R O) → IsTaken choose f p (step u) u t
            → Counts f w p (boots_of p) (site_at t p) ⊎ IsOpen t
            → ((site_at t p).status ≡ Change → (x : Vote C) → Contains (site_at t p).collected.votes x → IsTrue x) → Collects t
        collects u s t is here logs = record {
          is = goes_reached choose f right u t (reached u s) is.goes;
          long = run_long choose f u t is.goes.events (run_long choose f v u s.goes.events c.long s.goes.run) is.goes.run;
          there = elsewhere u s t is;
          here = here;
          logs = logs;
        }

        is_open : (u : World C R O) (t : World C R O) → IsTaken choose f p (step u) u t → Opens f w p (boots_of p) IsTrue (step u) → IsOpen t
        is_open u t is o = record {
          status = ap (λ (x : Site C). x.status) is.here ∙ o.status;
          view = ap (λ (x : Site C). x.view) is.here ∙ o.view;
          boots = ap (λ (x : Site C). x.cell.boots) is.here ∙ o.boots;
          acks = ap (λ (x : Site C). x.collected.acks) is.here ∙ o.acks;
          picked = (o.picked.0, o.picked.1, ap (λ (x : Site C). x.log) is.here ∙ o.picked.2);
          told = λ j small apart'.
              subst (λ (x : Site C). Contains t.sent (mail p j (StartView (record { view = w; done = x.done; rows = x.log })))) (sym is.here)
              (is.sent _
              (subst (λ (es : List (EnvelopeOf C R O)).
              Contains es (mail p j (StartView (record { view = w; done = (step u).site.done; rows = (step u).site.log })))) (sym o.sent)
              (told_each f p j (StartView (record { view = w; done = (step u).site.done; rows = (step u).site.log })) small apart')));
        }

        not_open : IsOpen v → ⊥
        not_open o = let e : Normal ≡ Change = sym o.status ∙ counts.status in cc

        by_end : (u : World C R O) (s : IsSaid choose f i p msg v u) (t : World C R O) → IsTaken choose f p (step u) u t
            → KeepsOne f w p (boots_of p) boots_of IsTrue (site_at u p) i (step u).site ⊎ Opens f w p (boots_of p) IsTrue (step u)
            → Collects t × Has i t × KeepsOn v t
        by_end u s t is (inl k) = (
          collects u s t is (inl (subst (λ (x : Site C). Counts f w p (boots_of p) x) (sym is.here) k.counts))
              (λ _ x in'. k.all x (subst (λ (y : Site C). Contains y.collected.votes x) is.here in')),
          inl (subst (λ (x : Site C). KeepsVote x i (boots_of i)) (sym is.here) k.has),
          record { each = λ m h. keeps_by m h },
        )
          where
            keeps_by : (m : ℕ) → Has m v → Has m t
            keeps_by m (inl h) =
                inl (subst (λ (x : Site C). KeepsVote x m (boots_of m)) (sym is.here)
                (k.keeps m (subst (λ (x : ℕ → Site C). KeepsVote (x p) m (boots_of m)) (sym s.same) h)))
            keeps_by m (inr o) = absurd (not_open o)
        by_end u s t is (inr o) = (
          collects u s t is (inr (is_open u t is o)) (λ change. absurd (let n : Normal ≡ Change = sym (is_open u t is o).status ∙ change in cc)),
          inr (is_open u t is o),
          record { each = λ m h. inr (is_open u t is o) },
        )

    -- at first the primary has its own vote
    pub begins_counting : IsReached f first mid → Collects mid
    begins_counting is = record {
      is = is;
      long = gathered.long;
      there = λ j apart. refl;
      logs = λ _ x in'. (
          let q = gathered.waits p up_leads in
          let e = q.changes.own x in' in
          (ap up e ∙ up_leads, q.changes.logs x in' ∙ (gathered.logs p up_leads ∙ ap (λ (n : ℕ). (site_at old n).log) (sym e))));
      here = inl (
          let q = gathered.waits p up_leads in
          record {
            status = q.changes.status;
            view = q.changes.view;
            boots = q.changes.boots;
            own = q.changes.made (voted p up_leads) refl;
            few = not_open f w p (boots_of p) boots_of some (site_at mid p) q.changes;
          });
    }

    -- and in the end it opens the view
    pub opens : f < count_by up (sites f) → (v : World C R O) → Collects v → Reaches choose f v (λ u. Collects u × IsOpen u)
    opens many v c =
        reaches_then choose f v (λ u. Collects u × ((j : ℕ) → Contains (sites f) j → up j ≡ true → Has j u) × KeepsOn v u) _
        (sweep_on choose f Collects KeepsOn keeps_on_same keeps_on_more (λ j u. up j ≡ true → Has j u) (λ j a b r h e. r.each j (h e)) (sites f)
        (λ j u in' d. by_test j u d (up j) refl (cases_eq j p) d.here) v c)
        (λ u is. record { after = u; goes = goes_nowhere choose f u; holds = (is.0, by_end u (λ j e. is.1 j (has_site f j (up_small j e)) e) is.0.here) })
      where
        not_both : (u : World C R O) → Counts f w p (boots_of p) (site_at u p) → IsOpen u → ⊥
        not_both u counts o = let e : Normal ≡ Change = sym o.status ∙ counts.status in cc

        stays : (j : ℕ) (u : World C R O) → Collects u → (up j ≡ true → Has j u) → Reaches choose f u (λ t. Collects t × (up j ≡ true → Has j t) × KeepsOn u t)
        stays j u d h = record { after = u; goes = goes_nowhere choose f u; holds = (d, h, keeps_on_same u) }

        own_of : (u : World C R O) → Counts f w p (boots_of p) (site_at u p) ⊎ IsOpen u → Has p u
        own_of u (inl counts) = inl counts.own
        own_of u (inr o) = inr o

        by_test : (j : ℕ) (u : World C R O) → Collects u → (b : Bool) → up j ≡ b → (j ≡ p) ⊎ (j ≡ p → ⊥) → Counts f w p (boots_of p) (site_at u p) ⊎ IsOpen u
            → Reaches choose f u (λ t. Collects t × (up j ≡ true → Has j t) × KeepsOn u t)
        by_test j u d false e place here = stays j u d (λ e'. absurd (true≢false (sym e' ∙ e)))
        by_test j u d true e (inl same) here = stays j u d (λ _. subst (λ (i : ℕ). Has i u) (sym same) (own_of u here))
        by_test j u d true e (inr apart) (inr o) = stays j u d (λ _. inr o)
        by_test j u d true e (inr apart) (inl counts) =
            reaches_then choose f u (λ t. Collects t × Has j t × KeepsOn u t) _ (vote_comes j e apart u d counts)
            (λ t is. record { after = t; goes = goes_nowhere choose f t; holds = (is.0, (λ _. is.1), is.2) })

        by_end : (u : World C R O) → ((j : ℕ) → up j ≡ true → Has j u) → Counts f w p (boots_of p) (site_at u p) ⊎ IsOpen u → IsOpen u
        by_end u all (inr o) = o
        by_end u all (inl counts) =
            absurd (true≢false (sym (opens_by_votes f w p (boots_of p) (site_at u p) counts.status counts.view refl counts.own enough) ∙ counts.few))
          where
            by_has : (j : ℕ) → Has j u → has_vote (site_at u p).collected.votes j ≡ true
            by_has j (inl k) = has_vote_of (site_at u p).collected.votes j k.vote k.among k.from
            by_has j (inr o) = absurd (not_both u counts o)

            enough : f < count_by (has_vote (site_at u p).collected.votes) (sites f)
            enough = let h = sites_more f up (has_vote (site_at u p).collected.votes) (λ j e. by_has j (all j e)) in omega arith
