-- The rules of a view change keep what holds.
use Rattle.std.proofs.Common.{◌≡◌, ◌⊎◌, inl, inr, ℕ, ◌+◌, ◌*◌, ◌<◌, ◌≤◌, Bool, true, false, not, ◌&&◌, ◌||◌, ◌==◌, nat_lt, nat_le, if◌then◌else◌, List, [], ◌∷◌, ◌++◌, length, take, slice_index_or, count_by, refl, sym, ap, ◌∙◌, subst, arith, true≢false, append-nil}
use Rattle.std.specs.Prelude.{Contains}
use Rattle.std.proofs.lemmas.Bool.{cases_lt}
use Rattle.std.proofs.lemmas.List.Elements.{Contains-append_left, Contains-append_right, Contains-append_cases}
use Rattle.vr_types.specs.declared.event.Status.TheVariants.{Normal, Change, Recovering}
use Rattle.vr_types.specs.declared.message.EnvelopeOf.{EnvelopeOf}
use Rattle.vr_types.specs.declared.message.MsgOf.{MsgOf}
use Rattle.vr_types.specs.declared.message.MsgOf.TheVariants.{StartViewChange, DoViewChange, StartView}
use Rattle.vr_types.specs.Group.{sites, others, primary, mail, to_all}
use Rattle.vr_types.specs.Site.{Start, Vote, Collected, Site, boot_of, has_start, has_vote, is_normal, is_change, is_recovering, is_down, is_running}
use Rattle.vr_types.specs.Choice.{Choice, IsPick, IsRight}
use Rattle.vr_types.specs.Step.{does, greater, is_outdated, learns, executed_to, normal_in, begins_with_executed}
use Rattle.vr_types.specs.Change.{ballot, Part, with_start, with_vote, with_voted, own_vote, sends_vote, is_to_vote, is_to_open, starts_view, starts_later_view, votes_where_due, opened_with, opens_where_due, after_vote, on_start_view_change, on_do_view_change, on_timer, beats_in_change}
use Rattle.vr_types.proofs.ChoosingPick.{Contains-cases, Contains-none, Contains-here, not_before, IsNotBefore}
use Rattle.agreement.proofs.Quorums.{quorums_meet, with_one, one_more}
use Rattle.agreement.proofs.Histories.{History}
use Rattle.agreement.proofs.PreparedRows.{IsUpto}
use Rattle.agreement.proofs.CommittedRows.{Committed}
use Rattle.agreement.proofs.VotesCover.{IsVote}
use Rattle.agreement.proofs.Standing.{StandsRunning}
use Rattle.agreement.proofs.Elections.{IsElector}
use Rattle.vr_types.proofs.Vectors.{Within, greater_is, greater_right}
use Rattle.agreement.proofs.Votes.{Voted, started, voted, WasBoot, IsTold, IsBacked, IsKeptStart, IsKeptVote, same_cell, goes_on}
use Rattle.agreement.proofs.Invariant.{Holds}
use Rattle.agreement.proofs.Put.{put_self}
use Rattle.agreement.proofs.Later.{committed_later, log_of_later, told_later, backed_later}
use Rattle.agreement.proofs.Moves.{Kept, MayTell, hears_say, kept_same, kept_step, kept_then, kept_go, kept_if, Says, says_one, says_to_all, say, later_say, prepared_say, running_say, kept_say}
use Rattle.agreement.proofs.Parts.{kept_tell_boots, kept_starts, kept_collects, stands_running}
use Rattle.agreement.proofs.Opens.{kept_opens}
use Rattle.agreement.proofs.Regains.{known_by, IsFirst, first_known}
use Rattle.agreement.proofs.Learns.{kept_learns}
use Rattle.agreement.proofs.Tests.{eq_test, eq_of, lt_of, le_of, ge_of, runs_up, not_false, and_left, and_right, and_false, change_of, runs_of, changes_of, change_runs, found, Found}

-- it is in change, in view w
started_in : {C : Type 0} (R O : Type 0) (f me : ℕ) (x : Site C) (w : ℕ) → nat_lt w x.view ≡ false → is_running x.status ≡ true
    → (is_normal x.status && (w == x.view)) ≡ false
    → (let part = starts_later_view {R = R} {O = O} f me w x in (part.site.status ≡ Change) × (part.site.view ≡ w) × (part.site.known ≡ x.known))
started_in {C} R O f me x w late run other = by_test (nat_lt x.view w) refl
  where
    by_test : (b : Bool) → nat_lt x.view w ≡ b
        → (let part : Part C R O = if b then starts_view f me w x else record { site = x; sent = [] } in
        (part.site.status ≡ Change) × (part.site.view ≡ w) × (part.site.known ≡ x.known))
    by_test true e = (refl, refl, refl)
    by_test false e =
        let a : w ≤ x.view = ge_of _ _ e in
        let b : x.view ≤ w = ge_of _ _ late in
        let same : x.view ≡ w = omega arith in
        (changes_of x.status run (and_false _ _ other (eq_test w x.view (sym same))), same, refl)

module _ {C R O : Type 0} (f me : ℕ) where
  -- a move that sends nothing more
  silently : (g : History C R O) (s : ℕ → Site C) (x : Site C) (a : List (EnvelopeOf C R O)) → Kept f g s me (does x (a ++ [])) → Kept f g s me (does x a)
  silently g s x a k = subst (λ (es : List (EnvelopeOf C R O)). Kept f g s me (does x es)) (append-nil a) k

  module _ (g : History C R O) (s : ℕ → Site C) (holds : Holds f g s) where
    module _ (change : (s me).status ≡ Change) where
      r : StandsRunning f g me (s me)
      r = (holds.sites me).running (change_runs _ change)

      abbrev msg : MsgOf C R O
      msg = DoViewChange (record { view = (s me).view; last_normal = (s me).last_normal; done = (s me).done; rows = (s me).log; known = (s me).known })

      own : boot_of (s me).known me ≡ (s me).cell.boots
      own = (holds.sites me).hears.own (runs_up _ (change_runs _ change))

      -- what a site in a view change says of its log is true
      vote_vouched : (es : List (EnvelopeOf C R O)) → Says me msg es → IsBacked f (say es g) me (s me).view (s me).cell.boots
          → IsVote f (say es g) me (ballot (s me).view (own_vote me (s me)))
      vote_vouched es says backed = record {
        told =
            told_later f g (say es g) me 0 (later_say f g me msg es tt says 0) me (s me).view (s me).known
            (record { boots = (holds.sites me).hears.heard; lived = r.at_view.lived });
        backed = record { votes = backed.votes; among = backed.among; own = backed.own ∙ sym own };
        below = r.change change;
        log_of = log_of_later f g (say es g) me 0 (later_say f g me msg es tt says 0) _ _ r.log_of;
        within = r.within;
        done = committed_later f g (say es g) me 0 (later_say f g me msg es tt says 0) _ _ r.done;
        covers = λ view n b p. r.prepared view n (prepared_say f g me msg es tt says me view n p);
      }

      -- where it is due, it is backed by the STARTVIEWCHANGEs of f others
      due_backed : (es : List (EnvelopeOf C R O)) → Says me msg es → Contains es (mail me (primary f (s me).view) msg) → me < 2 * f + 1
          → is_to_vote f me (s me) ≡ true → IsBacked f (say es g) me (s me).view (s me).cell.boots
      due_backed es says here small due = record {
        votes = record {
          who = with_one me (has_start starts);
          many =
              (let a = le_of f _ (and_left (nat_le f (count_by (has_start starts) (others f me))) _ due) in let b = one_more f me (has_start starts) small in
              omega arith);
          known = λ k. known_at k (k == me);
          voted = λ k e. voted_at k (k == me) refl e;
          fresh = λ k l p q. fresh_at k l (k == me) (l == me) refl refl p q;
        };
        among = with_me (me == me) (eq_test me me refl);
        own = own_at (me == me) (eq_test me me refl);
      }
        where
          starts : List Start
          starts = (s me).collected.starts

          known_at : (k : ℕ) (b : Bool) → List ℕ
          known_at k b = if b then (s me).known else known_by (λ (a : Start). a.from) (λ (a : Start). a.known) starts k

          first_at : (k : ℕ) → has_start starts k ≡ true
              → IsFirst (λ (a : Start). a.from) (λ (a : Start). a.known) starts k (known_by (λ (a : Start). a.from) (λ (a : Start). a.known) starts k)
          first_at k e = first_known (λ (a : Start). a.from) (λ (a : Start). a.known) starts k e

          at : (a : Start) → Contains starts a → IsKeptStart g (s me).view (s me).known a
          at a in' = r.at_view.starts change a in'

          voted_at : (k : ℕ) (b : Bool) → (k == me) ≡ b → (b || has_start starts k) ≡ true → Voted (say es g) k (s me).view (known_at k b)
          voted_at k true e h =
              subst (λ (i : ℕ). Voted (say es g) i (s me).view (s me).known) (sym (eq_of k me e))
              (voted (primary f (s me).view) (s me).last_normal (s me).done (s me).log (Contains-append_left es g.said _ here))
          voted_at k false e h =
              let x = first_at k h in
              subst (λ (known : List ℕ). Voted (say es g) k (s me).view known) x.knew
              (subst (λ (i : ℕ). Voted (say es g) i (s me).view x.item.known) x.sender
              (started (at x.item x.among).to (Contains-append_right es g.said _ (at x.item x.among).said)))

          known_within : (k : ℕ) (b : Bool) → (b || has_start starts k) ≡ true → (l : ℕ) → boot_of (known_at k b) l ≤ boot_of (s me).known l
          known_within k true h l = omega arith
          known_within k false h l =
              let x = first_at k h in
              subst (λ (known : List ℕ). boot_of known l ≤ boot_of (s me).known l) x.knew ((at x.item x.among).within l)

          current_at : (l : ℕ) (b : Bool) → (b || has_start starts l) ≡ true → boot_of (s me).known l ≤ boot_of (known_at l b) l
          current_at l true h = omega arith
          current_at l false h =
              let x = first_at l h in
              subst (λ (known : List ℕ). boot_of (s me).known l ≤ boot_of known l) x.knew
              (subst (λ (i : ℕ). boot_of (s me).known i ≤ boot_of x.item.known i) x.sender (at x.item x.among).current)

          fresh_at : (k l : ℕ) (a b : Bool) → (k == me) ≡ a → (l == me) ≡ b → (a || has_start starts k) ≡ true → (b || has_start starts l) ≡ true
              → boot_of (known_at k a) l ≤ boot_of (known_at l b) l
          fresh_at k l a b d e p q = let low = known_within k a p l in let high = current_at l b q in omega arith

          with_me : (b : Bool) → b ≡ true → (b || has_start starts me) ≡ true
          with_me true e = refl
          with_me false e = absurd (true≢false (sym e))

          own_at : (b : Bool) → b ≡ true → boot_of (known_at me b) me ≡ (s me).cell.boots
          own_at true e = own
          own_at false e = absurd (true≢false (sym e))

      -- its own vote is made: it is said, though it may not be sent
      votes_own : (collected : Collected C) (sent : List (EnvelopeOf C R O))
          → ((v : Vote C) → Contains collected.votes v → Contains (s me).collected.votes v ⊎ (own_vote me (s me) ≡ v))
          → ((e : EnvelopeOf C R O) → Contains sent e → Contains (sends_vote f me (s me)) e)
          → collected.starts ≡ (s me).collected.starts → me < 2 * f + 1 → is_to_vote f me (s me) ≡ true
          → Kept f g s me (does (record (s me) { collected = collected }) sent)
      votes_own collected sent old sends same small due =
          kept_say f g me msg es tt says s sent y holds
          (goes_on (s me) y (same_cell (s me) y refl) (λ e. let e' : Change ≡ Recovering = sym change ∙ e in cc))
          (stands_running f (say es g) me y (change_runs _ change) (hears_say f g me msg es tt says (s me) tells (λ _. r.at_view) (holds.sites me).hears)
          (record {
            at_view = record {
              lived = told.at_view.lived;
              votes = told.at_view.votes;
              promised = told.at_view.promised;
              answers = told.at_view.answers;
              starts = λ e a in'. told.at_view.starts e a (subst (λ (l : List Start). Contains l a) same in');
              backed = λ _ _. backed;
            };
            normal = told.normal;
            change = told.change;
            log_of = told.log_of;
            leads = told.leads;
            within = told.within;
            done = told.done;
            prepared = told.prepared;
            acks = λ e. absurd (let e' : Change ≡ Normal = sym change ∙ e in cc);
            votes = λ _ v in'. said v (old v in');
            current = λ _ v in'. current v (old v in');
          }))
          (λ to in'. vote_vouched es says backed) sends
        where
          es : List (EnvelopeOf C R O)
          es = sends_vote f me (s me)

          says : Says me msg es
          says = says_one me (primary f (s me).view) msg

          y : Site C
          y = record (s me) { collected = collected }

          tells : (to : ℕ) → Contains es (mail me to msg) → MayTell (s me) to msg
          tells to in' = record { running = change_runs _ change; view = refl; known = refl }

          told : StandsRunning f (say es g) me (s me)
          told = running_say f g me msg es tt says (s me) tells r

          backed : IsBacked f (say es g) me (s me).view (s me).cell.boots
          backed = due_backed es says (Contains-here (mail me (primary f (s me).view) msg) []) small due

          current : (v : Vote C) → Contains (s me).collected.votes v ⊎ (own_vote me (s me) ≡ v) → IsKeptVote (s me).known v
          current v (inl in') = r.current change v in'
          current v (inr e) = subst (λ (u : Vote C). IsKeptVote (s me).known u) e (record { within = λ k. omega arith; current = omega arith })

          said : (v : Vote C) → Contains (s me).collected.votes v ⊎ (own_vote me (s me) ≡ v)
              → (to : ℕ) × Contains (es ++ g.said) (mail v.from to (DoViewChange (ballot ((s me).view) v)))
          said v (inl in') = told.votes change v in'
          said v (inr e) = (
            primary f (s me).view,
            subst (λ (u : Vote C). Contains (es ++ g.said) (mail u.from (primary f (s me).view) (DoViewChange (ballot ((s me).view) u)))) e
                (Contains-here _ g.said),
          )

      -- it is kept at the primary of the view
      votes_here : me < 2 * f + 1 → is_to_vote f me (s me) ≡ true → Kept f g s me (does (with_vote (own_vote me (s me)) (with_voted (s me))) [])
      votes_here small due = by_test (has_vote (s me).collected.votes me)
        where
          by_place : (v : Vote C) → Contains (s me).collected.votes v ⊎ Contains (own_vote me (s me) ∷ []) v
              → Contains (s me).collected.votes v ⊎ (own_vote me (s me) ≡ v)
          by_place v (inl in') = inl in'
          by_place v (inr in') = this (Contains-cases (own_vote me (s me)) v [] in')
            where
              this : (own_vote me (s me) ≡ v) ⊎ Contains [] v → Contains (s me).collected.votes v ⊎ (own_vote me (s me) ≡ v)
              this (inl e) = inr e
              this (inr none) = absurd (Contains-none v none)

          by_test : (b : Bool)
              → Kept f g s me
              (does (if b then with_voted (s me)
              else record (with_voted (s me)) {
                collected = record
                    ((with_voted (s me)).collected) { votes = (s me).collected.votes ++ own_vote me (s me) ∷ [] };
              }) [])
          by_test true = votes_own (record ((s me).collected) { voted = true }) [] (λ v in'. inl in') (λ e in'. absurd (Contains-none e in')) refl small due
          by_test false = votes_own (record ((s me).collected) { voted = true; votes = (s me).collected.votes ++ own_vote me (s me) ∷ [] }) []
              (λ v in'. by_place v (Contains-append_cases (s me).collected.votes _ v in')) (λ e in'. absurd (Contains-none e in')) refl small due

      -- it goes to the primary of the view
      votes_there : me < 2 * f + 1 → is_to_vote f me (s me) ≡ true → Kept f g s me (does (with_voted (s me)) (sends_vote f me (s me)))
      votes_there small due = votes_own (record ((s me).collected) { voted = true }) (sends_vote f me (s me)) (λ v in'. inl in') (λ e in'. in') refl small due

      -- the first STARTVIEWCHANGE of a site is kept
      start_kept : (start : Start) → IsKeptStart g (s me).view (s me).known start → Kept f g s me (does (with_start start (s me)) [])
      start_kept start good = by_test (has_start (s me).collected.starts start.from)
        where
          by_place : (a : Start) → Contains (s me).collected.starts a ⊎ Contains (start ∷ []) a → IsKeptStart g (s me).view (s me).known a
          by_place a (inl in') = r.at_view.starts change a in'
          by_place a (inr in') = this (Contains-cases start a [] in')
            where
              this : (start ≡ a) ⊎ Contains [] a → IsKeptStart g (s me).view (s me).known a
              this (inl e) = subst (λ (b : Start). IsKeptStart g (s me).view (s me).known b) e good
              this (inr none) = absurd (Contains-none a none)

          by_test : (b : Bool)
              → Kept f g s me
              (does (if b then s me else record (s me) { collected = record ((s me).collected) { starts = (s me).collected.starts ++ start ∷ [] } }) [])
          by_test true = kept_same f g s me holds _ refl refl
          by_test false =
              kept_collects f g s me holds (change_runs _ change) (record ((s me).collected) { starts = (s me).collected.starts ++ start ∷ [] }) refl
              (r.votes change) r.current
              (λ _ a in'. by_place a (Contains-append_cases (s me).collected.starts (start ∷ []) a in')) refl

      -- the first DOVIEWCHANGE of a site is kept
      vote_kept : (vote : Vote C) → IsKeptVote (s me).known vote → (to : ℕ) × Contains g.said (mail vote.from to (DoViewChange (ballot ((s me).view) vote)))
          → Kept f g s me (does (with_vote vote (s me)) [])
      vote_kept vote good said = by_test (has_vote (s me).collected.votes vote.from)
        where
          by_place : (v : Vote C) → Contains (s me).collected.votes v ⊎ Contains (vote ∷ []) v
              → (to : ℕ) × Contains g.said (mail v.from to (DoViewChange (ballot ((s me).view) v)))
          by_place v (inl in') = r.votes change v in'
          by_place v (inr in') = this (Contains-cases vote v [] in')
            where
              this : (vote ≡ v) ⊎ Contains [] v → (to : ℕ) × Contains g.said (mail v.from to (DoViewChange (ballot ((s me).view) v)))
              this (inl e) = subst (λ (u : Vote C). (to : ℕ) × Contains g.said (mail u.from to (DoViewChange (ballot ((s me).view) u)))) e said
              this (inr none) = absurd (Contains-none v none)

          current : (v : Vote C) → Contains (s me).collected.votes v ⊎ Contains (vote ∷ []) v → IsKeptVote (s me).known v
          current v (inl in') = r.current change v in'
          current v (inr in') = this (Contains-cases vote v [] in')
            where
              this : (vote ≡ v) ⊎ Contains [] v → IsKeptVote (s me).known v
              this (inl e) = subst (λ (u : Vote C). IsKeptVote (s me).known u) e good
              this (inr none) = absurd (Contains-none v none)

          by_test : (b : Bool)
              → Kept f g s me
              (does (if b then s me else record (s me) { collected = record ((s me).collected) { votes = (s me).collected.votes ++ vote ∷ [] } }) [])
          by_test true = kept_same f g s me holds _ refl refl
          by_test false = kept_collects f g s me holds (change_runs _ change) (record ((s me).collected) { votes = (s me).collected.votes ++ vote ∷ [] }) refl
              (λ v in'. by_place v (Contains-append_cases (s me).collected.votes (vote ∷ []) v in'))
              (λ _ v in'. current v (Contains-append_cases (s me).collected.votes (vote ∷ []) v in')) r.at_view.starts refl

    -- the view is opened by the votes that are kept
    opens_by : (choose : Choice C) → IsRight f choose → (votes : List (Vote C)) → (s me).collected.votes ≡ votes → (s me).status ≡ Change
        → me ≡ primary f (s me).view → f < count_by (has_vote votes) (sites f)
        → (let y = executed_to (choose.most_done votes) (normal_in (s me).view (choose.pick votes).log (s me)) in
        Kept f g s me (does y (to_all f me (StartView (record { view = y.view; done = y.done; rows = y.log })))))
    opens_by choose right votes same change leads many =
        kept_opens f g s me pick.log pick.last_normal (has_vote votes) holds change leads
        (good pick is_pick.kept).below (good pick is_pick.kept).log_of many (λ j h. elector j (found _ votes h))
        (choose.most_done votes) most.1.last_normal most.1.log
        (subst (λ (n : ℕ). Committed f g most.1.last_normal (take n most.1.log)) most.4 (good most.1 in_most).done)
        (let w = (good most.1 in_most).within in let e = most.4 in omega arith) (good most.1 in_most).below
      where
        run : StandsRunning f g me (s me)
        run = (holds.sites me).running (change_runs _ change)

        one : Found (λ (v : Vote C). v.from == (quorums_meet f (has_vote votes) (has_vote votes) many many).site) votes
        one = found _ votes (quorums_meet f (has_vote votes) (has_vote votes) many many).first

        some : 0 < length votes
        some = let low = one.among.1 in omega arith

        pick : Vote C
        pick = choose.pick votes

        is_pick : IsPick votes pick
        is_pick = right.pick votes some

        most : (k : ℕ) × (v : Vote C) × (k < length votes) × (slice_index_or votes k v ≡ v) × (v.done ≡ choose.most_done votes)
        most = (right.most_done votes some).holds

        in_most : Contains votes most.1
        in_most = (most.0, most.2, most.3)

        voted : (v : Vote C) → Contains votes v → (to : ℕ) × Contains g.said (mail v.from to (DoViewChange (ballot ((s me).view) v)))
        voted v in' = run.votes change v (subst (λ (l : List (Vote C)). Contains l v) (sym same) in')

        good : (v : Vote C) → Contains votes v → IsVote f g v.from (ballot (s me).view v)
        good v in' = holds.said _ _ _ (voted v in').1

        upto_of : (v n u m : ℕ) → v ≤ u → (v ≡ u → n ≤ m) → IsUpto v n u m
        upto_of v n u m h k = by_case (cases_lt v u)
          where
            by_case : (v < u) ⊎ (u ≤ v) → IsUpto v n u m
            by_case (inl l) = inl l
            by_case (inr l) = inr (let e : v ≡ u = omega arith in e, k (omega arith))

        elector : (j : ℕ) → Found (λ (v : Vote C). v.from == j) votes → IsElector g (s me).view pick.last_normal (length pick.log) j
        elector j x =
            let t = voted x.item x.among in
            let n : IsNotBefore x.item pick = not_before x.item pick (is_pick.first x.item x.among) in
            subst (λ (i : ℕ). IsElector g (s me).view pick.last_normal (length pick.log) i) (eq_of x.item.from j x.passes)
            (record {
              to = t.0;
              u = x.item.last_normal;
              k = x.item.done;
              log = x.item.log;
              known = x.item.known;
              voted = t.1;
              best = upto_of _ _ _ _ n.view n.rows;
            })

  module _ (g : History C R O) (s : ℕ → Site C) (holds : Holds f g s) where
    -- its own vote is made where it is due
    votes_kept : me < 2 * f + 1 → (part : Part C R O) → part.site.status ≡ Change → Kept f g s me (does part.site part.sent)
        → (let voted = votes_where_due f me part in Kept f g s me (does voted.site voted.sent))
    votes_kept small part change k = by_tests (not (is_to_vote f me part.site)) (primary f part.site.view == me) refl
      where
        due_at : (x : Site C) → x ≡ part.site → not (is_to_vote f me part.site) ≡ false → is_to_vote f me x ≡ true
        due_at x e d = ap (is_to_vote f me) e ∙ not_false _ d

        by_tests : (due here : Bool) → not (is_to_vote f me part.site) ≡ due → (
            let voted : Part C R O = if due then part
            else if here then record { site = with_vote (own_vote me part.site) (with_voted part.site); sent = part.sent }
            else record { site = with_voted part.site; sent = part.sent ++ sends_vote f me part.site } in
            Kept f g s me (does voted.site voted.sent))
        by_tests true here d = k
        by_tests false true d = silently g s _ part.sent (kept_go f g s me part.site part.sent (λ x. with_vote (own_vote me x) (with_voted x)) (λ x. []) k
            (λ h t grown e later. votes_here h t later (ap (λ (x : Site C). x.status) e ∙ change) small (due_at (t me) e d)))
        by_tests false false d = kept_go f g s me part.site part.sent (λ x. with_voted x) (λ x. sends_vote f me x) k
            (λ h t grown e later. votes_there h t later (ap (λ (x : Site C). x.status) e ∙ change) small (due_at (t me) e d))

    -- the view is opened where it is due; what is dropped changes nothing
    opens_kept : (choose : Choice C) → IsRight f choose → (part : Part C R O) → Kept f g s me (does part.site part.sent)
        → Kept f g s me (opens_where_due choose f me (s me) part)
    opens_kept choose right part k =
        kept_if f g s me (not (is_to_open f me part.site)) (λ _. k) (λ due.
        kept_if f g s me (not (begins_with_executed choose.same part.site (choose.pick part.site.collected.votes).log))
        (λ _. kept_same f g s me holds _ refl refl) (λ _.
        opened (not_false _ due)))
      where
        votes : List (Vote C)
        votes = part.site.collected.votes

        opened : is_to_open f me part.site ≡ true → Kept f g s me (opened_with f me (choose.pick votes).log (choose.most_done votes) part)
        opened due =
            let leads = and_right (is_change part.site.status) _ due in
            let rest = and_right (primary f part.site.view == me) _ leads in
            let many = and_right (has_vote votes me) _ rest in
            kept_step f g s me _ (kept_go f g s me part.site part.sent (λ x. executed_to (choose.most_done votes) (normal_in x.view (choose.pick votes).log x))
            (λ x. let y = executed_to (choose.most_done votes) (normal_in x.view (choose.pick votes).log x) in
            to_all f me (StartView (record { view = y.view; done = y.done; rows = y.log }))) k
            (λ h t grown e later. opens_by h t later choose right votes (ap (λ (x : Site C). x.collected.votes) e)
            (ap (λ (x : Site C). x.status) e ∙ change_of _ (and_left (is_change part.site.status) _ due))
            (sym (eq_of _ _ (and_left (primary f part.site.view == me) _ leads)) ∙ ap (λ (x : Site C). primary f x.view) (sym e))
            (lt_of _ _ many)))

    -- a site that was in the change to w, or has started it now
    starts_kept : (w : ℕ) → is_running (s me).status ≡ true
        → (let part = starts_later_view {R = R} {O = O} f me w (s me) in Kept f g s me (does part.site part.sent))
    starts_kept w run = by_test (nat_lt (s me).view w) refl
      where
        by_test : (b : Bool) → nat_lt (s me).view w ≡ b
            → (let part : Part C R O = if b then starts_view f me w (s me) else record { site = s me; sent = [] } in Kept f g s me (does part.site part.sent))
        by_test true e = kept_starts f g s me holds run w (lt_of _ _ e)
        by_test false e = kept_same f g s me holds _ refl refl

  module _ (g : History C R O) (s : ℕ → Site C) (holds : Holds f g s) where
    -- what the sender knew is learnt, and a later view is started
    begun_kept : (told : List ℕ) (w : ℕ) → ((k : ℕ) → WasBoot g k (boot_of told k)) → is_running (s me).status ≡ true
        → (let part = starts_later_view {R = R} {O = O} f me w (learns told (s me)) in Kept f g s me (does part.site part.sent))
    begun_kept told w boots run =
        kept_go f g s me (learns told (s me)) [] (λ x. (starts_later_view {R = R} {O = O} f me w x).site)
        (λ x. (starts_later_view {R = R} {O = O} f me w x).sent)
        (kept_learns f g s me holds told boots run)
        (λ h t grown e later. starts_kept h t later w (ap (λ (x : Site C). is_running x.status) e ∙ run))

    -- and what it knew is of its boot that is known then
    current_vote : (vote : Vote C) (x : Site C) → x.known ≡ greater (s me).known vote.known → is_outdated (s me).known vote.from vote.known ≡ false
        → IsKeptVote x.known vote
    current_vote vote x known current = record {
      within = subst (λ (a : List ℕ). Within vote.known a) (sym known) (greater_right (s me).known vote.known);
      current = subst (λ (a : List ℕ). boot_of a vote.from ≤ boot_of vote.known vote.from) (sym known)
          (let e = greater_is (s me).known vote.known vote.from in let l = ge_of (boot_of vote.known vote.from) (boot_of (s me).known vote.from) current in
          omega arith);
    }

    current_start : (start : Start) (w to : ℕ) (h : History C R O) (x : Site C)
        → Contains h.said (mail start.from to (StartViewChange (record { view = w; known = start.known }))) → x.view ≡ w
        → x.known ≡ greater (s me).known start.known
        → is_outdated (s me).known start.from start.known ≡ false → IsKeptStart h x.view x.known start
    current_start start w to h x in' view known current = record {
      to = to;
      said = subst (λ (v : ℕ). Contains h.said (mail start.from to (StartViewChange (record { view = v; known = start.known })))) (sym view) in';
      within = subst (λ (a : List ℕ). Within start.known a) (sym known) (greater_right (s me).known start.known);
      current = subst (λ (a : List ℕ). boot_of a start.from ≤ boot_of start.known start.from) (sym known)
          (let e = greater_is (s me).known start.known start.from in let l = ge_of (boot_of start.known start.from) (boot_of (s me).known start.from) current in
          omega arith);
    }

    pub kept_start_view_change : (choose : Choice C) → IsRight f choose → (to w : ℕ) (start : Start) → is_down (s me).status ≡ false → me < 2 * f + 1
        → Contains g.said (mail start.from to (StartViewChange (record { view = w; known = start.known })))
        → Kept f g s me (on_start_view_change choose f me (s me) w start)
    unfolding on_start_view_change
    kept_start_view_change choose right to w start up small in' =
        kept_if f g s me (is_recovering (s me).status) (λ _. kept_same f g s me holds _ refl refl) (λ e₁.
        kept_if f g s me (nat_lt w (s me).view) (λ _. kept_same f g s me holds _ refl refl) (λ e₂.
        kept_if f g s me (is_normal (s me).status && (w == (s me).view)) (λ _. kept_same f g s me holds _ refl refl) (λ e₃.
        kept_if f g s me (is_outdated (s me).known start.from start.known) (λ _. kept_same f g s me holds _ refl refl) (λ e₄.
        let run = runs_of _ up e₁ in
        let x = learns start.known (s me) in
        let is = started_in R O f me x w e₂ run e₃ in
        let part = starts_later_view f me w x in
        opens_kept g s holds choose right _ (votes_kept g s holds small (record part { site = with_start start part.site }) (with_start_in part.site is.0)
        (silently g s _ part.sent (kept_go f g s me part.site part.sent (λ x. with_start start x) (λ x. []) (begun_kept start.known w told.boots run)
        (λ h t grown e later. start_kept h t later (ap (λ (x : Site C). x.status) e ∙ is.0) start
        (current_start start w to h (t me) (grown.said _ in') (ap (λ (x : Site C). x.view) e ∙ is.1) (ap (λ (x : Site C). x.known) e ∙ is.2) e₄)))))))))
      where
        told : IsTold g start.from w start.known
        told = holds.said start.from to (StartViewChange (record { view = w; known = start.known })) in'

        with_start_in : (x : Site C) → x.status ≡ Change → (with_start start x).status ≡ Change
        with_start_in x change = by_test (has_start x.collected.starts start.from)
          where
            by_test : (b : Bool)
                → (if b then x else record x { collected = record (x.collected) { starts = x.collected.starts ++ start ∷ [] } }).status ≡ Change
            by_test true = change
            by_test false = change

    -- the site as it decides whether the view opens
    pub kept_after_vote : (to w : ℕ) (vote : Vote C) → is_running (s me).status ≡ true → nat_lt w (s me).view ≡ false
        → (is_normal (s me).status && (w == (s me).view)) ≡ false
        → is_outdated (s me).known vote.from vote.known ≡ false → Contains g.said (mail vote.from to (DoViewChange (ballot w vote)))
        → (let part = after_vote {R = R} {O = O} f me w vote (s me) in Kept f g s me (does part.site part.sent))
    kept_after_vote to w vote run e₂ e₃ e₄ in' =
        let x = learns vote.known (s me) in
        let is = started_in R O f me x w e₂ run e₃ in
        let part = starts_later_view f me w x in
        silently g s _ part.sent (kept_go f g s me part.site part.sent (λ x. with_vote vote x) (λ x. []) (begun_kept vote.known w good.told.boots run)
        (λ h t grown e later. vote_kept h t later (ap (λ (x : Site C). x.status) e ∙ is.0) vote
        (current_vote vote (t me) (ap (λ (x : Site C). x.known) e ∙ is.2) e₄) (
          to,
          subst (λ (v : ℕ). Contains h.said (mail vote.from to (DoViewChange (ballot v vote))))
              (sym (ap (λ (x : Site C). x.view) e ∙ is.1)) (grown.said _ in'),
        )))
      where
        good : IsVote f g vote.from (ballot w vote)
        good = holds.said vote.from to (DoViewChange (ballot w vote)) in'

    pub kept_do_view_change : (choose : Choice C) → IsRight f choose → (to w : ℕ) (vote : Vote C) → is_down (s me).status ≡ false
        → Contains g.said (mail vote.from to (DoViewChange (ballot w vote))) → Kept f g s me (on_do_view_change choose f me (s me) w vote)
    unfolding on_do_view_change
    kept_do_view_change choose right to w vote up in' =
        kept_if f g s me (is_recovering (s me).status) (λ _. kept_same f g s me holds _ refl refl) (λ e₁.
        kept_if f g s me (nat_lt w (s me).view) (λ _. kept_same f g s me holds _ refl refl) (λ e₂.
        kept_if f g s me (not (primary f w == me)) (λ _. kept_same f g s me holds _ refl refl) (λ _.
        kept_if f g s me (is_normal (s me).status && (w == (s me).view)) (λ _. kept_same f g s me holds _ refl refl) (λ e₃.
        kept_if f g s me (is_outdated (s me).known vote.from vote.known) (λ _. kept_same f g s me holds _ refl refl) (λ e₄.
        let run = runs_of _ up e₁ in
        let x = learns vote.known (s me) in
        let is = started_in R O f me x w e₂ run e₃ in
        let part = starts_later_view f me w x in
        opens_kept g s holds choose right (record part { site = with_vote vote part.site })
        (silently g s _ part.sent (kept_go f g s me part.site part.sent (λ x. with_vote vote x) (λ x. []) (begun_kept vote.known w good.told.boots run)
        (λ h t grown e later. vote_kept h t later (ap (λ (x : Site C). x.status) e ∙ is.0) vote
        (current_vote vote (t me) (ap (λ (x : Site C). x.known) e ∙ is.2) e₄) (
          to,
          subst (λ (v : ℕ). Contains h.said (mail vote.from to (DoViewChange (ballot v vote)))) (sym (ap (λ (x : Site C). x.view) e ∙ is.1))
              (grown.said _ in'),
        )))))))))
      where
        good : IsVote f g vote.from (ballot w vote)
        good = holds.said vote.from to (DoViewChange (ballot w vote)) in'

    pub kept_timer : is_down (s me).status ≡ false → Kept f g s me (on_timer f me (s me))
    unfolding on_timer
    kept_timer up =
        kept_if f g s me (is_recovering (s me).status) (λ _. kept_same f g s me holds _ refl refl) (λ e.
        kept_starts f g s me holds (runs_of _ up e) ((s me).view + 1) (omega arith))

    pub kept_beat_in_change : (s me).status ≡ Change → Kept f g s me (beats_in_change f me (s me))
    unfolding beats_in_change
    kept_beat_in_change change =
        kept_then f g s me (s me) (s me) (to_all f me (StartViewChange (record { view = (s me).view; known = (s me).known })))
        (again (s me) ((s me).collected.voted && not (primary f (s me).view == me)))
        starts_again
        (λ h grown later. subst (λ (t : ℕ → Site C). Kept f h t me (does (s me) (again (s me) ((s me).collected.voted && not (primary f (s me).view == me)))))
        (sym (put_self s me))
        (votes_again h s (subst (λ (t : ℕ → Site C). Holds f h t) (put_self s me) later) change
        ((s me).collected.voted && not (primary f (s me).view == me)) (λ e. and_left _ _ e)))
      where
        again : Site C → Bool → List (EnvelopeOf C R O)
        again x b = if b then sends_vote f me x else []

        starts_again : Kept f g s me (does (s me) (to_all f me (StartViewChange (record { view = (s me).view; known = (s me).known }))))
        starts_again =
            let m : MsgOf C R O = StartViewChange (record { view = (s me).view; known = (s me).known }) in
            let es = to_all f me m in
            let says : Says me m es = says_to_all f me m in
            let at = ((holds.sites me).running (change_runs _ change)).at_view in
            kept_tell_boots f g s me holds m es tt says (λ to in'. record { running = change_runs _ change; view = refl; known = refl })
            (λ to in'. told_later f g (say es g) me 0 (later_say f g me m es tt says 0) me (s me).view (s me).known
            (record { boots = (holds.sites me).hears.heard; lived = at.lived }))

        votes_again : (h : History C R O) (t : ℕ → Site C) → Holds f h t → (t me).status ≡ Change → (b : Bool) → (b ≡ true → (t me).collected.voted ≡ true)
            → Kept f h t me (does (t me) (again (t me) b))
        votes_again h t later is true made =
            let m : MsgOf C R O =
            DoViewChange (record { view = (t me).view; last_normal = (t me).last_normal; done = (t me).done; rows = (t me).log; known = (t me).known }) in
            let es = sends_vote f me (t me) in
            let says : Says me m es = says_one me (primary f (t me).view) m in
            let at = ((later.sites me).running (change_runs _ is)).at_view in
            kept_tell_boots f h t me later m es tt says (λ to in'. record { running = change_runs _ is; view = refl; known = refl })
            (λ to in'. vote_vouched h t later is es says (backed_later f h (say es h) me 0 (later_say f h me m es tt says 0) me (t me).view (t me).cell.boots
            (at.backed is (made refl))))
        votes_again h t later is false made = kept_same f h t me later _ refl refl
