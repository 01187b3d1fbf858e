-- A new request comes to the primary of a view in which all work: it is executed, and answered.
use Rattle.std.proofs.Common.{◌≡◌, ◌≢◌, ◌⊎◌, inl, inr, ℕ, ◌+◌, ◌*◌, ◌<◌, ◌≤◌, Bool, true, false, not, ◌==◌, nat_lt, if◌then◌else◌, List, [], ◌∷◌, ◌++◌, length, slice_get, Some, None, count_by, refl, sym, ap, ◌∙◌, subst, arith, true≢false, length-append}
use Rattle.std.specs.Prelude.{Contains}
use Rattle.std.proofs.lemmas.Bool.{cases_eq, cases_lt}
use Rattle.std.proofs.lemmas.Bool.Decides.{nat_tests}
use Rattle.std.proofs.lemmas.Option.{slice_get-get_or}
use Rattle.vr_types.specs.declared.event.EventOf.TheVariants.{Deliver}
use Rattle.vr_types.specs.declared.event.SiteFault.TheVariants.{NotUp, NotMine}
use Rattle.vr_types.specs.declared.limits.TheConstants.{MAX_ROWS}
use Rattle.vr_types.specs.declared.message.EnvelopeOf.{EnvelopeOf}
use Rattle.vr_types.specs.declared.message.MsgOf.{MsgOf}
use Rattle.vr_types.specs.declared.message.MsgOf.TheVariants.{Prepare}
use Rattle.vr_types.specs.declared.row.RowOf.{RowOf}
use Rattle.vr_types.specs.Actors.{is_client}
use Rattle.vr_types.specs.Choice.{Choice, IsRight}
use Rattle.vr_types.specs.Group.{sites, others, primary, actor_of, is_mine, to_all}
use Rattle.vr_types.specs.Rows.{newest}
use Rattle.vr_types.specs.Site.{Site, is_normal, is_running}
use Rattle.vr_types.specs.Step.{Step, does, executed_to, acknowledges_all}
use Rattle.vr_types.specs.Normal.{with_row, on_request, on_prepare}
use Rattle.vr_types.specs.Handling.{refused_or, site_step, is_refused}
use Rattle.agreement.specs.Worlds.{World, step_of, IsRun}
use Rattle.agreement.specs.Promises.{request_of}
use Rattle.agreement.specs.Progress.{runs_at, WorksIn, AreWorking, Serves}
use Rattle.agreement.proofs.Members.{filter-passes}
use Rattle.agreement.proofs.Moves.{grown-trans}
use Rattle.agreement.proofs.Reached.{nobody, site_at, IsReached, first, run_holds, has_number}
use Rattle.agreement.proofs.Going.{goes_replies, goes_reached, taken, taken_here, taken_there, Reaches, reaches_then, sweep_on, goes_nowhere}
use Rattle.agreement.proofs.Lengths.{AllLong, run_long}
use Rattle.agreement.proofs.Counts.{has_site, others_enough, some_counted, sites_more}
use Rattle.agreement.proofs.Facts.{another, site_back, both_are, size_is, runs_same}
use Rattle.agreement.proofs.Tests.{eq_of, eq_test, ne_of, not_true, normal_runs, runs_up}
use Rattle.agreement.proofs.Waiting.{if_yes, if_no}
use Rattle.agreement.proofs.Starts.{delivered, IsSaid, IsTaken, comes}
use Rattle.agreement.proofs.Follows.{Follows}
use Rattle.agreement.proofs.Acks as acks
use Rattle.agreement.proofs.Commits as commits
use Rattle.agreement.proofs.Acks.{news_said, prepares_new}

lt_test : (a b : ℕ) → a < b → nat_lt a b ≡ true
lt_test a b h = grind (arith, nat_tests, h)

at_end : {A : Type 0} (xs : List A) (x : A) → slice_get (xs ++ x ∷ []) (length xs) ≡ Some x
at_end [] x = refl
at_end (y ∷ xs) x = at_end xs x

module _ {C R O : Type 0} (choose : Choice C) (f : ℕ) (right : IsRight f choose) (some : 1 ≤ f) (w : ℕ) (up : ℕ → Bool)
    (up_small : (j : ℕ) → up j ≡ true → j < 2 * f + 1) (up_leads : up (primary f w) ≡ true) (many : f < count_by up (sites f))
    (v : World C R O) (reached : IsReached f first v) (lengths : AllLong f v) (rows : List (RowOf C))
    (works : (j : ℕ) → up j ≡ true → WorksIn w rows (site_at v j))
    (row : RowOf C) (client : is_client row.client ≡ true) (new : newest rows row.client < row.number) (room : length rows < MAX_ROWS) where
  abbrev p : ℕ
  p = primary f w

  abbrev boots : ℕ → ℕ
  boots j = (site_at v j).cell.boots

  abbrev more : List (RowOf C)
  more = rows ++ row ∷ []

  request : EnvelopeOf C R O
  request = request_of (actor_of (primary f w)) row

  longer : length more ≡ length rows + 1
  longer = length-append rows (row ∷ [])

  appended : Step C R O
  appended =
      does (with_row row (site_at v p))
      (to_all f p (Prepare (record { view = (site_at v p).view; place = length (site_at v p).log + 1; done = (site_at v p).done; row = row })))

  request_is : site_step {R = R} {O = O} choose f p (site_at v p) (Deliver (request_of (actor_of (primary f w)) row)) ≡ appended
  unfolding on_request appended
  request_is =
      ap (refused_on (not (is_mine f p mail_of))) (runs_up _ (normal_runs _ x.status))
      ∙ (ap (λ (b : Bool). refused_on b false) (ap not (both_are (actor_of p == actor_of p) _ (eq_test (actor_of p) (actor_of p) refl) client))
      ∙ (if_no (not (is_normal (site_at v p).status)) _ _ (ap (λ st. not (is_normal st)) x.status)
      ∙ (if_no (not (primary f (site_at v p).view == p)) _ _ (ap not (eq_test _ _ (ap (primary f) x.view_is)))
      ∙ (if_yes (nat_lt (newest (site_at v p).log row.client) row.number) _ _ above
      ∙ if_no (length (site_at v p).log == MAX_ROWS) _ _ fits))))
    where
      x : WorksIn w rows (site_at v p)
      x = works p up_leads

      mail_of : EnvelopeOf C R O
      mail_of = request_of (actor_of (primary f w)) row

      refused_on : Bool → Bool → Step C R O
      refused_on other down = refused_or (site_at v p) (if down then Some NotUp else if other then Some NotMine else None) (on_request f p (site_at v p) row)

      above : nat_lt (newest (site_at v p).log row.client) row.number ≡ true
      above = ap (λ (l : List (RowOf C)). nat_lt (newest l row.client) row.number) x.log_is ∙ lt_test (newest rows row.client) row.number new

      fits : (length (site_at v p).log == MAX_ROWS) ≡ false
      fits = by_test (length (site_at v p).log == MAX_ROWS) refl
        where
          by_test : (t : Bool) → (length (site_at v p).log == MAX_ROWS) ≡ t → t ≡ false
          by_test true e =
              absurd (let d : length (site_at v p).log ≡ MAX_ROWS = eq_of (length (site_at v p).log) MAX_ROWS e in let l = ap (length {A = RowOf C}) x.log_is in
              let r = room in omega arith)
          by_test false e = refl

  asked : World C R O
  asked = taken choose f v p (Deliver (request_of (actor_of (primary f w)) row))

  small : (k : ℕ) → up k ≡ true → k < length v.sites
  small k e = let a = size_is f v reached in let b = up_small k e in omega arith

  asks : IsRun choose f v (step_of (primary f w) (Deliver (request_of (actor_of (primary f w)) row)) ∷ []) asked
  unfolding asked appended
  asks = (
    asked,
    record {
      before = site_at v p;
      is_there = slice_get-get_or v.sites p nobody (small p up_leads);
      may_happen = inl refl;
      ends = (ap (λ (s : Step C R O). is_refused s.ending) request_is, refl);
    },
    refl,
  )

  asked_reached : IsReached f first asked
  asked_reached =
      let h : IsReached f reached.history asked =
      run_holds f choose right reached.history v asked (step_of (primary f w) (Deliver (request_of (actor_of (primary f w)) row)) ∷ []) reached.holds
      asks in
      record { history = h.history; holds = h.holds; grown = grown-trans f first reached.history h.history reached.grown h.grown }

  asked_full : AllLong f asked
  asked_full = run_long choose f v asked (step_of (primary f w) (Deliver (request_of (actor_of (primary f w)) row)) ∷ []) lengths asks

  asked_here : site_at asked p ≡ with_row row (site_at v p)
  unfolding asked appended
  asked_here = taken_here choose f v p (Deliver (request_of (actor_of (primary f w)) row)) (small p up_leads) ∙ ap (λ (s : Step C R O). s.site) request_is

  asked_there : (j : ℕ) → j ≢ p → site_at asked j ≡ site_at v j
  unfolding asked
  asked_there j apart = taken_there choose f v p j (Deliver (request_of (actor_of (primary f w)) row)) (small p up_leads) apart

  -- the primary has the row, and has not executed it; each other running site has it, or is as long as before
  record Spreads (u : World C R O) : Type 0 where
    is : IsReached f first u
    full : AllLong f u
    lead : Follows w (boots (primary f w)) more (site_at u (primary f w))
    done : (site_at u (primary f w)).done ≡ length rows
    each : (j : ℕ) → up j ≡ true → j ≢ primary f w → Follows w (boots j) rows (site_at u j) ⊎ Follows w (boots j) more (site_at u j)
    rest : (j : ℕ) → up j ≡ false → site_at u j ≡ site_at asked j

  spreads_first : Spreads asked
  spreads_first = record {
    is = asked_reached;
    full = asked_full;
    lead =
        subst (λ (x : Site C). Follows w (boots p) more x) (sym asked_here) (let x = works p up_leads in
        record { status = x.status; view = x.view_is; boots = refl; log_is = ap (λ (l : List (RowOf C)). l ++ row ∷ []) x.log_is });
    done = ap (λ (x : Site C). x.done) asked_here ∙ (works p up_leads).done;
    each =
        λ j e apart. inl (subst (λ (x : Site C). Follows w (boots j) rows x) (sym (asked_there j apart)) (let x = works j e in
        record { status = x.status; view = x.view_is; boots = refl; log_is = x.log_is }));
    rest = λ j e. refl;
  }

  abbrev Has : ℕ → World C R O → Type 0
  Has j u = Follows w (boots j) more (site_at u j)

  record KeepsOn (a b : World C R O) : Type 0 where
    each : (j : ℕ) → Has j a → Has j b

  keeps_on_same : (a : World C R O) → KeepsOn a a
  keeps_on_same a = record { each = λ i k. k }

  keeps_on_more : (a b c : World C R O) → KeepsOn a b → KeepsOn b c → KeepsOn a c
  keeps_on_more a b c q r = record { each = λ i k. r.each i (q.each i k) }

  -- the PREPARE comes to site j
  one_takes : (j : ℕ) → up j ≡ true → j ≢ p → (u : World C R O) → Spreads u → Follows w (boots j) rows (site_at u j)
      → Reaches choose f u (λ t. Spreads t × Has j t × KeepsOn u t)
  one_takes j up_j apart u d behind =
      reaches_then choose f u (IsSaid choose f p j prepare u) _ said (λ q s.
      reaches_then choose f q (IsTaken choose f j (step q) q) _ (arrives q s)
      (λ t so. record { after = t; goes = goes_nowhere choose f t; holds = ends q s t so }))
    where
      prepare : MsgOf C R O
      prepare = Prepare (record { view = w; place = length rows + 1; done = length rows; row = row })

      found : slice_get (site_at u p).log (site_at u p).done ≡ Some row
      found = ap (λ (l : List (RowOf C)). slice_get l (site_at u p).done) d.lead.log_is ∙ (ap (λ (n : ℕ). slice_get more n) d.done ∙ at_end rows row)

      said : Reaches choose f u (IsSaid choose f p j prepare u)
      said =
          subst (λ (n : ℕ). Reaches choose f u (IsSaid choose f p j (Prepare (record { view = w; place = n + 1; done = n; row = row })) u)) d.done
          (subst
          (λ (m : ℕ).
          Reaches choose f u (IsSaid choose f p j (Prepare (record { view = m; place = (site_at u p).done + 1; done = (site_at u p).done; row = row })) u))
          d.lead.view
          (news_said choose f u w p j (Some row) (let a = size_is f u d.is in let b = up_small p up_leads in
          omega arith) d.lead.status d.lead.view refl (up_small j up_j) apart found))

      step : World C R O → Step C R O
      step q = (let y = executed_to (length rows) (with_row row (site_at q j)) in does y (acknowledges_all f j y))

      behind_q : (q : World C R O) → IsSaid choose f p j prepare u q → Follows w (boots j) rows (site_at q j)
      behind_q q s = subst (λ (x : ℕ → Site C). Follows w (boots j) rows (x j)) (sym s.same) behind

      arrives : (q : World C R O) → IsSaid choose f p j prepare u q → Reaches choose f q (IsTaken choose f j (step q) q)
      arrives q s =
          let x = behind_q q s in
          comes choose f q p j prepare (step q) (let a = size_is f q (goes_reached choose f right u q d.is s.goes) in let b = up_small j up_j in
          omega arith) s.sent refl
          (delivered choose f p j (site_at q j) prepare (runs_up _ (normal_runs _ x.status)) (another f j p (up_small p up_leads) (λ e. apart (sym e)))
          ∙ (ap (λ (m : ℕ). on_prepare {R = R} {O = O} f j (site_at q j) m (record { view = w; place = length rows + 1; done = length rows; row = row }))
          (site_back p)
          ∙ prepares_new choose f w p j (length rows) row (site_at q j) x.status x.view refl (sym (ap (length {A = RowOf C}) x.log_is)))) refl

      ends : (q : World C R O) → IsSaid choose f p j prepare u q → (t : World C R O) → IsTaken choose f j (step q) q t → Spreads t × Has j t × KeepsOn u t
      ends q s t so = (
        record {
          is = goes_reached choose f right q t (goes_reached choose f right u q d.is s.goes) so.goes;
          full = run_long choose f q t so.goes.events (run_long choose f u q s.goes.events d.full s.goes.run) so.goes.run;
          lead = subst (λ (x : Site C). Follows w (boots p) more x) (sym (same p (λ e. apart (sym e)))) d.lead;
          done = ap (λ (x : Site C). x.done) (same p (λ e. apart (sym e))) ∙ d.done;
          each = λ k e other. each_by k e other (cases_eq k j);
          rest = λ k e. same k (λ is'. true≢false (sym up_j ∙ (ap up (sym is') ∙ e))) ∙ d.rest k e;
        },
        here,
        record { each = λ k h. keeps_by k h (cases_eq k j) },
      )
        where
          same : (k : ℕ) → k ≢ j → site_at t k ≡ site_at u k
          same k other = so.there k other ∙ ap (λ (x : ℕ → Site C). x k) s.same

          here : Has j t
          here = subst (λ (x : Site C). Follows w (boots j) more x) (sym so.here)
              (let x = behind_q q s in
              record { status = x.status; view = x.view; boots = x.boots; log_is = ap (λ (l : List (RowOf C)). l ++ row ∷ []) x.log_is })

          each_by : (k : ℕ) → up k ≡ true → k ≢ p → (k ≡ j) ⊎ (k ≡ j → ⊥) → Follows w (boots k) rows (site_at t k) ⊎ Follows w (boots k) more (site_at t k)
          each_by k e other (inl is') = inr (subst (λ (m : ℕ). Has m t) (sym is') here)
          each_by k e other (inr apart') =
              subst (λ (x : Site C). Follows w (boots k) rows x ⊎ Follows w (boots k) more x) (sym (same k apart')) (d.each k e other)

          keeps_by : (k : ℕ) → Has k u → (k ≡ j) ⊎ (k ≡ j → ⊥) → Has k t
          keeps_by k h (inl is') = subst (λ (m : ℕ). Has m t) (sym is') here
          keeps_by k h (inr apart') = subst (λ (x : Site C). Follows w (boots k) more x) (sym (same k apart')) h

  abbrev Settled : World C R O → Type 0
  Settled u = acks.Settled choose f right w up up_small up_leads boots more asked u

  -- all running sites have the row
  record Spread (u : World C R O) : Type 0 where
    settled : Settled u
    done : (site_at u (primary f w)).done ≡ length rows

  all_take : Reaches choose f asked Spread
  all_take =
      reaches_then choose f asked (λ u. Spreads u × ((j : ℕ) → Contains (sites f) j → up j ≡ true → Has j u) × KeepsOn asked u) Spread
      (sweep_on choose f Spreads KeepsOn keeps_on_same keeps_on_more (λ j u. up j ≡ true → Has j u) (λ j a b r h e. r.each j (h e)) (sites f)
      (λ j u in' d. by_test j u d (up j) refl (cases_eq j p)) asked spreads_first)
      (λ u so. record {
        after = u;
        goes = goes_nowhere choose f u;
        holds = record {
          settled = record { is = so.0.is; full = so.0.full; all = λ j e. so.1 j (has_site f j (up_small j e)) e; rest = so.0.rest };
          done = so.0.done;
        };
      })
    where
      stays : (j : ℕ) (u : World C R O) → Spreads u → (up j ≡ true → Has j u) → Reaches choose f u (λ t. Spreads t × (up j ≡ true → Has j t) × KeepsOn u t)
      stays j u d h = record { after = u; goes = goes_nowhere choose f u; holds = (d, h, keeps_on_same u) }

      by_each : (j : ℕ) (u : World C R O) → Spreads u → up j ≡ true → j ≢ p → Follows w (boots j) rows (site_at u j) ⊎ Has j u
          → Reaches choose f u (λ t. Spreads t × (up j ≡ true → Has j t) × KeepsOn u t)
      by_each j u d e apart (inr has) = stays j u d (λ _. has)
      by_each j u d e apart (inl behind) =
          reaches_then choose f u (λ t. Spreads t × Has j t × KeepsOn u t) _ (one_takes j e apart u d behind)
          (λ t so. record { after = t; goes = goes_nowhere choose f t; holds = (so.0, (λ _. so.1), so.2) })

      by_test : (j : ℕ) (u : World C R O) → Spreads u → (b : Bool) → up j ≡ b → (j ≡ p) ⊎ (j ≡ p → ⊥)
          → Reaches choose f u (λ t. Spreads t × (up j ≡ true → Has j t) × KeepsOn u t)
      by_test j u d false e place = stays j u d (λ e'. absurd (true≢false (sym e' ∙ e)))
      by_test j u d true e (inl same) = stays j u d (λ _. subst (λ (i : ℕ). Has i u) (sym same) d.lead)
      by_test j u d true e (inr apart) = by_each j u d e apart (d.each j e apart)

  -- AND it is acknowledged, executed and answered
  record IsAnswered (u : World C R O) : Type 0 where
    sender : Site C
    among : Contains u.replies (record { from = primary f w; sender = sender; place = length more })
    log_is : sender.log ≡ more
    done : sender.done ≡ length more

  record Ends (u : World C R O) : Type 0 where
    counts : acks.Counts choose f right w up up_small up_leads boots more asked u
    told : (site_at u (primary f w)).done ≡ length more → IsAnswered u

  abbrev Acked : ℕ → World C R O → Type 0
  Acked j u = acks.Acked choose f right w up up_small up_leads boots more asked j u

  -- a step that acknowledges
  one_acks : (j : ℕ) → up j ≡ true → j ≢ p → (u : World C R O) → Settled u → (site_at u p).done < length more
      → Reaches choose f u (λ t. Ends t × Acked j t × acks.KeepsOn choose f right w up up_small up_leads boots more asked u t)
  one_acks j e apart u d less =
      reaches_then choose f u (λ t. acks.Counts choose f right w up up_small up_leads boots more asked t × Acked j t
      × acks.KeepsOn choose f right w up up_small up_leads boots more asked u t × acks.IsTold choose f right w up up_small up_leads boots more asked t) _
      (acks.one_acks choose f right w up up_small up_leads boots more asked j e apart u d less)
      (λ t so. record {
        after = t;
        goes = goes_nowhere choose f t;
        holds = (
          record { counts = so.0; told = λ all. record { sender = site_at t p; among = so.3 all; log_is = (so.0.settled.all p up_leads).log_is; done = all } },
          so.1,
          so.2,
        );
      })

  -- another running site
  another_up : (j : ℕ) × (up j ≡ true) × (j ≢ p)
  another_up =
      let h = others_enough f p up up many (λ j apart e. e) in
      let x = some_counted up (others f p) (let s = some in omega arith) in
      (x.0, x.2, ne_of x.0 p (not_true (x.0 == p) (filter-passes (λ j. not (j == p)) (sites f) x.0 x.1)))

  all_ack : (u : World C R O) → Ends u → Reaches choose f u (λ t. Ends t × ((site_at t p).done ≡ length more))
  all_ack u c =
      reaches_then choose f u (λ t. Ends t × ((j : ℕ) → Contains (sites f) j → up j ≡ true → j ≢ p → Acked j t)
      × acks.KeepsOn choose f right w up up_small up_leads boots more asked u t) _
      (sweep_on choose f Ends (acks.KeepsOn choose f right w up up_small up_leads boots more asked)
      (acks.keeps_on_same choose f right w up up_small up_leads boots more asked)
      (acks.keeps_on_more choose f right w up up_small up_leads boots more asked)
      (λ j t. up j ≡ true → j ≢ p → Acked j t) (λ j a b r h e d. r.each j (h e d)) (sites f) (λ j t in' d. by_test j t d (up j) refl (cases_eq j p)) u c)
      (λ t so. record {
        after = t;
        goes = goes_nowhere choose f t;
        holds = (
          so.0,
          acks.acked_all choose f right w up up_small up_leads boots more asked many t
              (λ j e apart. so.1 j (has_site f j (up_small j e)) e apart) so.0.counts.due,
        );
      })
    where
      stays : (j : ℕ) (t : World C R O) → Ends t → (up j ≡ true → j ≢ p → Acked j t)
          → Reaches choose f t (λ q. Ends q × (up j ≡ true → j ≢ p → Acked j q) × acks.KeepsOn choose f right w up up_small up_leads boots more asked t q)
      stays j t d h =
          record { after = t; goes = goes_nowhere choose f t; holds = (d, h, acks.keeps_on_same choose f right w up up_small up_leads boots more asked t) }

      by_size : (j : ℕ) (t : World C R O) → Ends t → up j ≡ true → j ≢ p → ((site_at t p).done < length more) ⊎ (length more ≤ (site_at t p).done)
          → Reaches choose f t (λ q. Ends q × (up j ≡ true → j ≢ p → Acked j q) × acks.KeepsOn choose f right w up up_small up_leads boots more asked t q)
      by_size j t d e apart (inl less) =
          reaches_then choose f t (λ q. Ends q × Acked j q × acks.KeepsOn choose f right w up up_small up_leads boots more asked t q) _
          (one_acks j e apart t d.counts.settled less)
          (λ q so. record { after = q; goes = goes_nowhere choose f q; holds = (so.0, (λ _ _. so.1), so.2) })
      by_size j t d e apart (inr enough) =
          stays j t d (λ _ _. inl (let h = acks.within choose f right w up up_small up_leads boots more asked t d.counts.settled p up_leads in omega arith))

      by_test : (j : ℕ) (t : World C R O) → Ends t → (b : Bool) → up j ≡ b → (j ≡ p) ⊎ (j ≡ p → ⊥)
          → Reaches choose f t (λ q. Ends q × (up j ≡ true → j ≢ p → Acked j q) × acks.KeepsOn choose f right w up up_small up_leads boots more asked t q)
      by_test j t d false e place = stays j t d (λ e' _. absurd (true≢false (sym e' ∙ e)))
      by_test j t d true e (inl same) = stays j t d (λ _ apart. absurd (apart same))
      by_test j t d true e (inr apart) = by_size j t d e apart (cases_lt (site_at t p).done (length more))

  -- and all running sites execute it
  record IsServed (u : World C R O) : Type 0 where
    answered : IsAnswered u
    all : (j : ℕ) → up j ≡ true → WorksIn w more (site_at u j)
    rest : (j : ℕ) → up j ≡ false → site_at u j ≡ site_at v j
    is : IsReached f first u

  served : Reaches choose f asked IsServed
  served =
      reaches_then choose f asked Spread IsServed all_take (λ u d.
      reaches_then choose f u (λ t. Ends t × Acked another_up.0 t × acks.KeepsOn choose f right w up up_small up_leads boots more asked u t) IsServed
      (one_acks another_up.0 another_up.1 another_up.2 u d.settled (let e = d.done in let l = longer in omega arith)) (λ t so.
      reaches_then choose f t (λ q. Ends q × ((site_at q p).done ≡ length more)) IsServed (all_ack t so.0) (λ q ended.
      (let told = ended.0.told ended.1 in
      let all = commits.all_commit choose f right w up up_small up_leads boots more asked q (record { settled = ended.0.counts.settled; done = ended.1 }) in
      record {
        after = all.after;
        goes = all.goes;
        holds = record {
          answered = record { sender = told.sender; among = goes_replies choose f q all.after all.goes _ told.among; log_is = told.log_is; done = told.done };
          all = λ j e. (let x = all.holds.settled.all j e in record { status = x.status; view_is = x.view; log_is = x.log_is; done = all.holds.done j e });
          rest = λ j e. all.holds.settled.rest j e ∙ asked_there j (λ same. true≢false (sym up_leads ∙ (ap up (sym same) ∙ e)));
          is = all.holds.settled.is;
        };
      }))))

  -- where a site runs just where `up` says so
  module _ (is_up : (j : ℕ) → up j ≡ is_running (site_at v j).status) where
    working : AreWorking f w more served.after.sites
    working = record {
      many = let a = many in let b = sites_more f up (runs_at served.after.sites) (λ j e. runs j e) in omega arith;
      leads = runs (primary f w) up_leads;
      each = λ y in' run. (
          let i = has_number f served.after y in' in
          subst (λ (x : Site C). WorksIn w more x) i.1 (by_up i.0 (ap (λ (x : Site C). is_running x.status) i.1 ∙ run) (up i.0) refl));
    }
      where
        runs : (j : ℕ) → up j ≡ true → runs_at served.after.sites j ≡ true
        runs j e = runs_same served.after j ∙ ap is_running (served.holds.all j e).status

        by_up : (j : ℕ) → is_running (site_at served.after j).status ≡ true → (b : Bool) → up j ≡ b → WorksIn w more (site_at served.after j)
        by_up j run true e = served.holds.all j e
        by_up j run false e = absurd (true≢false (sym run ∙ (ap (λ (x : Site C). is_running x.status) (served.holds.rest j e) ∙ (sym (is_up j) ∙ e))))

    pub serves : Serves choose f v w rows row
    serves = record {
      asked = asked;
      asks = asks;
      served = served.after;
      goes = served.goes;
      sender = served.holds.answered.sender;
      answered =
          subst (λ (n : ℕ). Contains served.after.replies (record { from = primary f w; sender = served.holds.answered.sender; place = n })) longer
          served.holds.answered.among;
      with_row = served.holds.answered.log_is;
      executed = served.holds.answered.done ∙ ap (length {A = RowOf C}) (sym served.holds.answered.log_is);
      working = working;
      runs = λ i e. runs_same served.after i ∙ ap is_running (served.holds.all i (is_up i ∙ (sym (runs_same v i) ∙ e))).status;
    }
