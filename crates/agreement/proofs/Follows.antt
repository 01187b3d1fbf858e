-- STARTVIEW comes to each running site, which follows the primary of the view.
use Rattle.std.proofs.Common.{◌≡◌, ◌≢◌, ◌⊎◌, inl, inr, ℕ, ◌+◌, ◌*◌, ◌<◌, ◌≤◌, Bool, true, false, not, ◌&&◌, ◌==◌, nat_lt, if◌then◌else◌, List, [], length, take, refl, sym, ap, ◌∙◌, subst, arith, true≢false}
use Rattle.std.specs.Prelude.{Contains}
use Rattle.std.proofs.lemmas.Bool.{cases_eq}
use Rattle.vr_types.specs.declared.event.EventOf.TheVariants.{Deliver}
use Rattle.vr_types.specs.declared.event.Status.TheVariants.{Normal, Change}
use Rattle.vr_types.specs.declared.message.EnvelopeOf.{EnvelopeOf}
use Rattle.vr_types.specs.declared.message.MsgOf.{MsgOf}
use Rattle.vr_types.specs.declared.message.MsgOf.TheVariants.{StartView}
use Rattle.vr_types.specs.declared.row.RowOf.{RowOf}
use Rattle.vr_types.specs.Choice.{Choice, IsRight}
use Rattle.vr_types.specs.Group.{sites, primary, mail}
use Rattle.vr_types.specs.Site.{Site, is_normal, is_recovering}
use Rattle.vr_types.specs.Step.{Step, Handled, does, normal_in, executed_to, begins_with_executed, acknowledges_all}
use Rattle.vr_types.specs.Change.{on_start_view}
use Rattle.vr_types.specs.Handling.{site_step, is_refused}
use Rattle.agreement.specs.Worlds.{World}
use Rattle.agreement.specs.Promises.{Begins}
use Rattle.agreement.proofs.Beginnings.{begins_at}
use Rattle.agreement.proofs.Histories.{History}
use Rattle.agreement.proofs.Vouched.{IsOpening}
use Rattle.agreement.proofs.Standing.{StandsRunning}
use Rattle.agreement.proofs.Invariant.{Holds}
use Rattle.agreement.proofs.Prior.{committed_opening}
use Rattle.agreement.proofs.NeverStale.{begins_passes}
use Rattle.agreement.proofs.Reached.{site_at, IsReached, first}
use Rattle.agreement.proofs.Going.{goes_reached, Reaches, reaches_then, sweep_on, goes_nowhere}
use Rattle.agreement.proofs.Lengths.{AllLong, run_long}
use Rattle.agreement.proofs.Counts.{has_site}
use Rattle.agreement.proofs.Facts.{another, site_back, size_is}
use Rattle.agreement.proofs.Tests.{eq_test, runs_up, change_runs}
use Rattle.agreement.proofs.Waiting.{Changes, if_yes, if_no, not_less}
use Rattle.agreement.proofs.Starts.{delivered, IsTaken, comes, Gathers}
use Rattle.agreement.proofs.Ballots.{IsOpen, Collects}

-- a site is normal in view w, with this log
pub record Follows {C : Type 0} (w b : ℕ) (log : List (RowOf C)) (x : Site C) : Type 0 where
  pub status : x.status ≡ Normal
  pub view : x.view ≡ w
  pub boots : x.cell.boots ≡ b
  pub log_is : x.log ≡ log

module _ {C R O : Type 0} (choose : Choice C) (f w : ℕ) (right : IsRight f choose) where
  pub record TakesView (b : ℕ) (log : List (RowOf C)) (step : Step C R O) : Type 0 where
    pub handled : step.ending ≡ Handled
    pub follows : Follows w b log step.site

  -- a site in change to view w takes its STARTVIEW
  pub takes_view : (g : History C R O) (s : ℕ → Site C) (me b : ℕ) → Holds f g s → (s me).status ≡ Change → (s me).view ≡ w → (s me).cell.boots ≡ b
      → (from to k : ℕ) (log : List (RowOf C)) → primary f w ≡ from → Contains g.said (mail from to (StartView (record { view = w; done = k; rows = log })))
      → TakesView b log (on_start_view choose f me (s me) from (record { view = w; done = k; rows = log }))
  unfolding on_start_view
  takes_view g s me b holds change view boots from to k log leads said =
      subst (λ (st : Step C R O). TakesView b log st) (sym step_is)
      (record { handled = refl; follows = record { status = refl; view = refl; boots = boots; log_is = refl } })
    where
      r : StandsRunning f g me (s me)
      r = (holds.sites me).running (change_runs _ change)

      opening : IsOpening f g (record { view = w; done = k; rows = log })
      opening = holds.said _ _ _ said

      begins : Begins (take (s me).done (s me).log) log
      begins =
          begins_at (sym opening.is) (committed_opening f g s holds (s me).last_normal w _ r.done (let h = r.change change in let e = view in
          omega arith) opening.opened)

      step_is : on_start_view {R = R} {O = O} choose f me (s me) from (record { view = w; done = k; rows = log })
          ≡ (let y = executed_to k (normal_in w log (s me)) in does y (if nat_lt y.done (length y.log) then acknowledges_all f me y else []))
      step_is =
          if_no (not (primary f w == from)) _ _ (ap not (eq_test (primary f w) from leads))
          ∙ (if_no (is_recovering (s me).status) _ _ (ap is_recovering change)
          ∙ (if_no (nat_lt w (s me).view) _ _ (not_less w (s me).view (sym view))
          ∙ (if_no (is_normal (s me).status && (w == (s me).view)) _ _ (ap (λ st. is_normal st && (w == (s me).view)) change)
          ∙ if_yes (begins_with_executed choose.same (s me) log) _ _ (begins_passes f choose right (s me) log begins))))

  module _ (some : 1 ≤ f) (up : ℕ → Bool) (up_small : (j : ℕ) → up j ≡ true → j < 2 * f + 1) (old mid begun : World C R O) (up_leads : up (primary f w) ≡ true)
      (gathered : Gathers choose f right some w up up_small old mid) (voted : (j : ℕ) → up j ≡ true → (site_at mid j).collected.voted ≡ true)
      (collects : Collects choose f right some w up up_small old mid up_leads gathered voted begun)
      (is_open : IsOpen choose f right some w up up_small old mid up_leads gathered voted begun) where
    abbrev p : ℕ
    p = primary f w

    abbrev rows : List (RowOf C)
    rows = (site_at begun (primary f w)).log

    abbrev boots_of : ℕ → ℕ
    boots_of j = (site_at old j).cell.boots

    pub record Opened (v : World C R O) : Type 0 where
      pub is : IsReached f first v
      pub long : AllLong f v
      pub leads : site_at v (primary f w) ≡ site_at begun (primary f w)
      pub rest : (j : ℕ) → up j ≡ false → site_at v j ≡ site_at old j
      pub each : (j : ℕ) → up j ≡ true → j ≢ primary f w
          → (site_at v j ≡ site_at mid j) ⊎ Follows w ((site_at old j).cell.boots) ((site_at begun (primary f w)).log) (site_at v j)
      pub told : (e : EnvelopeOf C R O) → Contains begun.sent e → Contains v.sent e

    abbrev Does : ℕ → World C R O → Type 0
    Does j v = Follows w (boots_of j) rows (site_at v j)

    record KeepsOn (a b : World C R O) : Type 0 where
      each : (j : ℕ) → Does j a → Does j b

    keeps_on_same : (a : World C R O) → KeepsOn a a
    keeps_on_same a = record { each = λ i k. k }

    keeps_on_more : (a b c : World C R O) → KeepsOn a b → KeepsOn b c → KeepsOn a c
    keeps_on_more a b c q r = record { each = λ i k. r.each i (q.each i k) }

    pub opened_first : Opened begun
    opened_first = record {
      is = collects.is;
      long = collects.long;
      leads = refl;
      rest = λ j e. collects.there j (λ same. true≢false (sym up_leads ∙ (ap up (sym same) ∙ e))) ∙ gathered.rest j e;
      each = λ j e apart. inl (collects.there j apart);
      told = λ e in'. in';
    }

    view_comes : (j : ℕ) → up j ≡ true → j ≢ p → (v : World C R O) → Opened v → site_at v j ≡ site_at mid j
        → Reaches choose f v (λ u. Opened u × Does j u × KeepsOn v u)
    view_comes j up_j apart v o same =
        reaches_then choose f v (IsTaken choose f j step v) _ arrives (λ t is. record { after = t; goes = goes_nowhere choose f t; holds = done t is })
      where
        msg : MsgOf C R O
        msg = StartView (record { view = w; done = (site_at begun p).done; rows = rows })

        step : Step C R O
        step = on_start_view choose f j (site_at v j) p (record { view = w; done = (site_at begun p).done; rows = rows })

        changes : Changes f w j (boots_of j) (site_at v j)
        changes = subst (λ (x : Site C). Changes f w j (boots_of j) x) (sym same) (gathered.waits j up_j).changes

        sent : Contains v.sent (mail p j msg)
        sent = o.told _ (is_open.told j (up_small j up_j) apart)

        takes : TakesView (boots_of j) rows step
        takes =
            takes_view o.is.history (site_at v) j (boots_of j) o.is.holds.holds changes.status changes.view changes.boots p j
            (site_at begun p).done rows refl (o.is.holds.said _ sent)

        step_is : site_step choose f j (site_at v j) (Deliver (mail p j msg)) ≡ step
        step_is =
            delivered choose f p j (site_at v j) msg (runs_up _ (change_runs _ changes.status)) (another f j p (up_small p up_leads) (λ e. apart (sym e)))
            ∙ ap (λ (n : ℕ). on_start_view {R = R} {O = O} choose f j (site_at v j) n (record { view = w; done = (site_at begun p).done; rows = rows }))
            (site_back p)

        arrives : Reaches choose f v (IsTaken choose f j step v)
        arrives =
            comes choose f v p j msg step (let e = size_is f v o.is in let b = up_small j up_j in omega arith) sent refl step_is (ap is_refused takes.handled)

        done : (t : World C R O) → IsTaken choose f j step v t → Opened t × Does j t × KeepsOn v t
        done t is = (
          record {
            is = goes_reached choose f right v t o.is is.goes;
            long = run_long choose f v t is.goes.events o.long is.goes.run;
            leads = is.there p (λ e. apart (sym e)) ∙ o.leads;
            rest = λ k e. is.there k (λ d. true≢false (sym up_j ∙ (ap up (sym d) ∙ e))) ∙ o.rest k e;
            each = λ k e apart'. each_by k e apart' (cases_eq k j);
            told = λ e in'. is.still e (o.told e in');
          },
          here,
          record { each = λ k h. keeps_by k h (cases_eq k j) },
        )
          where
            here : Does j t
            here = subst (λ (x : Site C). Follows w (boots_of j) rows x) (sym is.here) takes.follows

            keeps_by : (k : ℕ) → Does k v → (k ≡ j) ⊎ (k ≡ j → ⊥) → Does k t
            keeps_by k h (inl e) = subst (λ (m : ℕ). Does m t) (sym e) here
            keeps_by k h (inr apart') = subst (λ (x : Site C). Follows w (boots_of k) rows x) (sym (is.there k apart')) h

            each_by : (k : ℕ) → up k ≡ true → k ≢ p → (k ≡ j) ⊎ (k ≡ j → ⊥) → (site_at t k ≡ site_at mid k) ⊎ Does k t
            each_by k e d (inl same') = inr (subst (λ (m : ℕ). Does m t) (sym same') here)
            each_by k e d (inr apart') = by_old (o.each k e d)
              where
                by_old : (site_at v k ≡ site_at mid k) ⊎ Does k v → (site_at t k ≡ site_at mid k) ⊎ Does k t
                by_old (inl q) = inl (is.there k apart' ∙ q)
                by_old (inr q) = inr (subst (λ (x : Site C). Follows w (boots_of k) rows x) (sym (is.there k apart')) q)

    -- the primary has the log itself
    leads_so : (v : World C R O) → Opened v → Does p v
    leads_so v o =
        subst (λ (x : Site C). Follows w (boots_of p) rows x) (sym o.leads)
        (record { status = is_open.status; view = is_open.view; boots = is_open.boots; log_is = refl })

    -- all running sites are normal in view w with one log
    pub all_follow : (v : World C R O) → Opened v
        → Reaches choose f v (λ u. Opened u × ((j : ℕ) → up j ≡ true
        → Follows w ((site_at old j).cell.boots) ((site_at begun (primary f w)).log) (site_at u j)))
    all_follow v o =
        reaches_then choose f v (λ u. Opened u × ((j : ℕ) → Contains (sites f) j → up j ≡ true → Does j u) × KeepsOn v u) _
        (sweep_on choose f Opened KeepsOn keeps_on_same keeps_on_more (λ j u. up j ≡ true → Does j u) (λ j a b r h e. r.each j (h e)) (sites f)
        (λ j u in' d. by_test j u d (up j) refl (cases_eq j p)) v o)
        (λ u is. record { after = u; goes = goes_nowhere choose f u; holds = (is.0, λ j e. is.1 j (has_site f j (up_small j e)) e) })
      where
        stays : (j : ℕ) (u : World C R O) → Opened u → (up j ≡ true → Does j u) → Reaches choose f u (λ t. Opened t × (up j ≡ true → Does j t) × KeepsOn u t)
        stays j u d h = record { after = u; goes = goes_nowhere choose f u; holds = (d, h, keeps_on_same u) }

        by_old : (j : ℕ) (u : World C R O) → Opened u → up j ≡ true → j ≢ p → (site_at u j ≡ site_at mid j) ⊎ Does j u
            → Reaches choose f u (λ t. Opened t × (up j ≡ true → Does j t) × KeepsOn u t)
        by_old j u d e apart (inr follows) = stays j u d (λ _. follows)
        by_old j u d e apart (inl same) =
            reaches_then choose f u (λ t. Opened t × Does j t × KeepsOn u t) _ (view_comes j e apart u d same)
            (λ t is. record { after = t; goes = goes_nowhere choose f t; holds = (is.0, (λ _. is.1), is.2) })

        by_test : (j : ℕ) (u : World C R O) → Opened u → (b : Bool) → up j ≡ b → (j ≡ p) ⊎ (j ≡ p → ⊥)
            → Reaches choose f u (λ t. Opened t × (up j ≡ true → Does j t) × KeepsOn u t)
        by_test j u d false e place = stays j u d (λ e'. absurd (true≢false (sym e' ∙ e)))
        by_test j u d true e (inl same) = stays j u d (λ _. subst (λ (i : ℕ). Does i u) (sym same) (leads_so u d))
        by_test j u d true e (inr apart) = by_old j u d e apart (d.each j e apart)
