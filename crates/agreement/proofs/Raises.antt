-- Each running site is raised to one view, by its timer.
use Rattle.std.proofs.Common.{◌≡◌, ◌≢◌, ◌⊎◌, inl, inr, ℕ, zero, suc, ◌+◌, ◌-◌, ◌*◌, ◌<◌, ◌≤◌, Bool, true, false, ◌==◌, length, refl, sym, ap, ◌∙◌, subst, arith, true≢false, length-set}
use Rattle.std.proofs.lemmas.Bool.{cases_eq, cases_lt}
use Rattle.vr_types.specs.declared.event.EventOf.TheVariants.{Timer}
use Rattle.vr_types.specs.declared.event.Status.{Status}
use Rattle.vr_types.specs.declared.event.Status.TheVariants.{Normal, Change, Recovering, Down}
use Rattle.vr_types.specs.declared.message.MsgOf.TheVariants.{StartViewChange}
use Rattle.vr_types.specs.Cell.{max_number}
use Rattle.vr_types.specs.Choice.{Choice}
use Rattle.vr_types.specs.Group.{sites, to_all}
use Rattle.vr_types.specs.Site.{Site, nothing, is_running, is_down, is_recovering}
use Rattle.vr_types.specs.Step.{Step, does}
use Rattle.vr_types.specs.Change.{on_timer}
use Rattle.vr_types.specs.Handling.{site_step, is_refused}
use Rattle.agreement.specs.Worlds.{World}
use Rattle.agreement.proofs.Reached.{site_at}
use Rattle.agreement.proofs.Going.{goes_nowhere, goes_step, taken, taken_here, taken_there, Reaches, reaches_then, sweep}
use Rattle.agreement.proofs.Tests.{runs_up}
use Rattle.agreement.proofs.Counts.{has_site}

-- the site in change to view w, with nothing collected
abbrev pub raised : {C : Type 0} → ℕ → Site C → Site C
raised w x = record x { status = Change; view = w; collected = nothing }

runs_on : (st : Status) → is_running st ≡ true → is_recovering st ≡ false
runs_on Normal e = refl
runs_on Change e = refl
runs_on Recovering e = absurd (true≢false (sym e))
runs_on Down e = refl

not_same : (a b : ℕ) → a < b → (a == b) ≡ false
not_same a b l = by_test (a == b) refl
  where
    by_test : (t : Bool) → (a == b) ≡ t → t ≡ false
    by_test true e = absurd (let d : a ≡ b = grind (arith, e) in omega arith)
    by_test false e = refl

module _ {C R O : Type 0} (choose : Choice C) (f : ℕ) where
  -- the timer of a running site
  timer_step : (i : ℕ) (x : Site C) → is_down x.status ≡ false → is_recovering x.status ≡ false → (x.view == max_number) ≡ false
      → site_step {R = R} {O = O} choose f i x Timer ≡ does (raised (x.view + 1) x)
      (to_all f i (StartViewChange (record { view = x.view + 1; known = x.known })))
  unfolding on_timer
  timer_step i x d r v = rw d (rw r (rw v refl))

  -- after some timers it is in change to view w, and no other site has changed
  pub record IsRaised (w : ℕ) (i : ℕ) (old new : World C R O) : Type 0 where
    pub here : site_at new i ≡ raised w (site_at old i)
    pub there : (j : ℕ) → j ≢ i → site_at new j ≡ site_at old j
    pub size : length new.sites ≡ length old.sites

  one_raised : (w : World C R O) (i : ℕ) → i < length w.sites → is_running (site_at w i).status ≡ true → (site_at w i).view < max_number
      → Reaches choose f w (IsRaised ((site_at w i).view + 1) i w)
  one_raised w i small run low =
      let step = timer_step i (site_at w i) (runs_up _ run) (runs_on _ run) (not_same _ _ low) in
      record {
        after = taken choose f w i Timer;
        goes = goes_step choose f w i Timer small tt tt (ap (λ (s : Step C R O). is_refused s.ending) step);
        holds = record {
          here = taken_here choose f w i Timer small ∙ ap (λ (s : Step C R O). s.site) step;
          there = λ j apart. taken_there choose f w i j Timer small apart;
          size = length-set w.sites i (site_step {R = R} {O = O} choose f i (site_at w i) Timer).site;
        };
      }

  raise : (w n : ℕ) (old : World C R O) (i : ℕ) → w ≤ max_number → i < length old.sites → is_running (site_at old i).status ≡ true
      → (site_at old i).view + suc n ≡ w
      → Reaches choose f old (IsRaised w i old)
  raise w zero old i most small run e =
      subst (λ (v : ℕ). Reaches choose f old (IsRaised v i old)) (let d : (site_at old i).view + 1 ≡ w = omega arith in
      d) (one_raised old i small run (omega arith))
  raise w (suc n) old i most small run e =
      reaches_then choose f old (IsRaised ((site_at old i).view + 1) i old) (IsRaised w i old) (one_raised old i small run (omega arith)) (λ v is.
      let size = is.size in
      let view : (site_at v i).view ≡ (site_at old i).view + 1 = ap (λ (x : Site C). x.view) is.here in
      let rest = raise w n v i most (omega arith) (ap (λ (x : Site C). is_running x.status) is.here) (omega arith) in
      record {
        after = rest.after;
        goes = rest.goes;
        holds = record {
          here = rest.holds.here ∙ ap (raised w) is.here;
          there = λ j apart. rest.holds.there j apart ∙ is.there j apart;
          size = rest.holds.size ∙ is.size;
        };
      })

  -- all running sites of a world are in change to view w, and the others are as they were
  pub record AllRaised (w : ℕ) (old new : World C R O) : Type 0 where
    pub running : (j : ℕ) → j < length old.sites → is_running (site_at old j).status ≡ true → site_at new j ≡ raised w (site_at old j)
    pub resting : (j : ℕ) → is_running (site_at old j).status ≡ false → site_at new j ≡ site_at old j
    pub size : length new.sites ≡ length old.sites

  module _ (w : ℕ) (old : World C R O) (most : w ≤ max_number) (above : (j : ℕ) → j < length old.sites → (site_at old j).view < w) where
    record Partly (new : World C R O) : Type 0 where
      each : (j : ℕ) → (site_at new j ≡ site_at old j) ⊎ ((is_running (site_at old j).status ≡ true) × (site_at new j ≡ raised w (site_at old j)))
      size : length new.sites ≡ length old.sites

    abbrev Is : ℕ → World C R O → Type 0
    Is j new = j < length old.sites → is_running (site_at old j).status ≡ true → site_at new j ≡ raised w (site_at old j)

    raise_one : (j : ℕ) (now : World C R O) → Partly now → Reaches choose f now (λ v. Partly v × Is j v × ((k : ℕ) → Is k now → Is k v))
    raise_one j now p = by_run (is_running (site_at old j).status) refl
      where
        stays : ((j < length old.sites) → is_running (site_at old j).status ≡ true → site_at now j ≡ raised w (site_at old j))
            → Reaches choose f now (λ v. Partly v × Is j v × ((k : ℕ) → Is k now → Is k v))
        stays is = record { after = now; goes = goes_nowhere choose f now; holds = (p, is, λ k i. i) }

        is_there : (v : World C R O) → IsRaised w j now v → site_at now j ≡ site_at old j → site_at v j ≡ raised w (site_at old j)
        is_there v is same = is.here ∙ ap (raised w) same

        after : (v : World C R O) → is_running (site_at old j).status ≡ true → site_at now j ≡ site_at old j → IsRaised w j now v
            → Partly v × Is j v × ((k : ℕ) → Is k now → Is k v)
        after v run same is = (
          record { each = λ k. each_by k (cases_eq k j); size = is.size ∙ p.size },
          (λ _ _. is_there v is same),
          λ k i. kept_by k i (cases_eq k j),
        )
          where
            each_by : (k : ℕ) → (k ≡ j) ⊎ (k ≡ j → ⊥)
                → (site_at v k ≡ site_at old k) ⊎ ((is_running (site_at old k).status ≡ true) × (site_at v k ≡ raised w (site_at old k)))
            each_by k (inl e) =
                inr (subst (λ (i : ℕ). (is_running (site_at old i).status ≡ true) × (site_at v i ≡ raised w (site_at old i))) (sym e) (run, is_there v is same))
            each_by k (inr apart) = by_old (p.each k)
              where
                by_old : (site_at now k ≡ site_at old k) ⊎ ((is_running (site_at old k).status ≡ true) × (site_at now k ≡ raised w (site_at old k)))
                    → (site_at v k ≡ site_at old k) ⊎ ((is_running (site_at old k).status ≡ true) × (site_at v k ≡ raised w (site_at old k)))
                by_old (inl e) = inl (is.there k apart ∙ e)
                by_old (inr e) = inr (e.0, is.there k apart ∙ e.1)

            kept_by : (k : ℕ) → Is k now → (k ≡ j) ⊎ (k ≡ j → ⊥) → Is k v
            kept_by k i (inl e) small run' = subst (λ (m : ℕ). site_at v m ≡ raised w (site_at old m)) (sym e) (is_there v is same)
            kept_by k i (inr apart) small run' = is.there k apart ∙ i small run'

        by_place : is_running (site_at old j).status ≡ true → (j < length old.sites)
            → (site_at now j ≡ site_at old j) ⊎ ((is_running (site_at old j).status ≡ true) × (site_at now j ≡ raised w (site_at old j)))
            → Reaches choose f now (λ v. Partly v × Is j v × ((k : ℕ) → Is k now → Is k v))
        by_place run small (inr e) = stays (λ _ _. e.1)
        by_place run small (inl same) =
            let low = above j small in
            let size = p.size in
            let view : (site_at now j).view ≡ (site_at old j).view = ap (λ (x : Site C). x.view) same in
            let n = w - 1 - (site_at old j).view in
            let up = raise w n now j most (omega arith) (ap (λ (x : Site C). is_running x.status) same ∙ run) (omega arith) in
            record { after = up.after; goes = up.goes; holds = after up.after run same up.holds }

        by_size : is_running (site_at old j).status ≡ true → (j < length old.sites) ⊎ (length old.sites ≤ j)
            → Reaches choose f now (λ v. Partly v × Is j v × ((k : ℕ) → Is k now → Is k v))
        by_size run (inl small) = by_place run small (p.each j)
        by_size run (inr big) = stays (λ small _. absurd (omega arith))

        by_run : (b : Bool) → is_running (site_at old j).status ≡ b → Reaches choose f now (λ v. Partly v × Is j v × ((k : ℕ) → Is k now → Is k v))
        by_run true e = by_size e (cases_lt j (length old.sites))
        by_run false e = stays (λ _ run. absurd (true≢false (sym run ∙ e)))

    pub all_raised : length old.sites ≡ 2 * f + 1 → Reaches choose f old (AllRaised w old)
    all_raised size =
        let all = sweep choose f Partly Is (sites f) (λ j now in' p. raise_one j now p) old (record { each = λ j. inl refl; size = refl }) in
        record {
          after = all.after;
          goes = all.goes;
          holds = record {
            running = λ j small run. all.holds.1 j (has_site f j (omega arith)) small run;
            resting = λ j rest. by_case j rest all.after (all.holds.0.each j);
            size = all.holds.0.size;
          };
        }
      where
        by_case : (j : ℕ) → is_running (site_at old j).status ≡ false → (v : World C R O)
            → (site_at v j ≡ site_at old j) ⊎ ((is_running (site_at old j).status ≡ true) × (site_at v j ≡ raised w (site_at old j)))
            → site_at v j ≡ site_at old j
        by_case j rest v (inl e) = e
        by_case j rest v (inr e) = absurd (true≢false (sym e.0 ∙ rest))
