-- The primary tells each running site how much is executed: then each has executed the whole log.
use Rattle.std.proofs.Common.{◌≡◌, ◌≢◌, ◌⊎◌, inl, inr, ℕ, ◌+◌, ◌*◌, ◌<◌, Bool, true, false, min, max, List, [], length, None, refl, sym, ap, ◌∙◌, subst, arith, true≢false}
use Rattle.std.specs.Prelude.{Contains}
use Rattle.std.proofs.lemmas.Bool.{cases_eq}
use Rattle.vr_types.specs.declared.message.MsgOf.{MsgOf}
use Rattle.vr_types.specs.declared.message.MsgOf.TheVariants.{Commit}
use Rattle.vr_types.specs.declared.row.RowOf.{RowOf}
use Rattle.vr_types.specs.Choice.{Choice, IsRight}
use Rattle.vr_types.specs.Group.{sites, primary}
use Rattle.vr_types.specs.Site.{Site}
use Rattle.vr_types.specs.Step.{Step, does, executed_to}
use Rattle.vr_types.specs.Normal.{on_commit}
use Rattle.agreement.specs.Worlds.{World}
use Rattle.agreement.proofs.Reached.{site_at}
use Rattle.agreement.proofs.Going.{Reaches, reaches_then, sweep_on, goes_nowhere}
use Rattle.agreement.proofs.Counts.{has_site}
use Rattle.agreement.proofs.Facts.{another, site_back, size_is}
use Rattle.agreement.proofs.Tests.{normal_runs, runs_up}
use Rattle.agreement.proofs.Starts.{delivered, IsSaid, IsTaken, comes}
use Rattle.agreement.proofs.Follows.{Follows}
use Rattle.agreement.proofs.Acks.{none_at, news_said, commits_at, Settled, settled_on, settled_said}

module _ {C R O : Type 0} (choose : Choice C) (f : ℕ) (right : IsRight f choose) (w : ℕ) (up : ℕ → Bool) (up_small : (j : ℕ) → up j ≡ true → j < 2 * f + 1)
    (up_leads : up (primary f w) ≡ true) (boots : ℕ → ℕ) (rows : List (RowOf C)) (old : World C R O) where
  abbrev p : ℕ
  p = primary f w

  pub record Leads (v : World C R O) : Type 0 where
    pub settled : Settled choose f right w up up_small up_leads boots rows old v
    pub done : (site_at v (primary f w)).done ≡ length rows

  abbrev Has : ℕ → World C R O → Type 0
  Has j v = (site_at v j).done ≡ length rows

  record KeepsOn (a b : World C R O) : Type 0 where
    each : (j : ℕ) → Has j a → Has j b

  keeps_on_same : (a : World C R O) → KeepsOn a a
  keeps_on_same a = record { each = λ i k. k }

  keeps_on_more : (a b c : World C R O) → KeepsOn a b → KeepsOn b c → KeepsOn a c
  keeps_on_more a b c q r = record { each = λ i k. r.each i (q.each i k) }

  one_commits : (j : ℕ) → up j ≡ true → j ≢ p → (v : World C R O) → Leads v → Reaches choose f v (λ t. Leads t × Has j t × KeepsOn v t)
  one_commits j up_j apart v l =
      reaches_then choose f v (IsSaid choose f p j commit v) _ said (λ u s.
      reaches_then choose f u (IsTaken choose f j (step u) u) _ (arrives u s)
      (λ t is. record { after = t; goes = goes_nowhere choose f t; holds = done u s t is }))
    where
      lead : Follows w (boots p) rows (site_at v p)
      lead = l.settled.all p up_leads

      commit : MsgOf C R O
      commit = Commit (record { view = w; done = length rows })

      small : (q : World C R O) (k : ℕ) → up k ≡ true → Settled choose f right w up up_small up_leads boots rows old q → k < length q.sites
      small q k e o = let a = size_is f q o.is in let b = up_small k e in omega arith

      said : Reaches choose f v (IsSaid choose f p j commit v)
      said =
          subst (λ (m : ℕ). Reaches choose f v (IsSaid choose f p j (Commit (record { view = w; done = m })) v)) l.done
          (subst (λ (m : ℕ). Reaches choose f v (IsSaid choose f p j (Commit (record { view = m; done = (site_at v p).done })) v)) lead.view
          (news_said choose f v w p j None (small v p up_leads l.settled) lead.status lead.view refl (up_small j up_j) apart
          (none_at (site_at v p).log (site_at v p).done (let a = ap (length {A = RowOf C}) lead.log_is in let b = l.done in omega arith))))

      step : World C R O → Step C R O
      step u = does (executed_to (length rows) (site_at u j)) []

      arrives : (u : World C R O) → IsSaid choose f p j commit v u → Reaches choose f u (IsTaken choose f j (step u) u)
      arrives u s =
          let o = settled_said choose f right w up up_small up_leads boots rows old v u p j commit l.settled s in
          let x = o.all j up_j in
          comes choose f u p j commit (step u) (small u j up_j o) s.sent refl
          (delivered choose f p j (site_at u j) commit (runs_up _ (normal_runs _ x.status)) (another f j p (up_small p up_leads) (λ e. apart (sym e)))
          ∙ (ap (λ (m : ℕ). on_commit {R = R} {O = O} f j (site_at u j) m (record { view = w; done = length rows })) (site_back p)
          ∙ commits_at choose f w p j (length rows) (site_at u j) x.status x.view refl (let a = ap (length {A = RowOf C}) x.log_is in omega arith))) refl

      done : (u : World C R O) → IsSaid choose f p j commit v u → (t : World C R O) → IsTaken choose f j (step u) u t → Leads t × Has j t × KeepsOn v t
      done u s t is = (
        record {
          settled =
              settled_on choose f right w up up_small up_leads boots rows old u t j (step u) up_j o is
              (record { status = x.status; view = x.view; boots = x.boots; log_is = x.log_is });
          done = ap (λ (y : Site C). y.done) (is.there p (λ e. apart (sym e))) ∙ (ap (λ (y : ℕ → Site C). (y p).done) s.same ∙ l.done);
        },
        here,
        record { each = λ k h. keeps_by k h (cases_eq k j) },
      )
        where
          o : Settled choose f right w up up_small up_leads boots rows old u
          o = settled_said choose f right w up up_small up_leads boots rows old v u p j commit l.settled s

          x : Follows w (boots j) rows (site_at u j)
          x = o.all j up_j

          here : Has j t
          here = ap (λ (y : Site C). y.done) is.here ∙ (
              let a = ap (length {A = RowOf C}) x.log_is in
              let b = ((o.is.holds.holds.sites j).running (normal_runs _ x.status)).within in
              let e : max (site_at u j).done (min (length rows) (length (site_at u j).log)) ≡ length rows = omega arith in e)

          keeps_by : (k : ℕ) → Has k v → (k ≡ j) ⊎ (k ≡ j → ⊥) → Has k t
          keeps_by k h (inl e) = subst (λ (m : ℕ). Has m t) (sym e) here
          keeps_by k h (inr apart') = ap (λ (y : Site C). y.done) (is.there k apart') ∙ (ap (λ (y : ℕ → Site C). (y k).done) s.same ∙ h)

  -- each running site works in view w with these rows, and the others are as they were
  pub record Works (v : World C R O) : Type 0 where
    pub settled : Settled choose f right w up up_small up_leads boots rows old v
    pub done : (j : ℕ) → up j ≡ true → (site_at v j).done ≡ length rows

  pub all_commit : (v : World C R O) → Leads v → Reaches choose f v Works
  all_commit v l =
      reaches_then choose f v (λ u. Leads u × ((j : ℕ) → Contains (sites f) j → up j ≡ true → Has j u) × KeepsOn v u) _
      (sweep_on choose f Leads KeepsOn keeps_on_same keeps_on_more (λ j u. up j ≡ true → Has j u) (λ j a b r h e. r.each j (h e)) (sites f)
      (λ j u in' d. by_test j u d (up j) refl (cases_eq j p)) v l)
      (λ u is. record {
        after = u;
        goes = goes_nowhere choose f u;
        holds = record { settled = is.0.settled; done = λ j e. is.1 j (has_site f j (up_small j e)) e };
      })
    where
      stays : (j : ℕ) (u : World C R O) → Leads u → (up j ≡ true → Has j u) → Reaches choose f u (λ t. Leads t × (up j ≡ true → Has j t) × KeepsOn u t)
      stays j u d h = record { after = u; goes = goes_nowhere choose f u; holds = (d, h, keeps_on_same u) }

      by_test : (j : ℕ) (u : World C R O) → Leads u → (b : Bool) → up j ≡ b → (j ≡ p) ⊎ (j ≡ p → ⊥)
          → Reaches choose f u (λ t. Leads t × (up j ≡ true → Has j t) × KeepsOn u t)
      by_test j u d false e place = stays j u d (λ e'. absurd (true≢false (sym e' ∙ e)))
      by_test j u d true e (inl same) = stays j u d (λ _. subst (λ (i : ℕ). Has i u) (sym same) d.done)
      by_test j u d true e (inr apart) =
          reaches_then choose f u (λ t. Leads t × Has j t × KeepsOn u t) _ (one_commits j e apart u d)
          (λ t is. record { after = t; goes = goes_nowhere choose f t; holds = (is.0, (λ _. is.1), is.2) })
