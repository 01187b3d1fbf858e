-- Each running site's STARTVIEWCHANGE comes to each other: then each has voted.
use Rattle.std.proofs.Common.{◌≡◌, ◌≢◌, ◌⊎◌, inl, inr, ℕ, ◌+◌, ◌*◌, ◌<◌, ◌≤◌, Bool, true, false, not, if◌then◌else◌, length, count_by, Some, None, refl, sym, ap, ◌∙◌, subst, arith, true≢false}
use Rattle.std.specs.Prelude.{Contains}
use Rattle.std.proofs.lemmas.Bool.{cases_eq}
use Rattle.std.proofs.lemmas.List.Elements.{Contains-append_left, Contains-append_right}
use Rattle.vr_types.specs.declared.event.EventOf.TheVariants.{Deliver, Beat}
use Rattle.vr_types.specs.declared.event.SiteFault.TheVariants.{NotUp, NotMine}
use Rattle.vr_types.specs.declared.event.Status.{Status}
use Rattle.vr_types.specs.declared.event.Status.TheVariants.{Change}
use Rattle.vr_types.specs.declared.message.EnvelopeOf.{EnvelopeOf}
use Rattle.vr_types.specs.declared.message.MsgOf.{MsgOf}
use Rattle.vr_types.specs.declared.message.MsgOf.TheVariants.{StartViewChange}
use Rattle.vr_types.specs.Choice.{Choice, IsRight}
use Rattle.vr_types.specs.Group.{sites, actor_of, site_of, is_mine, may_send, mail, to_all}
use Rattle.vr_types.specs.Messages.{is_request}
use Rattle.vr_types.specs.Site.{Site, boot_of, has_start, is_down}
use Rattle.vr_types.specs.Step.{Step}
use Rattle.vr_types.specs.Change.{beats_in_change, on_start_view_change}
use Rattle.vr_types.specs.Handling.{refused_or, on_message, on_beat, site_step, is_refused}
use Rattle.agreement.specs.Worlds.{World, Replied, replied}
use Rattle.agreement.specs.Progress.{GoesTo}
use Rattle.agreement.proofs.Reached.{site_at, IsReached, first}
use Rattle.agreement.proofs.Going.{goes_step, goes_reached, taken, taken_here, taken_there, taken_same, taken_sent, taken_still, Reaches, reaches_then, sweep_on, goes_nowhere}
use Rattle.agreement.proofs.Lengths.{AllLong, run_long}
use Rattle.agreement.proofs.Counts.{has_site, others_enough}
use Rattle.agreement.proofs.Facts.{told_each, another, of_all_sites, mine, site_back, both_are, le_is, known_most, known_own, size_is}
use Rattle.agreement.proofs.Tests.{runs_up, change_runs}
use Rattle.agreement.proofs.Waiting.{KeepsStart, Waits, TakesStart, takes_start, is_due, has_start_of}

module _ {C R O : Type 0} (choose : Choice C) (f : ℕ) where
  -- a message that comes to a site that is not down
  pub delivered : (k me : ℕ) (x : Site C) (msg : MsgOf C R O) → is_down x.status ≡ false → may_send f me (actor_of k) msg ≡ true
      → site_step choose f me x (Deliver (mail k me msg)) ≡ on_message choose f me x (actor_of k) msg
  delivered k me x msg up may =
      ap (refused_on (not (is_mine f me (mail k me msg)))) up ∙ ap (λ (b : Bool). refused_on b false) (ap not (mine f me k msg may))
    where
      refused_on : Bool → Bool → Step C R O
      refused_on other down = refused_or x (if down then Some NotUp else if other then Some NotMine else None) (on_message choose f me x (actor_of k) msg)

  -- a beat of a site in change
  pub beat_change : (me : ℕ) (x : Site C) → x.status ≡ Change → site_step {R = R} {O = O} choose f me x Beat ≡ beats_in_change f me x
  beat_change me x e =
      ap (λ (st : Status). refused_or {R = R} {O = O} x (if is_down st then Some NotUp else None) (on_beat f me x st)) e

  -- one site says something, by an event that leaves it as it was
  pub record IsSaid (i j : ℕ) (msg : MsgOf C R O) (old new : World C R O) : Type 0 where
    pub goes : GoesTo choose f old new
    pub same : site_at new ≡ site_at old
    pub sent : Contains new.sent (mail i j msg)
    pub still : (e : EnvelopeOf C R O) → Contains old.sent e → Contains new.sent e

  pub start_said : (v : World C R O) (i j : ℕ) → i < length v.sites → (site_at v i).status ≡ Change → j < 2 * f + 1 → j ≢ i
      → Reaches choose f v (IsSaid i j (StartViewChange (record { view = (site_at v i).view; known = (site_at v i).known })) v)
  unfolding beats_in_change
  start_said v i j small change small_j apart = record { after = taken choose f v i Beat; goes = goes; holds = holds }
    where
      msg : MsgOf C R O
      msg = StartViewChange (record { view = (site_at v i).view; known = (site_at v i).known })

      step : site_step {R = R} {O = O} choose f i (site_at v i) Beat ≡ beats_in_change f i (site_at v i)
      step = beat_change i (site_at v i) change

      goes : GoesTo choose f v (taken choose f v i Beat)
      goes = goes_step choose f v i Beat small tt tt (ap (λ (s : Step C R O). is_refused s.ending) step)

      holds : IsSaid i j msg v (taken choose f v i Beat)
      holds = record {
        goes = goes;
        same = taken_same choose f v i Beat small (ap (λ (s : Step C R O). s.site) step);
        sent = taken_sent choose f v i Beat (mail i j msg) (subst (λ (s : Step C R O). Contains s.sent (mail i j msg)) (sym step)
            (Contains-append_left (to_all f i msg) _ _ (told_each f i j msg small_j apart)));
        still = λ e in'. taken_still choose f v i Beat e in';
      }

  -- a message that was sent comes to a site, which handles it
  pub record IsTaken (me : ℕ) (step : Step C R O) (old new : World C R O) : Type 0 where
    pub goes : GoesTo choose f old new
    pub here : site_at new me ≡ step.site
    pub sent : (e : EnvelopeOf C R O) → Contains step.sent e → Contains new.sent e
    pub still : (e : EnvelopeOf C R O) → Contains old.sent e → Contains new.sent e
    pub answered : (r : Replied C) → Contains (replied me step) r → Contains new.replies r
    pub there : (j : ℕ) → j ≢ me → site_at new j ≡ site_at old j

  pub comes : (v : World C R O) (k me : ℕ) (msg : MsgOf C R O) (step : Step C R O) → me < length v.sites → Contains v.sent (mail k me msg)
      → is_request msg ≡ false
      → site_step choose f me (site_at v me) (Deliver (mail k me msg)) ≡ step → is_refused step.ending ≡ false → Reaches choose f v (IsTaken me step v)
  comes v k me msg step small sent kind is taken' = record {
    after = taken choose f v me (Deliver (mail k me msg));
    goes = goes;
    holds = record {
      goes = goes;
      here = taken_here choose f v me (Deliver (mail k me msg)) small ∙ ap (λ (s : Step C R O). s.site) is;
      sent = λ e in'. taken_sent choose f v me (Deliver (mail k me msg)) e (subst (λ (s : Step C R O). Contains s.sent e) (sym is) in');
      still = λ e in'. taken_still choose f v me (Deliver (mail k me msg)) e in';
      answered = λ r in'. Contains-append_right v.replies _ r (subst (λ (s : Step C R O). Contains (replied me s) r) (sym is) in');
      there = λ j apart. taken_there choose f v me j (Deliver (mail k me msg)) small apart;
    };
  }
    where
      goes : GoesTo choose f v (taken choose f v me (Deliver (mail k me msg)))
      goes = goes_step choose f v me (Deliver (mail k me msg)) small (inr sent) kind (ap (λ (s : Step C R O). is_refused s.ending) is ∙ taken')

  module _ (right : IsRight f choose) (some : 1 ≤ f) (w : ℕ) (up : ℕ → Bool) (up_small : (j : ℕ) → up j ≡ true → j < 2 * f + 1) (old : World C R O) where
    abbrev pub boots : ℕ → ℕ
    boots j = (site_at old j).cell.boots

    -- the sites that run wait in change to view w, and the others are as they were
    pub record Gathers (v : World C R O) : Type 0 where
      pub is : IsReached f first v
      pub long : AllLong f v
      pub waits : (j : ℕ) → up j ≡ true → Waits f w j (boots j) (site_at v j)
      pub logs : (j : ℕ) → up j ≡ true → (site_at v j).log ≡ (site_at old j).log
      pub rest : (j : ℕ) → up j ≡ false → site_at v j ≡ site_at old j

    pub boots_same : (v : World C R O) → Gathers v → (k : ℕ) → (site_at v k).cell.boots ≡ boots k
    boots_same v g k = by_test (up k) refl
      where
        by_test : (b : Bool) → up k ≡ b → (site_at v k).cell.boots ≡ boots k
        by_test true e = (g.waits k e).changes.boots
        by_test false e = ap (λ (x : Site C). x.cell.boots) (g.rest k e)

    -- each STARTVIEWCHANGE that was kept still is
    pub record KeepsOn (a b : World C R O) : Type 0 where
      pub each : (j i : ℕ) → KeepsStart (site_at a j) i (boots i) → KeepsStart (site_at b j) i (boots i)

    keeps_on_same : (a : World C R O) → KeepsOn a a
    keeps_on_same a = record { each = λ j i k. k }

    keeps_on_more : (a b c : World C R O) → KeepsOn a b → KeepsOn b c → KeepsOn a c
    keeps_on_more a b c p q = record { each = λ j i k. q.each j i (p.each j i k) }

    -- site j keeps what site i said
    abbrev Has : ℕ → ℕ → World C R O → Type 0
    Has j i v = up i ≡ true → i ≢ j → KeepsStart (site_at v j) i (boots i)

    -- the STARTVIEWCHANGE of site i comes to site j
    one_comes : (j i : ℕ) → up j ≡ true → up i ≡ true → i ≢ j → (v : World C R O) → Gathers v
        → Reaches choose f v (λ u. Gathers u × KeepsStart (site_at u j) i (boots i) × KeepsOn v u)
    one_comes j i up_j up_i apart v g =
        reaches_then choose f v (IsSaid i j (StartViewChange (record { view = (site_at v i).view; known = (site_at v i).known })) v) _ said (λ u s.
        reaches_then choose f u (IsTaken j (step u) u) _ (arrives u s) (λ t is. record { after = t; goes = goes_nowhere choose f t; holds = done u s t is }))
      where
        size : length v.sites ≡ 2 * f + 1
        size = size_is f v g.is

        small_i : i < 2 * f + 1
        small_i = up_small i up_i

        small_j : j < 2 * f + 1
        small_j = up_small j up_j

        said : Reaches choose f v (IsSaid i j (StartViewChange (record { view = (site_at v i).view; known = (site_at v i).known })) v)
        said = start_said v i j (let a = size in let b = small_i in omega arith) (g.waits i up_i).changes.status small_j (λ e. apart (sym e))

        msg : MsgOf C R O
        msg = StartViewChange (record { view = (site_at v i).view; known = (site_at v i).known })

        step : World C R O → Step C R O
        step u = on_start_view_change choose f j (site_at v j) w (record { from = i; known = (site_at v i).known })

        known_by : (k m : ℕ) → boot_of (site_at v k).known m ≤ boots m
        known_by k m = let a = known_most f v g.is k m in let e = boots_same v g m in omega arith

        own_by : (k : ℕ) → up k ≡ true → boot_of (site_at v k).known k ≡ boots k
        own_by k e = known_own f v g.is k (runs_up _ (change_runs _ (g.waits k e).changes.status)) ∙ (g.waits k e).changes.boots

        takes : TakesStart choose f w j (boots j) boots (site_at v j) i
            (on_start_view_change {R = R} {O = O} choose f j (site_at v j) w (record { from = i; known = (site_at v i).known }))
        takes =
            takes_start choose f w j (boots j) boots some (site_at v j) i (site_at v i).known (g.waits j up_j) refl (known_by j) (known_by i)
            (own_by i up_i) (own_by j up_j)

        step_is : site_step choose f j (site_at v j) (Deliver (mail i j msg)) ≡ on_start_view_change {R = R} {O = O} choose f j (site_at v j) w
            (record { from = i; known = (site_at v i).known })
        step_is =
            delivered i j (site_at v j) msg (runs_up _ (change_runs _ (g.waits j up_j).changes.status))
            (both_are _ _ (another f j i small_i apart) (of_all_sites f (site_at v i).known
            ((g.long i).is (runs_up _ (change_runs _ (g.waits i up_i).changes.status)))))
            ∙ (ap (λ (n : ℕ). on_start_view_change {R = R} {O = O} choose f j (site_at v j) n
            (record { from = site_of (actor_of i); known = (site_at v i).known })) (g.waits i up_i).changes.view
            ∙ ap (λ (n : ℕ). on_start_view_change {R = R} {O = O} choose f j (site_at v j) w (record { from = n; known = (site_at v i).known })) (site_back i))

        small_in : (u : World C R O) → IsSaid i j msg v u → j < length u.sites
        small_in u s = let e = size_is f u (goes_reached choose f right v u g.is s.goes) in let b = small_j in omega arith

        arrives : (u : World C R O) → IsSaid i j msg v u → Reaches choose f u (IsTaken j (step u) u)
        arrives u s =
            comes u i j msg (step u) (small_in u s) s.sent refl
            (ap (λ (x : ℕ → Site C). site_step choose f j (x j) (Deliver (mail i j msg))) s.same ∙ step_is) (ap is_refused takes.handled)

        module_of : (u : World C R O) → IsSaid i j msg v u → (t : World C R O) → IsTaken j (step u) u t → (k : ℕ) → k ≢ j → site_at t k ≡ site_at v k
        module_of u s t is k apart' = is.there k apart' ∙ ap (λ (x : ℕ → Site C). x k) s.same

        done : (u : World C R O) → IsSaid i j msg v u → (t : World C R O) → IsTaken j (step u) u t
            → Gathers t × KeepsStart (site_at t j) i (boots i) × KeepsOn v t
        done u s t is = (
          record {
            is = goes_reached choose f right u t (goes_reached choose f right v u g.is s.goes) is.goes;
            long = run_long choose f u t is.goes.events (run_long choose f v u s.goes.events g.long s.goes.run) is.goes.run;
            waits = λ k e. waits_by k e (cases_eq k j);
            logs = λ k e. logs_by k e (cases_eq k j);
            rest = λ k e. module_of u s t is k (λ same. true≢false (sym up_j ∙ (ap up (sym same) ∙ e))) ∙ g.rest k e;
          },
          subst (λ (x : Site C). KeepsStart x i (boots i)) (sym is.here) takes.has,
          record { each = λ k m h. keeps_by k m h (cases_eq k j) },
        )
          where
            waits_by : (k : ℕ) → up k ≡ true → (k ≡ j) ⊎ (k ≡ j → ⊥) → Waits f w k (boots k) (site_at t k)
            waits_by k e (inl same) =
                subst (λ (m : ℕ). Waits f w m (boots m) (site_at t m)) (sym same) (subst (λ (x : Site C). Waits f w j (boots j) x) (sym is.here) takes.waits)
            waits_by k e (inr apart') = subst (λ (x : Site C). Waits f w k (boots k) x) (sym (module_of u s t is k apart')) (g.waits k e)

            logs_by : (k : ℕ) → up k ≡ true → (k ≡ j) ⊎ (k ≡ j → ⊥) → (site_at t k).log ≡ (site_at old k).log
            logs_by k e (inl same) =
                subst (λ (m : ℕ). (site_at t m).log ≡ (site_at old m).log) (sym same) (ap (λ (x : Site C). x.log) is.here ∙ (takes.log ∙ g.logs j up_j))
            logs_by k e (inr apart') = ap (λ (x : Site C). x.log) (module_of u s t is k apart') ∙ g.logs k e

            keeps_by : (k m : ℕ) → KeepsStart (site_at v k) m (boots m) → (k ≡ j) ⊎ (k ≡ j → ⊥) → KeepsStart (site_at t k) m (boots m)
            keeps_by k m h (inl same) = subst (λ (n : ℕ). KeepsStart (site_at t n) m (boots m)) (sym same)
                (subst (λ (x : Site C). KeepsStart x m (boots m)) (sym is.here)
                (takes.keeps m (subst (λ (n : ℕ). KeepsStart (site_at v n) m (boots m)) same h)))
            keeps_by k m h (inr apart') = subst (λ (x : Site C). KeepsStart x m (boots m)) (sym (module_of u s t is k apart')) h

    -- of all running sites to one of them
    all_to_one : (j : ℕ) → up j ≡ true → (v : World C R O) → Gathers v → Reaches choose f v (λ u. Gathers u × ((i : ℕ) → Has j i u) × KeepsOn v u)
    all_to_one j up_j v g =
        reaches_then choose f v (λ u. Gathers u × ((i : ℕ) → Contains (sites f) i → Has j i u) × KeepsOn v u) _
        (sweep_on choose f Gathers KeepsOn keeps_on_same keeps_on_more (Has j) (λ i a b r h e apart. r.each j i (h e apart)) (sites f)
        (λ i u in' h. by_test i u h (up i) refl (cases_eq i j)) v g)
        (λ u is. record { after = u; goes = goes_nowhere choose f u; holds = (is.0, (λ i e apart. is.1 i (has_site f i (up_small i e)) e apart), is.2) })
      where
        by_test : (i : ℕ) (u : World C R O) → Gathers u → (b : Bool) → up i ≡ b → (i ≡ j) ⊎ (i ≡ j → ⊥)
            → Reaches choose f u (λ t. Gathers t × Has j i t × KeepsOn u t)
        by_test i u h true e (inr apart) =
            reaches_then choose f u (λ t. Gathers t × KeepsStart (site_at t j) i (boots i) × KeepsOn u t) _ (one_comes j i up_j e apart u h)
            (λ t is. record { after = t; goes = goes_nowhere choose f t; holds = (is.0, (λ _ _. is.1), is.2) })
        by_test i u h true e (inl same) = record { after = u; goes = goes_nowhere choose f u; holds = (h, (λ _ apart. absurd (apart same)), keeps_on_same u) }
        by_test i u h false e d = record { after = u; goes = goes_nowhere choose f u; holds = (h, (λ e' _. absurd (true≢false (sym e' ∙ e))), keeps_on_same u) }

    -- and to each: each running site has what each other said
    pub all_to_all : (v : World C R O) → Gathers v → Reaches choose f v (λ u. Gathers u × ((j i : ℕ) → up j ≡ true → Has j i u))
    all_to_all v g =
        reaches_then choose f v (λ u. Gathers u × ((j : ℕ) → Contains (sites f) j → up j ≡ true → (i : ℕ) → Has j i u) × KeepsOn v u) _
        (sweep_on choose f Gathers KeepsOn keeps_on_same keeps_on_more (λ j u. up j ≡ true → (i : ℕ) → Has j i u)
        (λ j a b r h e i e' apart. r.each j i (h e i e' apart)) (sites f) (λ j u in' h. by_test j u h (up j) refl) v g)
        (λ u is. record { after = u; goes = goes_nowhere choose f u; holds = (is.0, (λ j i e. is.1 j (has_site f j (up_small j e)) e i)) })
      where
        by_test : (j : ℕ) (u : World C R O) → Gathers u → (b : Bool) → up j ≡ b
            → Reaches choose f u (λ t. Gathers t × (up j ≡ true → (i : ℕ) → Has j i t) × KeepsOn u t)
        by_test j u h true e =
            reaches_then choose f u (λ t. Gathers t × ((i : ℕ) → Has j i t) × KeepsOn u t) _ (all_to_one j e u h)
            (λ t is. record { after = t; goes = goes_nowhere choose f t; holds = (is.0, (λ _. is.1), is.2) })
        by_test j u h false e = record { after = u; goes = goes_nowhere choose f u; holds = (h, (λ e' i. absurd (true≢false (sym e' ∙ e))), keeps_on_same u) }

    -- so each has voted
    pub all_voted : f < count_by up (sites f) → (v : World C R O) → Gathers v
        → Reaches choose f v (λ u. Gathers u × ((j : ℕ) → up j ≡ true → (site_at u j).collected.voted ≡ true))
    all_voted many v g =
        reaches_then choose f v (λ u. Gathers u × ((j i : ℕ) → up j ≡ true → Has j i u)) _ (all_to_all v g) (λ u is. record {
          after = u;
          goes = goes_nowhere choose f u;
          holds = (is.0, λ j e. (is.0.waits j e).due (due_by u j (λ i up_i apart. is.1 j i e up_i apart)));
        })
      where
        due_by : (u : World C R O) (j : ℕ) → ((i : ℕ) → Has j i u) → is_due f j (site_at u j) ≡ true
        due_by u j has =
            let enough =
            others_enough f j up (has_start (site_at u j).collected.starts) many (λ i apart e. (let k = has i e apart in
            has_start_of (site_at u j).collected.starts i k.start k.among k.from)) in
            le_is f _ enough
