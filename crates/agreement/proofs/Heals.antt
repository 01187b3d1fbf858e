-- Each site that does not run is restarted where it is down, and regains the state of the view.
use Rattle.std.proofs.Common.{◌≡◌, ◌≢◌, ◌⊎◌, inl, inr, ℕ, ◌+◌, ◌*◌, ◌<◌, ◌≤◌, Bool, true, false, not, ◌==◌, nat_lt, if◌then◌else◌, List, [], ◌∷◌, length, Some, None, count_by, refl, sym, ap, ◌∙◌, subst, arith, true≢false}
use Rattle.std.specs.Prelude.{Contains}
use Rattle.std.proofs.lemmas.Bool.{cases_eq, cases_lt}
use Rattle.std.proofs.lemmas.Bool.Decides.{nat_tests}
use Rattle.vr_types.specs.declared.event.EventOf.TheVariants.{Beat, Restart}
use Rattle.vr_types.specs.declared.event.SiteFault.TheVariants.{NotUp, AlreadyUp, BootsSpent}
use Rattle.vr_types.specs.declared.event.Status.{Status}
use Rattle.vr_types.specs.declared.event.Status.TheVariants.{Normal, Change, Recovering, Down}
use Rattle.vr_types.specs.declared.message.MsgOf.{MsgOf}
use Rattle.vr_types.specs.declared.message.MsgOf.TheVariants.{Recovery, RecoveryResponse}
use Rattle.vr_types.specs.declared.row.RowOf.{RowOf}
use Rattle.vr_types.specs.Cell.{max_number, nonce_of, raised}
use Rattle.vr_types.specs.Choice.{Choice, IsRight}
use Rattle.vr_types.specs.Group.{sites, primary, mail, to_all}
use Rattle.vr_types.specs.Site.{Site, Response, boot_of, restarted, has_response, is_normal, is_down, is_running}
use Rattle.vr_types.specs.Step.{Step, does}
use Rattle.vr_types.specs.Recovery.{state_of_view, notes, has_as_late, on_recovery, on_recovery_response, beats_recovering, on_restart}
use Rattle.vr_types.specs.Step.{learns}
use Rattle.vr_types.specs.Handling.{refused_or, on_beat, on_event, site_step, is_refused}
use Rattle.vr_types.proofs.ChoosingPick.{Contains-here, Contains-none}
use Rattle.agreement.specs.Worlds.{World}
use Rattle.agreement.specs.Progress.{GoesTo, WorksIn}
use Rattle.agreement.proofs.Reached.{site_at, IsReached, first}
use Rattle.agreement.proofs.Going.{goes_step, goes_then, goes_reached, taken, taken_here, taken_there, taken_same, taken_sent, taken_still, Reaches, reaches_then, sweep_on, goes_nowhere}
use Rattle.agreement.proofs.Lengths.{AllLong, run_long}
use Rattle.agreement.proofs.Counts.{has_site, site_small, sites_more}
use Rattle.agreement.proofs.Facts.{told_each, another, of_all_sites, site_back, both_are, known_most, known_own, size_is}
use Rattle.agreement.proofs.Tests.{eq_test, normal_runs, runs_up}
use Rattle.agreement.proofs.Waiting.{if_yes, if_no}
use Rattle.agreement.proofs.Starts.{delivered, IsSaid, IsTaken, comes}
use Rattle.agreement.proofs.Follows.{Follows}
use Rattle.agreement.proofs.Asks.{whole, IsGood, KeepsResponse, Asks, TakesAnswer, kept_before, takes_answer, has_response_of}

module _ {C R O : Type 0} (choose : Choice C) (f : ℕ) where
  -- a beat of a recovering site
  beat_recovering : (me : ℕ) (x : Site C) → x.status ≡ Recovering → site_step {R = R} {O = O} choose f me x Beat ≡ beats_recovering f me x
  beat_recovering me x e = ap (λ (st : Status). refused_or {R = R} {O = O} x (if is_down st then Some NotUp else None) (on_beat f me x st)) e

  question_said : (v : World C R O) (j i : ℕ) → j < length v.sites → (site_at v j).status ≡ Recovering → i < 2 * f + 1 → i ≢ j
      → Reaches choose f v (IsSaid choose f j i (Recovery (record { nonce = (site_at v j).cell.boots })) v)
  unfolding beats_recovering
  question_said v j i small recovering small_i apart = record { after = taken choose f v j Beat; goes = goes; holds = holds }
    where
      msg : MsgOf C R O
      msg = Recovery (record { nonce = (site_at v j).cell.boots })

      step : site_step {R = R} {O = O} choose f j (site_at v j) Beat ≡ does (site_at v j) (to_all f j msg)
      step = beat_recovering j (site_at v j) recovering

      goes : GoesTo choose f v (taken choose f v j Beat)
      goes = goes_step choose f v j Beat small tt tt (ap (λ (s : Step C R O). is_refused s.ending) step)

      holds : IsSaid choose f j i msg v (taken choose f v j Beat)
      holds = record {
        goes = goes;
        same = taken_same choose f v j Beat small (ap (λ (s : Step C R O). s.site) step);
        sent =
            taken_sent choose f v j Beat (mail j i msg) (subst (λ (s : Step C R O). Contains s.sent (mail j i msg)) (sym step)
            (told_each f j i msg small_i apart));
        still = λ e in'. taken_still choose f v j Beat e in';
      }

  -- a normal site's answer to a restart
  abbrev answer : ℕ → ℕ → Site C → MsgOf C R O
  answer i nonce y = RecoveryResponse (record { view = y.view; nonce = nonce; state = state_of_view f i y; known = y.known })

  question_at : (i j nonce : ℕ) (x : Site C) → x.status ≡ Normal → boot_of x.known j ≤ nonce
      → on_recovery {R = R} {O = O} f i x j (record { nonce = nonce }) ≡ (let y = notes j nonce x in does y (mail i j (answer i nonce y) ∷ []))
  unfolding on_recovery
  question_at i j nonce x normal low =
      if_no (not (is_normal x.status)) _ _ (ap (λ st. not (is_normal st)) normal)
      ∙ if_no (nat_lt nonce (boot_of x.known j)) _ _ (grind (arith, nat_tests, low))

  restart_step : (j : ℕ) (x : Site C) → x.status ≡ Down → x.cell.boots < max_number
      → site_step {R = R} {O = O} choose f j x Restart ≡ does (restarted f j (raised x.cell))
      (to_all f j (Recovery (record { nonce = nonce_of (raised x.cell) })))
  unfolding on_restart
  restart_step j x down left =
      ap (λ (st : Status). refused_or {R = R} {O = O} x (if not (is_down st) then Some AlreadyUp else if x.cell.boots == max_number then Some BootsSpent
      else None) (on_event choose f j x Restart)) down
      ∙ ap (λ (b : Bool). refused_or {R = R} {O = O} x (if b then Some BootsSpent else None) (on_event choose f j x Restart)) spent
    where
      spent : (x.cell.boots == max_number) ≡ false
      spent = by_test (x.cell.boots == max_number) refl
        where
          by_test : (t : Bool) → (x.cell.boots == max_number) ≡ t → t ≡ false
          by_test true e = absurd (let d : x.cell.boots ≡ max_number = grind (arith, e) in let l = left in omega arith)
          by_test false e = refl

  module _ (right : IsRight f choose) (w : ℕ) (up : ℕ → Bool) (up_small : (j : ℕ) → up j ≡ true → j < 2 * f + 1) (up_leads : up (primary f w) ≡ true)
      (boots : ℕ → ℕ) (rows : List (RowOf C)) (many : f < count_by up (sites f)) where
    -- the running sites work in view w
    pub record Works (v : World C R O) : Type 0 where
      pub is : IsReached f first v
      pub full : AllLong f v
      pub all : (k : ℕ) → up k ≡ true → Follows w (boots k) rows (site_at v k)
      pub done : (k : ℕ) → up k ≡ true → (site_at v k).done ≡ length rows

    works_said : (v u : World C R O) (i j : ℕ) (msg : MsgOf C R O) → Works v → IsSaid choose f i j msg v u → Works u
    works_said v u i j msg d s = record {
      is = goes_reached choose f right v u d.is s.goes;
      full = run_long choose f v u s.goes.events d.full s.goes.run;
      all = λ k e. subst (λ (x : ℕ → Site C). Follows w (boots k) rows (x k)) (sym s.same) (d.all k e);
      done = λ k e. ap (λ (x : ℕ → Site C). (x k).done) s.same ∙ d.done k e;
    }

    -- one site j recovers, and the others that do not run are as they were at its beginning
    module _ (j b : ℕ) (rests : up j ≡ false) (small_j : j < 2 * f + 1) (base : World C R O) where
      record Asking (v : World C R O) : Type 0 where
        works : Works v
        rest : (k : ℕ) → up k ≡ false → k ≢ j → site_at v k ≡ site_at base k
        here : Asks f w b rows (site_at v j) ⊎ WorksIn w rows (site_at v j)

      abbrev Has : ℕ → World C R O → Type 0
      Has i v = WorksIn w rows (site_at v j) ⊎ KeepsResponse f w rows (site_at v j) i (boots i)

      record KeepsOn (a c : World C R O) : Type 0 where
        each : (i : ℕ) → up i ≡ true → Has i a → Has i c

      keeps_on_same : (a : World C R O) → KeepsOn a a
      keeps_on_same a = record { each = λ i e k. k }

      keeps_on_more : (a c d : World C R O) → KeepsOn a c → KeepsOn c d → KeepsOn a d
      keeps_on_more a c d q r = record { each = λ i e k. r.each i e (q.each i e k) }

      -- site i answers
      one_answers : (i : ℕ) → up i ≡ true → (v : World C R O) → Asking v → Asks f w b rows (site_at v j)
          → Reaches choose f v (λ t. Asking t × Has i t × KeepsOn v t)
      one_answers i up_i v a asks =
          reaches_then choose f v (IsSaid choose f j i question v) _ said (λ u s.
          reaches_then choose f u (IsTaken choose f i (noted u) u) _ (question_comes u s)
          (λ t is. ends u s t is (has_as_late (learns (new t).known (site_at t j)).collected.responses (new t)) refl))
        where
          apart : i ≢ j
          apart e = true≢false (sym up_i ∙ (ap up e ∙ rests))

          small : (q : World C R O) (k : ℕ) → k < 2 * f + 1 → Works q → k < length q.sites
          small q k low o = let l = size_is f q o.is in omega arith

          question : MsgOf C R O
          question = Recovery (record { nonce = b })

          said : Reaches choose f v (IsSaid choose f j i question v)
          said = subst (λ (n : ℕ). Reaches choose f v (IsSaid choose f j i (Recovery (record { nonce = n })) v)) asks.boots
              (question_said v j i (small v j small_j a.works) asks.status (up_small i up_i) apart)

          noted : World C R O → Step C R O
          noted u = (let y = notes j b (site_at u i) in does y (mail i j (answer i b y) ∷ []))

          works_u : (u : World C R O) → IsSaid choose f j i question v u → Works u
          works_u u s = works_said v u j i question a.works s

          question_comes : (u : World C R O) → IsSaid choose f j i question v u → Reaches choose f u (IsTaken choose f i (noted u) u)
          question_comes u s =
              let o = works_u u s in
              let x = o.all i up_i in
              let low = known_most f u o.is i j in
              let at_j = ap (λ (q : ℕ → Site C). (q j).cell.boots) s.same in
              let is_b = asks.boots in
              comes choose f u j i question (noted u) (small u i (up_small i up_i) o) s.sent refl
              (delivered choose f j i (site_at u i) question (runs_up _ (normal_runs _ x.status)) (another f i j small_j (λ e. apart (sym e)))
              ∙ (ap (λ (n : ℕ). on_recovery {R = R} {O = O} f i (site_at u i) n (record { nonce = b })) (site_back j)
              ∙ question_at i j b (site_at u i) x.status (omega arith))) refl

          -- the answer, by what site i is after it
          new : World C R O → Response C
          new t = record { from = i; view = (site_at t i).view; state = state_of_view f i (site_at t i); known = (site_at t i).known }

          works_t : (u : World C R O) → IsSaid choose f j i question v u → (t : World C R O) → IsTaken choose f i (noted u) u t → Works t
          works_t u s t is = record {
            is = goes_reached choose f right u t o.is is.goes;
            full = run_long choose f u t is.goes.events o.full is.goes.run;
            all = λ k e. all_by k e (cases_eq k i);
            done = λ k e. done_by k e (cases_eq k i);
          }
            where
              o : Works u
              o = works_u u s

              all_by : (k : ℕ) → up k ≡ true → (k ≡ i) ⊎ (k ≡ i → ⊥) → Follows w (boots k) rows (site_at t k)
              all_by k e (inl same) =
                  subst (λ (m : ℕ). Follows w (boots m) rows (site_at t m)) (sym same) (subst (λ (x : Site C). Follows w (boots i) rows x) (sym is.here)
                  (let x = o.all i up_i in record { status = x.status; view = x.view; boots = x.boots; log_is = x.log_is }))
              all_by k e (inr other) = subst (λ (x : Site C). Follows w (boots k) rows x) (sym (is.there k other)) (o.all k e)

              done_by : (k : ℕ) → up k ≡ true → (k ≡ i) ⊎ (k ≡ i → ⊥) → (site_at t k).done ≡ length rows
              done_by k e (inl same) = subst (λ (m : ℕ). (site_at t m).done ≡ length rows) (sym same) (ap (λ (x : Site C). x.done) is.here ∙ o.done i up_i)
              done_by k e (inr other) = ap (λ (x : Site C). x.done) (is.there k other) ∙ o.done k e

          same_j : (u : World C R O) → IsSaid choose f j i question v u → (t : World C R O) → IsTaken choose f i (noted u) u t → site_at t j ≡ site_at v j
          same_j u s t is = is.there j (λ e. apart (sym e)) ∙ ap (λ (x : ℕ → Site C). x j) s.same

          rest_t : (u : World C R O) → IsSaid choose f j i question v u → (t : World C R O) → IsTaken choose f i (noted u) u t → (k : ℕ) → up k ≡ false → k ≢ j
              → site_at t k ≡ site_at base k
          rest_t u s t is k e other =
              is.there k (λ same. true≢false (sym up_i ∙ (ap up (sym same) ∙ e))) ∙ (ap (λ (x : ℕ → Site C). x k) s.same ∙ a.rest k e other)

          asks_t : (u : World C R O) → IsSaid choose f j i question v u → (t : World C R O) → IsTaken choose f i (noted u) u t → Asks f w b rows (site_at t j)
          asks_t u s t is = subst (λ (x : Site C). Asks f w b rows x) (sym (same_j u s t is)) asks

          sent_t : (u : World C R O) → IsSaid choose f j i question v u → (t : World C R O) → IsTaken choose f i (noted u) u t
              → Contains t.sent (mail i j (answer i b (site_at t i)))
          sent_t u s t is =
              subst (λ (x : Site C). Contains t.sent (mail i j (answer i b x))) (sym is.here)
              (is.sent _ (Contains-here (mail i j (answer i b (noted u).site)) []))

          idle_t : (t : World C R O) → Works t → Asks f w b rows (site_at t j) → (site_at t j).done ≡ 0
          idle_t t o q = ((o.is.holds.holds.sites j).rests (ap is_running q.status)).1

          good_t : (t : World C R O) → Works t → IsGood f w rows (new t)
          good_t t o = record { view = x.view; state = λ e. state_by e }
            where
              x : Follows w (boots i) rows (site_at t i)
              x = o.all i up_i

              state_by : i ≡ primary f w → state_of_view f i (site_at t i) ≡ Some (whole rows)
              state_by e =
                  if_yes (primary f (site_at t i).view == i) _ _ (eq_test _ _ (ap (primary f) x.view ∙ sym e))
                  ∙ (ap (λ (n : ℕ). Some (record { done = n; rows = (site_at t i).log })) (o.done i up_i)
                  ∙ ap (λ (l : List (RowOf C)). Some (record { done = length rows; rows = l })) x.log_is)

          most : World C R O → ℕ → ℕ
          most t k = (site_at t k).cell.boots

          ends : (u : World C R O) (s : IsSaid choose f j i question v u) (t : World C R O) → IsTaken choose f i (noted u) u t → (late : Bool)
              → has_as_late (learns (new t).known (site_at t j)).collected.responses (new t) ≡ late
              → Reaches choose f t (λ r. Asking r × Has i r × KeepsOn v r)
          ends u s t is true e = record {
            after = t;
            goes = goes_nowhere choose f t;
            holds = (
              record { works = o; rest = rest_t u s t is; here = inl q },
              inr (subst (λ (n : ℕ). KeepsResponse f w rows (site_at t j) i n) (o.all i up_i).boots
                  (kept_before choose f w b right rows (site_at t j) q (idle_t t o q) (new t) (good_t t o) (most t) (known_most f t o.is j)
                  (known_most f t o.is i) (known_own f t o.is i (runs_up _ (normal_runs _ (o.all i up_i).status))) e)),
              record { each = λ k up_k h. subst (λ (x : Site C). WorksIn w rows x ⊎ KeepsResponse f w rows x k (boots k)) (sym (same_j u s t is)) h },
            );
          }
            where
              o : Works t
              o = works_t u s t is

              q : Asks f w b rows (site_at t j)
              q = asks_t u s t is
          ends u s t is false e =
              reaches_then choose f t (IsTaken choose f j step t) _ arrives (λ r so. record { after = r; goes = goes_nowhere choose f r; holds = done r so })
            where
              o : Works t
              o = works_t u s t is

              q : Asks f w b rows (site_at t j)
              q = asks_t u s t is

              x : Follows w (boots i) rows (site_at t i)
              x = o.all i up_i

              step : Step C R O
              step = on_recovery_response choose (site_at t j) b (new t)

              takes : TakesAnswer choose f w b right rows (site_at t j) q (idle_t t o q) (new t) (good_t t o) (most t) (known_most f t o.is j)
                  (known_most f t o.is i) (known_own f t o.is i (runs_up _ (normal_runs _ x.status))) step
              takes =
                  takes_answer choose f w b right rows (site_at t j) q (idle_t t o q) (new t) (good_t t o) (most t) (known_most f t o.is j)
                  (known_most f t o.is i) (known_own f t o.is i (runs_up _ (normal_runs _ x.status))) e b refl

              arrives : Reaches choose f t (IsTaken choose f j step t)
              arrives =
                  comes choose f t i j (answer i b (site_at t i)) step (small t j small_j o) (sent_t u s t is) refl
                  (delivered choose f i j (site_at t j) (answer i b (site_at t i)) (ap is_down q.status)
                  (both_are _ _ (another f j i (up_small i up_i) apart)
                  (of_all_sites f (site_at t i).known ((o.full i).is (runs_up _ (normal_runs _ x.status)))))
                  ∙ ap (λ (n : ℕ). on_recovery_response {R = R} {O = O} choose (site_at t j) b
                  (record { from = n; view = (site_at t i).view; state = state_of_view f i (site_at t i); known = (site_at t i).known })) (site_back i))
                  (ap is_refused takes.handled)

              done : (r : World C R O) → IsTaken choose f j step t r → Asking r × Has i r × KeepsOn v r
              done r so = (
                record {
                  works = record {
                    is = goes_reached choose f right t r o.is so.goes;
                    full = run_long choose f t r so.goes.events o.full so.goes.run;
                    all = λ k d. subst (λ (y : Site C). Follows w (boots k) rows y) (sym (so.there k (away k d))) (o.all k d);
                    done = λ k d. ap (λ (y : Site C). y.done) (so.there k (away k d)) ∙ o.done k d;
                  };
                  rest = λ k d other. so.there k other ∙ rest_t u s t is k d other;
                  here = subst (λ (y : Site C). Asks f w b rows y ⊎ WorksIn w rows y) (sym so.here) takes.answers.ends;
                },
                subst (λ (y : Site C). WorksIn w rows y ⊎ KeepsResponse f w rows y i (boots i)) (sym so.here)
                    (subst (λ (n : ℕ). WorksIn w rows step.site ⊎ KeepsResponse f w rows step.site i n) x.boots takes.answers.has),
                record { each = λ k d h. subst (λ (y : Site C). WorksIn w rows y ⊎ KeepsResponse f w rows y k (boots k)) (sym so.here) (keeps_by k d h) },
              )
                where
                  away : (k : ℕ) → up k ≡ true → k ≢ j
                  away k d same = true≢false (sym d ∙ (ap up same ∙ rests))

                  keeps_by : (k : ℕ) → up k ≡ true → Has k v → WorksIn w rows step.site ⊎ KeepsResponse f w rows step.site k (boots k)
                  keeps_by k d (inl works) = absurd (let n : Normal ≡ Recovering = sym works.status ∙ asks.status in cc)
                  keeps_by k d (inr h) =
                      subst (λ (n : ℕ). WorksIn w rows step.site ⊎ KeepsResponse f w rows step.site k n) (o.all k d).boots
                      (takes.answers.keeps k (subst (λ (y : Site C). KeepsResponse f w rows y k (most t k)) (sym (same_j u s t is))
                      (subst (λ (n : ℕ). KeepsResponse f w rows (site_at v j) k n) (sym (o.all k d).boots) h)))

      -- with the answers of all running sites it works
      all_answer : (v : World C R O) → Asking v → Reaches choose f v (λ t. Asking t × WorksIn w rows (site_at t j))
      all_answer v a =
          reaches_then choose f v (λ u. Asking u × ((i : ℕ) → Contains (sites f) i → up i ≡ true → Has i u) × KeepsOn v u) _
          (sweep_on choose f Asking KeepsOn keeps_on_same keeps_on_more (λ i u. up i ≡ true → Has i u) (λ i c d r h e. r.each i e (h e)) (sites f)
          (λ i u in' d. by_test i u d (up i) refl d.here) v a)
          (λ u is. record { after = u; goes = goes_nowhere choose f u; holds = (is.0, by_end u (λ i e. is.1 i (has_site f i (up_small i e)) e) is.0.here) })
        where
          stays : (i : ℕ) (u : World C R O) → Asking u → (up i ≡ true → Has i u) → Reaches choose f u (λ t. Asking t × (up i ≡ true → Has i t) × KeepsOn u t)
          stays i u d h = record { after = u; goes = goes_nowhere choose f u; holds = (d, h, keeps_on_same u) }

          by_test : (i : ℕ) (u : World C R O) → Asking u → (t : Bool) → up i ≡ t → Asks f w b rows (site_at u j) ⊎ WorksIn w rows (site_at u j)
              → Reaches choose f u (λ t. Asking t × (up i ≡ true → Has i t) × KeepsOn u t)
          by_test i u d false e here = stays i u d (λ e'. absurd (true≢false (sym e' ∙ e)))
          by_test i u d true e (inr works) = stays i u d (λ _. inl works)
          by_test i u d true e (inl asks) =
              reaches_then choose f u (λ t. Asking t × Has i t × KeepsOn u t) _ (one_answers i e u d asks)
              (λ t is. record { after = t; goes = goes_nowhere choose f t; holds = (is.0, (λ _. is.1), is.2) })

          by_end : (u : World C R O) → ((i : ℕ) → up i ≡ true → Has i u) → Asks f w b rows (site_at u j) ⊎ WorksIn w rows (site_at u j)
              → WorksIn w rows (site_at u j)
          by_end u all (inr works) = works
          by_end u all (inl asks) = absurd (
              let k = has_by (primary f w) (all (primary f w) up_leads) in
              asks.not_yet k.response k.among k.from k.good (let h = sites_more f up (has_response (site_at u j).collected.responses)
              (λ i e. (let r = has_by i (all i e) in has_response_of (site_at u j).collected.responses i r.response r.among r.from)) in omega arith))
            where
              has_by : (i : ℕ) → Has i u → KeepsResponse f w rows (site_at u j) i (boots i)
              has_by i (inl works) = absurd (let n : Normal ≡ Recovering = sym works.status ∙ asks.status in cc)
              has_by i (inr h) = h

    -- all sites that do not run recover
    module _ (old : World C R O) (old_rests : (k : ℕ) → up k ≡ false → is_running (site_at old k).status ≡ false)
        (below : (k : ℕ) → up k ≡ false → (site_at old k).status ≡ Recovering → (a : Response C) → Contains (site_at old k).collected.responses a
        → a.view < w) where
      pub record Healing (v : World C R O) : Type 0 where
        pub works : Works v
        pub rest : (k : ℕ) → up k ≡ false → (site_at v k ≡ site_at old k) ⊎ WorksIn w rows (site_at v k)

      abbrev Is : ℕ → World C R O → Type 0
      Is j v = WorksIn w rows (site_at v j)

      record Keeps (a c : World C R O) : Type 0 where
        each : (k : ℕ) → up k ≡ false → Is k a → Is k c

      keeps_same : (a : World C R O) → Keeps a a
      keeps_same a = record { each = λ k e h. h }

      keeps_more : (a c d : World C R O) → Keeps a c → Keeps c d → Keeps a d
      keeps_more a c d q r = record { each = λ k e h. r.each k e (q.each k e h) }

      -- from a world in which site j asks, and the others are as they were
      from_asking : (j b : ℕ) (rests : up j ≡ false) (small_j : j < 2 * f + 1) (v base : World C R O) → Healing v
          → ((k : ℕ) → k ≢ j → site_at base k ≡ site_at v k) → Works base → Asks f w b rows (site_at base j)
          → Reaches choose f base (λ t. Healing t × Is j t × Keeps v t)
      from_asking j b rests small_j v base h same works asks =
          reaches_then choose f base (λ t. Asking j b rests small_j base t × WorksIn w rows (site_at t j)) _
          (all_answer j b rests small_j base base (record { works = works; rest = λ k e apart. refl; here = inl asks }))
          (λ t is. record {
            after = t;
            goes = goes_nowhere choose f t;
            holds = (
              record { works = is.0.works; rest = λ k e. rest_by t is.0 is.1 k e (cases_eq k j) },
              is.1,
              record { each = λ k e q. keeps_by t is.0 is.1 k e q (cases_eq k j) },
            );
          })
        where
          same_v : (t : World C R O) → Asking j b rests small_j base t → (k : ℕ) → up k ≡ false → k ≢ j → site_at t k ≡ site_at v k
          same_v t a k e apart = a.rest k e apart ∙ same k apart

          rest_by : (t : World C R O) → Asking j b rests small_j base t → Is j t → (k : ℕ) → up k ≡ false → (k ≡ j) ⊎ (k ≡ j → ⊥)
              → (site_at t k ≡ site_at old k) ⊎ Is k t
          rest_by t a works k e (inl is) = inr (subst (λ (m : ℕ). Is m t) (sym is) works)
          rest_by t a works k e (inr apart) = subst (λ (x : Site C). (x ≡ site_at old k) ⊎ WorksIn w rows x) (sym (same_v t a k e apart)) (h.rest k e)

          keeps_by : (t : World C R O) → Asking j b rests small_j base t → Is j t → (k : ℕ) → up k ≡ false → Is k v → (k ≡ j) ⊎ (k ≡ j → ⊥) → Is k t
          keeps_by t a works k e q (inl is) = subst (λ (m : ℕ). Is m t) (sym is) works
          keeps_by t a works k e q (inr apart) = subst (λ (x : Site C). WorksIn w rows x) (sym (same_v t a k e apart)) q

      one_heals : (j : ℕ) → up j ≡ false → j < 2 * f + 1 → (v : World C R O) → Healing v → site_at v j ≡ site_at old j
          → ((site_at old j).status ≡ Down → (site_at old j).cell.boots < max_number)
          → Reaches choose f v (λ t. Healing t × Is j t × Keeps v t)
      one_heals j rests small_j v h same left = by_status (site_at old j).status refl
        where
          size : j < length v.sites
          size = let l = size_is f v h.works.is in omega arith

          at_recovering : (site_at v j).status ≡ Recovering → ((a : Response C) → Contains (site_at v j).collected.responses a → a.view < w)
              → Reaches choose f v (λ t. Healing t × Is j t × Keeps v t)
          at_recovering recovering low =
              from_asking j (site_at v j).cell.boots rests small_j v v h (λ k apart. refl) h.works
              (record {
                status = recovering;
                boots = refl;
                each = λ a in'. inl (low a in');
                not_yet = λ a in' from good many'. (let l = low a in' in let e = good.view in omega arith);
              })

          at_down : (site_at v j).status ≡ Down → (site_at v j).cell.boots < max_number → Reaches choose f v (λ t. Healing t × Is j t × Keeps v t)
          at_down down low =
              record { after = rest.after; goes = goes_then choose f v base rest.after goes rest.goes; holds = rest.holds }
            where
              base : World C R O
              base = taken choose f v j Restart

              step : site_step {R = R} {O = O} choose f j (site_at v j) Restart ≡ does (restarted f j (raised (site_at v j).cell))
                  (to_all f j (Recovery (record { nonce = nonce_of (raised (site_at v j).cell) })))
              step = restart_step j (site_at v j) down low

              goes : GoesTo choose f v base
              goes = goes_step choose f v j Restart size tt tt (ap (λ (s : Step C R O). is_refused s.ending) step)

              here : site_at base j ≡ restarted f j (raised (site_at v j).cell)
              here = taken_here choose f v j Restart size ∙ ap (λ (s : Step C R O). s.site) step

              there : (k : ℕ) → k ≢ j → site_at base k ≡ site_at v k
              there k apart = taken_there choose f v j k Restart size apart

              away : (k : ℕ) → up k ≡ true → k ≢ j
              away k d is = true≢false (sym d ∙ (ap up is ∙ rests))

              works : Works base
              works = record {
                is = goes_reached choose f right v base h.works.is goes;
                full = run_long choose f v base goes.events h.works.full goes.run;
                all = λ k d. subst (λ (y : Site C). Follows w (boots k) rows y) (sym (there k (away k d))) (h.works.all k d);
                done = λ k d. ap (λ (y : Site C). y.done) (there k (away k d)) ∙ h.works.done k d;
              }

              asks : Asks f w ((site_at v j).cell.boots + 1) rows (site_at base j)
              asks = subst (λ (x : Site C). Asks f w ((site_at v j).cell.boots + 1) rows x) (sym here)
                  (record { status = refl; boots = refl; each = λ a in'. absurd (Contains-none a in'); not_yet = λ a in' from good many'. Contains-none a in' })

              rest : Reaches choose f base (λ t. Healing t × Is j t × Keeps v t)
              rest = from_asking j ((site_at v j).cell.boots + 1) rests small_j v base h there works asks

          by_status : (st : Status) → (site_at old j).status ≡ st → Reaches choose f v (λ t. Healing t × Is j t × Keeps v t)
          by_status Normal e = absurd (true≢false (ap is_running (sym e) ∙ old_rests j rests))
          by_status Change e = absurd (true≢false (ap is_running (sym e) ∙ old_rests j rests))
          by_status Recovering e =
              at_recovering (ap (λ (x : Site C). x.status) same ∙ e)
              (subst (λ (x : Site C). (a : Response C) → Contains x.collected.responses a → a.view < w) (sym same) (below j rests e))
          by_status Down e = at_down (ap (λ (x : Site C). x.status) same ∙ e) (subst (λ (x : Site C). x.cell.boots < max_number) (sym same) (left e))

      abbrev P : ℕ → World C R O → Type 0
      P j u = up j ≡ false → ((site_at old j).status ≡ Down → (site_at old j).cell.boots < max_number) → Is j u

      -- each of them that is not down with no restart left
      pub all_heal : (v : World C R O) → Healing v → Reaches choose f v (λ t. Healing t
          × ((j : ℕ) → j < 2 * f + 1 → up j ≡ false → ((site_at old j).status ≡ Down → (site_at old j).cell.boots < max_number) → WorksIn w rows (site_at t j)))
      all_heal v h =
          reaches_then choose f v (λ u. Healing u × ((j : ℕ) → Contains (sites f) j → P j u) × Keeps v u) _
          (sweep_on choose f Healing Keeps keeps_same keeps_more P (λ j a c r p e left. r.each j e (p e left)) (sites f)
          (λ j u in' d. by_test j u (site_small f j in') d (up j) refl) v h)
          (λ u is. record { after = u; goes = goes_nowhere choose f u; holds = (is.0, λ j low e left. is.1 j (has_site f j low) e left) })
        where
          stays : (j : ℕ) (u : World C R O) → Healing u → P j u → Reaches choose f u (λ t. Healing t × P j t × Keeps u t)
          stays j u d p = record { after = u; goes = goes_nowhere choose f u; holds = (d, p, keeps_same u) }

          heals : (j : ℕ) (u : World C R O) → j < 2 * f + 1 → Healing u → up j ≡ false → site_at u j ≡ site_at old j
              → ((site_at old j).status ≡ Down → (site_at old j).cell.boots < max_number)
              → Reaches choose f u (λ t. Healing t × P j t × Keeps u t)
          heals j u small_j d e same left =
              reaches_then choose f u (λ t. Healing t × Is j t × Keeps u t) _ (one_heals j e small_j u d same left)
              (λ t is. record { after = t; goes = goes_nowhere choose f t; holds = (is.0, (λ _ _. is.1), is.2) })

          by_status : (j : ℕ) (u : World C R O) → j < 2 * f + 1 → Healing u → up j ≡ false → site_at u j ≡ site_at old j → (st : Status)
              → (site_at old j).status ≡ st
              → ((site_at old j).cell.boots < max_number) ⊎ (max_number ≤ (site_at old j).cell.boots) → Reaches choose f u (λ t. Healing t × P j t × Keeps u t)
          by_status j u small_j d e same Down is (inl low) = heals j u small_j d e same (λ _. low)
          by_status j u small_j d e same Down is (inr high) = stays j u d (λ _ left. absurd (let l = left is in omega arith))
          by_status j u small_j d e same Normal is left = heals j u small_j d e same (λ down. absurd (let n : Normal ≡ Down = sym is ∙ down in cc))
          by_status j u small_j d e same Change is left = heals j u small_j d e same (λ down. absurd (let n : Change ≡ Down = sym is ∙ down in cc))
          by_status j u small_j d e same Recovering is left = heals j u small_j d e same (λ down. absurd (let n : Recovering ≡ Down = sym is ∙ down in cc))

          by_rest : (j : ℕ) (u : World C R O) → j < 2 * f + 1 → Healing u → up j ≡ false → (site_at u j ≡ site_at old j) ⊎ Is j u
              → Reaches choose f u (λ t. Healing t × P j t × Keeps u t)
          by_rest j u small_j d e (inl same) = by_status j u small_j d e same (site_at old j).status refl (cases_lt (site_at old j).cell.boots max_number)
          by_rest j u small_j d e (inr works) = stays j u d (λ _ _. works)

          by_test : (j : ℕ) (u : World C R O) → j < 2 * f + 1 → Healing u → (t : Bool) → up j ≡ t → Reaches choose f u (λ t. Healing t × P j t × Keeps u t)
          by_test j u small_j d true e = stays j u d (λ e' _. absurd (true≢false (sym e ∙ e')))
          by_test j u small_j d false e = by_rest j u small_j d e (d.rest j e)
