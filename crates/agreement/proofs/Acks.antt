-- Each running site acknowledges the whole log of the view, and the primary executes it.
use Rattle.std.proofs.Common.{◌≡◌, ◌≢◌, ◌⊎◌, inl, inr, ℕ, zero, suc, ◌+◌, ◌-◌, ◌*◌, ◌<◌, ◌≤◌, Bool, true, false, not, ◌&&◌, ◌||◌, ◌==◌, nat_lt, nat_le, min, if◌then◌else◌, List, [], ◌∷◌, ◌++◌, length, slice_get, Option, Some, None, count_by, refl, sym, ap, ◌∙◌, subst, arith, true≢false}
use Rattle.std.specs.Prelude.{Contains}
use Rattle.std.specs.List.{list_any}
use Rattle.std.proofs.lemmas.Bool.{cases_eq, cases_lt}
use Rattle.std.proofs.lemmas.Bool.Decides.{nat_tests}
use Rattle.vr_types.specs.declared.event.EventOf.TheVariants.{Beat}
use Rattle.vr_types.specs.declared.event.Status.{Status}
use Rattle.vr_types.specs.declared.event.Status.TheVariants.{Normal}
use Rattle.vr_types.specs.declared.event.SiteFault.TheVariants.{NotUp}
use Rattle.vr_types.specs.declared.message.EnvelopeOf.{EnvelopeOf}
use Rattle.vr_types.specs.declared.message.MsgOf.{MsgOf}
use Rattle.vr_types.specs.declared.message.MsgOf.TheVariants.{Prepare, PrepareOk}
use Rattle.vr_types.specs.declared.row.RowOf.{RowOf}
use Rattle.vr_types.specs.Choice.{Choice, IsRight, has_acknowledged}
use Rattle.vr_types.specs.Group.{sites, others, primary, mail, to_all}
use Rattle.vr_types.specs.Site.{Site, Ack, is_normal, is_change, is_recovering, is_down}
use Rattle.vr_types.specs.Step.{Step, does, answers, executed_to, places_between, asks_state, acknowledges_all}
use Rattle.vr_types.specs.Normal.{with_next, with_row, with_ack, news, on_prepare, on_prepare_ok, on_commit, beats_normal}
use Rattle.vr_types.specs.Handling.{refused_or, on_beat, site_step, is_refused}
use Rattle.vr_types.proofs.ChoosingPick.{Contains-here}
use Rattle.agreement.specs.Worlds.{World}
use Rattle.agreement.specs.Progress.{GoesTo}
use Rattle.agreement.proofs.Reached.{site_at, IsReached, first}
use Rattle.agreement.proofs.Going.{goes_step, goes_reached, taken, taken_same, taken_sent, taken_still, Reaches, reaches_then, sweep_on, goes_nowhere}
use Rattle.agreement.proofs.Lengths.{AllLong, run_long}
use Rattle.agreement.proofs.Counts.{has_site, in_range, others_enough, none_counted}
use Rattle.agreement.proofs.Facts.{told_each, map_keeps, another, site_back, size_is, le_is}
use Rattle.agreement.proofs.Tests.{eq_of, eq_test, le_of, normal_runs, runs_up}
use Rattle.agreement.proofs.Waiting.{if_yes, if_no, not_less}
use Rattle.agreement.proofs.Starts.{delivered, IsSaid, IsTaken, comes}
use Rattle.agreement.proofs.Follows.{Follows}

-- a list has an element at each place within it
pub there_is : {A : Type 0} (xs : List A) (n : ℕ) → n < length xs → (x : A) × (slice_get xs n ≡ Some x)
there_is [] n low = absurd (omega arith)
there_is (x ∷ xs) zero low = (x, refl)
there_is (x ∷ xs) (suc n) low = there_is xs n (omega arith)

-- and none after its end
pub none_at : {A : Type 0} (xs : List A) (n : ℕ) → length xs ≤ n → slice_get xs n ≡ None
none_at [] n low = refl
none_at (x ∷ xs) zero low = absurd (omega arith)
none_at (x ∷ xs) (suc n) low = none_at xs n (omega arith)

list_any-left : {A : Type 0} (test : A → Bool) (xs ys : List A) → list_any test xs ≡ true → list_any test (xs ++ ys) ≡ true
list_any-left test [] ys e = absurd (true≢false (sym e))
list_any-left {A} test (x ∷ xs) ys e = by_test (test x) e (list_any-left test xs ys)
  where
    by_test : (b : Bool) → (b || list_any test xs) ≡ true → (list_any test xs ≡ true → list_any test (xs ++ ys) ≡ true) → (b || list_any test (xs ++ ys)) ≡ true
    by_test true h rest = refl
    by_test false h rest = rest h

list_any-last : {A : Type 0} (test : A → Bool) (xs : List A) (y : A) → test y ≡ true → list_any test (xs ++ y ∷ []) ≡ true
list_any-last test [] y e = by_test (test y) e
  where
    by_test : (b : Bool) → b ≡ true → (b || false) ≡ true
    by_test true h = refl
    by_test false h = h
list_any-last {A} test (x ∷ xs) y e = by_test (test x) (list_any-last test xs y e)
  where
    by_test : (b : Bool) → list_any test (xs ++ y ∷ []) ≡ true → (b || list_any test (xs ++ y ∷ [])) ≡ true
    by_test true h = refl
    by_test false h = h

acked_more : (acks : List Ack) (new : Ack) (n j : ℕ) → has_acknowledged acks n j ≡ true → has_acknowledged (acks ++ new ∷ []) n j ≡ true
acked_more acks new n j e = by_test (n == 0) e
  where
    by_test : (b : Bool) → (b || list_any (λ ack. (ack.from == j) && nat_le n (min ack.place ack.rows)) acks) ≡ true
        → (b || list_any (λ ack. (ack.from == j) && nat_le n (min ack.place ack.rows)) (acks ++ new ∷ [])) ≡ true
    by_test true h = refl
    by_test false h = list_any-left _ acks (new ∷ []) h

acked_now : (acks : List Ack) (n j : ℕ) → has_acknowledged (acks ++ record { from = j; place = n; rows = n } ∷ []) n j ≡ true
acked_now acks n j = by_test (n == 0)
  where
    both : (a b : Bool) → a ≡ true → b ≡ true → (a && b) ≡ true
    both true b e h = h
    both false b e h = absurd (true≢false (sym e))

    last : list_any (λ (ack : Ack). (ack.from == j) && nat_le n (min ack.place ack.rows)) (acks ++ record { from = j; place = n; rows = n } ∷ []) ≡ true
    last =
        list_any-last (λ (ack : Ack). (ack.from == j) && nat_le n (min ack.place ack.rows)) acks (record { from = j; place = n; rows = n })
        (both (j == j) _ (eq_test j j refl) (le_is n (min n n) (omega arith)))

    by_test : (b : Bool)
        → (b || list_any (λ (ack : Ack). (ack.from == j) && nat_le n (min ack.place ack.rows)) (acks ++ record { from = j; place = n; rows = n } ∷ [])) ≡ true
    by_test true = refl
    by_test false = last

unequal : (a b : ℕ) → a < b → (a == b) ≡ false
unequal a b l = by_test (a == b) refl
  where
    by_test : (t : Bool) → (a == b) ≡ t → t ≡ false
    by_test true e = absurd (let d : a ≡ b = eq_of a b e in omega arith)
    by_test false e = refl

not_below : (a b : ℕ) → b ≤ a → nat_lt a b ≡ false
not_below a b h = grind (arith, nat_tests, h)

module _ {C R O : Type 0} (choose : Choice C) (f : ℕ) where
  -- a beat of a normal site
  pub beat_normal : (me : ℕ) (x : Site C) → x.status ≡ Normal → site_step {R = R} {O = O} choose f me x Beat ≡ beats_normal f me x
  beat_normal me x e = ap (λ (st : Status). refused_or {R = R} {O = O} x (if is_down st then Some NotUp else None) (on_beat f me x st)) e

  -- the primary tells its news
  pub news_said : (v : World C R O) (w p j : ℕ) (found : Option (RowOf C)) → p < length v.sites → (site_at v p).status ≡ Normal → (site_at v p).view ≡ w
      → primary f w ≡ p → j < 2 * f + 1 → j ≢ p
      → slice_get (site_at v p).log (site_at v p).done ≡ found → Reaches choose f v (IsSaid choose f p j (news (site_at v p) found) v)
  unfolding beats_normal
  news_said v w p j found small normal view leads small_j apart row =
      subst (λ (r : Option (RowOf C)). Reaches choose f v (IsSaid choose f p j (news (site_at v p) r) v)) row
      (record { after = taken choose f v p Beat; goes = goes; holds = holds })
    where
      msg : MsgOf C R O
      msg = news (site_at v p) (slice_get (site_at v p).log (site_at v p).done)

      step : site_step {R = R} {O = O} choose f p (site_at v p) Beat ≡ record (does (site_at v p) (to_all f p msg)) { orders = true }
      step = beat_normal p (site_at v p) normal ∙ if_yes (primary f (site_at v p).view == p) _ _ (eq_test _ _ (ap (primary f) view ∙ leads))

      goes : GoesTo choose f v (taken choose f v p Beat)
      goes = goes_step choose f v p Beat small tt tt (ap (λ (s : Step C R O). is_refused s.ending) step)

      holds : IsSaid choose f p j msg v (taken choose f v p Beat)
      holds = record {
        goes = goes;
        same = taken_same choose f v p Beat small (ap (λ (s : Step C R O). s.site) step);
        sent =
            taken_sent choose f v p Beat (mail p j msg) (subst (λ (s : Step C R O). Contains s.sent (mail p j msg)) (sym step)
            (told_each f p j msg small_j apart));
        still = λ e in'. taken_still choose f v p Beat e in';
      }

  -- a site that follows has the row of a PREPARE already, and acknowledges its whole log
  pub prepares_again : (w from me d : ℕ) (row : RowOf C) (x : Site C) → x.status ≡ Normal → x.view ≡ w → primary f w ≡ from → d < length x.log
      → on_prepare {R = R} {O = O} f me x from (record { view = w; place = d + 1; done = d; row = row }) ≡ does (executed_to d x) (acknowledges_all f me x)
  unfolding on_prepare
  prepares_again w from me d row x normal view leads low =
      if_no (not (primary f w == from)) _ _ (ap not (eq_test (primary f w) from leads))
      ∙ (if_no (is_recovering x.status) _ _ (ap is_recovering normal)
      ∙ (if_no (nat_lt w x.view) _ _ (not_less w x.view (sym view))
      ∙ (if_no (nat_lt x.view w || is_change x.status) _ _ (neither (nat_lt x.view w) (is_change x.status) (not_less x.view w view) (ap is_change normal))
      ∙ (ap (λ (z : Site C). does (executed_to d z) (if nat_lt (length x.log + 1) (d + 1) then asks_state f me x.view (length x.log)
      else acknowledges_all f me (executed_to d z))) with_it
      ∙ ap (λ (es : List (EnvelopeOf C R O)). does (executed_to d x) es) (if_no (nat_lt (length x.log + 1) (d + 1)) _ _ (not_below _ _ (omega arith)))))))
    where
      neither : (a b : Bool) → a ≡ false → b ≡ false → (a || b) ≡ false
      neither true b e h = absurd (true≢false e)
      neither false b e h = h

      with_it : with_next (d + 1) row x ≡ x
      with_it = if_no (d + 1 == length x.log + 1) (with_row row x) x (unequal (d + 1) (length x.log + 1) (omega arith))

  -- or the row is the next one, and it takes it
  pub prepares_new : (w from me d : ℕ) (row : RowOf C) (x : Site C) → x.status ≡ Normal → x.view ≡ w → primary f w ≡ from → d ≡ length x.log
      → on_prepare {R = R} {O = O} f me x from (record { view = w; place = d + 1; done = d; row = row })
      ≡ (let y = executed_to d (with_row row x) in does y (acknowledges_all f me y))
  unfolding on_prepare
  prepares_new w from me d row x normal view leads same =
      if_no (not (primary f w == from)) _ _ (ap not (eq_test (primary f w) from leads))
      ∙ (if_no (is_recovering x.status) _ _ (ap is_recovering normal)
      ∙ (if_no (nat_lt w x.view) _ _ (not_less w x.view (sym view))
      ∙ (if_no (nat_lt x.view w || is_change x.status) _ _ (neither (nat_lt x.view w) (is_change x.status) (not_less x.view w view) (ap is_change normal))
      ∙ (ap (λ (z : Site C). does (executed_to d z) (if nat_lt (length x.log + 1) (d + 1) then asks_state f me x.view (length x.log)
      else acknowledges_all f me (executed_to d z))) with_it
      ∙ ap (λ (es : List (EnvelopeOf C R O)). does (executed_to d (with_row row x)) es)
      (if_no (nat_lt (length x.log + 1) (d + 1)) _ _ (not_below _ _ (omega arith)))))))
    where
      neither : (a b : Bool) → a ≡ false → b ≡ false → (a || b) ≡ false
      neither true b e h = absurd (true≢false e)
      neither false b e h = h

      with_it : with_next (d + 1) row x ≡ with_row row x
      with_it = if_yes (d + 1 == length x.log + 1) (with_row row x) x (eq_test (d + 1) (length x.log + 1) (omega arith))

  -- an acknowledgement is kept, and rows are executed
  pub acknowledged_at : (w from me n : ℕ) (x : Site C) → x.status ≡ Normal → x.view ≡ w → primary f w ≡ me
      → on_prepare_ok {R = R} {O = O} choose f me x from (record { view = w; place = n })
      ≡ (let y = with_ack from n x in let z = executed_to (choose.commit_place me y.collected.acks) y in answers z (places_between y.done z.done))
  unfolding on_prepare_ok
  acknowledged_at w from me n x normal view leads =
      if_no (not (is_normal x.status)) _ _ (ap (λ st. not (is_normal st)) normal)
      ∙ (if_no (not (w == x.view)) _ _ (ap not (eq_test w x.view (sym view)))
      ∙ if_no (not (primary f x.view == me)) _ _ (ap not (eq_test _ _ (ap (primary f) view ∙ leads))))

  -- a site that follows executes what a COMMIT tells
  pub commits_at : (w from me d : ℕ) (x : Site C) → x.status ≡ Normal → x.view ≡ w → primary f w ≡ from → d ≤ length x.log
      → on_commit {R = R} {O = O} f me x from (record { view = w; done = d }) ≡ does (executed_to d x) []
  unfolding on_commit
  commits_at w from me d x normal view leads low =
      if_no (not (primary f w == from)) _ _ (ap not (eq_test (primary f w) from leads))
      ∙ (if_no (is_recovering x.status) _ _ (ap is_recovering normal)
      ∙ (if_no (nat_lt w x.view) _ _ (not_less w x.view (sym view))
      ∙ (if_no (nat_lt x.view w || is_change x.status) _ _ (neither (nat_lt x.view w) (is_change x.status) (not_less x.view w view) (ap is_change normal))
      ∙ ap (λ (es : List (EnvelopeOf C R O)). does (executed_to d x) es) (if_no (nat_lt (length x.log) d) _ _ (not_below _ _ low)))))
    where
      neither : (a b : Bool) → a ≡ false → b ≡ false → (a || b) ≡ false
      neither true b e h = absurd (true≢false e)
      neither false b e h = h

  module _ (right : IsRight f choose) (w : ℕ) (up : ℕ → Bool) (up_small : (j : ℕ) → up j ≡ true → j < 2 * f + 1) (up_leads : up (primary f w) ≡ true)
      (boots : ℕ → ℕ) (rows : List (RowOf C)) (old : World C R O) where
    abbrev pub p : ℕ
    p = primary f w

    abbrev pub long : ℕ
    long = length rows

    -- the running sites are normal in view w with these rows, and the others are as they were
    pub record Settled (v : World C R O) : Type 0 where
      pub is : IsReached f first v
      pub full : AllLong f v
      pub all : (j : ℕ) → up j ≡ true → Follows w (boots j) rows (site_at v j)
      pub rest : (j : ℕ) → up j ≡ false → site_at v j ≡ site_at old j

    -- what the primary has executed of them
    pub within : (v : World C R O) → Settled v → (j : ℕ) → up j ≡ true → (site_at v j).done ≤ long
    within v d j e =
        let h = ((d.is.holds.holds.sites j).running (normal_runs _ (d.all j e).status)).within in
        let l = ap (length {A = RowOf C}) (d.all j e).log_is in
        omega arith

    -- it has executed all of it, or too few have acknowledged it
    pub record Counts (v : World C R O) : Type 0 where
      pub settled : Settled v
      pub due : ((site_at v p).done ≡ long) ⊎ (count_by (has_acknowledged (site_at v p).collected.acks long) (others f p) < f)

    abbrev pub Acked : ℕ → World C R O → Type 0
    Acked j v = ((site_at v p).done ≡ long) ⊎ (has_acknowledged (site_at v p).collected.acks long j ≡ true)

    pub record KeepsOn (a b : World C R O) : Type 0 where
      pub each : (j : ℕ) → Acked j a → Acked j b

    pub keeps_on_same : (a : World C R O) → KeepsOn a a
    keeps_on_same a = record { each = λ i k. k }

    pub keeps_on_more : (a b c : World C R O) → KeepsOn a b → KeepsOn b c → KeepsOn a c
    keeps_on_more a b c q r = record { each = λ i k. r.each i (q.each i k) }

    -- a step of site j leaves the world settled, where the site follows still
    pub settled_on : (v t : World C R O) (j : ℕ) (step : Step C R O) → up j ≡ true → Settled v → IsTaken choose f j step v t
        → Follows w (boots j) rows step.site → Settled t
    settled_on v t j step up_j d is follows = record {
      is = goes_reached choose f right v t d.is is.goes;
      full = run_long choose f v t is.goes.events d.full is.goes.run;
      all = λ k e. by_place k e (cases_eq k j);
      rest = λ k e. is.there k (λ same. true≢false (sym up_j ∙ (ap up (sym same) ∙ e))) ∙ d.rest k e;
    }
      where
        by_place : (k : ℕ) → up k ≡ true → (k ≡ j) ⊎ (k ≡ j → ⊥) → Follows w (boots k) rows (site_at t k)
        by_place k e (inl same) =
            subst (λ (m : ℕ). Follows w (boots m) rows (site_at t m)) (sym same) (subst (λ (x : Site C). Follows w (boots j) rows x) (sym is.here) follows)
        by_place k e (inr apart) = subst (λ (x : Site C). Follows w (boots k) rows x) (sym (is.there k apart)) (d.all k e)

    pub settled_said : (v u : World C R O) (i j : ℕ) (msg : MsgOf C R O) → Settled v → IsSaid choose f i j msg v u → Settled u
    settled_said v u i j msg d s = record {
      is = goes_reached choose f right v u d.is s.goes;
      full = run_long choose f v u s.goes.events d.full s.goes.run;
      all = λ k e. subst (λ (x : ℕ → Site C). Follows w (boots k) rows (x k)) (sym s.same) (d.all k e);
      rest = λ k e. ap (λ (x : ℕ → Site C). x k) s.same ∙ d.rest k e;
    }

    -- the acknowledgement of site j comes to the primary
    -- where all is executed, the client of the last row was answered in that step
    abbrev pub IsTold : World C R O → Type 0
    IsTold t = (site_at t (primary f w)).done ≡ length rows
        → Contains t.replies (record { from = primary f w; sender = site_at t (primary f w); place = length rows })

    pub one_acks : (j : ℕ) → up j ≡ true → j ≢ primary f w → (v : World C R O) → Settled v → (site_at v (primary f w)).done < length rows
        → Reaches choose f v (λ t. Counts t × Acked j t × KeepsOn v t × IsTold t)
    one_acks j up_j apart v d less =
        reaches_then choose f v (IsSaid choose f p j prepare v) _ said (λ u s.
        reaches_then choose f u (IsTaken choose f j (prepared u) u) _ (prepare_comes u s) (λ t is.
        reaches_then choose f t (IsTaken choose f p (executed t) t) _ (ack_comes u s t is)
        (λ r so. record { after = r; goes = goes_nowhere choose f r; holds = done u s t is r so })))
      where
        lead : Follows w (boots p) rows (site_at v p)
        lead = d.all p up_leads

        n : ℕ
        n = (site_at v p).done

        small : {q : World C R O} (k : ℕ) → up k ≡ true → Settled q → k < length q.sites
        small {q} k e o = let a = size_is f q o.is in let b = up_small k e in omega arith

        found : (row : RowOf C) × (slice_get (site_at v p).log (site_at v p).done ≡ Some row)
        found = there_is (site_at v p).log (site_at v p).done (let l = ap (length {A = RowOf C}) lead.log_is in omega arith)

        prepare : MsgOf C R O
        prepare = Prepare (record { view = w; place = (site_at v p).done + 1; done = (site_at v p).done; row = found.0 })

        said : Reaches choose f v (IsSaid choose f p j prepare v)
        said =
            subst
            (λ (m : ℕ).
            Reaches choose f v
            (IsSaid choose f p j (Prepare (record { view = m; place = (site_at v p).done + 1; done = (site_at v p).done; row = found.0 })) v)) lead.view
            (news_said v w p j (Some found.0) (small {q = v} p up_leads d) lead.status lead.view refl (up_small j up_j) apart found.1)

        prepared : World C R O → Step C R O
        prepared u = does (executed_to (site_at v p).done (site_at u j)) (acknowledges_all f j (site_at u j))

        prepare_comes : (u : World C R O) → IsSaid choose f p j prepare v u → Reaches choose f u (IsTaken choose f j (prepared u) u)
        prepare_comes u s =
            let o = settled_said v u p j prepare d s in
            let x = o.all j up_j in
            comes choose f u p j prepare (prepared u) (small {q = u} j up_j o) s.sent refl
            (delivered choose f p j (site_at u j) prepare (runs_up _ (normal_runs _ x.status)) (another f j p (up_small p up_leads) (λ e. apart (sym e)))
            ∙ (ap (λ (m : ℕ). on_prepare {R = R} {O = O} f j (site_at u j) m
            (record { view = w; place = (site_at v p).done + 1; done = (site_at v p).done; row = found.0 })) (site_back p)
            ∙ prepares_again w p j (site_at v p).done found.0 (site_at u j) x.status x.view refl (let l = ap (length {A = RowOf C}) x.log_is in omega arith)))
            refl

        settled_t : (u : World C R O) → IsSaid choose f p j prepare v u → (t : World C R O) → IsTaken choose f j (prepared u) u t → Settled t
        settled_t u s t is =
            let o = settled_said v u p j prepare d s in
            let x = o.all j up_j in
            settled_on u t j (prepared u) up_j o is (record { status = x.status; view = x.view; boots = x.boots; log_is = x.log_is })

        ack : MsgOf C R O
        ack = PrepareOk (record { view = w; place = long })

        executed : World C R O → Step C R O
        executed t =
            (let y = with_ack j long (site_at t p) in let z = executed_to (choose.commit_place p y.collected.acks) y in
            answers z (places_between y.done z.done))

        acked_sent : (u : World C R O) (s : IsSaid choose f p j prepare v u) (t : World C R O) → IsTaken choose f j (prepared u) u t
            → Contains t.sent (mail j p ack)
        acked_sent u s t is =
            let x = (settled_said v u p j prepare d s).all j up_j in
            is.sent (mail j p ack) (subst (λ (m : ℕ). Contains (prepared u).sent (mail j (primary f m) (PrepareOk (record { view = m; place = long })))) x.view
            (subst (λ (m : ℕ). Contains (prepared u).sent (mail j (primary f (site_at u j).view) (PrepareOk (record { view = (site_at u j).view; place = m }))))
            (ap (length {A = RowOf C}) x.log_is)
            (Contains-here (mail j (primary f (site_at u j).view) (PrepareOk (record { view = (site_at u j).view; place = length (site_at u j).log }))) [])))

        ack_comes : (u : World C R O) (s : IsSaid choose f p j prepare v u) (t : World C R O) → IsTaken choose f j (prepared u) u t
            → Reaches choose f t (IsTaken choose f p (executed t) t)
        ack_comes u s t is =
            let o = settled_t u s t is in
            let x = o.all p up_leads in
            comes choose f t j p ack (executed t) (small {q = t} p up_leads o) (acked_sent u s t is) refl
            (delivered choose f j p (site_at t p) ack (runs_up _ (normal_runs _ x.status)) (another f p j (up_small j up_j) apart)
            ∙ (ap (λ (m : ℕ). on_prepare_ok {R = R} {O = O} choose f p (site_at t p) m (record { view = w; place = long })) (site_back j)
            ∙ acknowledged_at w j p long (site_at t p) x.status x.view refl)) refl

        lead_same : (u : World C R O) → IsSaid choose f p j prepare v u → (t : World C R O) → IsTaken choose f j (prepared u) u t → site_at t p ≡ site_at v p
        lead_same u s t is = is.there p (λ e. apart (sym e)) ∙ ap (λ (x : ℕ → Site C). x p) s.same

        done : (u : World C R O) (s : IsSaid choose f p j prepare v u) (t : World C R O) (is : IsTaken choose f j (prepared u) u t) (r : World C R O)
            → IsTaken choose f p (executed t) t r → Counts r × Acked j r × KeepsOn v r × IsTold r
        done u s t is r so = (
          record {
            settled = settled_on t r p (executed t) up_leads o so (record { status = x.status; view = x.view; boots = x.boots; log_is = x.log_is });
            due = due;
          },
          inr (subst (λ (y : Site C). has_acknowledged y.collected.acks long j ≡ true) (sym so.here) now),
          record { each = λ k h. keeps_by k h },
          told,
        )
          where
            o : Settled t
            o = settled_t u s t is

            x : Follows w (boots p) rows (site_at t p)
            x = o.all p up_leads

            acks : List Ack
            acks = (executed t).site.collected.acks

            length_is : length (site_at t p).log ≡ long
            length_is = ap (length {A = RowOf C}) x.log_is

            now : has_acknowledged (executed t).site.collected.acks long j ≡ true
            now =
                subst (λ (m : ℕ). has_acknowledged ((site_at t p).collected.acks ++ record { from = j; place = long; rows = m } ∷ []) long j ≡ true)
                (sym length_is) (acked_now (site_at t p).collected.acks long j)

            -- it answered each row that it executed now
            told : IsTold r
            told e =
                let d : (executed t).site.done ≡ long = sym (ap (λ (y : Site C). y.done) so.here) ∙ e in
                let n : (site_at t p).done ≡ (site_at v p).done = ap (λ (y : Site C). y.done) (lead_same u s t is) in
                let l = less in
                subst (λ (y : Site C). Contains r.replies (record { from = p; sender = y; place = long })) (sym so.here)
                (so.answered (record { from = p; sender = (executed t).site; place = long })
                (map_keeps (λ (place : ℕ). record { from = p; sender = (executed t).site; place = place })
                (places_between (site_at t p).done (executed t).site.done) long
                (in_range ((site_at t p).done + 1) ((executed t).site.done - (site_at t p).done) long (omega arith) (omega arith))))

            by_count : (b : Bool) → nat_le f (count_by (has_acknowledged (executed t).site.collected.acks long) (others f p)) ≡ b
                → ((executed t).site.done ≡ long) ⊎ (count_by (has_acknowledged (executed t).site.collected.acks long) (others f p) < f)
            by_count true e =
                let k = (right.commit_place p (executed t).site.collected.acks).largest long (le_of f _ e) in
                let h = within t o p up_leads in
                let l = length_is in
                inl (omega arith)
            by_count false e = inr (grind (arith, nat_tests, e))

            due : ((site_at r p).done ≡ long) ⊎ (count_by (has_acknowledged (site_at r p).collected.acks long) (others f p) < f)
            due = subst (λ (y : Site C). (y.done ≡ long) ⊎ (count_by (has_acknowledged y.collected.acks long) (others f p) < f)) (sym so.here)
                (by_count (nat_le f (count_by (has_acknowledged (executed t).site.collected.acks long) (others f p))) refl)

            keeps_by : (k : ℕ) → Acked k v → Acked k r
            keeps_by k (inl e) = absurd (let l = less in omega arith)
            keeps_by k (inr h) = inr (subst (λ (y : Site C). has_acknowledged y.collected.acks long k ≡ true) (sym so.here)
                (acked_more (site_at t p).collected.acks (record { from = j; place = long; rows = length (site_at t p).log }) long k
                (subst (λ (y : Site C). has_acknowledged y.collected.acks long k ≡ true) (sym (lead_same u s t is)) h)))

    -- where each running site has acknowledged it, all is executed
    pub acked_all : f < count_by up (sites f) → (u : World C R O) → ((j : ℕ) → up j ≡ true → j ≢ primary f w → Acked j u)
        → ((site_at u (primary f w)).done ≡ length rows)
        ⊎ (count_by (has_acknowledged (site_at u (primary f w)).collected.acks (length rows)) (others f (primary f w)) < f)
        → (site_at u (primary f w)).done ≡ length rows
    acked_all many u all (inl e) = e
    acked_all many u all (inr few) = by_done (cases_eq (site_at u p).done long)
      where
        acked_by : ((site_at u p).done ≡ long → ⊥) → (j : ℕ) → Acked j u → has_acknowledged (site_at u p).collected.acks long j ≡ true
        acked_by other j (inl e) = absurd (other e)
        acked_by other j (inr h) = h

        by_done : ((site_at u p).done ≡ long) ⊎ ((site_at u p).done ≡ long → ⊥) → (site_at u p).done ≡ long
        by_done (inl e) = e
        by_done (inr other) = absurd (
            let h = others_enough f p up (has_acknowledged (site_at u p).collected.acks long) many (λ j apart e. acked_by other j (all j e apart)) in
            omega arith)

    -- in the end the primary has executed all of it
    pub all_ack : f < count_by up (sites f) → (v : World C R O) → Counts v
        → Reaches choose f v (λ u. Settled u × ((site_at u (primary f w)).done ≡ length rows))
    all_ack many v c =
        reaches_then choose f v (λ u. Counts u × ((j : ℕ) → Contains (sites f) j → up j ≡ true → j ≢ p → Acked j u) × KeepsOn v u) _
        (sweep_on choose f Counts KeepsOn keeps_on_same keeps_on_more (λ j u. up j ≡ true → j ≢ p → Acked j u) (λ j a b r h e d. r.each j (h e d)) (sites f)
        (λ j u in' d. by_test j u d (up j) refl (cases_eq j p)) v c)
        (λ u is. record {
          after = u;
          goes = goes_nowhere choose f u;
          holds = (is.0.settled, acked_all many u (λ j e apart. is.1 j (has_site f j (up_small j e)) e apart) is.0.due);
        })
      where
        stays : (j : ℕ) (u : World C R O) → Counts u → (up j ≡ true → j ≢ p → Acked j u)
            → Reaches choose f u (λ t. Counts t × (up j ≡ true → j ≢ p → Acked j t) × KeepsOn u t)
        stays j u d h = record { after = u; goes = goes_nowhere choose f u; holds = (d, h, keeps_on_same u) }

        by_size : (j : ℕ) (u : World C R O) → Counts u → up j ≡ true → j ≢ p → ((site_at u p).done < long) ⊎ (long ≤ (site_at u p).done)
            → Reaches choose f u (λ t. Counts t × (up j ≡ true → j ≢ p → Acked j t) × KeepsOn u t)
        by_size j u d e apart (inl less) =
            reaches_then choose f u (λ t. Counts t × Acked j t × KeepsOn u t × IsTold t) _ (one_acks j e apart u d.settled less)
            (λ t is. record { after = t; goes = goes_nowhere choose f t; holds = (is.0, (λ _ _. is.1), is.2) })
        by_size j u d e apart (inr more) = stays j u d (λ _ _. inl (let h = within u d.settled p up_leads in omega arith))

        by_test : (j : ℕ) (u : World C R O) → Counts u → (b : Bool) → up j ≡ b → (j ≡ p) ⊎ (j ≡ p → ⊥)
            → Reaches choose f u (λ t. Counts t × (up j ≡ true → j ≢ p → Acked j t) × KeepsOn u t)
        by_test j u d false e place = stays j u d (λ e' _. absurd (true≢false (sym e' ∙ e)))
        by_test j u d true e (inl same) = stays j u d (λ _ apart. absurd (apart same))
        by_test j u d true e (inr apart) = by_size j u d e apart (cases_lt (site_at u p).done long)

    -- where none was acknowledged yet
    pub begins_acks : 1 ≤ f → (v : World C R O) → Settled v → (site_at v (primary f w)).collected.acks ≡ [] → Counts v
    begins_acks some v d none = record { settled = d; due = by_size (cases_lt 0 long) }
      where
        no_acks : 0 < long → (j : ℕ) → has_acknowledged [] long j ≡ false
        no_acks more j = by_test (long == 0) refl
          where
            by_test : (b : Bool) → (long == 0) ≡ b → (b || false) ≡ false
            by_test true e = absurd (let h : long ≡ 0 = eq_of long 0 e in let l = more in omega arith)
            by_test false e = refl

        by_size : (0 < long) ⊎ (long ≤ 0) → ((site_at v p).done ≡ long) ⊎ (count_by (has_acknowledged (site_at v p).collected.acks long) (others f p) < f)
        by_size (inl more) = inr (subst (λ (a : List Ack). count_by (has_acknowledged a long) (others f p) < f) (sym none)
            (let h = none_counted (has_acknowledged [] long) (others f p) (no_acks more) in let s = some in omega arith))
        by_size (inr less) = inl (let h = within v d p up_leads in omega arith)
