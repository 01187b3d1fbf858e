-- A request that is a row already is answered again.
use Rattle.std.proofs.Common.{◌≡◌, ◌⊎◌, inl, inr, ℕ, suc, ◌+◌, ◌-◌, ◌<◌, ◌≤◌, Bool, true, false, not, ◌&&◌, ◌==◌, nat_lt, cond, if◌then◌else◌, List, [], ◌∷◌, length, take, slice_get, Option, Some, None, refl, sym, ap, ◌∙◌, subst, arith}
use Rattle.std.specs.Prelude.{Contains}
use Rattle.std.specs.List.{filter, last_or, enumerate_from}
use Rattle.std.specs.Option.{option_map_or}
use Rattle.std.proofs.lemmas.Bool.Decides.{nat_tests}
use Rattle.std.proofs.lemmas.List.{take_all}
use Rattle.std.proofs.lemmas.List.Elements.{Contains-append_right}
use Rattle.std.proofs.lemmas.Option.{slice_get-get_or}
use Rattle.vr_types.specs.declared.event.EventOf.TheVariants.{Deliver}
use Rattle.vr_types.specs.declared.event.SiteFault.TheVariants.{NotUp, NotMine}
use Rattle.vr_types.specs.declared.message.EnvelopeOf.{EnvelopeOf}
use Rattle.vr_types.specs.declared.row.RowOf.{RowOf}
use Rattle.vr_types.specs.Choice.{Choice}
use Rattle.vr_types.specs.Group.{primary, actor_of, is_mine}
use Rattle.vr_types.specs.Rows.{newest, last_of}
use Rattle.vr_types.specs.Site.{Site, is_normal, is_running}
use Rattle.vr_types.specs.Step.{Step, answers}
use Rattle.vr_types.specs.Normal.{answers_again, on_request}
use Rattle.vr_types.specs.Handling.{refused_or, site_step, is_refused}
use Rattle.vr_types.proofs.ChoosingPick.{Contains-here}
use Rattle.agreement.specs.Worlds.{World, replied, step_of, IsRun}
use Rattle.agreement.proofs.Counts.{sites_more}
use Rattle.agreement.specs.Promises.{request_of}
use Rattle.agreement.specs.Progress.{runs_at, WorksIn, AreWorking, IsNewest, Repeats}
use Rattle.agreement.proofs.Reached.{nobody, site_at, has_number, IsReached, first}
use Rattle.agreement.proofs.Going.{taken, taken_same}
use Rattle.agreement.proofs.Facts.{both_are, runs_same, running_in}
use Rattle.agreement.proofs.Tests.{eq_of, eq_test, normal_runs, runs_up, some-same}
use Rattle.agreement.proofs.Waiting.{if_yes, if_no}

-- a client's last row stands at its place
pub record IsLast {C : Type 0} (client k : ℕ) (rows : List (RowOf C)) (p : ℕ × RowOf C) : Type 0 where
  pub low : k ≤ p.0
  pub at : slice_get rows (p.0 - k) ≡ Some p.1
  pub of : p.1.client ≡ client

last_is : {C : Type 0} (client : ℕ) (known : Option (ℕ × RowOf C)) (k : ℕ) (rows : List (RowOf C)) (p : ℕ × RowOf C)
    → last_or known (filter (λ placed. placed.1.client == client) (enumerate_from k rows)) ≡ Some p → (known ≡ Some p) ⊎ IsLast client k rows p
last_is client known k [] p e = inl e
last_is {C} client known k (row ∷ rows) p e = by_test (row.client == client) refl e (λ other h. last_is client other (k + 1) rows p h)
  where
    later : IsLast client (k + 1) rows p → IsLast client k (row ∷ rows) p
    later l = record {
      low = let a = l.low in omega arith;
      at = let a = l.low in ap (λ (n : ℕ). slice_get (row ∷ rows) n) (let d : p.0 - k ≡ suc (p.0 - (k + 1)) = omega arith in d) ∙ l.at;
      of = l.of;
    }

    this : row.client ≡ client → (k, row) ≡ p → IsLast client k (row ∷ rows) p
    this same is = subst (λ (q : ℕ × RowOf C). IsLast client k (row ∷ rows) q) is (record {
      low = omega arith;
      at = ap (λ (n : ℕ). slice_get (row ∷ rows) n) (let d : k - k ≡ 0 = omega arith in d);
      of = same;
    })

    from_row : row.client ≡ client → (Some (k, row) ≡ Some p) ⊎ IsLast client (k + 1) rows p → (known ≡ Some p) ⊎ IsLast client k (row ∷ rows) p
    from_row same (inl h) = inr (this same (some-same (k, row) p h))
    from_row same (inr l) = inr (later l)

    from_known : (known ≡ Some p) ⊎ IsLast client (k + 1) rows p → (known ≡ Some p) ⊎ IsLast client k (row ∷ rows) p
    from_known (inl h) = inl h
    from_known (inr l) = inr (later l)

    by_test : (b : Bool) → (row.client == client) ≡ b
        → last_or known (cond b ((k, row) ∷ filter (λ placed. placed.1.client == client) (enumerate_from (k + 1) rows))
        (filter (λ placed. placed.1.client == client) (enumerate_from (k + 1) rows))) ≡ Some p
        → ((other : Option (ℕ × RowOf C)) → last_or other (filter (λ placed. placed.1.client == client) (enumerate_from (k + 1) rows)) ≡ Some p
        → (other ≡ Some p) ⊎ IsLast client (k + 1) rows p)
        → (known ≡ Some p) ⊎ IsLast client k (row ∷ rows) p
    by_test true is h rest = from_row (eq_of row.client client is) (rest (Some (k, row)) h)
    by_test false is h rest = from_known (rest known h)

-- a client of a newest number above 0 has a last row, of that number
pub record HasLast {C : Type 0} (log : List (RowOf C)) (client number : ℕ) : Type 0 where
  pub last : ℕ × RowOf C
  pub is : last_of log client ≡ Some last
  pub number_is : last.1.number ≡ number
  pub there : IsLast client 1 log last

pub has_last : {C : Type 0} (log : List (RowOf C)) (client number : ℕ) → 0 < number → newest log client ≡ number → HasLast log client number
has_last {C} log client number some same = by (last_of log client) refl same
  where
    at : (p : ℕ × RowOf C) → (None ≡ Some p) ⊎ IsLast client 1 log p → IsLast client 1 log p
    at p (inl h) = absurd (let h' : None ≡ Some p = h in cc)
    at p (inr l) = l

    by : (found : Option (ℕ × RowOf C)) → last_of log client ≡ found → option_map_or (λ (placed : ℕ × RowOf C). placed.1.number) found 0 ≡ number
        → HasLast log client number
    by None e h = absurd (omega arith)
    by (Some p) e h = record { last = p; is = e; number_is = h; there = at p (last_is client None 1 log p e) }

not_less : (a b : ℕ) → a ≡ b → nat_lt a b ≡ false
not_less a b e = grind (arith, nat_tests, e)

module _ {C R O : Type 0} (choose : Choice C) (f w : ℕ) (v : World C R O) (reached : IsReached f first v) (rows : List (RowOf C)) (row : RowOf C)
    (new : IsNewest rows row) (small : primary f w < length v.sites)
    (works : WorksIn w rows (site_at v (primary f w))) (are : AreWorking f w rows v.sites) where
  abbrev p : ℕ
  p = primary f w

  has : HasLast rows row.client row.number
  has = has_last rows row.client row.number new.some new.same

  answered : Step C R O
  answered = answers (site_at v (primary f w)) (has.last.0 ∷ [])

  request_is : site_step {R = R} {O = O} choose f p (site_at v p) (Deliver (request_of (actor_of (primary f w)) row)) ≡ answered
  unfolding on_request answered
  request_is =
      ap (refused_on (not (is_mine f p mail_of))) (runs_up _ (normal_runs _ works.status))
      ∙ (ap (λ (b : Bool). refused_on b false) (ap not (both_are (actor_of p == actor_of p) _ (eq_test (actor_of p) (actor_of p) refl) new.client))
      ∙ (if_no (not (is_normal (site_at v p).status)) _ _ (ap (λ st. not (is_normal st)) works.status)
      ∙ (if_no (not (primary f (site_at v p).view == p)) _ _ (ap not (eq_test _ _ (ap (primary f) works.view_is)))
      ∙ (if_no (nat_lt (newest (site_at v p).log row.client) row.number) _ _ (not_less _ _ newest_is)
      ∙ (ap (answers_again (site_at v p) row.number (newest (site_at v p).log row.client)) last_is_it
      ∙ if_yes ((row.number == newest (site_at v p).log row.client) && (has.last.1.number == row.number)) _ _
      (both_are _ _ (eq_test _ _ (sym newest_is)) (eq_test _ _ has.number_is)))))))
    where
      mail_of : EnvelopeOf C R O
      mail_of = request_of (actor_of (primary f w)) row

      refused_on : Bool → Bool → Step C R O
      refused_on other down = refused_or (site_at v p) (if down then Some NotUp else if other then Some NotMine else None) (on_request f p (site_at v p) row)

      newest_is : newest (site_at v p).log row.client ≡ row.number
      newest_is = ap (λ (l : List (RowOf C)). newest l row.client) works.log_is ∙ new.same

      last_is_it : last_of (take (site_at v p).done (site_at v p).log) row.client ≡ Some has.last
      last_is_it =
          ap (λ (l : List (RowOf C)). last_of l row.client)
          (take_all (site_at v p).done (site_at v p).log (let a = ap (length {A = RowOf C}) works.log_is in let b = works.done in omega arith) ∙ works.log_is)
          ∙ has.is

  asked : World C R O
  asked = taken choose f v p (Deliver (request_of (actor_of (primary f w)) row))

  asks : IsRun choose f v (step_of (primary f w) (Deliver (request_of (actor_of (primary f w)) row)) ∷ []) asked
  unfolding asked answered
  asks = (
    asked,
    record {
      before = site_at v p;
      is_there = slice_get-get_or v.sites p nobody small;
      may_happen = inl refl;
      ends = (ap (λ (s : Step C R O). is_refused s.ending) request_is, refl);
    },
    refl,
  )

  same : site_at asked ≡ site_at v
  unfolding asked answered
  same = taken_same choose f v p (Deliver (request_of (actor_of (primary f w)) row)) small (ap (λ (s : Step C R O). s.site) request_is)

  said : Contains asked.replies (record { from = primary f w; sender = site_at v (primary f w); place = has.last.0 })
  unfolding asked answered
  said =
      Contains-append_right v.replies _ _ (subst (λ (s : Step C R O). Contains (replied p s) (record { from = p; sender = site_at v p; place = has.last.0 }))
      (sym request_is) (Contains-here (record { from = p; sender = site_at v p; place = has.last.0 }) []))

  working : AreWorking f w rows asked.sites
  working = record {
    many = let a = are.many in let b = sites_more f (runs_at v.sites) (runs_at asked.sites) (λ j e. runs j e) in omega arith;
    leads = runs (primary f w) are.leads;
    each = λ x in' run. (
        let i = has_number f asked x in' in
        subst (λ (y : Site C). WorksIn w rows y) i.1
        (subst (λ (s : ℕ → Site C). WorksIn w rows (s i.0)) (sym same)
        (in_v i.0 (ap (λ (s : ℕ → Site C). is_running (s i.0).status) (sym same) ∙ (ap (λ (y : Site C). is_running y.status) i.1 ∙ run)))));
  }
    where
      runs : (j : ℕ) → runs_at v.sites j ≡ true → runs_at asked.sites j ≡ true
      runs j e = runs_same asked j ∙ (ap (λ (s : ℕ → Site C). is_running (s j).status) same ∙ (sym (runs_same v j) ∙ e))

      in_v : (i : ℕ) → is_running (site_at v i).status ≡ true → WorksIn w rows (site_at v i)
      in_v i run = are.each (site_at v i) (running_in v.sites i run) run

  pub repeats : Repeats choose f v w rows row
  repeats = record {
    asked = asked;
    asks = asks;
    place = has.last.0;
    counted = has.there.low;
    old = has.last.1;
    is_there = has.there.at;
    client = has.there.of;
    number = has.number_is;
    sender = site_at v (primary f w);
    answered = said;
    log_is = works.log_is;
    working = working;
    runs = λ i e. runs_same asked i ∙ (ap (λ (s : ℕ → Site C). is_running (s i).status) same ∙ (sym (runs_same v i) ∙ e));
  }
