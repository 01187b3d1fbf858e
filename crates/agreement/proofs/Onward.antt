-- THE WHOLE: from f+1 running sites to a world in which all work in one view with one log.
use Rattle.std.proofs.Common.{◌≡◌, ◌⊎◌, inl, inr, ℕ, zero, suc, ◌+◌, ◌-◌, ◌*◌, ◌/◌, ◌%◌, ◌<◌, ◌≤◌, Bool, true, false, max, List, [], ◌∷◌, length, get_or, slice_get, Option, Some, None, count_by, refl, sym, ap, ◌∙◌, subst, arith, true≢false}
use Rattle.std.specs.Prelude.{Contains, IsSomeAnd}
use Rattle.std.specs.Option.{option_map_or}
use Rattle.std.proofs.lemmas.Bool.{cases_lt}
use Rattle.std.proofs.lemmas.Bool.Decides.{nat_tests}
use Rattle.std.proofs.lemmas.List.{get_or_past}
use Rattle.std.proofs.lemmas.Nat.{div-add-mod', mod-mul-add}
use Rattle.std.proofs.Math.Nat.{mod-lt}
use Rattle.std.proofs.lemmas.Option.{get_or_from_slice_get, slice_get_within}
use Rattle.vr_types.specs.declared.cell.Boot.{Boot}
use Rattle.vr_types.specs.declared.event.Status.TheVariants.{Recovering, Down}
use Rattle.vr_types.specs.declared.row.RowOf.{RowOf}
use Rattle.vr_types.specs.Cell.{max_number}
use Rattle.vr_types.specs.Choice.{Choice, IsRight}
use Rattle.vr_types.specs.Group.{sites, others, primary}
use Rattle.vr_types.specs.Site.{Site, Response, has_start, is_running, executed_rows}
use Rattle.vr_types.proofs.ChoosingPick.{Contains-cases, Contains-none, Contains-here, Contains-there}
use Rattle.agreement.specs.Worlds.{World, Happening, IsRun, IsLegal, LegalList}
use Rattle.agreement.specs.Promises.{Begins}
use Rattle.agreement.specs.Progress.{GoesTo, runs_at, CanGoOn, WorksIn, AreWorking, IsNew, Serves, IsNewest, Repeats, Progresses}
use Rattle.agreement.proofs.Quorums.{Both, quorums_meet}
use Rattle.agreement.proofs.Moves.{grown-trans}
use Rattle.agreement.proofs.CommittedRows.{Committed}
use Rattle.agreement.proofs.Agreeing.{committed_lasts}
use Rattle.agreement.proofs.Laws as laws
use Rattle.agreement.proofs.Reached.{nobody, site_at, IsReached, first, legal_holds, run_holds, has_number}
use Rattle.agreement.proofs.Going.{Reaches, reaches_then, goes_reached, goes_nowhere}
use Rattle.agreement.proofs.Counts.{sites_more, none_counted}
use Rattle.agreement.proofs.Raises as raises
use Rattle.agreement.proofs.Raises.{raised}
use Rattle.agreement.proofs.Lengths.{AllLong, run_long, legal_long}
use Rattle.agreement.proofs.Facts.{size_is, runs_same, running_in, running_small}
use Rattle.agreement.proofs.Waiting.{Waits, is_due}
use Rattle.agreement.proofs.Starts as starts
use Rattle.agreement.proofs.Ballots as ballots
use Rattle.agreement.proofs.Follows as follows
use Rattle.agreement.proofs.Regained.{responses_below, committed_below}
use Rattle.agreement.proofs.Acks as acks
use Rattle.agreement.proofs.Commits as commits
use Rattle.agreement.proofs.Heals as heals
use Rattle.agreement.proofs.Serving as serving
use Rattle.agreement.proofs.Repeating as repeating

-- THE VIEW: the next one whose primary is this site

pub record NextView (n p a : ℕ) : Type 0 where
  pub more : ℕ
  pub few : more < n
  pub is : (a + more) % n ≡ p

pub next_view : (n p a : ℕ) → p < n → NextView n p a
next_view n p a small = by_order (cases_lt p (a % n))
  where
    whole : a / n * n + a % n ≡ a
    whole = div-add-mod' a n

    rest : a % n < n
    rest = mod-lt a (let s = small in omega arith)

    by_order : (p < a % n) ⊎ (a % n ≤ p) → NextView n p a
    by_order (inl less) =
        let e = whole in
        let r : a % n < n = rest in
        let d : a + (n + p - a % n) ≡ (a / n + 1) * n + p = omega arith in
        record { more = n + p - a % n; few = omega arith; is = ap (λ (m : ℕ). m % n) d ∙ mod-mul-add (a / n + 1) n p small }
    by_order (inr more) =
        let e = whole in
        let d : a + (p - a % n) ≡ a / n * n + p = omega arith in
        record { more = p - a % n; few = omega arith; is = ap (λ (m : ℕ). m % n) d ∙ mod-mul-add (a / n) n p small }

-- the greatest view of these sites
pub top_view : {C : Type 0} → List (Site C) → ℕ
top_view [] = 0
top_view (x ∷ xs) = max x.view (top_view xs)

top_most : {C : Type 0} (xs : List (Site C)) (x : Site C) → Contains xs x → x.view ≤ top_view xs
unfolding top_view
top_most [] x in' = absurd (Contains-none x in')
top_most {C} (y ∷ xs) x in' = by_place (Contains-cases y x xs in') (top_most xs x)
  where
    by_place : (y ≡ x) ⊎ Contains xs x → (Contains xs x → x.view ≤ top_view xs) → x.view ≤ max y.view (top_view xs)
    by_place (inl e) rest = let d = ap (λ (z : Site C). z.view) e in omega arith
    by_place (inr there) rest = let h = rest there in omega arith

top_least : {C : Type 0} (xs : List (Site C)) (top : ℕ) → ((x : Site C) → Contains xs x → x.view ≤ top) → top_view xs ≤ top
unfolding top_view
top_least [] top each = omega arith
top_least (x ∷ xs) top each = let a = each x (Contains-here x xs) in let b = top_least xs top (λ y in'. each y (Contains-there x y xs in')) in omega arith

in_list : {A : Type 0} (xs : List A) (i : ℕ) (d : A) → i < length xs → Contains xs (get_or xs i d)
in_list [] i d low = absurd (omega arith)
in_list (x ∷ xs) zero d low = Contains-here x xs
in_list (x ∷ xs) (suc i) d low = Contains-there x _ xs (in_list xs i d (omega arith))

module _ {C R O : Type 0} (choose : Choice C) (f : ℕ) (right : IsRight f choose) (some : 1 ≤ f) (cells : List Boot)
    (before : List (Happening C R O)) (world : World C R O)
    (legal : IsLegal choose f cells before world) (can : CanGoOn f world.sites) where
  pub reached : IsReached f first world
  reached = legal_holds f choose right cells before world legal

  pub size : length world.sites ≡ 2 * f + 1
  size = size_is f world reached

  -- the sites that run
  abbrev pub up : ℕ → Bool
  up i = is_running (site_at world i).status

  runs_is : (i : ℕ) → runs_at world.sites i ≡ true → up i ≡ true
  runs_is i e = by_found (slice_get world.sites i) refl e
    where
      by_found : (found : Option (Site C)) → slice_get world.sites i ≡ found → option_map_or (λ (x : Site C). is_running x.status) found false ≡ true
          → up i ≡ true
      by_found None d h = absurd (true≢false (sym h))
      by_found (Some x) d h = ap (λ (y : Site C). is_running y.status) (get_or_from_slice_get world.sites i x nobody d) ∙ h

  pub many : f < count_by up (sites f)
  many = let a = can.many in let b = sites_more f (runs_at world.sites) up runs_is in omega arith

  pub up_small : (j : ℕ) → up j ≡ true → j < 2 * f + 1
  up_small j e = by_size (cases_lt j (2 * f + 1))
    where
      by_size : (j < 2 * f + 1) ⊎ (2 * f + 1 ≤ j) → j < 2 * f + 1
      by_size (inl low) = low
      by_size (inr high) =
          absurd (true≢false (sym e ∙ ap (λ (x : Site C). is_running x.status) (get_or_past world.sites j nobody (let s = size in omega arith))))

  -- one of them
  one : Both up up
  one = quorums_meet f up up many many

  top : ℕ
  top = top_view world.sites

  next : NextView (2 * f + 1) one.site (top + 1)
  next = next_view (2 * f + 1) one.site (top + 1) (up_small one.site one.first)

  -- the view in which all will work
  pub w : ℕ
  w = (top + 1) + next.more

  leads : primary f w ≡ one.site
  unfolding w
  leads = next.is

  pub up_leads : up (primary f w) ≡ true
  up_leads = ap up leads ∙ one.first

  top_low : top + 2 * (2 * f + 1) ≤ max_number
  unfolding top
  top_low =
      let small = up_small one.site one.first in
      let l = size in
      let here = can.room (site_at world one.site) (in_list world.sites one.site nobody (omega arith)) in
      let least = top_least world.sites (max_number - 2 * (2 * f + 1)) (λ x in'. (let r = can.room x in' in omega arith)) in
      omega arith

  most : w ≤ max_number
  unfolding w
  most = let a = top_low in let b = next.few in omega arith

  above : (j : ℕ) → j < length world.sites → (site_at world j).view < w
  unfolding w top
  above j small = let a = top_most world.sites (site_at world j) (in_list world.sites j nobody small) in omega arith

  -- FIRST each running site is in change to that view

  gather : (v : World C R O) → GoesTo choose f world v → raises.AllRaised choose f w world v → starts.Gathers choose f right some w up up_small world v
  gather v goes r = record {
    is = goes_reached choose f right world v reached goes;
    long = run_long choose f world v goes.events (legal_long choose f cells before world legal) goes.run;
    waits =
        λ j e. subst (λ (x : Site C). Waits f w j (site_at world j).cell.boots x) (sym (r.running j (let a = up_small j e in let b = size in omega arith) e))
        (record {
          changes =
              record {
                status = refl;
                view = refl;
                boots = refl;
                own = λ vote in'. absurd (Contains-none vote in');
                logs = λ vote in'. absurd (Contains-none vote in');
                made = λ voted _. absurd (true≢false (sym voted));
              };
          due = λ due. absurd (true≢false (sym due ∙ not_due j));
        });
    logs = λ j e. ap (λ (x : Site C). x.log) (r.running j (let a = up_small j e in let b = size in omega arith) e);
    rest = λ j e. r.resting j e;
  }
    where
      not_due : (j : ℕ) → is_due f j (raised w (site_at world j)) ≡ false
      not_due j = let h = none_counted (has_start []) (others f j) (λ k. refl) in grind (arith, nat_tests, h, some)

  gathered : Reaches choose f world (λ v. starts.Gathers choose f right some w up up_small world v)
  gathered =
      let a = raises.all_raised choose f w world most above size in
      record { after = a.after; goes = a.goes; holds = gather a.after a.goes a.holds }

  -- THEN each has voted, and the primary opens the view, and the others follow it
  abbrev Settled : List (RowOf C) → World C R O → Type 0
  Settled rows v = acks.Settled choose f right w up up_small up_leads (λ j. (site_at world j).cell.boots) rows world v

  -- some rows are the log with which it opens
  pub record IsSettled (v : World C R O) : Type 0 where
    pub rows : List (RowOf C)
    pub source : (i : ℕ) × (up i ≡ true) × (rows ≡ (site_at world i).log)
    pub settled : acks.Settled choose f right w up up_small up_leads (λ j. (site_at world j).cell.boots) rows world v
    pub acks_none : (site_at v (primary f w)).collected.acks ≡ []

  settle : (mid : World C R O) (g : starts.Gathers choose f right some w up up_small world mid)
      (voted : (j : ℕ) → up j ≡ true → (site_at mid j).collected.voted ≡ true) → Reaches choose f mid IsSettled
  settle mid g voted =
      reaches_then choose f mid (λ u. ballots.Collects choose f right some w up up_small world mid up_leads g voted u
      × ballots.IsOpen choose f right some w up up_small world mid up_leads g voted u) IsSettled
      (ballots.opens choose f right some w up up_small world mid up_leads g voted many mid
      (ballots.begins_counting choose f right some w up up_small world mid up_leads g voted g.is)) (λ begun open'.
      reaches_then choose f begun (λ u. follows.Opened choose f w right some up up_small world mid begun up_leads g voted open'.0 open'.1 u
      × ((j : ℕ) → up j ≡ true → follows.Follows w ((site_at world j).cell.boots) ((site_at begun (primary f w)).log) (site_at u j))) IsSettled
      (follows.all_follow choose f w right some up up_small world mid begun up_leads g voted open'.0 open'.1 begun
      (follows.opened_first choose f w right some up up_small world mid begun up_leads g voted open'.0 open'.1)) (λ u is.
      record {
        after = u;
        goes = goes_nowhere choose f u;
        holds = record {
          rows = (site_at begun (primary f w)).log;
          source = (open'.1.picked.0.from, open'.1.picked.1.0, open'.1.picked.2 ∙ open'.1.picked.1.1);
          settled = record { is = is.0.is; full = is.0.long; all = is.1; rest = is.0.rest };
          acks_none = ap (λ (x : Site C). x.collected.acks) is.0.leads ∙ open'.1.acks;
        };
      }))

  settled : Reaches choose f world IsSettled
  settled =
      reaches_then choose f world (λ v. starts.Gathers choose f right some w up up_small world v) IsSettled gathered (λ v g.
      reaches_then choose f v (λ u. starts.Gathers choose f right some w up up_small world u × ((j : ℕ) → up j ≡ true → (site_at u j).collected.voted ≡ true))
      IsSettled
      (starts.all_voted choose f right some w up up_small world many v g) (λ mid h. settle mid h.0 h.1))

  -- THEN all is executed, and the others recover

  -- all work in this view with these rows
  pub record IsWhole (v : World C R O) : Type 0 where
    pub rows : List (RowOf C)
    pub source : (i : ℕ) × (up i ≡ true) × (rows ≡ (site_at world i).log)
    pub running : (j : ℕ) → up j ≡ true → WorksIn w rows (site_at v j)
    pub resting : (j : ℕ) → j < 2 * f + 1 → up j ≡ false → ((site_at world j).status ≡ Down → (site_at world j).cell.boots < max_number)
        → WorksIn w rows (site_at v j)
    pub each : (k : ℕ) → is_running (site_at v k).status ≡ true → WorksIn w rows (site_at v k)
    pub is : IsReached f first v
    pub full : AllLong f v

  finish : (v : World C R O) → IsSettled v → Reaches choose f v IsWhole
  finish v d =
      reaches_then choose f v (λ u. Settled d.rows u × ((site_at u (primary f w)).done ≡ length d.rows)) IsWhole
      (acks.all_ack choose f right w up up_small up_leads (λ j. (site_at world j).cell.boots) d.rows world many v
      (acks.begins_acks choose f right w up up_small up_leads (λ j. (site_at world j).cell.boots) d.rows world some v d.settled d.acks_none)) (λ u led.
      reaches_then choose f u (commits.Works choose f right w up up_small up_leads (λ j. (site_at world j).cell.boots) d.rows world) IsWhole
      (commits.all_commit choose f right w up up_small up_leads (λ j. (site_at world j).cell.boots) d.rows world u (record { settled = led.0; done = led.1 }))
      (λ t works.
      reaches_then choose f t (λ r. heals.Healing choose f right w up up_small up_leads (λ j. (site_at world j).cell.boots) d.rows many world (λ k e. e) below r
      × ((j : ℕ) → j < 2 * f + 1 → up j ≡ false → ((site_at world j).status ≡ Down → (site_at world j).cell.boots < max_number)
      → WorksIn w d.rows (site_at r j))) IsWhole
      (heals.all_heal choose f right w up up_small up_leads (λ j. (site_at world j).cell.boots) d.rows many world (λ k e. e) below t
      (record {
        works = record { is = works.settled.is; full = works.settled.full; all = works.settled.all; done = works.done };
        rest = λ k e. inl (works.settled.rest k e);
      })) (λ r is.
      record {
        after = r;
        goes = goes_nowhere choose f r;
        holds = record {
          rows = d.rows;
          source = d.source;
          running = λ j e. (let x = is.0.works.all j e in record { status = x.status; view_is = x.view; log_is = x.log_is; done = is.0.works.done j e });
          resting = is.1;
          each = λ k e. each_by r d.rows is.0 k e (up k) refl;
          is = is.0.works.is;
          full = is.0.works.full;
        };
      })))
    where
      below : (k : ℕ) → up k ≡ false → (site_at world k).status ≡ Recovering → (a : Response C) → Contains (site_at world k).collected.responses a → a.view < w
      below k rests recovering a in' =
          responses_below f w world reached up many (λ j e. e) (λ j e. above j (let s = up_small j e in let l = size in omega arith)) k recovering a in'

      each_by : (r : World C R O) (rows : List (RowOf C))
          → heals.Healing choose f right w up up_small up_leads (λ j. (site_at world j).cell.boots) rows many world (λ k e. e) below r
          → (k : ℕ) → is_running (site_at r k).status ≡ true → (b : Bool) → up k ≡ b → WorksIn w rows (site_at r k)
      each_by r rows h k run true e = let x = h.works.all k e in record { status = x.status; view_is = x.view; log_is = x.log_is; done = h.works.done k e }
      each_by r rows h k run false e = by_rest (h.rest k e)
        where
          by_rest : (site_at r k ≡ site_at world k) ⊎ WorksIn w rows (site_at r k) → WorksIn w rows (site_at r k)
          by_rest (inl same) = absurd (true≢false (sym run ∙ (ap (λ (x : Site C). is_running x.status) same ∙ e)))
          by_rest (inr works) = works

  pub whole : Reaches choose f world IsWhole
  whole = reaches_then choose f world IsSettled IsWhole settled finish

  -- and so each that can work does
  pub each_works : (v : World C R O) (is : IsWhole v) (i : ℕ) (x y : Site C) → slice_get world.sites i ≡ Some x → slice_get v.sites i ≡ Some y
      → (x.status ≡ Down → x.cell.boots < max_number) → WorksIn w is.rows y
  each_works v is i x y there here left =
      let a = get_or_from_slice_get world.sites i x nobody there in
      let b = get_or_from_slice_get v.sites i y nobody here in
      let s = slice_get_within world.sites i x there in
      subst (λ (z : Site C). WorksIn w is.rows z) b (by_test i (let l = size in
      omega arith) (subst (λ (z : Site C). z.status ≡ Down → z.cell.boots < max_number) (sym a) left) (up i) refl)
    where
      by_test : (i : ℕ) → i < 2 * f + 1 → ((site_at world i).status ≡ Down → (site_at world i).cell.boots < max_number) → (b : Bool) → up i ≡ b
          → WorksIn w is.rows (site_at v i)
      by_test i small left true e = is.running i e
      by_test i small left false e = is.resting i small e left

  pub each_runs : (v : World C R O) (is : IsWhole v) (i : ℕ) (x : Site C) → slice_get world.sites i ≡ Some x → (x.status ≡ Down → x.cell.boots < max_number)
      → runs_at v.sites i ≡ true
  each_runs v is i x there left =
      let a = get_or_from_slice_get world.sites i x nobody there in
      let s = slice_get_within world.sites i x there in
      runs_same v i ∙ ap is_running (by_test (let l = size in
      omega arith) (subst (λ (z : Site C). z.status ≡ Down → z.cell.boots < max_number) (sym a) left) (up i) refl).status
    where
      by_test : i < 2 * f + 1 → ((site_at world i).status ≡ Down → (site_at world i).cell.boots < max_number) → (b : Bool) → up i ≡ b
          → WorksIn w is.rows (site_at v i)
      by_test small left true e = is.running i e
      by_test small left false e = is.resting i small e left

  near : (bound : ℕ) → ((x : Site C) → Contains world.sites x → x.view ≤ bound) → w ≤ bound + (2 * f + 1)
  unfolding w top
  near bound each = let a = top_least world.sites bound each in let b = next.few in omega arith

  -- all that run then work
  pub working : (v : World C R O) (is : IsWhole v) → AreWorking f w is.rows v.sites
  working v is = record {
    many = let a = many in let b = sites_more f up (runs_at v.sites) (λ j e. runs j e) in omega arith;
    leads = runs (primary f w) up_leads;
    each = λ x in' run. (
        let i = has_number f v x in' in
        subst (λ (y : Site C). WorksIn w is.rows y) i.1 (is.each i.0 (ap (λ (y : Site C). is_running y.status) i.1 ∙ run)));
  }
    where
      runs : (j : ℕ) → up j ≡ true → runs_at v.sites j ≡ true
      runs j e = runs_same v j ∙ ap is_running (is.running j e).status

  -- what any site had executed at any moment is chosen below the view, so it begins the log there
  pub kept : (v : World C R O) → GoesTo choose f world v → (is : IsWhole v) → (early more : List (Happening C R O)) (then : World C R O)
      → IsLegal choose f cells early then → IsRun choose f then more world
      → (x : Site C) → Contains then.sites x → Begins (executed_rows x) is.rows
  kept v goes is early more then was rest x in' =
      let a : IsReached f first then = laws.a choose f right cells early more then world was rest in
      let b : IsReached f a.history world = laws.b choose f right cells early more then world was rest in
      let now : IsReached f first world = record { history = b.history; holds = b.holds; grown = grown-trans f first a.history b.history a.grown b.grown } in
      let executed : (top : ℕ) × Committed f b.history top (executed_rows x) = laws.early_committed choose f right cells early more then world was rest x in' in
      let chosen : (low : ℕ) × (low < w) × Committed f b.history low (executed_rows x) =
      committed_below f w world now up many (λ j e. e) (λ j e. above j (let s = up_small j e in let l = size in omega arith)) executed.0
      (executed_rows x) executed.1 in
      let end : IsReached f b.history v = run_holds f choose right b.history world v goes.events b.holds goes.run in
      let leader = is.running (primary f w) up_leads in
      subst (λ (log : List (RowOf C)). Begins (executed_rows x) log) leader.log_is
      (committed_lasts f end.history (site_at v) end.holds.holds chosen.0 (executed_rows x) (primary f w)
      (end.grown.commits chosen.0 (executed_rows x) chosen.2) leader.status (let e = leader.view_is in let l = chosen.1 in omega arith))

  pub near_after : (bound : ℕ) → ((x : Site C) → Contains world.sites x → x.view ≤ bound) → w ≤ bound + (2 * f + 1)
  near_after = near

-- a site that runs, and of which this is so, is there and it is so
works_there : {C : Type 0} (all : List (Site C)) (i : ℕ) (P : Site C → Type 0) → runs_at all i ≡ true → ((y : Site C) → slice_get all i ≡ Some y → P y)
    → IsSomeAnd (slice_get all i) P
works_there {C} all i P runs so = by (slice_get all i) runs so
  where
    by : (o : Option (Site C)) → option_map_or (λ (x : Site C). is_running x.status) o false ≡ true → ((y : Site C) → o ≡ Some y → P y) → IsSomeAnd o P
    by None runs so = absurd (true≢false (sym runs))
    by (Some y) runs so = so y refl

-- PROGRESS of a legal list
pub progresses : {C R O : Type 0} (f : ℕ) → 1 ≤ f → (list : LegalList C R O f) → CanGoOn f list.world.sites → Progresses list
progresses f some list can = record {
  after = (whole list.choose f list.right some list.cells list.events list.world list.legal can).after;
  goes = (whole list.choose f list.right some list.cells list.events list.world list.legal can).goes;
  view = w list.choose f list.right some list.cells list.events list.world list.legal can;
  log = (whole list.choose f list.right some list.cells list.events list.world list.legal can).holds.rows;
  work = record {
    working = working list.choose f list.right some list.cells list.events list.world list.legal can
        (whole list.choose f list.right some list.cells list.events list.world list.legal can).after
        (whole list.choose f list.right some list.cells list.events list.world list.legal can).holds;
    each =
        λ i x there left. works_there (whole list.choose f list.right some list.cells list.events list.world list.legal can).after.sites i
        (WorksIn (w list.choose f list.right some list.cells list.events list.world list.legal can)
        (whole list.choose f list.right some list.cells list.events list.world list.legal can).holds.rows)
        (each_runs list.choose f list.right some list.cells list.events list.world list.legal can
        (whole list.choose f list.right some list.cells list.events list.world list.legal can).after
        (whole list.choose f list.right some list.cells list.events list.world list.legal can).holds i x there left)
        (λ y here. each_works list.choose f list.right some list.cells list.events list.world list.legal can
        (whole list.choose f list.right some list.cells list.events list.world list.legal can).after
        (whole list.choose f list.right some list.cells list.events list.world list.legal can).holds i x y there here left);
    near = near_after list.choose f list.right some list.cells list.events list.world list.legal can;
  };
  had = (
    site_at list.world (whole list.choose f list.right some list.cells list.events list.world list.legal can).holds.source.0,
    running_in list.world.sites (whole list.choose f list.right some list.cells list.events list.world list.legal can).holds.source.0
        (whole list.choose f list.right some list.cells list.events list.world list.legal can).holds.source.1,
    sym (whole list.choose f list.right some list.cells list.events list.world list.legal can).holds.source.2,
  );
  kept = λ moment x in'. kept list.choose f list.right some list.cells list.events list.world list.legal can
      (whole list.choose f list.right some list.cells list.events list.world list.legal can).after
      (whole list.choose f list.right some list.cells list.events list.world list.legal can).goes
      (whole list.choose f list.right some list.cells list.events list.world list.legal can).holds
      moment.before moment.after moment.then moment.legal moment.rest x in';
}

-- SERVING, in a world in which all that run work
pub served : {C R O : Type 0} (f : ℕ) → 1 ≤ f → (list : LegalList C R O f) (view : ℕ) (log : List (RowOf C)) (row : RowOf C)
    → AreWorking f view log list.world.sites → IsNew log row → Serves list.choose f list.world view log row
served {C} {R} {O} f some list view log row are new =
    serving.serves list.choose f list.right some view (λ j. is_running (site_at list.world j).status) up_small
    (sym (runs_same list.world (primary f view)) ∙ are.leads) up_many list.world reached
    (legal_long list.choose f list.cells list.events list.world list.legal) log works
    row new.client new.above new.room (λ j. refl)
  where
    reached : IsReached f first list.world
    reached = legal_holds f list.choose list.right list.cells list.events list.world list.legal

    up_small : (j : ℕ) → is_running (site_at list.world j).status ≡ true → j < 2 * f + 1
    up_small j e = by_size (cases_lt j (2 * f + 1))
      where
        by_size : (j < 2 * f + 1) ⊎ (2 * f + 1 ≤ j) → j < 2 * f + 1
        by_size (inl low) = low
        by_size (inr high) =
            absurd
            (true≢false (sym e ∙ ap (λ (x : Site C). is_running x.status)
            (get_or_past list.world.sites j nobody (let s = size_is f list.world reached in omega arith))))

    up_many : f < count_by (λ j. is_running (site_at list.world j).status) (sites f)
    up_many = let a = are.many in
        let b = sites_more f (runs_at list.world.sites) (λ j. is_running (site_at list.world j).status) (λ j e. sym (runs_same list.world j) ∙ e) in omega arith

    works : (j : ℕ) → is_running (site_at list.world j).status ≡ true → WorksIn view log (site_at list.world j)
    works j e =
        are.each (site_at list.world j) (in_list list.world.sites j nobody (let a = up_small j e in let s = size_is f list.world reached in omega arith)) e

-- REPEATING
pub repeated : {C R O : Type 0} (f : ℕ) (list : LegalList C R O f) (view : ℕ) (log : List (RowOf C)) (row : RowOf C) → AreWorking f view log list.world.sites
    → IsNewest log row → Repeats list.choose f list.world view log row
repeated f list view log row are new =
    repeating.repeats list.choose f view list.world (legal_holds f list.choose list.right list.cells list.events list.world list.legal) log row new
    (running_small list.world.sites (primary f view) leads)
    (are.each (site_at list.world (primary f view)) (running_in list.world.sites (primary f view) leads) leads) are
  where
    leads : is_running (site_at list.world (primary f view)).status ≡ true
    leads = sym (runs_same list.world (primary f view)) ∙ are.leads

-- a legal list has 2f+1 sites
pub all_there : {C R O : Type 0} (f : ℕ) (list : LegalList C R O f) → length list.world.sites ≡ 2 * f + 1
all_there f list = size_is f list.world (legal_holds f list.choose list.right list.cells list.events list.world list.legal)
