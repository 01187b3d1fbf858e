-- What holds of every world that a legal list reaches.
use Rattle.std.proofs.Common.{◌≡◌, ◌⊎◌, inl, inr, ℕ, zero, suc, ◌+◌, ◌*◌, ◌<◌, ◌≤◌, Bool, true, false, ◌==◌, if◌then◌else◌, List, [], ◌∷◌, length, take, map, set, get_or, Some, refl, sym, ap, ◌∙◌, subst, arith, true≢false, length-set, get_or-set_same, get_or-set_other}
use Rattle.std.specs.Prelude.{Contains}
use mathlib.Core.Path.{fun_ext}
use Rattle.std.proofs.lemmas.List.{length-map}
use Rattle.std.proofs.lemmas.List.Elements.{Contains-append_cases}
use Rattle.std.proofs.lemmas.Option.{slice_get_within, get_or_from_slice_get, slice_get-get_or}
use Rattle.vr_types.specs.declared.cell.Boot.{Boot}
use Rattle.vr_types.specs.declared.event.EventOf.{EventOf}
use Rattle.vr_types.specs.declared.event.EventOf.TheVariants.{Deliver, Timer, Beat, Crash, Restart}
use Rattle.vr_types.specs.declared.event.Status.TheVariants.{Normal, Change, Recovering, Down}
use Rattle.vr_types.specs.declared.message.EnvelopeOf.{EnvelopeOf}
use Rattle.vr_types.specs.Site.{Site, over, no_boots, opening_site, is_running}
use Rattle.vr_types.specs.Choice.{Choice, IsRight}
use Rattle.vr_types.specs.Step.{Step, does}
use Rattle.vr_types.specs.Handling.{site_step, IsFall}
use Rattle.vr_types.proofs.ChoosingPick.{Contains-cases, Contains-none}
use Rattle.agreement.specs.Worlds.{Replied, Ordered, ordered, World, Course, Ends, FallsOver, Happening, MayHappen, replied, stepped, fallen, EndsIn, Happens, IsRun, opening_world, IsLegal}
use Rattle.agreement.proofs.Members.{map-has}
use Rattle.agreement.proofs.Beginnings.{nothing_begins, take_begins_take}
use Rattle.agreement.proofs.Histories.{History}
use Rattle.agreement.proofs.PreparedRows.{Prepared, acknowledged, led}
use Rattle.agreement.proofs.CommittedRows.{Committed, none}
use Rattle.vr_types.proofs.Vectors.{no_boots_is, no_boots_long}
use Rattle.agreement.proofs.Votes.{Voted, started, voted, IsOrdered, never, first as first_life}
use Rattle.agreement.proofs.AnsweredRows.{IsAnswered}
use Rattle.agreement.proofs.Standing.{StandsRunning, Stands}
use Rattle.agreement.proofs.Invariant.{Holds}
use Rattle.agreement.proofs.Put.{put, put_cases, put_here}
use Rattle.agreement.proofs.Moves.{IsGrown, grown_itself, grown-trans, Kept}
use Rattle.agreement.proofs.Parts.{committed_fewer}
use Rattle.agreement.proofs.Rises.{rising_none}
use Rattle.agreement.proofs.Replies.{IsSoundStep, step_sound}
use Rattle.agreement.proofs.Events.{step_kept, fall_kept}
use Rattle.agreement.proofs.Tests.{eq_of, normal_runs}

-- what there is where no site is
abbrev pub nobody : {C : Type 0} → Site C
nobody = over (record { boots = 0 }) Down

abbrev pub site_at : {C R O : Type 0} → World C R O → ℕ → Site C
site_at world i = get_or world.sites i nobody

-- what holds of a world, with its history
pub record HoldsAt {C R O : Type 0} (f : ℕ) (g : History C R O) (world : World C R O) : Type 0 where
  pub holds : Holds f g (site_at world)
  pub said : (e : EnvelopeOf C R O) → Contains world.sent e → Contains g.said e
  pub replies : (reply : Replied C) → Contains world.replies reply → IsAnswered f g reply
  pub orders : (order : Ordered C) → Contains world.orders order → order.sender.status ≡ Normal
  pub size : length world.sites ≡ 2 * f + 1

-- a world that is reached from a history, which grew
pub record IsReached {C R O : Type 0} (f : ℕ) (g : History C R O) (world : World C R O) : Type 0 where
  pub history : History C R O
  pub holds : HoldsAt f history world
  pub grown : IsGrown f g history

-- the sites after one of them changed
pub set_is_put : {C : Type 0} (sites : List (Site C)) (i : ℕ) (x : Site C) → i < length sites
    → (λ j. get_or (set sites i x) j nobody) ≡ put (λ j. get_or sites j nobody) i x
set_is_put sites i x small = fun_ext (λ j. sym (put_cases (λ k. get_or sites k nobody) i x (λ k y. y ≡ get_or (set sites i x) k nobody) j
    (sym (get_or-set_same sites i x nobody small)) (λ apart. sym (get_or-set_other sites i _ x nobody apart))))

-- at the opening nothing was said, and view 0 is open
abbrev pub first : {C R O : Type 0} → History C R O
first = record { said = []; opened = λ view. view == 0; electors = λ view j. false; opening = λ view. []; logs = λ view. []; regains = [] }

module _ {C R O : Type 0} (f : ℕ) where
  answered_later : (g h : History C R O) (reply : Replied C) → IsGrown f g h → IsAnswered f g reply → IsAnswered f h reply
  answered_later g h reply grown a =
      record { normal = a.normal; counted = a.counted; executed = a.executed; within = a.within; done = grown.commits _ _ a.done }

  -- what a step answers is committed
  replied_answered : (g : History C R O) (s : ℕ → Site C) (i : ℕ) (step : Step C R O) → Holds f g (put s i step.site) → IsSoundStep step → (reply : Replied C)
      → Contains (replied i step) reply → IsAnswered f g reply
  replied_answered g s i step holds sound reply in' =
      let t = map-has (λ place. record { from = i; sender = step.site; place = place }) step.replies reply in' in
      let is = sound.each t.0 t.1 in
      let r : StandsRunning f g i step.site =
      subst (λ (x : Site C). is_running x.status ≡ true → StandsRunning f g i x) (put_here s i step.site) ((holds.sites i).running) (normal_runs _ is.0) in
      subst (λ (a : Replied C). IsAnswered f g a) t.2 (record {
        normal = is.0;
        counted = is.1;
        executed = is.2;
        within = r.within;
        done = subst (λ (v : ℕ). Committed f g v (take t.0 step.site.log)) (r.normal is.0)
            (committed_fewer f g step.site.last_normal (take step.site.done step.site.log) (take t.0 step.site.log)
            (take_begins_take t.0 step.site.done step.site.log is.2) r.done);
      })

  -- open orders are sent by a normal site
  ordered_normal : (i : ℕ) (step : Step C R O) → IsSoundStep step → (order : Ordered C) → Contains (ordered i step) order → order.sender.status ≡ Normal
  ordered_normal i step sound order = by_test step.orders refl
    where
      by_place : step.orders ≡ true → (record { from = i; sender = step.site } ≡ order) ⊎ Contains [] order → order.sender.status ≡ Normal
      by_place e (inl is) = subst (λ (o : Ordered C). o.sender.status ≡ Normal) is (sound.orders e)
      by_place e (inr there) = absurd (Contains-none order there)

      by_test : (b : Bool) → step.orders ≡ b → Contains (if b then record { from = i; sender = step.site } ∷ [] else []) order → order.sender.status ≡ Normal
      by_test true e in' = by_place e (Contains-cases (record { from = i; sender = step.site }) order [] in')
      by_test false e in' = absurd (Contains-none order in')

  after_step : (g : History C R O) (world : World C R O) (i : ℕ) (step : Step C R O) → HoldsAt f g world → i < length world.sites
      → Kept f g (site_at world) i step → IsSoundStep step → IsReached f g (stepped world i step)
  after_step g world i step h small k sound = record {
    history = k.history;
    holds = record {
      holds = subst (λ (t : ℕ → Site C). Holds f k.history t) (sym (set_is_put world.sites i step.site small)) k.holds;
      said = λ e in'. said_by e (Contains-append_cases world.sent step.sent e in');
      replies = λ reply in'. replied_by reply (Contains-append_cases world.replies (replied i step) reply in');
      orders = λ order in'. ordered_by order (Contains-append_cases world.orders (ordered i step) order in');
      size = length-set world.sites i step.site ∙ h.size;
    };
    grown = k.grown;
  }
    where
      said_by : (e : EnvelopeOf C R O) → Contains world.sent e ⊎ Contains step.sent e → Contains k.history.said e
      said_by e (inl in') = k.grown.said e (h.said e in')
      said_by e (inr in') = k.sent e in'

      replied_by : (reply : Replied C) → Contains world.replies reply ⊎ Contains (replied i step) reply → IsAnswered f k.history reply
      replied_by reply (inl in') = answered_later g k.history reply k.grown (h.replies reply in')
      replied_by reply (inr in') = replied_answered k.history (site_at world) i step k.holds sound reply in'

      ordered_by : (order : Ordered C) → Contains world.orders order ⊎ Contains (ordered i step) order → order.sender.status ≡ Normal
      ordered_by order (inl in') = h.orders order in'
      ordered_by order (inr in') = ordered_normal i step sound order in'

  after_fall : (g : History C R O) (world : World C R O) (i : ℕ) (cell : Boot) → HoldsAt f g world → i < length world.sites
      → Kept f g (site_at world) i (does (over cell Down) []) → IsReached f g (fallen world i cell)
  after_fall g world i cell h small k = record {
    history = k.history;
    holds = record {
      holds = subst (λ (t : ℕ → Site C). Holds f k.history t) (sym (set_is_put world.sites i (over cell Down) small)) k.holds;
      said = λ e in'. k.grown.said e (h.said e in');
      replies = λ reply in'. answered_later g k.history reply k.grown (h.replies reply in');
      orders = h.orders;
      size = length-set world.sites i (over cell Down) ∙ h.size;
    };
    grown = k.grown;
  }

  may_later : (sent said : List (EnvelopeOf C R O)) → ((e : EnvelopeOf C R O) → Contains sent e → Contains said e) → (event : EventOf C R O)
      → MayHappen sent event → MayHappen said event
  may_later sent said more (Deliver e) (inl request) = inl request
  may_later sent said more (Deliver e) (inr in') = inr (more e in')
  may_later sent said more Timer may = tt
  may_later sent said more Beat may = tt
  may_later sent said more Crash may = tt
  may_later sent said more Restart may = tt

  module _ (choose : Choice C) (right : IsRight f choose) where
    happens_holds : (g : History C R O) (world : World C R O) (h : Happening C R O) (after : World C R O) → HoldsAt f g world → Happens choose f world h after
        → IsReached f g after
    happens_holds g world h after holds p = by_course h.course p.ends
      where
        small : h.site < length world.sites
        small = slice_get_within world.sites h.site p.before p.is_there

        is : site_at world h.site ≡ p.before
        is = get_or_from_slice_get world.sites h.site p.before nobody p.is_there

        kept : Kept f g (site_at world) h.site (site_step choose f h.site p.before h.event)
        kept = subst (λ (x : Site C). Kept f g (site_at world) h.site (site_step choose f h.site x h.event)) is
            (step_kept choose f right h.site (let a = small in let b = holds.size in
            omega arith) g (site_at world) holds.holds h.event (may_later world.sent g.said holds.said h.event p.may_happen))

        by_course : (course : Course) → EndsIn world h.site p.before (site_step choose f h.site p.before h.event) course after → IsReached f g after
        by_course Ends ends =
            subst (λ (w : World C R O). IsReached f g w) (sym ends.1)
            (after_step g world h.site _ holds small kept (step_sound choose f h.site p.before h.event))
        by_course (FallsOver cell) ends = subst (λ (w : World C R O). IsReached f g w) (sym ends.1)
            (after_fall g world h.site cell holds small (fall_kept f h.site g (site_at world) _ cell holds.holds kept
            (subst (λ (x : Site C). IsFall x (site_step choose f h.site p.before h.event) (over cell Down)) (sym is) ends.0)))

    pub run_holds : (g : History C R O) (world after : World C R O) (events : List (Happening C R O)) → HoldsAt f g world → IsRun choose f world events after
        → IsReached f g after
    run_holds g world after [] holds e = subst (λ (w : World C R O). IsReached f g w) (sym e) (record { history = g; holds = holds; grown = grown_itself f g })
    run_holds g world after (h ∷ events) holds run =
        let a : IsReached f g run.0 = happens_holds g world h run.0 holds run.1 in
        let b : IsReached f a.history after = run_holds a.history run.0 after events a.holds run.2 in
        record { history = b.history; holds = b.holds; grown = grown-trans f g a.history b.history a.grown b.grown }

  abbrev at_first : History C R O
  at_first = first

  first_prepared : (j view n : ℕ) → Prepared f at_first j view n → (view ≡ 0) × (n ≤ 0)
  first_prepared j view n (acknowledged to m low in') = absurd (Contains-none _ in')
  first_prepared j view n (led o p low) = (eq_of _ _ o, low)

  first_votes : (j w : ℕ) (a : List ℕ) → Voted at_first j w a → ⊥
  first_votes j w a (started to in') = Contains-none _ in'
  first_votes j w a (voted to u k log in') = Contains-none _ in'

  first_ordered : (j : ℕ) → IsOrdered at_first j
  first_ordered j = record {
    votes = λ to x v w a b p q e. absurd (Contains-none _ p.said);
    answers = λ to to' x y v v' a b p q e. absurd (Contains-none _ p.said);
  }

  down_stands : (j : ℕ) (cell : Boot) → Stands f at_first j (over cell Down)
  down_stands j cell = record {
    running = λ r. absurd (true≢false (sym r));
    rests = λ _. (refl, refl);
    hears = record {
      own = λ e. absurd (true≢false e);
      long = λ e. absurd (true≢false e);
      heard = λ k. never refl;
      no_vote = λ e. absurd (let e' : Down ≡ Recovering = e in cc);
      no_answer = λ e. absurd (let e' : Down ≡ Recovering = e in cc);
      ordered = first_ordered j;
    };
    responses = λ nonce e. absurd (let e' : Down ≡ Recovering = e.status in cc);
    current = λ e. absurd (let e' : Down ≡ Recovering = e in cc);
  }

  opening_stands : (j : ℕ) (cell : Boot) → Stands f at_first j (opening_site f cell)
  opening_stands j cell = by_test (cell.boots == 0) refl
    where
      by_test : (b : Bool) → (cell.boots == 0) ≡ b → Stands f at_first j (if b then record (over cell Normal) { known = no_boots f } else over cell Down)
      by_test true e = record {
        running = λ _. record {
          at_view = record {
            lived = first_life (no_boots_is f j);
            votes = λ w a v is. absurd (first_votes j w a v);
            promised = λ to msg in'. absurd (Contains-none _ in');
            answers = λ to w x a v is. absurd (Contains-none _ v.said);
            starts = λ _ a in'. absurd (Contains-none a in');
            backed = λ _ made. absurd (true≢false (sym made));
          };
          normal = λ _. refl;
          change = λ c. absurd (let c' : Normal ≡ Change = c in cc);
          log_of = record { opened = refl; lower = nothing_begins []; upper = nothing_begins [] };
          leads = λ _ _. refl;
          within = omega arith;
          done = none refl;
          prepared = λ view n p. inr (first_prepared j view n p);
          acks = λ _ a in'. absurd (Contains-none a in');
          votes = λ _ v in'. absurd (Contains-none v in');
          current = λ _ v in'. absurd (Contains-none v in');
        };
        rests = λ r. absurd (true≢false r);
        hears = record {
          own = λ _. (let h = no_boots_is f j in let is = eq_of _ _ e in omega arith);
          long = λ _. (let h = no_boots_long f in omega arith);
          heard = λ k. never (no_boots_is f k);
          no_vote = λ c. absurd (let c' : Normal ≡ Recovering = c in cc);
          no_answer = λ c. absurd (let c' : Normal ≡ Recovering = c in cc);
          ordered = first_ordered j;
        };
        responses = λ nonce c. absurd (let c' : Normal ≡ Recovering = c.status in cc);
        current = λ c. absurd (let c' : Normal ≡ Recovering = c in cc);
      }
      by_test false e = down_stands j cell

  first_stands : (cells : List Boot) (i j : ℕ) → Stands f at_first j (get_or (map (opening_site f) cells) i nobody)
  first_stands [] i j = down_stands j (record { boots = 0 })
  first_stands (cell ∷ cells) zero j = opening_stands j cell
  first_stands (cell ∷ cells) (suc i) j = first_stands cells i j

  opening_holds : (cells : List Boot) → length cells ≡ 2 * f + 1 → HoldsAt f at_first (opening_world f cells)
  opening_holds cells all = record {
    holds = record {
      sites = λ j. first_stands cells j j;
      said = λ j to msg in'. absurd (Contains-none _ in');
      opens = λ view o. nothing_begins [];
      unopened = λ view o. refl;
      rising = λ view. rising_none;
      regains = λ c in'. absurd (Contains-none c in');
      times = λ c in'. absurd (Contains-none c in');
      elected = λ w p o. absurd (let e : w ≡ 0 = eq_of _ _ o in omega arith);
    };
    said = λ e in'. absurd (Contains-none e in');
    replies = λ reply in'. absurd (Contains-none reply in');
    orders = λ order in'. absurd (Contains-none order in');
    size = length-map cells (opening_site f) ∙ all;
  }

  -- what holds of the world that a legal list leads to
  pub legal_holds : (choose : Choice C) → IsRight f choose → (cells : List Boot) (events : List (Happening C R O)) (world : World C R O)
      → IsLegal choose f cells events world → IsReached f at_first world
  legal_holds choose right cells events world legal =
      run_holds choose right first (opening_world f cells) world events (opening_holds cells legal.all) legal.run

  -- a site of the world has a number
  pub has_number : (world : World C R O) (x : Site C) → Contains world.sites x → (i : ℕ) × (site_at world i ≡ x)
  has_number world x (k, low, e) = (k, get_or_from_slice_get world.sites k x nobody (slice_get-get_or world.sites k x low ∙ ap (λ (y : Site C). Some y) e))
