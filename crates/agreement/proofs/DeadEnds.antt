-- Two wrong rules, each with a dead end: of three sites two run and one is down for good, and whatever gentle events
-- follow, the two never work in one view with one log, all of it executed. By the right rules they could (`no_dead_end`, at the end).
use Rattle.std.proofs.Common.{◌≡◌, ◌⊎◌, inl, inr, ℕ, zero, suc, ◌+◌, ◌*◌, ◌≤◌, Bool, true, false, not, ◌&&◌, ◌||◌, cond, arith, ◌==◌, nat_lt, if◌then◌else◌, List, [], ◌∷◌, ◌++◌, slice_get, slice_set, Some, None, count_by, refl, sym, ap, ◌∙◌, subst, true≢false, lit<, lit≤}
use Rattle.std.specs.Prelude.{All, Contains, ⊤}
use Rattle.std.specs.List.{list_any, filter}
use Rattle.std.proofs.lemmas.Bool.Decides.{nat_tests}
use Rattle.std.proofs.lemmas.List.Sums.{sum_by-cons}
use Rattle.std.proofs.lemmas.List.Elements.{All-head, All-tail, Contains-append_cases}
use Rattle.vr_types.specs.declared.cell.Boot.{Boot}
use Rattle.vr_types.specs.declared.event.EventOf.{EventOf}
use Rattle.vr_types.specs.declared.event.EventOf.TheVariants.{Deliver, Timer, Beat, Crash, Restart}
use Rattle.vr_types.specs.declared.event.Status.TheVariants.{Change, Down}
use Rattle.vr_types.specs.declared.event.Why.TheVariants.{Status, View, Stale}
use Rattle.vr_types.specs.declared.event.SiteFault.TheVariants.{NotMine, ViewsSpent}
use Rattle.vr_types.specs.declared.message.EnvelopeOf.{EnvelopeOf}
use Rattle.vr_types.specs.declared.message.MsgOf.{MsgOf}
use Rattle.vr_types.specs.declared.message.MsgOf.TheVariants.{StartViewChange, DoViewChange}
use Rattle.vr_types.specs.declared.row.RowOf.{RowOf}
use Rattle.vr_types.specs.Cell.{max_number, new_cell}
use Rattle.vr_types.specs.Choice.{Choice, IsRight}
use Rattle.vr_types.specs.Group.{primary, actor_of, site_of, sites, others, mail, to_all, may_send}
use Rattle.vr_types.specs.Site.{Site, is_normal, is_recovering, no_boots, opening_site, Start, Vote, over, has_start, has_vote, is_change, is_running}
use Rattle.vr_types.specs.Step.{Step, greater, does, drops, begins_with_executed, is_outdated, learns}
use Rattle.vr_types.specs.Change.{Part, starts_later_view, with_start, with_vote, with_voted, own_vote, ballot, sends_vote, is_to_vote, is_to_open, starts_view, votes_where_due, opens_where_due, opened_with, after_start, on_start_view_change, on_timer, beats_in_change}
use Rattle.vr_types.specs.Handling.{refusal, refused_or, on_message, site_step, is_refused}
use Rattle.vr_types.proofs.ChoosingPick.{Contains-here, Contains-cases, Contains-none}
use Rattle.agreement.proofs.Members.{map-has}
use Rattle.agreement.proofs.Onward.{progresses}
use Rattle.agreement.proofs.Tests.{some-same, or_left, or_right}
use Rattle.agreement.specs.Worlds.{World, LegalList, Happening, Course, Ends, FallsOver, EndsIn, MayHappen, stepped, opening_world, step_of}
use Rattle.agreement.specs.Progress.{IsGentle, IsGentleTurn, MostRun, AreWorking, Progresses}

none_some : {A : Type 0} (x : A) → None ≡ Some x → ⊥
none_some x e = cc

as_change : {C : Type 0} (x : Site C) → x.status ≡ Change → x ≡ record x { status = Change }
as_change x e = ap (λ s. record x { status = s }) e

-- a site that is down for good
abbrev gone : {C : Type 0} → Site C
gone = over (record { boots = max_number }) Down

-- a step by any rules, right or wrong
abbrev Rules : Type 0 → Type 0 → Type 0 → Type 0
Rules C R O = ℕ → Site C → EventOf C R O → Step C R O

module _ {C R O : Type 0} where
  -- what happens by these rules, as `Happens` says it of the right ones
  record HappensBy (rules : Rules C R O) (world : World C R O) (h : Happening C R O) (after : World C R O) : Type 0 where
    before : Site C
    is_there : slice_get world.sites h.site ≡ Some before
    may_happen : MayHappen world.sent h.event
    ends : EndsIn world h.site before (rules h.site before h.event) h.course after

  abbrev LeadsBy : Rules C R O → World C R O → List (Happening C R O) → World C R O → Type 0
  LeadsBy rules world [] after = after ≡ world
  LeadsBy rules world (h ∷ hs) after = (next : World C R O) × HappensBy rules world h next × LeadsBy rules next hs after

  -- A DEAD END: f+1 of three sites run, and whatever gentle events follow, those that run do not work in one view
  record IsDeadEnd (rules : Rules C R O) (world : World C R O) : Type 0 where
    many : MostRun 1 world.sites
    stuck : (events : List (Happening C R O)) (after : World C R O) → LeadsBy rules world events after → All IsGentleTurn events
        → (view : ℕ) (log : List (RowOf C)) → AreWorking 1 view log after.sites → ⊥

  -- WHERE SITES WAIT FOR EVER: two wait, in change, and the third is gone; what was said keeps them waiting
  module _ (rules : Rules C R O) (Waits : Site C → Type 0) (IsSaid : EnvelopeOf C R O → Type 0) where
    abbrev Comes : EventOf C R O → Type 0
    Comes (Deliver envelope) = IsSaid envelope
    Comes Timer = ⊤
    Comes Beat = ⊤
    Comes Crash = ⊥
    Comes Restart = ⊤

    -- after an event that is not refused it waits, and says no more than that
    abbrev KeepsWaiting : ℕ → Site C → EventOf C R O → Type 0
    KeepsWaiting me x event =
        is_refused (rules me x event).ending ≡ false → Waits (rules me x event).site × ((e : EnvelopeOf C R O) → Contains (rules me x event).sent e → IsSaid e)

    record IsClosed : Type 0 where
      change : (x : Site C) → Waits x → x.status ≡ Change
      first : (x : Site C) (event : EventOf C R O) → Waits x → Comes event → KeepsWaiting 0 x event
      third : (x : Site C) (event : EventOf C R O) → Waits x → Comes event → KeepsWaiting 2 x event
      refused : (event : EventOf C R O) → Comes event → is_refused (rules 1 gone event).ending ≡ true

    record AreStuck (world : World C R O) : Type 0 where
      one : Site C
      other : Site C
      sites : world.sites ≡ one ∷ gone ∷ other ∷ []
      one_waits : Waits one
      other_waits : Waits other
      said : (e : EnvelopeOf C R O) → Contains world.sent e → IsSaid e

    module _ (closed : IsClosed) where
      comes : (sent : List (EnvelopeOf C R O)) → ((e : EnvelopeOf C R O) → Contains sent e → IsSaid e) → (event : EventOf C R O) → MayHappen sent event
          → IsGentle event → Comes event
      comes sent said (Deliver e) (inl request) gentle = absurd (true≢false (sym request ∙ gentle))
      comes sent said (Deliver e) (inr was) gentle = said e was
      comes sent said Timer may gentle = tt
      comes sent said Beat may gentle = tt
      comes sent said Crash may gentle = gentle
      comes sent said Restart may gentle = tt

      keeps : (world : World C R O) (s : AreStuck world) (i : ℕ) (event : EventOf C R O) (before : Site C) → slice_get world.sites i ≡ Some before → Comes event
          → is_refused (rules i before event).ending ≡ false → AreStuck (stepped world i (rules i before event))
      keeps world s i event before at comes' allowed = by i (ap (λ (l : List (Site C)). slice_get l i) (sym s.sites) ∙ at) allowed
        where
          said_then : (step : Step C R O) → ((e : EnvelopeOf C R O) → Contains step.sent e → IsSaid e) → (e : EnvelopeOf C R O)
              → Contains (world.sent ++ step.sent) e → IsSaid e
          said_then step new e in' = by_part (Contains-append_cases world.sent step.sent e in')
            where
              by_part : Contains world.sent e ⊎ Contains step.sent e → IsSaid e
              by_part (inl old) = s.said e old
              by_part (inr now) = new e now

          by : (i : ℕ) → slice_get (s.one ∷ gone ∷ s.other ∷ []) i ≡ Some before → is_refused (rules i before event).ending ≡ false
              → AreStuck (stepped world i (rules i before event))
          by zero at allowed =
              let k = closed.first before event (subst Waits (some-same s.one before at) s.one_waits) comes' allowed in
              record {
                one = (rules 0 before event).site;
                other = s.other;
                sites = ap (λ (l : List (Site C)). slice_set l 0 (rules 0 before event).site) s.sites;
                one_waits = k.0;
                other_waits = s.other_waits;
                said = said_then (rules 0 before event) k.1;
              }
          by (suc zero) at allowed = absurd (true≢false (
              sym (closed.refused event comes') ∙ (ap (λ (x : Site C). is_refused (rules 1 x event).ending) (some-same gone before at) ∙ allowed)))
          by (suc (suc zero)) at allowed =
              let k = closed.third before event (subst Waits (some-same s.other before at) s.other_waits) comes' allowed in
              record {
                one = s.one;
                other = (rules 2 before event).site;
                sites = ap (λ (l : List (Site C)). slice_set l 2 (rules 2 before event).site) s.sites;
                one_waits = s.one_waits;
                other_waits = k.0;
                said = said_then (rules 2 before event) k.1;
              }
          by (suc (suc (suc n))) at allowed = absurd (none_some before at)

      stays_stuck : (events : List (Happening C R O)) (world after : World C R O) → AreStuck world → LeadsBy rules world events after → All IsGentleTurn events
          → AreStuck after
      stays_stuck [] world after s run gentle = subst AreStuck (sym run) s
      stays_stuck (h ∷ hs) world after s run gentle =
          stays_stuck hs run.0 after (by_course h.course (All-head IsGentleTurn h hs gentle).1 run.1.ends) run.2 (All-tail IsGentleTurn h hs gentle)
        where
          by_course : (course : Course) → course ≡ Ends → EndsIn world h.site run.1.before (rules h.site run.1.before h.event) course run.0 → AreStuck run.0
          by_course Ends is ends = subst AreStuck (sym ends.1)
              (keeps world s h.site h.event run.1.before run.1.is_there (comes world.sent s.said h.event run.1.may_happen (All-head IsGentleTurn h hs gentle).0)
              ends.0)
          by_course (FallsOver cell) is ends = absurd (cc)

      -- none that waits works
      none_works : (world : World C R O) → AreStuck world → (view : ℕ) (log : List (RowOf C)) → AreWorking 1 view log world.sites → ⊥
      none_works world s view log are =
          let works = (are.each s.one (subst (λ (l : List (Site C)). Contains l s.one) (sym s.sites) (Contains-here s.one (gone ∷ s.other ∷ [])))
          (ap is_running (closed.change s.one s.one_waits))).status in
          true≢false (ap is_change (sym (closed.change s.one s.one_waits) ∙ works))

      stuck_runs : (world : World C R O) (s : AreStuck world) → MostRun 1 world.sites
      stuck_runs world s =
          subst (λ (l : List (Site C)). MostRun 1 l) (sym s.sites)
          (subst (λ (x : Site C). MostRun 1 (x ∷ gone ∷ s.other ∷ [])) (sym (as_change s.one (closed.change s.one s.one_waits)))
          (subst (λ (y : Site C). MostRun 1 (record (s.one) { status = Change } ∷ gone ∷ y ∷ []))
          (sym (as_change s.other (closed.change s.other s.other_waits)))
          (lit< tt)))

      dead_end : (world : World C R O) → AreStuck world → IsDeadEnd rules world
      dead_end world s = record {
        many = stuck_runs world s;
        stuck = λ events after run gentle view log are. none_works after (stays_stuck events world after s run gentle) view log are;
      }

-- a cell whose restarts are spent
abbrev spent : Boot
spent = record { boots = max_number }

-- by these rules three sites, of which one is down for good from the start, come to a dead end
record HasDeadEnd {C R O : Type 0} (rules : Rules C R O) : Type 0 where
  events : List (Happening C R O)
  after : World C R O
  leads : LeadsBy rules (opening_world 1 (new_cell ∷ spent ∷ new_cell ∷ [])) events after
  dead : IsDeadEnd rules after

-- WHAT BOTH RULES SHARE

and_none : (a b c : Bool) → b ≡ false → (a && (b && c)) ≡ false
and_none true true c e = absurd (true≢false e)
and_none true false c e = refl
and_none false b c e = refl

module _ {C : Type 0} where
  with_start_status : (start : Start) (x : Site C) → (with_start start x).status ≡ x.status
  with_start_status start x = by (has_start x.collected.starts start.from)
    where
      by : (b : Bool) → (if b then x else record x { collected = record (x.collected) { starts = x.collected.starts ++ start ∷ [] } }).status ≡ x.status
      by true = refl
      by false = refl

  with_start_view : (start : Start) (x : Site C) → (with_start start x).view ≡ x.view
  with_start_view start x = by (has_start x.collected.starts start.from)
    where
      by : (b : Bool) → (if b then x else record x { collected = record (x.collected) { starts = x.collected.starts ++ start ∷ [] } }).view ≡ x.view
      by true = refl
      by false = refl

  with_start_voted : (start : Start) (x : Site C) → (with_start start x).collected.voted ≡ x.collected.voted
  with_start_voted start x = by (has_start x.collected.starts start.from)
    where
      by : (b : Bool)
          → (if b then x else record x { collected = record (x.collected) { starts = x.collected.starts ++ start ∷ [] } }).collected.voted ≡ x.collected.voted
      by true = refl
      by false = refl

  with_start_votes : (start : Start) (x : Site C) → (with_start start x).collected.votes ≡ x.collected.votes
  with_start_votes start x = by (has_start x.collected.starts start.from)
    where
      by : (b : Bool)
          → (if b then x else record x { collected = record (x.collected) { starts = x.collected.starts ++ start ∷ [] } }).collected.votes ≡ x.collected.votes
      by true = refl
      by false = refl

  with_vote_status : (vote : Vote C) (x : Site C) → (with_vote vote x).status ≡ x.status
  with_vote_status vote x = by (has_vote x.collected.votes vote.from)
    where
      by : (b : Bool) → (if b then x else record x { collected = record (x.collected) { votes = x.collected.votes ++ vote ∷ [] } }).status ≡ x.status
      by true = refl
      by false = refl

  with_vote_view : (vote : Vote C) (x : Site C) → (with_vote vote x).view ≡ x.view
  with_vote_view vote x = by (has_vote x.collected.votes vote.from)
    where
      by : (b : Bool) → (if b then x else record x { collected = record (x.collected) { votes = x.collected.votes ++ vote ∷ [] } }).view ≡ x.view
      by true = refl
      by false = refl

  as_first : (x : Site C) → x.status ≡ Change → x.view ≡ 1 → x ≡ record x { status = Change; view = 1 }
  as_first x change first = ap (λ st. record x { status = st }) change ∙ ap (λ v. record x { status = Change; view = v }) first

-- a site in change to view 1
abbrev WaitsOn : {C : Type 0} → Site C → Type 0
WaitsOn x = (x.status ≡ Change) × (x.view ≡ 1)

module _ {C R O : Type 0} where
  -- where a view is not to open, none does
  opens_none : (choose : Choice C) (me : ℕ) (x : Site C) (part : Part C R O) → is_to_open 1 me part.site ≡ false
      → opens_where_due choose 1 me x part ≡ does part.site part.sent
  opens_none choose me x part e = by (is_to_open 1 me part.site) e
    where
      log : List (RowOf C)
      log = (choose.pick part.site.collected.votes).log

      by : (b : Bool) → b ≡ false → (let votes = part.site.collected.votes in let log = (choose.pick votes).log in
          if not b then does part.site part.sent else if not (begins_with_executed choose.same part.site log) then drops x Stale
          else opened_with 1 me log (choose.most_done votes) part) ≡ does part.site part.sent
      by true e = absurd (true≢false e)
      by false e = refl

  -- what is for site 1 is refused elsewhere
  not_mine : (x : Site C) (step : Step C R O) (b rest : Bool) → b ≡ false
      → is_refused (refused_or x (if not (b && rest) then Some NotMine else None) step).ending ≡ true
  not_mine x step true rest e = absurd (true≢false e)
  not_mine x step false rest e = refl

  -- what is said to all is said so
  told : (me : ℕ) (msg : MsgOf C R O) (P : EnvelopeOf C R O → Type 0) → ((j : ℕ) → P (mail me j msg)) → (e : EnvelopeOf C R O) → Contains (to_all 1 me msg) e
      → P e
  told me msg P each e in' = let t = map-has (λ j. mail me j msg) (others 1 me) e in' in subst P t.2 (each t.0)

-- THE FIRST RULE: a site in change starts no later view at its timer, but waits for its view.
module _ {C R O : Type 0} (choose : Choice C) where
  abbrev waits_on : Rules C R O
  waits_on me x Timer = refused_or x (refusal {R = R} {O = O} 1 me x Timer) (if is_change x.status then drops x Status else on_timer 1 me x)
  waits_on me x event = site_step choose 1 me x event

  abbrev IsStart : MsgOf C R O → Type 0
  IsStart (StartViewChange msg) = msg.view ≡ 1
  IsStart _ = ⊥

  -- a STARTVIEWCHANGE of view 1, or something for its primary, which is gone
  abbrev IsOfOne : EnvelopeOf C R O → Type 0
  IsOfOne e = IsStart e.msg ⊎ (e.to ≡ actor_of 1)

  record IsCalm (x : Site C) (sent : List (EnvelopeOf C R O)) : Type 0 where
    waits : WaitsOn x
    says : (e : EnvelopeOf C R O) → Contains sent e → IsOfOne e

  vote_said : (me : ℕ) (x : Site C) → x.view ≡ 1 → (e : EnvelopeOf C R O) → Contains (sends_vote {R = R} {O = O} 1 me x) e → IsOfOne e
  vote_said me x view e in' = by (Contains-cases _ e [] in')
    where
      by : (mail me (primary 1 x.view) (DoViewChange (ballot x.view (own_vote me x))) ≡ e) ⊎ Contains [] e → IsOfOne e
      by (inl is) = inr (ap (λ (g : EnvelopeOf C R O). g.to) (sym is) ∙ ap (λ v. actor_of (primary 1 v)) view)
      by (inr none) = absurd (Contains-none e none)

  calm_vote : (me : ℕ) (part : Part C R O) → IsCalm part.site part.sent → IsCalm (votes_where_due 1 me part).site (votes_where_due 1 me part).sent
  calm_vote me part calm = by (is_to_vote 1 me part.site) (primary 1 part.site.view == me)
    where
      by : (b c : Bool) → (let x = part.site in let part_then : Part C R O = (
          if not b then part
          else if c then record { site = with_vote (own_vote me x) (with_voted x); sent = part.sent }
          else record { site = with_voted x; sent = part.sent ++ sends_vote 1 me x }) in IsCalm part_then.site part_then.sent)
      by false c = calm
      by true true = record {
        waits = (
          with_vote_status (own_vote me part.site) (with_voted part.site) ∙ calm.waits.0,
          with_vote_view (own_vote me part.site) (with_voted part.site) ∙ calm.waits.1,
        );
        says = calm.says;
      }
      by true false = record { waits = calm.waits; says = λ e in'. by_part e (Contains-append_cases part.sent (sends_vote 1 me part.site) e in') }
        where
          by_part : (e : EnvelopeOf C R O) → Contains part.sent e ⊎ Contains (sends_vote {R = R} {O = O} 1 me part.site) e → IsOfOne e
          by_part e (inl old) = calm.says e old
          by_part e (inr new) = vote_said me part.site calm.waits.1 e new

  calm_start : (me : ℕ) → (1 == me) ≡ false → (x : Site C) (w : ℕ) (start : Start) → x.status ≡ Change → x.view ≡ 1 → w ≡ 1
      → (let step = on_start_view_change {R = R} {O = O} choose 1 me x w start in IsCalm step.site step.sent)
  unfolding on_start_view_change
  calm_start me apart x w start change view is =
      subst (λ (z : Site C). calm_at z w) (sym (as_first x change view))
      (subst (λ (v : ℕ). calm_at (record x { status = Change; view = 1 }) v) (sym is) (by (is_outdated x.known start.from start.known)))
    where
      calm_at : Site C → ℕ → Type 0
      calm_at z v = let step = on_start_view_change {R = R} {O = O} choose 1 me z v start in IsCalm step.site step.sent

      z : Site C
      z = record x { status = Change; view = 1 }

      part : Part C R O
      part = after_start 1 me 1 start z

      calm : IsCalm part.site part.sent
      calm = calm_vote me (record { site = with_start start (learns start.known z); sent = [] }) (record {
        waits = (with_start_status start (learns start.known z), with_start_view start (learns start.known z));
        says = λ e in'. absurd (Contains-none e in');
      })

      closed' : is_to_open 1 me part.site ≡ false
      closed' = and_none (is_change part.site.status) (primary 1 part.site.view == me) _ (ap (λ v. primary 1 v == me) calm.waits.1 ∙ apart)

      by : (b : Bool) → (let step = (if b then drops {R = R} {O = O} z Stale else opens_where_due choose 1 me z part) in IsCalm step.site step.sent)
      by true = record { waits = (refl, refl); says = λ e in'. absurd (Contains-none e in') }
      by false = subst (λ (step : Step C R O). IsCalm step.site step.sent) (sym (opens_none choose me z part closed')) calm

  keeps_on : (me : ℕ) → (1 == me) ≡ false → (actor_of 1 == actor_of me) ≡ false → (x : Site C) (event : EventOf C R O) → WaitsOn x
      → Comes waits_on WaitsOn IsOfOne event → KeepsWaiting waits_on WaitsOn IsOfOne me x event
  unfolding beats_in_change
  keeps_on me apart other x event waits comes' =
      subst (λ (y : Site C). KeepsWaiting waits_on WaitsOn IsOfOne me y event) (sym (as_first x waits.0 waits.1)) (by event comes')
    where
      z : Site C
      z = record x { status = Change; view = 1 }

      by_msg : (from : ℕ) (msg : MsgOf C R O) → IsStart msg → (mine : Bool)
          → (let step = refused_or z (if not mine then Some NotMine else None) (on_message choose 1 me z from msg) in
          is_refused step.ending ≡ false → WaitsOn step.site × ((e : EnvelopeOf C R O) → Contains step.sent e → IsOfOne e))
      by_msg from (StartViewChange m) view true allowed =
          let calm = calm_start me apart z m.view (record { from = site_of from; known = m.known }) refl refl view in (calm.waits, calm.says)
      by_msg from (StartViewChange m) view false allowed = absurd (true≢false allowed)
      by_msg from _ start mine allowed = absurd start

      by : (event : EventOf C R O) → Comes waits_on WaitsOn IsOfOne event → KeepsWaiting waits_on WaitsOn IsOfOne me z event
      by (Deliver e) (inl start) = by_msg e.from e.msg start ((e.to == actor_of me) && may_send 1 me e.from e.msg)
      by (Deliver e) (inr to) =
          λ allowed.
          absurd
          (true≢false (sym (not_mine z (on_message choose 1 me z e.from e.msg) (e.to == actor_of me) (may_send 1 me e.from e.msg)
          (ap (λ t. t == actor_of me) to ∙ other)) ∙ allowed))
      by Timer comes' = λ allowed. ((refl, refl), λ e in'. absurd (Contains-none e in'))
      by Beat comes' =
          λ allowed. (
            (refl, refl),
            λ e in'.
                by_part e (Contains-append_cases (to_all 1 me again) (if z.collected.voted && not (primary 1 1 == me) then sends_vote 1 me z else []) e in'),
          )
        where
          again : MsgOf C R O
          again = StartViewChange (record { view = 1; known = x.known })

          by_vote : (b : Bool) (e : EnvelopeOf C R O) → Contains (if b then sends_vote {R = R} {O = O} 1 me z else []) e → IsOfOne e
          by_vote true e in' = vote_said me z refl e in'
          by_vote false e in' = absurd (Contains-none e in')

          by_part : (e : EnvelopeOf C R O)
              → Contains (to_all 1 me again) e ⊎ Contains (if z.collected.voted && not (primary 1 1 == me) then sends_vote {R = R} {O = O} 1 me z else []) e
              → IsOfOne e
          by_part e (inl all) = told me again IsOfOne (λ j. inl refl) e all
          by_part e (inr vote) = by_vote (z.collected.voted && not (primary 1 1 == me)) e vote
      by Crash comes' = absurd comes'
      by Restart comes' = λ allowed. absurd (true≢false allowed)

  closed_on : IsClosed waits_on WaitsOn IsOfOne
  closed_on = record {
    change = λ x waits. waits.0;
    first = λ x event waits comes'. keeps_on 0 refl refl x event waits comes';
    third = λ x event waits comes'. keeps_on 2 refl refl x event waits comes';
    refused = by;
  }
    where
      by : (event : EventOf C R O) → Comes waits_on WaitsOn IsOfOne event → is_refused (waits_on 1 gone event).ending ≡ true
      by (Deliver e) comes' = refl
      by Timer comes' = refl
      by Beat comes' = refl
      by Crash comes' = absurd comes'
      by Restart comes' = refl

  -- the two start view 1, whose primary is gone
  abbrev both_wait : World C R O
  both_wait =
      let first = stepped (opening_world 1 (new_cell ∷ spent ∷ new_cell ∷ [])) 0 (waits_on 0 (opening_site 1 new_cell) Timer) in
      stepped first 2 (waits_on 2 (opening_site 1 new_cell) Timer)

  first_rule : HasDeadEnd waits_on
  unfolding on_timer
  first_rule = record {
    events = step_of 0 Timer ∷ step_of 2 Timer ∷ [];
    after = both_wait;
    leads = (
      stepped (opening_world 1 (new_cell ∷ spent ∷ new_cell ∷ [])) 0 (waits_on 0 (opening_site 1 new_cell) Timer),
      record { before = opening_site 1 new_cell; is_there = refl; may_happen = tt; ends = (refl, refl) },
      (both_wait, record { before = opening_site 1 new_cell; is_there = refl; may_happen = tt; ends = (refl, refl) }, refl),
    );
    dead = dead_end waits_on WaitsOn IsOfOne closed_on both_wait (record {
      one = (waits_on 0 (opening_site 1 new_cell) Timer).site;
      other = (waits_on 2 (opening_site 1 new_cell) Timer).site;
      sites = refl;
      one_waits = (refl, refl);
      other_waits = (refl, refl);
      said = λ e in'. by e (Contains-append_cases (to_all 1 0 start) (to_all 1 2 start) e in');
    });
  }
    where
      start : MsgOf C R O
      start = StartViewChange (record { view = 1; known = no_boots 1 })

      by : (e : EnvelopeOf C R O) → Contains (to_all 1 0 start) e ⊎ Contains (to_all 1 2 start) e → IsOfOne e
      by e (inl said) = told 0 start IsOfOne (λ j. inl refl) e said
      by e (inr said) = told 2 start IsOfOne (λ j. inl refl) e said

-- THE SECOND RULE: a site votes on the STARTVIEWCHANGEs of f+1 others, where f are enough.

-- in change, it has not voted, and has no STARTVIEWCHANGE of the site that is gone
record IsShort {C : Type 0} (x : Site C) : Type 0 where
  change : x.status ≡ Change
  none : has_start x.collected.starts 1 ≡ false
  voted : x.collected.voted ≡ false
  votes : x.collected.votes ≡ []

any_kept : {A : Type 0} (test keep : A → Bool) (xs : List A) → list_any test xs ≡ false → list_any test (filter keep xs) ≡ false
any_kept test keep [] none = refl
any_kept test keep (x ∷ xs) none = by (keep x) (any_kept test keep xs (or_right (test x) (list_any test xs) none))
  where
    by : (b : Bool) → list_any test (filter keep xs) ≡ false → list_any test (if b then x ∷ filter keep xs else filter keep xs) ≡ false
    by true rest = ap (λ (t : Bool). t || list_any test (filter keep xs)) (or_left (test x) (list_any test xs) none) ∙ rest
    by false rest = rest

any_more : {A : Type 0} (test : A → Bool) (xs : List A) (y : A) → list_any test xs ≡ false → test y ≡ false → list_any test (xs ++ y ∷ []) ≡ false
any_more test [] y none last = ap (λ (t : Bool). t || false) last
any_more test (x ∷ xs) y none last =
    ap (λ (t : Bool). t || list_any test (xs ++ y ∷ [])) (or_left (test x) (list_any test xs) none)
    ∙ any_more test xs y (or_right (test x) (list_any test xs) none) last

-- of two others one at most passes, where site 1 does not
few_of : (p : ℕ → Bool) (a b : ℕ) → (p a ≡ false) ⊎ (p b ≡ false) → nat_lt 1 (count_by p (a ∷ b ∷ [])) ≡ false
few_of p a b fails =
    let first = sum_by-cons (λ (y : ℕ). cond {A = ℕ} (p y) 1 0) a (b ∷ []) in
    let second = sum_by-cons (λ (y : ℕ). cond {A = ℕ} (p y) 1 0) b [] in
    let low = by (p a) (p b) fails in
    let few : count_by p (a ∷ b ∷ []) ≤ 1 = omega arith in
    grind (arith, nat_tests, few)
  where
    by : (s t : Bool) → (s ≡ false) ⊎ (t ≡ false) → cond {A = ℕ} s 1 0 + cond {A = ℕ} t 1 0 ≤ 1
    by false true e = omega arith
    by false false e = omega arith
    by true false e = omega arith
    by true true (inl e) = absurd (true≢false e)
    by true true (inr e) = absurd (true≢false e)

module _ {C : Type 0} where
  with_start_short : (start : Start) (x : Site C) → (start.from == 1) ≡ false → IsShort x → IsShort (with_start start x)
  with_start_short start x apart short = by (has_start x.collected.starts start.from)
    where
      by : (b : Bool) → IsShort (if b then x else record x { collected = record (x.collected) { starts = x.collected.starts ++ start ∷ [] } })
      by true = short
      by false =
          record {
            change = short.change;
            none = any_more (λ (s : Start). s.from == 1) x.collected.starts start short.none apart;
            voted = short.voted;
            votes = short.votes;
          }

  -- what a site is told by a sender leaves it so
  learns_short : (heard : List ℕ) (x : Site C) → IsShort x → IsShort (learns heard x)
  learns_short heard x short = record {
    change = short.change;
    none = any_kept (λ (s : Start). s.from == 1) _ x.collected.starts short.none;
    voted = short.voted;
    votes = ap (filter (λ (vote : Vote C). not (is_outdated (greater x.known heard) vote.from vote.known))) short.votes;
  }

  shut : (me : ℕ) (x : Site C) → x.collected.votes ≡ [] → is_to_open 1 me x ≡ false
  shut me x none =
      ap (λ (votes : List (Vote C)). is_change x.status && ((primary 1 x.view == me) && (has_vote votes me && nat_lt 1 (count_by (has_vote votes) (sites 1)))))
      none
      ∙ and_none_last (is_change x.status) (primary 1 x.view == me)
    where
      and_none_last : (a b : Bool) → (a && (b && false)) ≡ false
      and_none_last true true = refl
      and_none_last true false = refl
      and_none_last false b = refl

module _ {C R O : Type 0} (choose : Choice C) where
  abbrev votes_late : ℕ → Part C R O → Part C R O
  votes_late me part = if nat_lt 1 (count_by (has_start part.site.collected.starts) (others 1 me)) then votes_where_due 1 me part else part

  abbrev after_start_late : ℕ → ℕ → Start → Site C → Part C R O
  after_start_late me w start x =
      let started = starts_later_view 1 me w (learns start.known x) in
      votes_late me (record started { site = with_start start started.site })

  abbrev on_start_late : ℕ → Site C → ℕ → Start → Step C R O
  on_start_late me x w start =
      if is_recovering x.status then drops x Status
      else if nat_lt w x.view then drops x View
      else if is_normal x.status && (w == x.view) then drops x Status
      else if is_outdated x.known start.from start.known then drops x Stale
      else opens_where_due choose 1 me x (after_start_late me w start x)

  abbrev on_message_late : ℕ → Site C → ℕ → MsgOf C R O → Step C R O
  on_message_late me x actor (StartViewChange msg) = on_start_late me x msg.view (record { from = site_of actor; known = msg.known })
  on_message_late me x actor msg = on_message choose 1 me x actor msg

  abbrev asks_more : Rules C R O
  asks_more me x (Deliver e) = refused_or x (refusal {R = R} {O = O} 1 me x (Deliver e)) (on_message_late me x e.from e.msg)
  asks_more me x event = site_step choose 1 me x event

  abbrev IsAnyStart : MsgOf C R O → Type 0
  IsAnyStart (StartViewChange msg) = ⊤
  IsAnyStart _ = ⊥

  -- a STARTVIEWCHANGE, and not of the site that is gone
  abbrev IsOfTwo : EnvelopeOf C R O → Type 0
  IsOfTwo e = IsAnyStart e.msg × ((site_of e.from == 1) ≡ false)

  record IsQuiet (x : Site C) (sent : List (EnvelopeOf C R O)) : Type 0 where
    short : IsShort x
    says : (e : EnvelopeOf C R O) → Contains sent e → IsOfTwo e

  module _ (me : ℕ) (mine : (site_of (actor_of me) == 1) ≡ false) (few : (p : ℕ → Bool) → p 1 ≡ false → nat_lt 1 (count_by p (others 1 me)) ≡ false) where
    starts_quiet : (w : ℕ) (x : Site C) → IsShort x → (let part : Part C R O = starts_later_view 1 me w x in IsQuiet part.site part.sent)
    starts_quiet w x short = by (nat_lt x.view w)
      where
        by : (b : Bool) → (let part : Part C R O = (if b then starts_view 1 me w x else record { site = x; sent = [] }) in IsQuiet part.site part.sent)
        by true =
            record {
              short = record { change = refl; none = refl; voted = refl; votes = refl };
              says = told me (StartViewChange (record { view = w; known = x.known })) IsOfTwo (λ j. (tt, mine));
            }
        by false = record { short = short; says = λ e in'. absurd (Contains-none e in') }

    late_none : (part : Part C R O) → has_start part.site.collected.starts 1 ≡ false → votes_late me part ≡ part
    late_none part none = by (nat_lt 1 (count_by (has_start part.site.collected.starts) (others 1 me))) (few (has_start part.site.collected.starts) none)
      where
        by : (b : Bool) → b ≡ false → (if b then votes_where_due 1 me part else part) ≡ part
        by true e = absurd (true≢false e)
        by false e = refl

    start_quiet : (x : Site C) (w : ℕ) (start : Start) → (start.from == 1) ≡ false → IsShort x
        → (let step = on_start_late me x w start in IsQuiet step.site step.sent)
    start_quiet x w start apart short = subst is_quiet (sym (as_change x short.change)) (by (nat_lt w x.view) (is_outdated x.known start.from start.known))
      where
        is_quiet : Site C → Type 0
        is_quiet y = let step = on_start_late me y w start in IsQuiet step.site step.sent

        z : Site C
        z = record x { status = Change }

        short_z : IsShort z
        short_z = record { change = refl; none = short.none; voted = short.voted; votes = short.votes }

        started : Part C R O
        started = starts_later_view 1 me w (learns start.known z)

        kept : Part C R O
        kept = record started { site = with_start start started.site }

        quiet : IsQuiet kept.site kept.sent
        quiet = let q = starts_quiet w (learns start.known z) (learns_short start.known z short_z) in
            record { short = with_start_short start started.site apart q.short; says = q.says }

        same : opens_where_due choose 1 me z (votes_late me kept) ≡ does kept.site kept.sent
        same = ap (opens_where_due choose 1 me z) (late_none kept quiet.short.none) ∙ opens_none choose me z kept (shut me kept.site quiet.short.votes)

        by : (late old : Bool)
            → (let step = (if late then drops {R = R} {O = O} z View else if old then drops z Stale else opens_where_due choose 1 me z (votes_late me kept)) in
            IsQuiet step.site step.sent)
        by true old = record { short = short_z; says = λ e in'. absurd (Contains-none e in') }
        by false true = record { short = short_z; says = λ e in'. absurd (Contains-none e in') }
        by false false = subst (λ (step : Step C R O). IsQuiet step.site step.sent) (sym same) quiet

    keeps_short : (actor_of 1 == actor_of me) ≡ false → (x : Site C) (event : EventOf C R O) → IsShort x → Comes asks_more IsShort IsOfTwo event
        → KeepsWaiting asks_more IsShort IsOfTwo me x event
    unfolding on_timer beats_in_change
    keeps_short other x event short comes' =
        subst (λ (y : Site C). KeepsWaiting asks_more IsShort IsOfTwo me y event) (sym (as_change x short.change)) (by event comes')
      where
        z : Site C
        z = record x { status = Change }

        short_z : IsShort z
        short_z = record { change = refl; none = short.none; voted = short.voted; votes = short.votes }

        by_msg : (from : ℕ) (msg : MsgOf C R O) → IsAnyStart msg → (site_of from == 1) ≡ false → (mine' : Bool)
            → (let step = refused_or z (if not mine' then Some NotMine else None) (on_message_late me z from msg) in
            is_refused step.ending ≡ false → IsShort step.site × ((e : EnvelopeOf C R O) → Contains step.sent e → IsOfTwo e))
        by_msg from (StartViewChange m) start apart true allowed =
            let quiet = start_quiet z m.view (record { from = site_of from; known = m.known }) apart short_z in (quiet.short, quiet.says)
        by_msg from (StartViewChange m) start apart false allowed = absurd (true≢false allowed)
        by_msg from _ start apart mine' allowed = absurd start

        by : (event : EventOf C R O) → Comes asks_more IsShort IsOfTwo event → KeepsWaiting asks_more IsShort IsOfTwo me z event
        by (Deliver e) comes' = by_msg e.from e.msg comes'.0 comes'.1 ((e.to == actor_of me) && may_send 1 me e.from e.msg)
        by Timer comes' = by_end (z.view == max_number)
          where
            by_end : (b : Bool)
                → (let step = refused_or z (if b then Some ViewsSpent else None)
                (does (starts_view {R = R} {O = O} 1 me (z.view + 1) z).site (starts_view {R = R} {O = O} 1 me (z.view + 1) z).sent) in
                is_refused step.ending ≡ false → IsShort step.site × ((e : EnvelopeOf C R O) → Contains step.sent e → IsOfTwo e))
            by_end true allowed = absurd (true≢false allowed)
            by_end false allowed = (
              record { change = refl; none = refl; voted = refl; votes = refl },
              told me (StartViewChange (record { view = z.view + 1; known = z.known })) IsOfTwo (λ j. (tt, mine)),
            )
        by Beat comes' =
            λ allowed. (
              short_z,
              λ e in'.
                  by_part e (Contains-append_cases (to_all 1 me again) (if z.collected.voted && not (primary 1 z.view == me) then sends_vote 1 me z
                  else []) e in'),
            )
          where
            again : MsgOf C R O
            again = StartViewChange (record { view = z.view; known = z.known })

            by_vote : (v b : Bool) → v ≡ false → (e : EnvelopeOf C R O) → Contains (if v && b then sends_vote {R = R} {O = O} 1 me z else []) e → IsOfTwo e
            by_vote true b none e in' = absurd (true≢false none)
            by_vote false b none e in' = absurd (Contains-none e in')

            by_part : (e : EnvelopeOf C R O)
                → Contains (to_all 1 me again) e ⊎ Contains (if z.collected.voted && not (primary 1 z.view == me) then sends_vote {R = R} {O = O} 1 me z
                else []) e → IsOfTwo e
            by_part e (inl all) = told me again IsOfTwo (λ j. (tt, mine)) e all
            by_part e (inr vote) = by_vote z.collected.voted (not (primary 1 z.view == me)) short.voted e vote
        by Crash comes' = absurd comes'
        by Restart comes' = λ allowed. absurd (true≢false allowed)

  closed_short : IsClosed asks_more IsShort IsOfTwo
  closed_short = record {
    change = λ x short. short.change;
    first = λ x event short comes'. keeps_short 0 refl (λ p none. few_of p 1 2 (inl none)) refl x event short comes';
    third = λ x event short comes'. keeps_short 2 refl (λ p none. few_of p 0 1 (inr none)) refl x event short comes';
    refused = by;
  }
    where
      by : (event : EventOf C R O) → Comes asks_more IsShort IsOfTwo event → is_refused (asks_more 1 gone event).ending ≡ true
      by (Deliver e) comes' = refl
      by Timer comes' = refl
      by Beat comes' = refl
      by Crash comes' = absurd comes'
      by Restart comes' = refl

  second_rule : HasDeadEnd asks_more
  unfolding on_timer
  second_rule = record {
    events = step_of 0 Timer ∷ step_of 2 Timer ∷ [];
    after = after_both;
    leads = (
      after_one,
      record { before = opening_site 1 new_cell; is_there = refl; may_happen = tt; ends = (refl, refl) },
      (after_both, record { before = opening_site 1 new_cell; is_there = refl; may_happen = tt; ends = (refl, refl) }, refl),
    );
    dead = dead_end asks_more IsShort IsOfTwo closed_short after_both (record {
      one = (asks_more 0 (opening_site 1 new_cell) Timer).site;
      other = (asks_more 2 (opening_site 1 new_cell) Timer).site;
      sites = refl;
      one_waits = record { change = refl; none = refl; voted = refl; votes = refl };
      other_waits = record { change = refl; none = refl; voted = refl; votes = refl };
      said = λ e in'. by e (Contains-append_cases (to_all 1 0 start) (to_all 1 2 start) e in');
    });
  }
    where
      after_one : World C R O
      after_one = stepped (opening_world 1 (new_cell ∷ spent ∷ new_cell ∷ [])) 0 (asks_more 0 (opening_site 1 new_cell) Timer)

      after_both : World C R O
      after_both = stepped after_one 2 (asks_more 2 (opening_site 1 new_cell) Timer)

      start : MsgOf C R O
      start = StartViewChange (record { view = 1; known = no_boots 1 })

      by : (e : EnvelopeOf C R O) → Contains (to_all 1 0 start) e ⊎ Contains (to_all 1 2 start) e → IsOfTwo e
      by e (inl said) = told 0 start IsOfTwo (λ j. (tt, refl)) e said
      by e (inr said) = told 2 start IsOfTwo (λ j. (tt, refl)) e said

-- BY THE RIGHT RULES the same two timers of the same sites lead to no dead end.
module _ {C R O : Type 0} (choose : Choice C) (right : IsRight 1 choose) where
  opening : World C R O
  opening = opening_world 1 (new_cell ∷ spent ∷ new_cell ∷ [])

  after_first : World C R O
  after_first = stepped opening 0 (site_step choose 1 0 (opening_site 1 new_cell) Timer)

  after_second : World C R O
  after_second = stepped after_first 2 (site_step choose 1 2 (opening_site 1 new_cell) Timer)

  two_timers : LegalList C R O 1
  unfolding on_timer opening after_first after_second
  two_timers = record {
    choose = choose;
    right = right;
    cells = new_cell ∷ spent ∷ new_cell ∷ [];
    events = step_of 0 Timer ∷ step_of 2 Timer ∷ [];
    world = after_second;
    legal = record {
      all = refl;
      run = (
        after_first,
        record { before = opening_site 1 new_cell; is_there = refl; may_happen = tt; ends = (refl, refl) },
        (after_second, record { before = opening_site 1 new_cell; is_there = refl; may_happen = tt; ends = (refl, refl) }, refl),
      );
    };
  }

  no_dead_end : Progresses two_timers
  unfolding on_timer opening after_first after_second two_timers
  no_dead_end = progresses 1 (lit≤ tt) two_timers (record { many = lit< tt; room = λ x in'. by x (Contains-cases one x (gone ∷ other ∷ []) in') })
    where
      by_last : (x y : Site C) → y.view ≡ 1 → (y ≡ x) ⊎ Contains [] x → x.view + 2 * (2 * 1 + 1) ≤ max_number
      by_last x y first (inl is) =
          subst (λ (z : Site C). z.view + 2 * (2 * 1 + 1) ≤ max_number) is (subst (λ (v : ℕ). v + 2 * (2 * 1 + 1) ≤ max_number) (sym first) (lit≤ tt))
      by_last x y first (inr none) = absurd (Contains-none x none)

      by_gone : (x y : Site C) → y.view ≡ 1 → (gone ≡ x) ⊎ Contains (y ∷ []) x → x.view + 2 * (2 * 1 + 1) ≤ max_number
      by_gone x y first (inl is) = subst (λ (z : Site C). z.view + 2 * (2 * 1 + 1) ≤ max_number) is (lit≤ tt)
      by_gone x y first (inr in') = by_last x y first (Contains-cases y x [] in')

      one : Site C
      one = (site_step {R = R} {O = O} choose 1 0 (opening_site 1 new_cell) Timer).site

      other : Site C
      other = (site_step {R = R} {O = O} choose 1 2 (opening_site 1 new_cell) Timer).site

      by : (x : Site C) → (one ≡ x) ⊎ Contains (gone ∷ other ∷ []) x → x.view + 2 * (2 * 1 + 1) ≤ max_number
      by x (inl is) = subst (λ (z : Site C). z.view + 2 * (2 * 1 + 1) ≤ max_number) is (lit≤ tt)
      by x (inr in') = by_gone x other refl (Contains-cases gone x (other ∷ []) in')
