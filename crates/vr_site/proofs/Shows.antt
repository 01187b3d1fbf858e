-- That what a replica shows was handled as the site step says.
use Rattle.std.proofs.Common.{◌≡◌, ◌≢◌, inl, ℕ, Bool, not, List, [], Some, None, true, false, if◌then◌else◌, refl, sym, ap, ◌∙◌, subst, arith, eq-eqb}
use Rattle.std.specs.Prelude.{Result, Ok, Err, IsErrAnd, OnOk}
use Rattle.std.specs.declared.alloc.AllocError.{AllocError}
use Rattle.std.proofs.lemmas.Bool.{ne_eqb}
use Rattle.std.proofs.lemmas.Bool.Decides.{nat_tests}
use Rattle.vr_types.specs.declared.cell.Boot.{Boot}
use Rattle.vr_types.specs.declared.cell.BootCell.{Ghosts as Cell}
use Rattle.vr_types.specs.declared.event.EventOf.{EventOf}
use Rattle.vr_types.specs.declared.event.EventOf.TheVariants.{Deliver, Timer, Beat, Crash}
use Rattle.vr_types.specs.declared.event.OutcomeOf.{OutcomeOf}
use Rattle.vr_types.specs.declared.event.SiteFault.{SiteFault}
use Rattle.vr_types.specs.declared.event.SiteFault.TheVariants.{NoMemory, NotUp, NotMine, ViewsSpent}
use Rattle.vr_types.specs.declared.event.Status.{Status}
use Rattle.vr_types.specs.declared.event.Status.TheVariants as status
use Rattle.vr_types.specs.declared.machine.Machine.{Ghosts}
use Rattle.vr_types.specs.Cell.{max_number, is_new}
use Rattle.vr_types.specs.Choice.{Choice, IsRight}
use Rattle.vr_types.specs.declared.message.EnvelopeOf.{EnvelopeOf}
use Rattle.vr_types.specs.Group.{is_mine}
use Rattle.vr_types.specs.Handling.{refusal, refused_or, on_event, is_refused}
use Rattle.vr_types.specs.Site.{Ack, Site, over, no_boots, is_down, is_running, opening_site}
use Rattle.vr_types.specs.Step.{Step, Handled}
use Rattle.vr_log.specs.declared.running.Running.{Running}
use Rattle.vr_log.proofs.OutcomeLemmas.{running_is_here}
use Rattle.vr_log.specs.Running.{SumUp, Meets, site_of}
use Rattle.vr_site.specs.declared.life.Life.{Life}
use Rattle.vr_site.specs.declared.life.Life.TheVariants as life
use Rattle.vr_site.specs.Life.{Volatile, lost, running_volatile, volatile_of, site_with, IsWell}
use Rattle.vr_site.specs.Replica.{ShownSite, site_shown, Does, Falls, Handles, Serves}

-- no acknowledgement sums up no numbers
pub none_summed : SumUp [] []
none_summed = λ j n. grind (arith, nat_tests)

-- the error that a `?` hands on
pub err_is : {T E : Type 0} (result : Result T E) (x y : E) → IsErrAnd result (λ e. e ≡ x) → x ≡ y → result ≡ Err y
err_is (Ok value) x y h same = absurd h
err_is (Err error) x y h same = ap (λ e. Err e) (h ∙ same)

module _ {H C R O S B : Type 0} (m : Ghosts H C R O S) (c : Cell B) where
  -- an event that is refused, and changes nothing
  pub refused_handles : (old new : ShownSite C S B) (event : EventOf C R O) (fault : SiteFault) → new ≡ old
      → refusal old.f old.me (site_shown c.held old []) event ≡ Some fault
      → Handles {H = H} {C = C} {R = R} {O = O} m c old new event (Err fault)
  refused_handles old new event fault same refused = record {
    step = tt;
    refused = λ other e. (let one : Some fault ≡ Some other = sym refused ∙ e in (cc, same));
    fall = λ none. (let clash : Some fault ≡ None = sym refused ∙ none in absurd (cc));
  }

  -- an event that is not refused, and takes its step
  pub stepped_handles : (old new : ShownSite C S B) (event : EventOf C R O) (out : OutcomeOf C R O)
      → refusal old.f old.me (site_shown c.held old []) event ≡ None
      → ((choose : Choice C) (acks : List Ack) → IsRight old.f choose → SumUp old.volatile.acked acks
      → Does m c old new out (on_event choose old.f old.me (site_shown c.held old acks) event))
      → Handles m c old new event (Ok out)
  stepped_handles old new event out none step = record {
    step = λ choose acks right summed.
        subst (Does m c old new out)
        (sym (ap (λ o. refused_or (site_shown c.held old acks) o (on_event choose old.f old.me (site_shown c.held old acks) event)) none))
        (step choose acks right summed);
    refused = λ fault e. (let clash : None ≡ Some fault = sym none ∙ e in absurd (cc));
    fall = λ _. tt;
  }

  -- an event that is not refused, and in place of which the site fell
  pub fell_handles : (old new : ShownSite C S B) (event : EventOf C R O) (fault : SiteFault) → refusal old.f old.me (site_shown c.held old []) event ≡ None
      → ((choose : Choice C) (acks : List Ack) → IsRight old.f choose → SumUp old.volatile.acked acks
      → Falls c old new (site_shown c.held old acks) (on_event choose old.f old.me (site_shown c.held old acks) event) fault)
      → Handles m c old new event (Err fault)
  fell_handles old new event fault none falls = record {
    step = tt;
    refused = λ other e. (let clash : None ≡ Some other = sym none ∙ e in absurd (cc));
    fall = λ _ choose acks right summed.
        subst (λ s. Falls c old new (site_shown c.held old acks) s fault)
        (sym (ap (λ o. refused_or (site_shown c.held old acks) o (on_event choose old.f old.me (site_shown c.held old acks) event)) none))
        (falls choose acks right summed);
  }

  -- a fall of a site that is down by now over the old cell
  pub down_falls : (base : ShownSite C S B) (v : Volatile C) (x : Site C) (step : Step C R O) → base.volatile ≡ lost → x.cell ≡ c.held base.cell
      → step.ending ≡ Handled
      → Falls c (record base { volatile = v }) base x step NoMemory
  down_falls base v x step volatile cell handled = record {
    f = refl;
    me = refl;
    setup = refl;
    acks = subst (λ (u : Volatile C). SumUp u.acked []) (sym volatile) none_summed;
    site =
        record { allowed = ap is_refused handled; down = inl (ap (λ u. site_with u [] (c.held base.cell)) volatile ∙ ap (λ b. over b status.Down) (sym cell)) };
    saved = inl refl;
    handled = handled;
    fault = inl refl;
  }

  module _ (base : ShownSite C S B) (r n : Running H C R O S) (event : EventOf C R O) where
    -- a growth was refused while it ran
    pub ran_short : (done : Result (OutcomeOf C R O) AllocError) → ((out : OutcomeOf C R O) → done ≡ Ok out → ⊥) → base.volatile ≡ lost
        → Serves m (m.start base.setup) base.f base.me (c.held base.cell) r n done event
        → Handles m c (record base { volatile = running_volatile r }) base event (Err NoMemory)
    ran_short (Ok out) not_ok volatile serves = absurd (not_ok out refl)
    ran_short (Err error) not_ok volatile serves =
        fell_handles (record base { volatile = running_volatile r }) base event NoMemory serves.allowed
        (λ choose acks right summed. down_falls base (running_volatile r) (site_of r acks (c.held base.cell)) _ volatile refl
        (serves.follows choose acks right (record { sound = serves.sound; summed = summed })))

    -- it runs on
    pub ran_on : (new : ShownSite C S B) (out : OutcomeOf C R O) → (new.f ≡ base.f) × (new.me ≡ base.me) × (new.setup ≡ base.setup)
        → new.volatile ≡ running_volatile n → new.cell ≡ base.cell
        → Serves m (m.start base.setup) base.f base.me (c.held base.cell) r n (Ok out) event
        → Handles m c (record base { volatile = running_volatile r }) new event (Ok out)
    ran_on new out config volatile cell serves =
        stepped_handles (record base { volatile = running_volatile r }) new event out serves.allowed (λ choose acks right summed.
        let step = on_event choose base.f base.me (site_of r acks (c.held base.cell)) event in
        let meets : Meets m (m.start base.setup) base.f base.me n out step =
        serves.follows choose acks right (record { sound = serves.sound; summed = summed }) in
        let holds : step.site.cell ≡ c.held new.cell = serves.saves choose acks ∙ ap c.held (sym cell) in
        record {
          f = config.0;
          me = config.1;
          setup = config.2;
          acks = subst (λ (u : Volatile C). SumUp u.acked step.site.collected.acks) (sym volatile) meets.running.summed;
          site = meets.site ∙ ap (site_of n step.site.collected.acks) holds ∙ ap (λ u. site_with u step.site.collected.acks (c.held new.cell)) (sym volatile);
          saved = inl cell;
          sent = meets.sent;
          ending = meets.ending;
        })

-- what runs is not down
pub up_is_not_down : (s : Status) → is_running s ≡ true → is_down s ≡ false
up_is_not_down status.Normal e = refl
up_is_not_down status.Change e = refl
up_is_not_down status.Recovering e = refl
up_is_not_down status.Down e = sym e

-- what is for a site that is not down is not refused
pub mine_is_taken : {C R O : Type 0} (f me : ℕ) (x : Site C) (e : EnvelopeOf C R O) → is_down x.status ≡ false → is_mine f me e ≡ true
    → refusal f me x (Deliver e) ≡ None
mine_is_taken f me x e up mine = rw (up, mine)

pub on_ok_then : {T E : Type 0} (result : Result T E) (P Q : Type 0) → (P → Q) → OnOk result P → OnOk result Q
on_ok_then (Ok value) P Q h p = h p
on_ok_then (Err error) P Q h p = tt

pub down_refuses_crash : {C : Type 0} (R O : Type 0) (f me : ℕ) (x : Site C) → is_down x.status ≡ true → refusal {R = R} {O = O} f me x Crash ≡ Some NotUp
down_refuses_crash R O f me x e = rw e

-- an envelope that is not for a site is refused: as one for another site, or as one that comes to a site that is down
turned_away : (down mine : Bool) (why : SiteFault) → mine ≡ false → why ≡ (if down then NotUp else NotMine)
    → (if down then Some NotUp else if not mine then Some NotMine else None) ≡ Some why
turned_away true mine why away is = ap (λ w. Some w) (sym is)
turned_away false mine why away is = rw away (ap (λ w. Some w) (sym is))

pub refuses_for_another : {C R O : Type 0} (f me : ℕ) (x : Site C) (e : EnvelopeOf C R O) (why : SiteFault) → is_mine f me e ≡ false
    → why ≡ (if is_down x.status then NotUp else NotMine) → refusal f me x (Deliver e) ≡ Some why
refuses_for_another f me x e = turned_away (is_down x.status) (is_mine f me e)

-- a running site refuses a timer where there is no greater view, and there alone
pub spent_refuses_timer : {C : Type 0} (R O : Type 0) (f me : ℕ) (x : Site C) → is_running x.status ≡ true → x.view ≡ max_number
    → refusal {R = R} {O = O} f me x Timer ≡ Some ViewsSpent
spent_refuses_timer R O f me x up spent = rw (up_is_not_down x.status up, running_is_here x.status up, eq-eqb _ _ spent)

pub timer_is_taken : {C : Type 0} (R O : Type 0) (f me : ℕ) (x : Site C) → is_running x.status ≡ true → x.view ≢ max_number
    → refusal {R = R} {O = O} f me x Timer ≡ None
timer_is_taken R O f me x up more = rw (up_is_not_down x.status up, running_is_here x.status up, ne_eqb _ _ more)

pub beat_is_taken : {C : Type 0} (R O : Type 0) (f me : ℕ) (x : Site C) → is_running x.status ≡ true → refusal {R = R} {O = O} f me x Beat ≡ None
beat_is_taken R O f me x up = rw (up_is_not_down x.status up)

-- what isn't down is not shown as down
pub life_is_not_down : {H C R O S : Type 0} (m : Ghosts H C R O S) (start : H) (f : ℕ) (l : Life H C R O S) → (l ≡ life.Down → ⊥) → IsWell m start f l
    → is_down (volatile_of l).status ≡ false
life_is_not_down m start f life.Down other well = absurd (other refl)
life_is_not_down m start f (life.Recovering r) other well = refl
life_is_not_down m start f (life.Up r) other well = up_is_not_down r.value.status well.up

-- over a new cell a site opens normal
pub opened : {C : Type 0} (f : ℕ) (cell : Boot) → is_new cell ≡ true → opening_site {C = C} f cell ≡ record (over cell status.Normal) { known = no_boots f }
opened f cell new = rw new

-- over any other it is down
pub unopened : {C : Type 0} (f : ℕ) (cell : Boot) → is_new cell ≡ false → opening_site {C = C} f cell ≡ over cell status.Down
unopened f cell old = rw old
