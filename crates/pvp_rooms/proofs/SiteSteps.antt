-- A replica takes an event as an actor.
use Rattle.std.proofs.Common.{◌≡◌, inl, inr, ℕ, List, [], Option, Some, None, Result, false, if◌then◌else◌, true≢false, refl, sym, ap, ◌∙◌, subst}
use Rattle.std.specs.Prelude.{◌≢◌, Ok, Err, IsOk}
use Rattle.vr_types.specs.declared.cell.Boot.{Boot}
use Rattle.vr_types.specs.declared.cell.BootCell.{Ghosts as Cell}
use Rattle.vr_types.specs.declared.event.EventOf.{EventOf}
use Rattle.vr_types.specs.declared.event.EventOf.TheVariants.{Deliver, Timer, Beat, Crash, Restart}
use Rattle.vr_types.specs.declared.event.OutcomeOf.{OutcomeOf}
use Rattle.vr_types.specs.declared.event.SiteFault.{SiteFault}
use Rattle.vr_types.specs.declared.event.SiteFault.TheVariants.{NoMemory, CellFault, NotUp}
use Rattle.vr_types.specs.declared.event.Status.{Status}
use Rattle.vr_types.specs.declared.event.Status.TheVariants as status
use Rattle.vr_types.specs.declared.event.Why.{Why}
use Rattle.vr_types.specs.declared.machine.Machine.{Ghosts}
use Rattle.vr_types.specs.declared.message.EnvelopeOf.{EnvelopeOf}
use Rattle.vr_types.specs.Cell.{HasRisen}
use Rattle.vr_types.specs.Choice.{IsRight}
use Rattle.vr_types.specs.Handling.{envelopes, refusal, site_step, is_refused}
use Rattle.vr_types.specs.Site.{Ack, Site, over, opening_site, is_down}
use Rattle.vr_types.specs.Step.{Handled}
use Rattle.vr_log.specs.Outcomes.{ended}
use Rattle.vr_log.specs.Running.{SumUp}
use Rattle.vr_site.specs.Life.{lost}
use Rattle.vr_site.specs.Replica.{ShownSite, KeepsPlace, site_shown, Does, Falls, Handles}
use Rattle.vr_site.proofs.Shows.{none_summed}
use Rattle.headline.proofs.Basics.{none-some}
use Rattle.pvp_world.proofs.Silent.{IsSilent, dropped-silent, crash-silent, silent-sends}
use Rattle.pvp_rooms.specs.declared.site.CameOf.{CameOf}
use Rattle.pvp_rooms.specs.declared.site.CameOf.TheVariants.{Did, Refused, Fell}
use Rattle.pvp_rooms.specs.Sites.{SiteState, step_in, Comes, HasSent, after, IsSiteOf, Opens, Shows, IsHandled, HasCause, Tells}

-- an event that ended so is not refused
pub ended_allowed : (dropped : Option Why) → is_refused (ended dropped) ≡ false
ended_allowed None = refl
ended_allowed (Some why) = refl

module _ {H C R O S B : Type 0} (m : Ghosts H C R O S) (c : Cell B) where
  -- a refusal does not look at acknowledgements
  refusal_is : (v : ShownSite C S B) (acks : List Ack) (event : EventOf C R O)
      → refusal v.f v.me (site_shown c.held v acks) event ≡ refusal v.f v.me (site_shown c.held v []) event
  refusal_is v acks (Deliver envelope) = refl
  refusal_is v acks Timer = refl
  refusal_is v acks Beat = refl
  refusal_is v acks Crash = refl
  refusal_is v acks Restart = refl

  pub refusal_of : (v : ShownSite C S B) (x : SiteState H C) (event : EventOf C R O) → Shows m c v x
      → refusal x.f x.me x.site event ≡ refusal v.f v.me (site_shown c.held v []) event
  refusal_of v x event shows =
      (λ i. refusal (shows.is.f i) (shows.is.me i) (shows.site i) event) ∙ refusal_is v x.site.collected.acks event

  pub refused : (v : ShownSite C S B) (x : SiteState H C) (event : EventOf C R O) (why : SiteFault) → Shows m c v x
      → Some why ≡ refusal v.f v.me (site_shown c.held v []) event → refusal x.f x.me x.site event ≡ Some why
  refused v x event why shows h = refusal_of v x event shows ∙ sym h

  -- it is still the site that it was
  pub still : (old new : ShownSite C S B) (x : SiteState H C) → KeepsPlace old new → IsSiteOf m old x → IsSiteOf m new x
  still old new x place is = record { f = is.f ∙ sym place.f; me = is.me ∙ sym place.me; start = is.start ∙ ap m.start (sym place.setup); right = is.right }

  -- what opens after an event that keeps the place opens before it
  pub opens_kept : (old new : ShownSite C S B) (boot : Boot) (x : SiteState H C) → KeepsPlace old new → Opens m new boot x → Opens m old boot x
  opens_kept old new boot x place opens = record {
    is = record { f = opens.is.f ∙ place.f; me = opens.is.me ∙ place.me; start = opens.is.start ∙ ap m.start place.setup; right = opens.is.right };
    site = opens.site ∙ ap (λ f. opening_site f boot) place.f;
  }

  module _ (old new : ShownSite C S B) (x : SiteState H C) (event : EventOf C R O) (shows : Shows m c old x) (place : KeepsPlace old new) where
    -- the replica's step is its site's
    step_is : step_in {R = R} {O = O} x event ≡ site_step x.choose old.f old.me (site_shown c.held old x.site.collected.acks) event
    step_is = λ i. site_step x.choose (shows.is.f i) (shows.is.me i) (shows.site i) event

    right : IsRight old.f x.choose
    right = subst (λ f. IsRight f x.choose) shows.is.f shows.is.right

    module _ (out : OutcomeOf C R O) (handles : Handles m c old new event (Ok out)) where
      does : Does m c old new out (step_in x event)
      does = subst (Does m c old new out) (sym step_is) (handles.step x.choose x.site.collected.acks right shows.acks)

      pub did : Comes m x event (Did out.sent.items out.dropped) × Shows m c new (after x event (Did out.sent.items out.dropped))
      did = let d = does in (
        record { sends = d.sent ∙ (λ i. envelopes m (sym shows.is.start i) (sym shows.is.me i) (step_in x event)); ending = d.ending },
        record {
          is = still old new (record x { site = (step_in x event).site }) place
              (record { f = shows.is.f; me = shows.is.me; start = shows.is.start; right = shows.is.right });
          acks = d.acks;
          site = d.site;
        },
      )

    module _ (why : SiteFault) (handles : Handles m c old new event (Err why)) (allowed : None ≡ refusal old.f old.me (site_shown c.held old []) event) where
      falls : Falls c old new x.site (step_in x event) why
      falls =
          let named = handles.fall (sym allowed) x.choose x.site.collected.acks right shows.acks in
          subst (λ step. Falls c old new x.site step why) (sym step_is)
          (subst (λ y. Falls c old new y (site_step x.choose old.f old.me (site_shown c.held old x.site.collected.acks) event) why) (sym shows.site) named)

      down_over : (y z : Site C) (b : Boot) → y ≡ over b status.Down → y ≡ over y.cell status.Down
      down_over y z b e = e ∙ ap (λ k. over k status.Down) (sym (ap (λ w. w.cell) e))

      is_over : site_shown c.held new [] ≡ over (c.held new.cell) status.Down
      is_over = elim falls.site.down [ inl e ↦ down_over _ x.site _ e | inr e ↦ down_over _ x.site _ e ]

      pub ends : (step_in x event).ending ≡ Handled
      ends = falls.handled

      pub fell : (cell : Boot) → cell ≡ c.held new.cell → Comes m x event (Fell why cell) × Shows m c new (after x event (Fell why cell))
      fell cell held =
          let f = falls in
          let there : over cell status.Down ≡ site_shown c.held new [] = ap (λ b. over b status.Down) held ∙ sym is_over in (
            (
              record { allowed = f.site.allowed; down = elim f.site.down [ inl e ↦ inl (there ∙ e) | inr e ↦ inr (there ∙ e) ] },
              elim f.fault [ inl e ↦ inl e | inr e ↦ inr e.0 ],
            ),
            record {
              is =
                  still old new (record x { site = over cell status.Down }) place
                  (record { f = shows.is.f; me = shows.is.me; start = shows.is.start; right = shows.is.right });
              acks = f.acks;
              site = there;
            },
          )

  -- a crash that is not refused is taken
  no_crash : (old : ShownSite C S B) (event : EventOf C R O) (why : SiteFault)
      → (event ≡ Crash → old.volatile.status ≢ status.Down → IsOk {T = OutcomeOf C R O} (Err why))
      → None ≡ refusal old.f old.me (site_shown c.held old []) event → event ≢ Crash
  no_crash old event why taken allowed crash = absurd (true≢false (sym (taken crash up)))
    where
      at : refusal {C = C} {R = R} {O = O} old.f old.me (site_shown c.held old []) Crash ≡ None
      at = subst (λ (e : EventOf C R O). refusal old.f old.me (site_shown c.held old []) e ≡ None) crash (sym allowed)

      up : old.volatile.status ≢ status.Down
      up down = none-some NotUp (sym at ∙ ap (λ (s : Status). if is_down s then Some NotUp else None) down)

  -- what a replica tells of its fall in place of an event is why it fell
  pub fell_by_cause : (old new : ShownSite C S B) (event : EventOf C R O) (why : SiteFault) (told : Result (OutcomeOf C R O) SiteFault) → told ≡ Err why
      → KeepsPlace old new → Handles m c old new event (Err why)
      → None ≡ refusal old.f old.me (site_shown c.held old []) event
      → (event ≡ Crash → old.volatile.status ≢ status.Down → IsOk {T = OutcomeOf C R O} (Err why))
      → (told ≡ Err CellFault → HasRisen (c.faults old.cell) (c.faults new.cell))
      → (told ≢ Err CellFault → c.faults new.cell ≡ c.faults old.cell)
      → HasCause m c old new event why
  fell_by_cause old new event why told told_is place handles allowed taken cause counted = record {
    handled = λ x shows. record { no_crash = no_crash old event why taken allowed; handled = ends old new x event shows place why handles allowed };
    failed = λ is. cause (told_is ∙ ap (λ w. Err w) is);
    counted = λ other. counted (λ is. other (same told why told_is is));
  }
    where
      same : (r : Result (OutcomeOf C R O) SiteFault) (a : SiteFault) → r ≡ Err a → r ≡ Err CellFault → a ≡ CellFault
      same r a p q = cc

  module _ (old mid now : ShownSite C S B) (event : EventOf C R O) (fallen : now ≡ record mid { volatile = lost }) where
    left : KeepsPlace mid now
    left = record { f = ap (λ v. v.f) fallen; me = ap (λ v. v.me) fallen; setup = ap (λ v. v.setup) fallen }

    pub fall_kept : (boot : Boot) (x : SiteState H C) → Opens m now boot x → Opens m mid boot x
    fall_kept boot x = opens_kept mid now boot x left

    -- the site fell after its step, over what its cell then held
    pub fell_over : (cell : Boot) (sent : List (EnvelopeOf C R O)) (dropped : Option Why) (x : SiteState H C) → cell ≡ c.held now.cell
        → Comes m x event (Did sent dropped) × Shows m c mid (after x event (Did sent dropped))
        → Comes m x event (Fell NoMemory cell) × Shows m c now (after x event (Fell NoMemory cell))
    fell_over cell sent dropped x held (out, shows) =
        let last : cell ≡ c.held mid.cell = held ∙ ap (λ v. c.held v.cell) fallen in (
          (
            record {
              allowed = ap is_refused out.ending ∙ ended_allowed dropped;
              down = inr (ap (λ b. over b status.Down) (last ∙ sym (ap (λ y. y.cell) shows.site)));
            },
            inl refl,
          ),
          record {
            is =
                still mid now (record x { site = over cell status.Down }) left
                (record { f = shows.is.f; me = shows.is.me; start = shows.is.start; right = shows.is.right });
            acks = subst (λ (v : ShownSite C S B). SumUp v.volatile.acked []) (sym fallen) none_summed;
            site = ap (λ b. over b status.Down) last ∙ sym (ap (λ v. site_shown c.held v []) fallen);
          },
        )

    -- so it is where a copy of what it sent was refused
    pub fell_after : (cell : Boot) (came : CameOf C R O) (x : SiteState H C) → cell ≡ c.held now.cell → HasSent came
        → Comes m x event came × Shows m c mid (after x event came) → Comes m x event (Fell NoMemory cell) × Shows m c now (after x event (Fell NoMemory cell))
    fell_after cell (Did sent dropped) x held some both = fell_over cell sent dropped x held both
    fell_after cell (Refused why) x held some both = absurd some
    fell_after cell (Fell why other) x held some both = absurd some

    -- and why it fell
    pub after_by_cause : (came : CameOf C R O) → HasSent came → Tells m c old mid event came
        → ((x : SiteState H C) → Shows m c old x → Comes m x event came × Shows m c mid (after x event came)) → HasCause m c old now event NoMemory
    after_by_cause (Did sent dropped) some counted step = record {
      handled = λ x shows. handled x ((step x shows).0);
      failed = λ is. absurd (cc);
      counted = λ other. ap (λ (v : ShownSite C S B). c.faults v.cell) fallen ∙ counted;
    }
      where
        said : (x : SiteState H C) → Comes m x event (Did sent dropped) → IsSilent (step_in {R = R} {O = O} x event) → ⊥
        said x out silent = some (out.sends ∙ silent-sends m x.start x.me (step_in x event) silent)

        handled_as : (x : SiteState H C) → Comes m x event (Did sent dropped) → (why : Option Why) → (step_in {R = R} {O = O} x event).ending ≡ ended why
            → (step_in {R = R} {O = O} x event).ending ≡ Handled
        handled_as x out None e = e
        handled_as x out (Some why) e = absurd (said x out (dropped-silent R O x.choose x.f x.me x.site event why e))

        handled : (x : SiteState H C) → Comes m x event (Did sent dropped) → IsHandled {R = R} {O = O} x event
        handled x out = record {
          no_crash = λ crash. said x out (subst (λ (e : EventOf C R O). IsSilent (step_in x e)) (sym crash) (crash-silent R O x.choose x.f x.me x.site));
          handled = handled_as x out dropped out.ending;
        }
    after_by_cause (Refused why) some counted step = absurd some
    after_by_cause (Fell why cell) some counted step = absurd some

  -- a new replica shows the site that it opens as
  pub opened : (v : ShownSite C S B) (boot : Boot) (x : SiteState H C) → SumUp v.volatile.acked [] → site_shown c.held v [] ≡ opening_site v.f boot
      → Opens m v boot x → Shows m c v x
  opened v boot x summed site opens =
      let none : x.site.collected.acks ≡ [] = ap (λ y. y.collected.acks) (opens.site ∙ sym site) in
      record {
        is = opens.is;
        acks = subst (SumUp v.volatile.acked) (sym none) summed;
        site = opens.site ∙ sym site ∙ ap (site_shown c.held v) (sym none);
      }
