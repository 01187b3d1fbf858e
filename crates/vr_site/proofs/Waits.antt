-- That what a recovering site kept and regained was handled as the site step says.
use Rattle.std.proofs.Common.{◌≡◌, inl, [], refl, sym, ap, ◌∙◌, subst}
use Rattle.std.specs.Prelude.{Result, Ok, Err}
use Rattle.std.specs.declared.alloc.AllocError.{AllocError}
use Rattle.vr_types.specs.declared.cell.BootCell.{Ghosts as Cell}
use Rattle.vr_types.specs.declared.event.EventOf.{EventOf}
use Rattle.vr_types.specs.declared.event.OutcomeOf.{OutcomeOf}
use Rattle.vr_types.specs.declared.event.SiteFault.TheVariants.{NoMemory}
use Rattle.vr_types.specs.declared.event.Why.{Why}
use Rattle.vr_types.specs.declared.machine.Machine.{Ghosts}
use Rattle.vr_log.specs.declared.running.Running.{Running}
use Rattle.vr_log.specs.Outcomes.{Sends, Drops, ended}
use Rattle.vr_log.specs.Running.{SumUp, IsRunning, site_of}
use Rattle.vr_recover.specs.declared.progress.Progress.{Progress}
use Rattle.vr_recover.specs.declared.progress.Progress.TheVariants.{Dropped, Waits, Regained}
use Rattle.vr_recover.specs.declared.recovering.RecoveringOf.{RecoveringOf}
use Rattle.vr_recover.specs.Recovering.{recovering_site}
use Rattle.vr_site.specs.Life.{Volatile, lost, awaiting, running_volatile, site_with}
use Rattle.vr_site.specs.Replica.{ShownSite, Does, Handles, Awaits}
use Rattle.vr_site.proofs.Shows.{stepped_handles, fell_handles, down_falls}

module _ {H C R O S B : Type 0} (m : Ghosts H C R O S) (c : Cell B) (base : ShownSite C S B) (before now : RecoveringOf C) (event : EventOf C R O) where
  -- the replica before
  abbrev first : ShownSite C S B
  first = record base { volatile = awaiting before }

  -- a growth was refused
  pub waited_short : (progress : Result (Progress H C R O S) AllocError) → ((p : Progress H C R O S) → progress ≡ Ok p → ⊥) → base.volatile ≡ lost
      → Awaits base.f base.me (c.held base.cell) before now progress event → Handles m c first base event (Err NoMemory)
  waited_short (Ok p) not_ok volatile awaits = absurd (not_ok p refl)
  waited_short (Err error) not_ok volatile awaits =
      fell_handles m c first base event NoMemory awaits.allowed
      (λ choose acks right summed. down_falls m c base first.volatile (recovering_site before acks (c.held base.cell)) _ volatile refl
      (awaits.follows choose acks right))

  -- the state was regained, and there was no room for it
  pub regained_short : (r : Running H C R O S) → base.volatile ≡ lost
      → Awaits base.f base.me (c.held base.cell) before now (Ok (Regained r)) event → Handles m c first base event (Err NoMemory)
  regained_short r volatile awaits =
      fell_handles m c first base event NoMemory awaits.allowed
      (λ choose acks right summed. down_falls m c base first.volatile (recovering_site before acks (c.held base.cell)) _ volatile refl
      (ap (λ s. s.ending) (awaits.follows choose acks right)))

  module _ (new : ShownSite C S B) (config : (new.f ≡ base.f) × (new.me ≡ base.me) × (new.setup ≡ base.setup)) where
    -- the event was dropped
    pub waited_dropped : (out : OutcomeOf C R O) (why : Why) → new.volatile ≡ awaiting now → new.cell ≡ base.cell → Drops out why
        → Awaits {H = H} {C = C} {R = R} {O = O} {S = S} base.f base.me (c.held base.cell) before now (Ok (Dropped why)) event
        → Handles m c first new event (Ok out)
    waited_dropped out why volatile cell d awaits = stepped_handles m c first new event out awaits.allowed (λ choose acks right summed.
        subst (Does m c first new out) (sym (awaits.follows choose acks right))
        (record {
          f = config.0;
          me = config.1;
          setup = config.2;
          acks = subst (λ (u : Volatile C). SumUp u.acked acks) (sym volatile) summed;
          site = ap (λ b. recovering_site now acks (c.held b)) (sym cell) ∙ ap (λ u. site_with u acks (c.held new.cell)) (sym volatile);
          saved = inl cell;
          sent = d.mails;
          ending = ap ended (sym d.dropped);
        }))

    -- the response was kept
    pub waited_on : (out : OutcomeOf C R O) → new.volatile ≡ awaiting now → new.cell ≡ base.cell → Sends out []
        → Awaits {H = H} {C = C} {R = R} {O = O} {S = S} base.f base.me (c.held base.cell) before now (Ok Waits) event → Handles m c first new event (Ok out)
    waited_on out volatile cell s awaits = stepped_handles m c first new event out awaits.allowed (λ choose acks right summed.
        subst (Does m c first new out) (sym (awaits.follows choose acks right))
        (record {
          f = config.0;
          me = config.1;
          setup = config.2;
          acks = subst (λ (u : Volatile C). SumUp u.acked acks) (sym volatile) summed;
          site = ap (λ b. recovering_site now acks (c.held b)) (sym cell) ∙ ap (λ u. site_with u acks (c.held new.cell)) (sym volatile);
          saved = inl cell;
          sent = s.mails;
          ending = ap ended (sym s.dropped);
        }))

    -- the state was regained
    pub regained_on : (out : OutcomeOf C R O) (r : Running H C R O S) → IsRunning m (m.start base.setup) base.f r [] → new.volatile ≡ running_volatile r
        → new.cell ≡ base.cell → Sends out []
        → Awaits base.f base.me (c.held base.cell) before now (Ok (Regained r)) event → Handles m c first new event (Ok out)
    regained_on out r runs volatile cell s awaits = stepped_handles m c first new event out awaits.allowed (λ choose acks right summed.
        subst (Does m c first new out) (sym (awaits.follows choose acks right))
        (record {
          f = config.0;
          me = config.1;
          setup = config.2;
          acks = subst (λ (u : Volatile C). SumUp u.acked []) (sym volatile) runs.summed;
          site = ap (λ b. site_of r [] (c.held b)) (sym cell) ∙ ap (λ u. site_with u [] (c.held new.cell)) (sym volatile);
          saved = inl cell;
          sent = s.mails;
          ending = ap ended (sym s.dropped);
        }))
