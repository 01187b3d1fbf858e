-- That a crash, a restart and a beat of a recovering site are handled as the site step says.
use Rattle.std.proofs.Common.{◌≡◌, ◌≢◌, ◌⊎◌, inl, inr, ℕ, ◌+◌, Bool, true, false, List, [], Some, None, if◌then◌else◌, refl, sym, ap, ◌∙◌, subst, append-nil, ◌++◌, arith}
use Rattle.std.specs.Prelude.{Ok, Err}
use Rattle.vr_types.specs.declared.cell.Boot.{Boot}
use Rattle.vr_types.specs.declared.cell.BootCell.{Ghosts as Cell}
use Rattle.vr_types.specs.declared.event.EventOf.TheVariants.{Beat, Crash, Restart}
use Rattle.vr_types.specs.declared.event.OutcomeOf.{OutcomeOf}
use Rattle.vr_types.specs.declared.event.SiteFault.TheVariants.{NoMemory, CellFault}
use Rattle.vr_types.specs.declared.event.Status.TheVariants as status
use Rattle.vr_types.specs.declared.machine.Machine.{Ghosts}
use Rattle.vr_types.specs.declared.message.MsgOf.TheVariants.{Recovery}
use Rattle.vr_types.specs.declared.event.SiteFault.{SiteFault}
use Rattle.vr_types.specs.Cell.{is_spent, nonce_of, raised}
use Rattle.vr_types.specs.Choice.{Choice}
use Rattle.vr_types.specs.Group.{to_all}
use Rattle.vr_types.specs.Handling.{refusal, on_event, on_beat}
use Rattle.vr_types.specs.Recovery.{on_restart}
use Rattle.vr_types.specs.Site.{Ack, Site, over, restarted, is_down}
use Rattle.vr_types.specs.Step.{Step, does}
use Rattle.vr_log.specs.Outcomes.{Sends, ended}
use Rattle.vr_log.specs.Running.{SumUp}
use Rattle.vr_recover.specs.declared.recovering.RecoveringOf.{RecoveringOf}
use Rattle.vr_recover.specs.Recovering.{recovering_site}
use Rattle.vr_site.specs.Life.{Volatile, lost, awaiting, site_with}
use Rattle.vr_site.specs.Replica.{ShownSite, site_shown, Does, Falls, Handles}
use Rattle.vr_site.specs.Saving.{IsOneSave}
use Rattle.vr_site.proofs.Recovering.{beats_is}
use Rattle.vr_site.proofs.Shows.{none_summed, stepped_handles, fell_handles}

-- what is raised was not at its greatest
pub was_raised : (cell boot : Boot) → Some boot ≡ (if is_spent cell then None else Some (raised cell)) → (is_spent cell ≡ false) × (boot ≡ raised cell)
was_raised cell boot = by_test (is_spent cell)
  where
    by_test : (b : Bool) → Some boot ≡ (if b then None else Some (raised cell)) → (b ≡ false) × (boot ≡ raised cell)
    by_test true e = absurd (cc)
    by_test false e = (refl, cc)

-- a restart saves another value than the cell holds
pub raises : (cell : Boot) → cell ≢ raised cell
raises cell = λ h. (let more : nonce_of cell ≡ nonce_of cell + 1 = ap nonce_of h in absurd (omega arith))

-- so what it saves is saved once
pub one_save : {B : Type 0} (c : Cell B) (inside cell new : B) (boot : Boot) → inside ≡ cell → boot ≡ raised (c.held cell) → c.saves inside boot new
    → IsOneSave c cell (raised (c.held cell)) new
one_save c inside cell new boot same e saves = (raises (c.held cell), subst (λ b. c.saves cell b new) e (subst (λ x. c.saves x boot new) same saves))

restart_is : {C R O : Type 0} (f me : ℕ) (x : Site C)
    → ◌≡◌ {A = Step C R O} (on_restart f me x) (does (restarted f me (raised x.cell)) (to_all f me (Recovery (record { nonce = nonce_of (raised x.cell) }))))
unfolding on_restart
restart_is f me x = refl

module _ {H C R O S B : Type 0} (m : Ghosts H C R O S) (c : Cell B) (old new : ShownSite C S B)
    (config : (new.f ≡ old.f) × (new.me ≡ old.me) × (new.setup ≡ old.setup)) where
  -- all is lost but the cell
  pub crashed : (out : OutcomeOf C R O) → is_down old.volatile.status ≡ false → new.volatile ≡ lost → new.cell ≡ old.cell → Sends out []
      → Handles {H = H} {C = C} {R = R} {O = O} m c old new Crash (Ok out)
  crashed out up volatile cell s = stepped_handles m c old new Crash out (rw up) (λ choose acks right summed. record {
    f = config.0;
    me = config.1;
    setup = config.2;
    acks = subst (λ (u : Volatile C). SumUp u.acked []) (sym volatile) none_summed;
    site = ap (λ b. over (c.held b) status.Down) (sym cell) ∙ ap (λ u. site_with u [] (c.held new.cell)) (sym volatile);
    saved = inl cell;
    sent = s.mails;
    ending = ap ended (sym s.dropped);
  })

  module _ (down : old.volatile.status ≡ status.Down) (more : is_spent (c.held old.cell) ≡ false) where
    abbrev now : Boot
    now = raised (c.held old.cell)

    -- a restart is not refused
    may_restart : refusal {C = C} {R = R} {O = O} old.f old.me (site_shown c.held old []) Restart ≡ None
    may_restart = rw (down, more)

    -- it came up again, and asked all
    pub restarted_on : (out : OutcomeOf C R O) (r : RecoveringOf C) → recovering_site r [] now ≡ restarted old.f old.me now → new.volatile ≡ awaiting r
        → c.held new.cell ≡ now → IsOneSave c old.cell now new.cell
        → Sends out (to_all old.f old.me (Recovery (record { nonce = nonce_of now }))) → Handles {H = H} {C = C} {R = R} {O = O} m c old new Restart (Ok out)
    restarted_on out r site volatile cell saved s = stepped_handles m c old new Restart out may_restart (λ choose acks right summed.
        let told = to_all {C = C} {R = R} {O = O} old.f old.me (Recovery (record { nonce = nonce_of now })) in
        subst (Does m c old new out) (sym (restart_is old.f old.me (site_shown c.held old acks)))
        (record {
          f = config.0;
          me = config.1;
          setup = config.2;
          acks = subst (λ (u : Volatile C). SumUp u.acked []) (sym volatile) none_summed;
          site = sym site ∙ ap (recovering_site r []) (sym cell) ∙ ap (λ u. site_with u [] (c.held new.cell)) (sym volatile);
          saved = inr saved;
          sent = s.mails ∙ sym (append-nil told) ∙ sym (append-nil (told ++ []));
          ending = ap ended (sym s.dropped);
        }))

    -- the cell did not save, or a growth was refused
    pub restart_fell : (fault : SiteFault) → (fault ≡ NoMemory) ⊎ (fault ≡ CellFault) → new.volatile ≡ lost
        → (c.held new.cell ≡ c.held old.cell) ⊎ (c.held new.cell ≡ now)
        → IsOneSave c old.cell now new.cell
        → Handles {H = H} {C = C} {R = R} {O = O} m c old new Restart (Err fault)
    restart_fell fault why volatile cell saved = fell_handles m c old new Restart fault may_restart (λ choose acks right summed.
        subst (λ step. Falls c old new (site_shown c.held old acks) step fault) (sym (restart_is old.f old.me (site_shown c.held old acks)))
        (record {
          f = config.0;
          me = config.1;
          setup = config.2;
          acks = subst (λ (u : Volatile C). SumUp u.acked []) (sym volatile) none_summed;
          site = record { allowed = refl; down = by_cell cell };
          saved = inr saved;
          handled = refl;
          fault = by_fault why;
        }))
      where
        by_fault : (fault ≡ NoMemory) ⊎ (fault ≡ CellFault) → (fault ≡ NoMemory) ⊎ ((fault ≡ CellFault) × IsOneSave c old.cell now new.cell)
        by_fault (inl e) = inl e
        by_fault (inr e) = inr (e, saved)

        by_cell : (c.held new.cell ≡ c.held old.cell) ⊎ (c.held new.cell ≡ now)
            → (site_shown c.held new [] ≡ over (c.held old.cell) status.Down) ⊎ (site_shown c.held new [] ≡ over now status.Down)
        by_cell (inl e) = inl (ap (λ u. site_with u [] (c.held new.cell)) volatile ∙ ap (λ b. over b status.Down) e)
        by_cell (inr e) = inr (ap (λ u. site_with u [] (c.held new.cell)) volatile ∙ ap (λ b. over b status.Down) e)

  module _ (recovers : old.volatile.status ≡ status.Recovering) where
    may_beat : refusal {C = C} {R = R} {O = O} old.f old.me (site_shown c.held old []) Beat ≡ None
    may_beat = rw recovers

    beat_is : (acks : List Ack) (choose : Choice C) → ◌≡◌ {A = Step C R O} (on_event choose old.f old.me (site_shown c.held old acks) Beat)
        (does (site_shown c.held old acks) (to_all old.f old.me (Recovery (record { nonce = nonce_of (c.held old.cell) }))))
    beat_is acks choose = ap (on_beat old.f old.me (site_shown c.held old acks)) recovers ∙ beats_is old.f old.me (site_shown c.held old acks)

    -- a recovering site asked all again
    pub asked_again : (out : OutcomeOf C R O) → new.volatile ≡ old.volatile → new.cell ≡ old.cell
        → Sends out (to_all old.f old.me (Recovery (record { nonce = nonce_of (c.held old.cell) })))
        → Handles {H = H} {C = C} {R = R} {O = O} m c old new Beat (Ok out)
    asked_again out volatile cell s = stepped_handles m c old new Beat out may_beat (λ choose acks right summed.
        let told = to_all {C = C} {R = R} {O = O} old.f old.me (Recovery (record { nonce = nonce_of (c.held old.cell) })) in
        subst (Does m c old new out) (sym (beat_is acks choose))
        (record {
          f = config.0;
          me = config.1;
          setup = config.2;
          acks = subst (λ (u : Volatile C). SumUp u.acked acks) (sym volatile) summed;
          site = ap (λ u. site_with u acks (c.held old.cell)) (sym volatile) ∙ ap (λ b. site_with new.volatile acks (c.held b)) (sym cell);
          saved = inl cell;
          sent = s.mails ∙ sym (append-nil told) ∙ sym (append-nil (told ++ []));
          ending = ap ended (sym s.dropped);
        }))

    -- it could not, for want of memory
    pub asked_nobody : new.volatile ≡ lost → new.cell ≡ old.cell → Handles {H = H} {C = C} {R = R} {O = O} m c old new Beat (Err NoMemory)
    asked_nobody volatile cell = fell_handles m c old new Beat NoMemory may_beat (λ choose acks right summed.
        subst (λ step. Falls c old new (site_shown c.held old acks) step NoMemory) (sym (beat_is acks choose))
        (record {
          f = config.0;
          me = config.1;
          setup = config.2;
          acks = subst (λ (u : Volatile C). SumUp u.acked []) (sym volatile) none_summed;
          site = record { allowed = refl; down = inl (ap (λ u. site_with u [] (c.held new.cell)) volatile ∙ ap (λ b. over (c.held b) status.Down) cell) };
          saved = inl cell;
          handled = refl;
          fault = inl refl;
        }))
