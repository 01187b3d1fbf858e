-- What a replica shows, and what it means that it handles an event.
use Rattle.std.specs.Prelude.{◌≡◌, ◌⊎◌, ℕ, List, [], Some, None, Result, Err, IfOk, IfErr}
use Rattle.std.specs.declared.alloc.AllocError.{AllocError}
use Rattle.vr_types.specs.declared.cell.Boot.{Boot}
use Rattle.vr_types.specs.declared.cell.BootCell.{Ghosts as Cell}
use Rattle.vr_types.specs.declared.event.EventOf.{EventOf}
use Rattle.vr_types.specs.declared.event.OutcomeOf.{OutcomeOf}
use Rattle.vr_types.specs.declared.event.SiteFault.{SiteFault}
use Rattle.vr_types.specs.declared.event.SiteFault.TheVariants.{NoMemory, CellFault}
use Rattle.vr_types.specs.declared.machine.Machine.{Ghosts}
use Rattle.vr_types.specs.Choice.{Choice, IsRight}
use Rattle.vr_types.specs.Handling.{IsFall, envelopes, refusal, on_event, site_step}
use Rattle.vr_types.specs.Site.{Ack, Site}
use Rattle.vr_types.specs.Step.{Step, Handled}
use Rattle.vr_log.specs.Outcomes.{ended}
use Rattle.vr_log.specs.declared.running.Running.{Running}
use Rattle.vr_log.specs.Running.{SumUp, IsSound, IsRunning, Follows, site_of}
use Rattle.vr_recover.specs.declared.progress.Progress.{Progress}
use Rattle.vr_recover.specs.declared.recovering.RecoveringOf.{RecoveringOf}
use Rattle.vr_recover.specs.Progress.{FollowsProgress}
use Rattle.vr_recover.specs.Recovering.{recovering_site}
use Rattle.vr_site.specs.declared.life.Life.{Life}
use Rattle.vr_site.specs.Life.{Volatile, volatile_of, site_with}
use Rattle.vr_site.specs.Saving.{IsOneSave, IsSavedAtMostOnce}

-- what a replica shows: B is the type of its cell
pub record ShownSite (C S B : Type 0) : Type 0 where
  pub f : ℕ
  pub me : ℕ
  pub setup : S
  pub cell : B
  pub volatile : Volatile C

-- what is shown of the parts
abbrev pub shown : {H C R O S B : Type 0} → ℕ → ℕ → S → B → Life H C R O S → ShownSite C S B
shown f me setup cell life = record { f = f; me = me; setup = setup; cell = cell; volatile = volatile_of life }

-- the same over another cell
abbrev pub with_cell : {C S B D : Type 0} → ShownSite C S B → D → ShownSite C S D
with_cell v cell = record { f = v.f; me = v.me; setup = v.setup; cell = cell; volatile = v.volatile }

-- the site that is shown, where these acknowledgements came; held is what a cell holds
abbrev pub site_shown : {C S B : Type 0} → (B → Boot) → ShownSite C S B → List Ack → Site C
site_shown held v acks = site_with v.volatile acks (held v.cell)

-- its place in the group stays, and so does what it was made from
pub record KeepsPlace {C S B : Type 0} (old new : ShownSite C S B) : Type 0 where
  pub f : new.f ≡ old.f
  pub me : new.me ≡ old.me
  pub setup : new.setup ≡ old.setup

-- What was done is the step: what is shown is the site after it, the outcome is the step's, and the rest is as before.
-- The cell is saved at most once, and only if it held another value.
pub record Does {H C R O S B : Type 0} (m : Ghosts H C R O S) (c : Cell B) (old new : ShownSite C S B)
    (out : OutcomeOf C R O) (step : Step C R O) : Type 0 where
  pub f : new.f ≡ old.f
  pub me : new.me ≡ old.me
  pub setup : new.setup ≡ old.setup
  pub acks : SumUp new.volatile.acked step.site.collected.acks
  pub site : step.site ≡ site_shown c.held new step.site.collected.acks
  pub saved : IsSavedAtMostOnce c old.cell step.site.cell new.cell
  pub sent : out.sent.items ≡ envelopes m (m.start old.setup) old.me step
  pub ending : step.ending ≡ ended out.dropped

-- The site fell in place of the step, only where the event is handled and not dropped: for lack of memory, or because
-- the one save of the step's value failed.
pub record Falls {C R O S B : Type 0} (c : Cell B) (old new : ShownSite C S B) (x : Site C) (step : Step C R O)
    (why : SiteFault) : Type 0 where
  pub f : new.f ≡ old.f
  pub me : new.me ≡ old.me
  pub setup : new.setup ≡ old.setup
  pub acks : SumUp new.volatile.acked []
  pub site : IsFall x step (site_shown c.held new [])
  pub saved : IsSavedAtMostOnce c old.cell step.site.cell new.cell
  pub handled : step.ending ≡ Handled
  pub fault : (why ≡ NoMemory) ⊎ ((why ≡ CellFault) × IsOneSave c old.cell step.site.cell new.cell)

-- An event was handled as the site step says, for any right choice and any acknowledgements that the kept numbers sum
-- up.
pub record Handles {H C R O S B : Type 0} (m : Ghosts H C R O S) (c : Cell B) (old new : ShownSite C S B)
    (event : EventOf C R O) (result : Result (OutcomeOf C R O) SiteFault) : Type 0 where
  -- an outcome is the step's
  pub step : IfOk result (λ out. (choose : Choice C) (acks : List Ack) → IsRight old.f choose
      → SumUp old.volatile.acked acks →
      Does m c old new out (site_step choose old.f old.me (site_shown c.held old acks) event))
  -- an event that is refused changes nothing, and the fault is the refusal
  pub refused : (fault : SiteFault) → refusal old.f old.me (site_shown c.held old []) event ≡ Some fault
      → (result ≡ Err fault) × (new ≡ old)
  -- any other fault is a fall
  pub fall : refusal old.f old.me (site_shown c.held old []) event ≡ None
      → IfErr result (λ fault. (choose : Choice C) (acks : List Ack) → IsRight old.f choose
      → SumUp old.volatile.acked acks →
      Falls c old new (site_shown c.held old acks) (site_step choose old.f old.me (site_shown c.held old acks) event)
      fault)

-- A running site follows the step of an event that is not refused, with its running state afterwards and what was
-- done. The step saves nothing.
pub record Serves {H C R O S : Type 0} (m : Ghosts H C R O S) (start : H) (f me : ℕ) (cell : Boot)
    (old new : Running H C R O S) (done : Result (OutcomeOf C R O) AllocError) (event : EventOf C R O) : Type 0 where
  pub sound : IsSound m start f old
  pub allowed : refusal f me (site_of old [] cell) event ≡ None
  pub follows : (choose : Choice C) (acks : List Ack) → IsRight f choose → IsRunning m start f old acks
      → Follows m start f me new done (on_event choose f me (site_of old acks cell) event)
  pub saves : (choose : Choice C) (acks : List Ack)
      → (on_event choose f me (site_of old acks cell) event).site.cell ≡ cell

-- A recovering site follows the step of an event that is not refused, with what it keeps afterwards and the result.
pub record Awaits {H C R O S : Type 0} (f me : ℕ) (cell : Boot) (old new : RecoveringOf C)
    (progress : Result (Progress H C R O S) AllocError) (event : EventOf C R O) : Type 0 where
  pub allowed : refusal f me (recovering_site old [] cell) event ≡ None
  pub follows : (choose : Choice C) (acks : List Ack) → IsRight f choose
      → FollowsProgress new acks cell progress (on_event choose f me (recovering_site old acks cell) event)
