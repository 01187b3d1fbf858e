-- A replica as an actor: its states, and how events come out.
use Rattle.std.specs.Prelude.{◌≡◌, ◌≢◌, ◌⊎◌, ◌<◌, ℕ, List, [], Option, Some}
use Rattle.vr_types.specs.declared.cell.Boot.{Boot}
use Rattle.vr_types.specs.declared.cell.BootCell.{Ghosts as Cell}
use Rattle.vr_types.specs.declared.event.EventOf.{EventOf}
use Rattle.vr_types.specs.declared.event.EventOf.TheVariants.{Deliver, Timer, Beat, Crash, Restart}
use Rattle.vr_types.specs.declared.event.SiteFault.{SiteFault}
use Rattle.vr_types.specs.declared.event.SiteFault.TheVariants.{NoMemory, CellFault}
use Rattle.vr_types.specs.declared.event.Status.TheVariants as status
use Rattle.vr_types.specs.declared.event.Why.{Why}
use Rattle.vr_types.specs.declared.machine.Machine.{Ghosts}
use Rattle.vr_types.specs.declared.message.EnvelopeOf.{EnvelopeOf}
use Rattle.vr_types.specs.Cell.{HasRisen}
use Rattle.vr_types.specs.Choice.{Choice, IsRight}
use Rattle.vr_types.specs.Handling.{IsFall, envelopes, refusal, site_step}
use Rattle.vr_types.specs.Site.{Site, over, opening_site, boot_of}
use Rattle.vr_types.specs.Step.{Step, Handled}
use Rattle.vr_log.specs.Outcomes.{ended}
use Rattle.vr_log.specs.Running.{SumUp}
use Rattle.vr_site.specs.Replica.{ShownSite, site_shown}
use Rattle.pvp_rooms.specs.declared.site.CameOf.{CameOf}
use Rattle.pvp_rooms.specs.declared.site.CameOf.TheVariants.{Did, Refused, Fell}

-- a site of a group, over a machine that starts so, with the right choices that its steps take as given
pub record SiteState (H C : Type 0) : Type 0 where
  pub f : ℕ
  pub me : ℕ
  pub start : H
  pub choose : Choice C
  pub site : Site C

-- the site's step of an event
abbrev pub step_in : {H C R O : Type 0} → SiteState H C → EventOf C R O → Step C R O
step_in x event = site_step x.choose x.f x.me x.site event

-- what came out is the step's
pub record IsOutcome {H C R O S : Type 0} (m : Ghosts H C R O S) (x : SiteState H C) (step : Step C R O)
    (sent : List (EnvelopeOf C R O)) (dropped : Option Why) : Type 0 where
  pub sends : sent ≡ envelopes m x.start x.me step
  pub ending : step.ending ≡ ended dropped

-- how an event can come out: as the step says, or refused, or as a fall in its place, over a cell that holds this
abbrev pub Comes : {H C R O S : Type 0} → Ghosts H C R O S → SiteState H C → EventOf C R O → CameOf C R O → Type 0
Comes m x event (Did sent dropped) = IsOutcome m x (step_in x event) sent dropped
Comes m x event (Refused why) = refusal x.f x.me x.site event ≡ Some why
Comes m x event (Fell why cell) =
    IsFall x.site (step_in x event) (over cell status.Down) × ((why ≡ NoMemory) ⊎ (why ≡ CellFault))

-- something was sent
abbrev pub HasSent : {C R O : Type 0} → CameOf C R O → Type 0
HasSent (Did sent dropped) = sent ≢ []
HasSent (Refused why) = ⊥
HasSent (Fell why cell) = ⊥

-- the site after an event that came out so
abbrev pub after : {H C R O : Type 0} → SiteState H C → EventOf C R O → CameOf C R O → SiteState H C
after x event (Did sent dropped) = record x { site = (step_in x event).site }
after x event (Refused why) = x
after x event (Fell why cell) = record x { site = over cell status.Down }

-- the replica is this site of its group, over this start
pub record IsSiteOf {H C R O S B : Type 0} (m : Ghosts H C R O S) (v : ShownSite C S B) (x : SiteState H C)
    : Type 0 where
  pub f : x.f ≡ v.f
  pub me : x.me ≡ v.me
  pub start : x.start ≡ m.start v.setup
  pub right : IsRight x.f x.choose

-- the replica opens as this site, over a cell that holds this
pub record Opens {H C R O S B : Type 0} (m : Ghosts H C R O S) (v : ShownSite C S B) (boot : Boot) (x : SiteState H C)
    : Type 0 where
  pub is : IsSiteOf m v x
  pub site : x.site ≡ opening_site v.f boot

-- the replica shows this site: the acknowledgements that came sum up to the numbers that it keeps
pub record Shows {H C R O S B : Type 0} (m : Ghosts H C R O S) (c : Cell B) (v : ShownSite C S B) (x : SiteState H C)
    : Type 0 where
  pub is : IsSiteOf m v x
  pub acks : SumUp v.volatile.acked x.site.collected.acks
  pub site : x.site ≡ site_shown c.held v x.site.collected.acks

-- the event is no crash, and the site would handle it, and neither refuse nor drop it
pub record IsHandled {H C R O : Type 0} (x : SiteState H C) (event : EventOf C R O) : Type 0 where
  pub no_crash : event ≢ Crash
  pub handled : (step_in x event).ending ≡ Handled

-- A FALL HAS ITS CAUSE: a crash fells no site, nor does an event that is dropped; that the cell did not save is
-- reported where a save failed, and only there
pub record HasCause {H C R O S B : Type 0} (m : Ghosts H C R O S) (c : Cell B) (old new : ShownSite C S B)
    (event : EventOf C R O) (why : SiteFault) : Type 0 where
  pub handled : (x : SiteState H C) → Shows m c old x → IsHandled x event
  pub failed : why ≡ CellFault → HasRisen (c.faults old.cell) (c.faults new.cell)
  pub counted : why ≢ CellFault → c.faults new.cell ≡ c.faults old.cell

-- what is reported of an event with this outcome: a refusal changes nothing, and no save failed that is not reported
abbrev pub Tells : {H C R O S B : Type 0} → Ghosts H C R O S → Cell B → ShownSite C S B → ShownSite C S B
    → EventOf C R O → CameOf C R O → Type 0
Tells m c old new event (Did sent dropped) = c.faults new.cell ≡ c.faults old.cell
Tells m c old new event (Refused why) = new ≡ old
Tells m c old new event (Fell why cell) = HasCause m c old new event why

-- a copy of a message takes memory
abbrev pub Brings : {C R O : Type 0} → EventOf C R O → Type 0
Brings (Deliver envelope) = Unit {0}
Brings Timer = ⊥
Brings Beat = ⊥
Brings Crash = ⊥
Brings Restart = ⊥

-- what the replica's reading calls show, but for its machine, is this site's: of what it knows each number, and a group
-- has at most seven sites
pub record Reads {H C S B : Type 0} (c : Cell B) (v : ShownSite C S B) (x : SiteState H C) : Type 0 where
  pub status : v.volatile.status ≡ x.site.status
  pub view : v.volatile.view ≡ x.site.view
  pub log : v.volatile.log ≡ x.site.log
  pub done : v.volatile.done ≡ x.site.done
  pub known : (i : ℕ) → i < 7 → boot_of v.volatile.known i ≡ boot_of x.site.known i
  pub cell : c.held v.cell ≡ x.site.cell
