-- A world that consists of sites alone: all sites, and all that they ever sent, under any list of events.
use Rattle.std.specs.Prelude.{◌≡◌, ℕ, ◌+◌, ◌*◌, ◌⊎◌, true, false, List, [], ◌∷◌, ◌++◌, length, map, slice_get, slice_set, Contains, Some, ⊤, if◌then◌else◌}
use Rattle.vr_types.specs.declared.cell.Boot.{Boot}
use Rattle.vr_types.specs.declared.event.EventOf.{EventOf}
use Rattle.vr_types.specs.declared.event.EventOf.TheVariants.{Deliver, Timer, Beat, Crash, Restart}
use Rattle.vr_types.specs.declared.event.Status.TheVariants.{Down}
use Rattle.vr_types.specs.declared.message.EnvelopeOf.{EnvelopeOf}
use Rattle.vr_types.specs.Messages.{is_request}
use Rattle.vr_types.specs.Site.{Site, over, opening_site}
use Rattle.vr_types.specs.Choice.{Choice, IsRight}
use Rattle.vr_types.specs.Step.{Step}
use Rattle.vr_types.specs.Handling.{site_step, is_refused, IsFall}

-- a REPLY that was sent: the site that sent it, that site as it was after the step, and the place of the row that is
-- answered
pub record Replied (C : Type 0) : Type 0 where
  pub from : ℕ
  pub sender : Site C
  pub place : ℕ

-- Open orders that were sent: the site that sent them, and that site as it was after the step. They are those of its
-- machine.
pub record Ordered (C : Type 0) : Type 0 where
  pub from : ℕ
  pub sender : Site C

-- the sites, by their numbers, and all that they ever sent
pub record World (C R O : Type 0) : Type 0 where
  pub sites : List (Site C)
  pub sent : List (EnvelopeOf C R O)  -- all that was ever sent to sites
  pub replies : List (Replied C)  -- every REPLY that was ever sent
  pub orders : List (Ordered C)  -- each time that open orders were sent

-- how an event at a site ends: as its step says, or in a fall of the site, over a cell of this value
pub data Course : Type 0 where
  Ends : Course
  FallsOver : Boot → Course

-- what happens: an event, at which site, and how it ends
pub record Happening (C R O : Type 0) : Type 0 where
  pub site : ℕ
  pub event : EventOf C R O
  pub course : Course

-- an event at a site that ends as its step says
abbrev pub step_of : {C R O : Type 0} → ℕ → EventOf C R O → Happening C R O
step_of i event = record { site = i; event = event; course = Ends }

-- What arrives was sent, but a REQUEST of any client may arrive at any time. All else may happen at any time.
abbrev pub MayHappen : {C R O : Type 0} → List (EnvelopeOf C R O) → EventOf C R O → Type 0
MayHappen sent (Deliver envelope) = (is_request envelope.msg ≡ true) ⊎ Contains sent envelope
MayHappen sent Timer = ⊤
MayHappen sent Beat = ⊤
MayHappen sent Crash = ⊤
MayHappen sent Restart = ⊤

-- the replies of a site's step
abbrev pub replied : {C R O : Type 0} → ℕ → Step C R O → List (Replied C)
replied i step = map (λ place. record { from = i; sender = step.site; place = place }) step.replies

-- the open orders that a site's step sends
abbrev pub ordered : {C R O : Type 0} → ℕ → Step C R O → List (Ordered C)
ordered i step = if step.orders then record { from = i; sender = step.site } ∷ [] else []

-- the world after a step of site i
abbrev pub stepped : {C R O : Type 0} → World C R O → ℕ → Step C R O → World C R O
stepped world i step = record {
  sites = slice_set world.sites i step.site;
  sent = world.sent ++ step.sent;
  replies = world.replies ++ replied i step;
  orders = world.orders ++ ordered i step;
}

-- the world after a fall of site i
abbrev pub fallen : {C R O : Type 0} → World C R O → ℕ → Boot → World C R O
fallen world i cell = record world { sites = slice_set world.sites i (over cell Down) }

-- a step that is not refused ends as it says, or in a fall
abbrev pub EndsIn : {C R O : Type 0}
    → World C R O → ℕ → Site C → Step C R O → Course → World C R O → Type 0
EndsIn world i x step Ends after = (is_refused step.ending ≡ false) × (after ≡ stepped world i step)
EndsIn world i x step (FallsOver cell) after =
    IsFall x step (over cell Down) × (after ≡ fallen world i cell)

-- The event happens in this world, and leads to that one. An event that the site refuses does not happen; so an
-- envelope reaches the site that it is addressed to, and no other.
pub record Happens {C R O : Type 0} (choose : Choice C) (f : ℕ) (world : World C R O)
    (h : Happening C R O) (after : World C R O) : Type 0 where
  pub before : Site C
  pub is_there : slice_get world.sites h.site ≡ Some before
  pub may_happen : MayHappen world.sent h.event
  pub ends : EndsIn world h.site before (site_step choose f h.site before h.event) h.course after

-- a list of events leads from a world to another
abbrev pub IsRun : {C R O : Type 0}
    → Choice C → ℕ → World C R O → List (Happening C R O) → World C R O → Type 0
IsRun choose f world [] after = after ≡ world
IsRun {C} {R} {O} choose f world (h ∷ hs) after =
    (next : World C R O) × Happens choose f world h next × IsRun choose f next hs after

-- at the opening nothing was sent, and each site is over its cell
abbrev pub opening_world : {C R O : Type 0} → ℕ → List Boot → World C R O
opening_world f cells =
    record { sites = map (opening_site f) cells; sent = []; replies = []; orders = [] }

-- a legal list of 2f+1 sites leads to this world, from an opening over these cells
pub record IsLegal {C R O : Type 0} (choose : Choice C) (f : ℕ) (cells : List Boot)
    (events : List (Happening C R O)) (world : World C R O) : Type 0 where
  pub all : length cells ≡ 2 * f + 1
  pub run : IsRun choose f (opening_world f cells) events world

-- WHAT EVERY LAW SPEAKS OF: any legal list of 2f+1 sites, from an opening over cells of any value, where the choices
-- that the steps take as given are right; and the world that it leads to.
pub record LegalList (C R O : Type 0) (f : ℕ) : Type 0 where
  pub choose : Choice C
  pub right : IsRight f choose
  pub cells : List Boot
  pub events : List (Happening C R O)
  pub world : World C R O
  pub legal : IsLegal choose f cells events world

-- any continuation of a legal list, and the world that it leads to
pub record Continued {C R O : Type 0} {f : ℕ} (list : LegalList C R O f) : Type 0 where
  pub events : List (Happening C R O)
  pub world : World C R O
  pub run : IsRun list.choose f list.world events world

-- it is no restart
abbrev pub IsNoRestart : {C R O : Type 0} → EventOf C R O → Type 0
IsNoRestart (Deliver envelope) = ⊤
IsNoRestart Timer = ⊤
IsNoRestart Beat = ⊤
IsNoRestart Crash = ⊤
IsNoRestart Restart = ⊥
