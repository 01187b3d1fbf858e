-- What a crash takes from a site: its volatile state.
use Rattle.std.specs.Prelude.{ℕ, Bool, false, List, [], map}
use Rattle.vr_types.specs.declared.cell.Boot.{Boot}
use Rattle.vr_types.specs.declared.event.Status.{Status}
use Rattle.vr_types.specs.declared.event.Status.TheVariants as status
use Rattle.vr_types.specs.declared.machine.Machine.{Ghosts}
use Rattle.vr_types.specs.declared.row.RowOf.{RowOf}
use Rattle.vr_types.specs.Site.{Ack, Start, Vote, Response, Site}
use Rattle.vr_log.specs.declared.running.Running.{Running}
use Rattle.vr_log.specs.Running.{IsSound, start_of, vote_of}
use Rattle.vr_recover.specs.declared.recovering.RecoveringOf.{RecoveringOf}
use Rattle.vr_recover.specs.Recovering.{responses_of, IsSoundRecovering}
use Rattle.vr_site.specs.declared.life.Life.{Life}
use Rattle.vr_site.specs.declared.life.Life.TheVariants.{Down, Recovering, Up}

pub record Volatile (C : Type 0) : Type 0 where
  pub status : Status
  pub view : ℕ
  pub last_normal : ℕ
  pub log : List (RowOf C)
  pub done : ℕ
  pub acked : List ℕ  -- of each site up to which place it acknowledged
  pub starts : List Start
  pub voted : Bool
  pub votes : List (Vote C)
  pub responses : List (Response C)
  pub known : List ℕ

-- the volatile state of a site without a log: the boot numbers that it knows, and the responses that it keeps
abbrev pub resting : {C : Type 0} → Status → List ℕ → List (Response C) → Volatile C
resting status known responses = record {
  status = status;
  view = 0;
  last_normal = 0;
  log = [];
  done = 0;
  acked = [];
  starts = [];
  voted = false;
  votes = [];
  responses = responses;
  known = known;
}

-- that of a site that is down
abbrev pub lost : {C : Type 0} → Volatile C
lost = resting status.Down [] []

-- that of a site that recovers
abbrev pub awaiting : {C : Type 0} → RecoveringOf C → Volatile C
awaiting r = resting status.Recovering r.known (responses_of r.responses.items)

-- that of a site that is normal or in change
abbrev pub running_volatile : {H C R O S : Type 0} → Running H C R O S → Volatile C
running_volatile r = record {
  status = r.status;
  view = r.view;
  last_normal = r.last_normal;
  log = r.kept.log;
  done = r.kept.done;
  acked = r.acked.items;
  starts = map start_of r.starts.items;
  voted = r.voted;
  votes = map vote_of r.votes.items;
  responses = [];
  known = r.known;
}

-- the volatile state of a life
abbrev pub volatile_of : {H C R O S : Type 0} → Life H C R O S → Volatile C
volatile_of Down = lost
volatile_of (Recovering r) = awaiting r
volatile_of (Up r) = running_volatile r.value

-- the site with this volatile state, over this cell, where these acknowledgements came
abbrev pub site_with : {C : Type 0} → Volatile C → List Ack → Boot → Site C
site_with v acks cell = record {
  status = v.status;
  view = v.view;
  last_normal = v.last_normal;
  log = v.log;
  done = v.done;
  collected = record { acks = acks; starts = v.starts; voted = v.voted; votes = v.votes; responses = v.responses };
  known = v.known;
  cell = cell;
}

-- The running state is sound, and so is what a recovering site keeps.
abbrev pub IsWell : {H C R O S : Type 0} → Ghosts H C R O S → H → ℕ → Life H C R O S → Type 0
IsWell m start f Down = Unit {0}
IsWell m start f (Recovering r) = IsSoundRecovering f r
IsWell m start f (Up r) = IsSound m start f r.value
