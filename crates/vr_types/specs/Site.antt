-- The state of a site, apart from how it is stored. The machine is no part of it, as the executed rows determine it.
use Rattle.std.specs.Prelude.{ℕ, ◌+◌, ◌*◌, ◌==◌, Bool, true, false, List, [], replicate, take, get_or, slice_set, Option, if◌then◌else◌}
use Rattle.std.specs.List.{list_any}
use Rattle.vr_types.specs.declared.cell.Boot.{Boot}
use Rattle.vr_types.specs.declared.event.Status.{Status}
use Rattle.vr_types.specs.declared.event.Status.TheVariants.{Normal, Change, Recovering, Down}
use Rattle.vr_types.specs.declared.message.StateOf.{StateOf}
use Rattle.vr_types.specs.declared.row.RowOf.{RowOf}
use Rattle.vr_types.specs.Cell.{is_new, nonce_of}

-- a PREPAREOK that came: its sender, the place that it names, and how many rows the log had then
pub record Ack : Type 0 where
  pub from : ℕ
  pub place : ℕ
  pub rows : ℕ

-- a STARTVIEWCHANGE that came: its sender, and what that knew
pub record Start : Type 0 where
  pub from : ℕ
  pub known : List ℕ

-- a DOVIEWCHANGE: its sender, the last view in which that was normal, how many rows it had executed, its log, and what
-- it knew
pub record Vote (C : Type 0) : Type 0 where
  pub from : ℕ
  pub last_normal : ℕ
  pub done : ℕ
  pub log : List (RowOf C)
  pub known : List ℕ

-- a RECOVERYRESPONSE that came: its sender, that site's view, the state of the view where its primary answered, and
-- what the sender knew
pub record Response (C : Type 0) : Type 0 where
  pub from : ℕ
  pub view : ℕ
  pub state : Option (StateOf C)
  pub known : List ℕ

-- the messages that a site collects
pub record Collected (C : Type 0) : Type 0 where
  pub acks : List Ack  -- all PREPAREOKs of this view, at its primary
  pub starts : List Start  -- the first STARTVIEWCHANGE of each site, of this view
  pub voted : Bool  -- its own DOVIEWCHANGE of this view is made
  pub votes : List (Vote C)  -- the first DOVIEWCHANGE of each site, at the primary of this view
  pub responses : List (Response C)  -- of each site the RECOVERYRESPONSE of its greatest view, while it recovers

pub record Site (C : Type 0) : Type 0 where
  pub status : Status
  pub view : ℕ
  pub last_normal : ℕ  -- the last view in which it was normal
  pub log : List (RowOf C)
  pub done : ℕ  -- how many rows of the log are executed: the commit-number
  pub collected : Collected C
  pub known : List ℕ  -- of each site the greatest boot number that it has heard of
  pub cell : Boot  -- what outlives a crash

-- nothing is collected
abbrev pub nothing : {C : Type 0} → Collected C
nothing = record { acks = []; starts = []; voted = false; votes = []; responses = [] }

-- a site that has lost all but its cell
abbrev pub over : {C : Type 0} → Boot → Status → Site C
over cell status =
    record {
      status = status;
      view = 0;
      last_normal = 0;
      log = [];
      done = 0;
      collected = nothing;
      known = [];
      cell = cell;
    }

-- no boot of any site is known
abbrev pub no_boots : ℕ → List ℕ
no_boots f = replicate (2 * f + 1) 0

-- a new site: over a cell that was never saved it is normal, in view 0 with an empty log; over any other it is down
abbrev pub opening_site : {C : Type 0} → ℕ → Boot → Site C
opening_site f cell = if is_new cell then record (over cell Normal) { known = no_boots f } else over cell Down

-- a site after a restart, over the cell that the restart saved: the only boot number that it knows is its own
abbrev pub restarted : {C : Type 0} → ℕ → ℕ → Boot → Site C
restarted f me cell = record (over cell Recovering) { known = slice_set (no_boots f) me (nonce_of cell) }

-- the boot number of a site, as far as it is known: 0 where nothing is
abbrev pub boot_of : List ℕ → ℕ → ℕ
boot_of known j = get_or known j 0

abbrev pub is_normal : Status → Bool
is_normal Normal = true
is_normal Change = false
is_normal Recovering = false
is_normal Down = false

abbrev pub is_change : Status → Bool
is_change Normal = false
is_change Change = true
is_change Recovering = false
is_change Down = false

abbrev pub is_recovering : Status → Bool
is_recovering Normal = false
is_recovering Change = false
is_recovering Recovering = true
is_recovering Down = false

abbrev pub is_down : Status → Bool
is_down Normal = false
is_down Change = false
is_down Recovering = false
is_down Down = true

-- a running site, one that is normal or in change, has a log and a machine
abbrev pub is_running : Status → Bool
is_running Normal = true
is_running Change = true
is_running Recovering = false
is_running Down = false

-- the rows that a site has executed
abbrev pub executed_rows : {C : Type 0} → Site C → List (RowOf C)
executed_rows x = if is_running x.status then take x.done x.log else []

-- a STARTVIEWCHANGE of this site is kept
abbrev pub has_start : List Start → ℕ → Bool
has_start starts j = list_any (λ start. start.from == j) starts

-- a DOVIEWCHANGE of this site is kept
abbrev pub has_vote : {C : Type 0} → List (Vote C) → ℕ → Bool
has_vote votes j = list_any (λ vote. vote.from == j) votes

-- a RECOVERYRESPONSE of this site is kept
abbrev pub has_response : {C : Type 0} → List (Response C) → ℕ → Bool
has_response responses j = list_any (λ response. response.from == j) responses
