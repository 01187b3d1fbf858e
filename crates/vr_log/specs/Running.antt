-- The site that the parts of a running site stand for.
use Rattle.std.specs.Prelude.{◌≡◌, ℕ, ◌+◌, ◌*◌, true, List, [], length, map, nat_le, slice_index, Result, MatchResult}
use Rattle.std.specs.declared.alloc.AllocError.{AllocError}
use Rattle.vr_types.specs.declared.cell.Boot.{Boot}
use Rattle.vr_types.specs.declared.config.Config.{Config}
use Rattle.vr_types.specs.declared.event.OutcomeOf.{OutcomeOf}
use Rattle.vr_types.specs.declared.machine.Machine.{Ghosts}
use Rattle.vr_types.specs.Site.{Ack, Start, Vote, Site, is_running}
use Rattle.vr_types.specs.Choice.{Choice, IsRight, has_acknowledged, OneEach}
use Rattle.vr_types.specs.Step.{Step, Handled}
use Rattle.vr_types.specs.Handling.{envelopes}
use Rattle.vr_log.specs.declared.running.StartOf.{StartOf}
use Rattle.vr_log.specs.declared.running.VoteOf.{VoteOf}
use Rattle.vr_log.specs.declared.running.Running.{Running}
use Rattle.vr_log.specs.Kept.{IsKept}
use Rattle.vr_log.specs.Outcomes.{ended}

-- a kept vote
abbrev pub vote_of : {C : Type 0} → VoteOf C → Vote C
vote_of vote =
    record { from = vote.from; last_normal = vote.last_normal; done = vote.done; log = vote.log; known = vote.known }

-- a kept STARTVIEWCHANGE
abbrev pub start_of : StartOf → Start
start_of start = record { from = start.from; known = start.known }

-- One number for each site sums up the acknowledgements that came: site j has acknowledged the first n rows exactly if
-- n is at most its number.
abbrev pub SumUp : List ℕ → List Ack → Type 0
SumUp acked acks = (j n : ℕ) → has_acknowledged acks n j ≡ nat_le n (slice_index acked j)

-- the site with this running state, over this cell, where these acknowledgements came
abbrev pub site_of : {H C R O S : Type 0} → Running H C R O S → List Ack → Boot → Site C
site_of r acks cell = record {
  status = r.status;
  view = r.view;
  last_normal = r.last_normal;
  log = r.kept.log;
  done = r.kept.done;
  collected =
      record {
        acks = acks;
        starts = map start_of r.starts.items;
        voted = r.voted;
        votes = map vote_of r.votes.items;
        responses = [];
      };
  known = r.known;
  cell = cell;
}

-- the running state is kept from this start, has one number of acknowledged rows and one boot number for each of 2f+1
-- sites, is normal or in change, and keeps at most one vote of each site
pub record IsSound {H C R O S : Type 0} (m : Ghosts H C R O S) (start : H) (f : ℕ) (r : Running H C R O S)
    : Type 0 where
  pub kept : IsKept m start r.kept
  pub sites : length r.acked.items ≡ 2 * f + 1
  pub known : length r.known ≡ 2 * f + 1
  pub up : is_running r.status ≡ true
  pub votes : OneEach (λ vote. vote.from) (map vote_of r.votes.items)

-- the same, where these acknowledgements came
pub record IsRunning {H C R O S : Type 0} (m : Ghosts H C R O S) (start : H) (f : ℕ) (r : Running H C R O S)
    (acks : List Ack) : Type 0 where
  pub sound : IsSound m start f r
  pub summed : SumUp r.acked.items acks

-- What was done is the step: the running state is that of the site after it, and the outcome is the step's.
pub record Meets {H C R O S : Type 0} (m : Ghosts H C R O S) (start : H) (f me : ℕ) (r : Running H C R O S)
    (out : OutcomeOf C R O) (step : Step C R O) : Type 0 where
  pub running : IsRunning m start f r step.site.collected.acks
  pub site : step.site ≡ site_of r step.site.collected.acks step.site.cell
  pub sent : out.sent.items ≡ envelopes m start me step
  pub ending : step.ending ≡ ended out.dropped

-- What was done is the step; or memory was refused, which happens only where the event is handled.
abbrev pub Follows : {H C R O S : Type 0} → Ghosts H C R O S → H → ℕ → ℕ → Running H C R O S
    → Result (OutcomeOf C R O) AllocError → Step C R O → Type 0
Follows m start f me r result step =
    MatchResult result (λ out. Meets m start f me r out step) (λ _. step.ending ≡ Handled)

-- the running state stays sound, from whatever start
abbrev pub StaysSound : {H C R O S : Type 0} → Ghosts H C R O S → ℕ → Running H C R O S → Running H C R O S → Type 0
StaysSound {H = H} m f old new = (start : H) → IsSound m start f old → IsSound m start f new

-- A rule's contract: what was done is the step that the rule makes of the site, whatever the start, the
-- acknowledgements that came, and the cell.
abbrev pub FollowsRule : {H C R O S : Type 0} → Ghosts H C R O S → Config → Running H C R O S → Running H C R O S
    → Result (OutcomeOf C R O) AllocError → (Site C → Step C R O) → Type 0
FollowsRule {H = H} m config old new result rule =
    (start : H) (acks : List Ack) (cell : Boot) → IsRunning m start config.f old acks
    → Follows m start config.f config.me new result (rule (site_of old acks cell))

-- the contract of a rule that takes what it chooses as given, whatever right choice that is
abbrev pub FollowsChoice : {H C R O S : Type 0} → Ghosts H C R O S → Config → Running H C R O S → Running H C R O S
    → Result (OutcomeOf C R O) AllocError → (Choice C → Site C → Step C R O) → Type 0
FollowsChoice {H = H} {C = C} m config old new result rule =
    (choose : Choice C) (start : H) (acks : List Ack) (cell : Boot) → IsRight config.f choose
    → IsRunning m start config.f old acks
    → Follows m start config.f config.me new result (rule choose (site_of old acks cell))
