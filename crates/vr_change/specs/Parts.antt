-- A rule that is taken in parts.
use Rattle.std.specs.Prelude.{◌≡◌, ℕ, ◌||◌, Bool, false, not, nat_lt, List, [], length, if◌then◌else◌}
use Rattle.vr_types.specs.declared.event.Why.TheVariants.{Stale}
use Rattle.vr_types.specs.declared.machine.Machine.{Ghosts}
use Rattle.vr_types.specs.declared.message.EnvelopeOf.{EnvelopeOf}
use Rattle.vr_types.specs.declared.row.RowOf.{RowOf}
use Rattle.vr_types.specs.Change.{Part, starts_view, with_start, with_vote, votes_where_due, opens_where_due, opened_with, own_vote}
use Rattle.vr_types.specs.Choice.{Choice}
use Rattle.vr_types.specs.Site.{Site, Start, Vote}
use Rattle.vr_types.specs.Step.{Step, drops, learns, begins_with_executed}
use Rattle.vr_log.specs.declared.running.Running.{Running}
use Rattle.vr_log.specs.Running.{IsRunning, SumUp, site_of}
use Rattle.vr_change.specs.Ballot.{with_starter, with_ballot}

-- the running state is that of a site in the middle of a rule, and these are the messages that it has sent so far
pub record IsPart {H C R O S : Type 0} (m : Ghosts H C R O S) (start : H) (f : ℕ) (r : Running H C R O S)
    (mails : List (EnvelopeOf C R O)) (part : Part C R O) : Type 0 where
  pub running : IsRunning m start f r part.site.collected.acks
  pub site : part.site ≡ site_of r part.site.collected.acks part.site.cell
  pub sent : mails ≡ part.sent

-- A view is opened with a log that begins with what the site executed; any other is dropped. The first site is as the
-- message found it, the second as it has learnt.
abbrev pub opens_with : {C R O : Type 0} → Choice C → ℕ → ℕ → Site C → Site C → List (EnvelopeOf C R O) → List (RowOf C)
    → ℕ → Step C R O
opens_with choose f me x y sent log k =
    if not (begins_with_executed choose.same y log) then drops x Stale
    else opened_with f me log k (record { site = y; sent = sent })

-- A view is opened by a ballot, at a site that learns what was told: with the log of the picked vote, and up to the
-- largest commit-number of the votes.
abbrev pub opens_by : {C R O : Type 0} → Choice C → ℕ → ℕ → List ℕ → Site C → List (EnvelopeOf C R O) → List (Vote C)
    → Step C R O
opens_by choose f me told x sent ballot =
    opens_with choose f me x (learns told x) sent (choose.pick ballot).log (choose.most_done ballot)

-- a later view is started by a site that has learnt what was told
abbrev pub starts_learnt : {C R O : Type 0} → ℕ → ℕ → ℕ → List ℕ → Site C → Part C R O
starts_learnt f me w told x =
    if nat_lt x.view w then starts_view f me w (learns told x) else record { site = x; sent = [] }

-- The rest of a STARTVIEWCHANGE at a site that takes part in the change: it learns what the message tells, keeps it,
-- votes where that is due, and opens the view where it can.
abbrev pub start_goes_on : {C R O : Type 0} → Choice C → ℕ → ℕ → Start → Site C → List (EnvelopeOf C R O) → Step C R O
start_goes_on choose f me start x sent =
    opens_where_due choose f me x
    (votes_where_due f me (record { site = with_start start (learns start.known x); sent = sent }))

-- the rest of a DOVIEWCHANGE at the primary of its view
abbrev pub vote_goes_on : {C R O : Type 0} → Choice C → ℕ → ℕ → Vote C → Site C → List (EnvelopeOf C R O) → Step C R O
vote_goes_on choose f me vote x sent =
    opens_where_due choose f me x (record { site = with_vote vote (learns vote.known x); sent = sent })

-- The site where a STARTVIEWCHANGE is kept at the primary of its view, and its own vote, if it votes.
abbrev pub gathered : {C : Type 0} → Bool → ℕ → Start → Site C → Site C
gathered votes me start x = record x {
  collected = record (x.collected) {
    starts = with_starter x.collected.starts start;
    voted = votes || x.collected.voted;
    votes = if votes then with_ballot x.collected.votes (own_vote me x) else x.collected.votes;
  };
}

-- nothing is collected: no acknowledgement, no STARTVIEWCHANGE, no vote, and the site's own vote is not made
pub record HasCollectedNothing {H C R O S : Type 0} (r : Running H C R O S) : Type 0 where
  pub acked : SumUp r.acked.items []
  pub starts : r.starts.items ≡ []
  pub voted : r.voted ≡ false
  pub votes : r.votes.items ≡ []

-- what was collected in a view is given up, for the same number of sites, and all else stays
pub record GivesUpCollected {H C R O S : Type 0} (old new : Running H C R O S) : Type 0 where
  pub nothing : HasCollectedNothing new
  pub sites : length new.acked.items ≡ length old.acked.items
  pub status : new.status ≡ old.status
  pub view : new.view ≡ old.view
  pub last_normal : new.last_normal ≡ old.last_normal
  pub kept : new.kept ≡ old.kept
  pub known : new.known ≡ old.known
