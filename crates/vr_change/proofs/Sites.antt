-- What runs after a rule shows the site after it.
use Rattle.std.proofs.Common.{◌≡◌, ℕ, List, [], length, map, Bool, true, false, sym, ap, ◌∙◌, subst}
use Rattle.std.specs.Prelude.{Contains}
use Rattle.vr_types.specs.declared.cell.Boot.{Boot}
use Rattle.vr_types.specs.declared.event.Status.TheVariants.{Normal, Change}
use Rattle.vr_types.specs.declared.machine.Machine.{Ghosts}
use Rattle.vr_types.specs.declared.row.RowOf.{RowOf}
use Rattle.vr_types.specs.Choice.{OneEach}
use Rattle.vr_types.specs.Site.{Ack, Site, Start, Vote, nothing, is_running}
use Rattle.vr_types.proofs.ChoosingPick.{Contains-none}
use Rattle.vr_log.specs.declared.running.Running.{Running}
use Rattle.vr_log.specs.Kept.{IsKept}
use Rattle.vr_log.specs.Running.{SumUp, IsSound, IsRunning, site_of, start_of, vote_of}
use Rattle.vr_change.specs.Parts.{HasCollectedNothing}

pub no_votes_one_each : {C : Type 0} (votes : List (Vote C)) → votes ≡ [] → OneEach (λ (vote : Vote C). vote.from) votes
no_votes_one_each votes none = λ a b at _ _. absurd (Contains-none a (subst (λ l. Contains l a) none at))

-- a sound site that gave up what it collected
pub gave_up_sound : {H C R O S : Type 0} (m : Ghosts H C R O S) (start : H) (f : ℕ) (r n : Running H C R O S) → HasCollectedNothing n
    → is_running n.status ≡ true
    → length n.acked.items ≡ length r.acked.items → length n.known ≡ length r.known → IsKept m start n.kept → IsSound m start f r → IsRunning m start f n []
gave_up_sound m start f r n gave up sites known kept was = record {
  sound =
      record {
        kept = kept;
        sites = sites ∙ was.sites;
        known = known ∙ was.known;
        up = up;
        votes = no_votes_one_each (map vote_of n.votes.items) (ap (map vote_of) gave.votes);
      };
  summed = gave.acked;
}

-- a site that is normal in a view, with so many rows of the log executed
abbrev pub normal_with : {C : Type 0} → ℕ → ℕ → List (RowOf C) → List ℕ → Boot → Site C
normal_with w d log known boot = record { status = Normal; view = w; last_normal = w; log = log; done = d; collected = nothing; known = known; cell = boot }

-- the site takes part in a change
pub changed_site : {H C R O S : Type 0} (r n : Running H C R O S) (acks : List Ack) (cell : Boot) (w : ℕ) → HasCollectedNothing n → n.status ≡ Change
    → n.view ≡ w
    → n.last_normal ≡ r.last_normal → n.kept ≡ r.kept → n.known ≡ r.known
    → ◌≡◌ {A = Site C} (record (site_of r acks cell) { status = Change; view = w; collected = nothing }) (site_of n [] cell)
changed_site r n acks cell w gave status view last kept known = λ i. record {
  status = sym status i;
  view = sym view i;
  last_normal = sym last i;
  log = (sym kept i).log;
  done = (sym kept i).done;
  collected = record { acks = []; starts = map start_of (sym gave.starts i); voted = sym gave.voted i; votes = map vote_of (sym gave.votes i); responses = [] };
  known = sym known i;
  cell = cell;
}

-- the site is normal in a view
pub normal_site : {H C R O S : Type 0} (n : Running H C R O S) (boot : Boot) (w d : ℕ) (log : List (RowOf C)) (knows : List ℕ) → HasCollectedNothing n
    → n.status ≡ Normal
    → n.view ≡ w → n.last_normal ≡ w → n.kept.log ≡ log → n.kept.done ≡ d → n.known ≡ knows
    → ◌≡◌ {A = Site C} (normal_with w d log knows boot) (site_of n [] boot)
normal_site n boot w d log knows gave status view last rows done known = λ i. record {
  status = sym status i;
  view = sym view i;
  last_normal = sym last i;
  log = sym rows i;
  done = sym done i;
  collected = record { acks = []; starts = map start_of (sym gave.starts i); voted = sym gave.voted i; votes = map vote_of (sym gave.votes i); responses = [] };
  known = sym known i;
  cell = boot;
}

-- something more is collected, and all else stays
abbrev pub CollectsMore : {H C R O S : Type 0} → Running H C R O S → Running H C R O S → Type 0
CollectsMore r n = n ≡ record r { starts = n.starts; voted = n.voted; votes = n.votes }

pub collects_both : {H C R O S : Type 0} (r k n : Running H C R O S) → CollectsMore r k → CollectsMore k n → CollectsMore r n
collects_both r k n one two = two ∙ (λ i. record (one i) { starts = n.starts; voted = n.voted; votes = n.votes })

-- a sound site that only collected more
pub kept_sound : {H C R O S : Type 0} (m : Ghosts H C R O S) (start : H) (f : ℕ) (r n : Running H C R O S) → CollectsMore r n
    → OneEach (λ (vote : Vote C). vote.from) (map vote_of n.votes.items) → IsSound m start f r → IsSound m start f n
kept_sound m start f r n more votes was = record {
  kept = subst (IsKept m start) (λ i. (sym more i).kept) was.kept;
  sites = ap (λ v. length v.acked.items) more ∙ was.sites;
  known = ap (λ v. length v.known) more ∙ was.known;
  up = ap (λ v. is_running v.status) more ∙ was.up;
  votes = votes;
}

pub kept_running : {H C R O S : Type 0} (m : Ghosts H C R O S) (start : H) (f : ℕ) (r n : Running H C R O S) (acks : List Ack) → CollectsMore r n
    → OneEach (λ (vote : Vote C). vote.from) (map vote_of n.votes.items) → IsRunning m start f r acks → IsRunning m start f n acks
kept_running m start f r n acks more votes was = record {
  sound = kept_sound m start f r n more votes was.sound;
  summed = subst (λ a. SumUp a acks) (λ i. (sym more i).acked.items) was.summed;
}

-- the site that collected this
pub collected_site : {H C R O S : Type 0} (r n : Running H C R O S) (acks : List Ack) (cell : Boot) (starts : List Start) (voted : Bool) (votes : List (Vote C))
    → CollectsMore r n → map start_of n.starts.items ≡ starts → n.voted ≡ voted → map vote_of n.votes.items ≡ votes
    → ◌≡◌ {A = Site C} (record (site_of r acks cell) { collected = record { acks = acks; starts = starts; voted = voted; votes = votes; responses = [] } })
    (site_of n acks cell)
collected_site r n acks cell starts voted votes more es ev eb = λ i. record {
  status = (sym more i).status;
  view = (sym more i).view;
  last_normal = (sym more i).last_normal;
  log = (sym more i).kept.log;
  done = (sym more i).kept.done;
  collected = record { acks = acks; starts = sym es i; voted = sym ev i; votes = sym eb i; responses = [] };
  known = (sym more i).known;
  cell = cell;
}
