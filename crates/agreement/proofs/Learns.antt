-- What a site learns of boots keeps what holds: it merges what a sender knew, or notes whom it answers.
use Rattle.std.proofs.Common.{◌≡◌, ◌⊎◌, inl, inr, ℕ, ◌<◌, ◌≤◌, true, false, not, List, [], length, set, refl, sym, ap, ◌∙◌, subst, arith, length-set}
use Rattle.std.specs.Prelude.{Contains}
use Rattle.std.proofs.lemmas.Bool.{cases_eq}
use Rattle.vr_types.specs.declared.event.Status.TheVariants.{Normal, Change, Recovering}
use Rattle.vr_types.specs.declared.message.MsgOf.TheVariants.{Recovery}
use Rattle.vr_types.specs.Group.{mail}
use Rattle.vr_types.specs.Site.{Start, Vote, Site, boot_of, is_down, is_running}
use Rattle.vr_types.specs.Step.{does, greater, is_outdated, learns}
use Rattle.vr_types.specs.Recovery.{notes}
use Rattle.agreement.proofs.Members.{filter-has, filter-passes}
use Rattle.agreement.proofs.Histories.{History}
use Rattle.vr_types.proofs.Vectors.{Within, greater_left, greater_one_of, greater_long, within-trans, set_here, set_there, set_within}
use Rattle.agreement.proofs.Votes.{WasBoot, never, asked, HasLived, first, again, IsHeard, Hears, IsKeptStart, HasAsked, same_cell, still_recovers}
use Rattle.agreement.proofs.Standing.{StandsRunning}
use Rattle.agreement.proofs.Invariant.{Holds}
use Rattle.agreement.proofs.Moves.{Kept}
use Rattle.agreement.proofs.Parts.{kept_quiet, kept_runs}
use Rattle.agreement.proofs.Tests.{ge_of, not_true, runs_up, normal_runs, recovering_rests}

lived_knowing : {C R O : Type 0} (g : History C R O) (j w : ℕ) (old new : List ℕ) (before : ℕ) → Within old new → boot_of new j ≡ boot_of old j
    → HasLived g j w old before → HasLived g j w new before
lived_knowing g j w old new before more same (first e) = first (same ∙ e)
lived_knowing g j w old new before more same (again c in' at boot view within time) =
    again c in' at (boot ∙ sym same) view (within-trans c.known old new within more) time

-- what is not outdated is of the boot that is known
is_current : (known : List ℕ) (from : ℕ) (told : List ℕ) → not (is_outdated known from told) ≡ true → boot_of known from ≤ boot_of told from
is_current known from told e = ge_of (boot_of told from) (boot_of known from) (not_true _ e)

module _ {C R O : Type 0} (f : ℕ) (g : History C R O) (s : ℕ → Site C) (me : ℕ) (holds : Holds f g s) where
  hears : Hears f g me (s me)
  hears = (holds.sites me).hears

  -- nobody knows of a later boot of the site than its own
  pub not_beyond : (n : ℕ) → WasBoot g me n → n ≤ (s me).cell.boots
  not_beyond n (never e) = omega arith
  not_beyond n (asked to in') = let h : HasAsked (s me) n = holds.said me to _ in' in h

  module _ (up : is_down (s me).status ≡ false) (known : List ℕ) (more : Within (s me).known known) (long : length (s me).known ≤ length known)
      (boots : (k : ℕ) → WasBoot g k (boot_of known k)) where
    own : boot_of known me ≡ (s me).cell.boots
    own = let a = hears.own up in let b = more me in let c = not_beyond _ (boots me) in omega arith

    hears_more : IsHeard f g me (s me).status (s me).cell.boots known
    hears_more = record {
      own = λ _. own;
      long = λ _. (let h = hears.long up in omega arith);
      heard = boots;
      no_vote = hears.no_vote;
      no_answer = hears.no_answer;
      ordered = hears.ordered;
    }

    -- a running site knows more, and has given up some of what it collected, so that no STARTVIEWCHANGE is outdated
    knows_more : (y : Site C) → y ≡ record (s me) { known = known; collected = y.collected } → is_running (s me).status ≡ true
        → y.collected.acks ≡ (s me).collected.acks → y.collected.voted ≡ (s me).collected.voted
        → ((s me).status ≡ Change → (v : Vote C) → Contains y.collected.votes v
        → Contains (s me).collected.votes v × (boot_of known v.from ≤ boot_of v.known v.from))
        → ((s me).status ≡ Change → (a : Start) → Contains y.collected.starts a
        → Contains (s me).collected.starts a × (boot_of known a.from ≤ boot_of a.known a.from))
        → Kept f g s me (does y [])
    knows_more y is run acks made votes starts = subst (λ (x : Site C). Kept f g s me (does x [])) (sym is) kept
      where
        r : StandsRunning f g me (s me)
        r = (holds.sites me).running run

        z : Site C
        z = record (s me) { known = known; collected = y.collected }

        start_kept : (a : Start) → IsKeptStart g (s me).view (s me).known a → boot_of known a.from ≤ boot_of a.known a.from → IsKeptStart g (s me).view known a
        start_kept a o current = record { to = o.to; said = o.said; within = within-trans a.known (s me).known known o.within more; current = current }

        kept : Kept f g s me (does z [])
        kept = kept_runs f g s me holds z (same_cell (s me) z refl) run hears_more (record {
          at_view = record {
            lived = lived_knowing g me (s me).view (s me).known known _ more (own ∙ sym (hears.own up)) r.at_view.lived;
            votes = r.at_view.votes;
            promised = r.at_view.promised;
            answers = λ to w x a v e. (let h = r.at_view.answers to w x a v e in let m = more to in omega arith);
            starts = λ e a in'. (let t = starts e a in' in start_kept a (r.at_view.starts e a t.0) t.1);
            backed = λ e d. r.at_view.backed e (sym made ∙ d);
          };
          normal = r.normal;
          change = r.change;
          log_of = r.log_of;
          leads = r.leads;
          within = r.within;
          done = r.done;
          prepared = r.prepared;
          acks = λ e a in'. r.acks e a (subst (λ acks. Contains acks a) acks in');
          votes = λ e v in'. r.votes e v (votes e v in').0;
          current =
              λ e v in'. (let t = votes e v in' in record { within = within-trans v.known (s me).known known (r.current e v t.0).within more; current = t.1 });
        })

  module _ (told : List ℕ) (boots : (k : ℕ) → WasBoot g k (boot_of told k)) where
    abbrev both : List ℕ
    both = greater (s me).known told

    both_were : (k : ℕ) → WasBoot g k (boot_of both k)
    both_were k = by_one (greater_one_of (s me).known told k)
      where
        by_one : (boot_of both k ≡ boot_of (s me).known k) ⊎ (boot_of both k ≡ boot_of told k) → WasBoot g k (boot_of both k)
        by_one (inl e) = subst (λ (n : ℕ). WasBoot g k n) (sym e) (hears.heard k)
        by_one (inr e) = subst (λ (n : ℕ). WasBoot g k n) (sym e) (boots k)

    -- a running site learns what a sender knew
    pub kept_learns : is_running (s me).status ≡ true → Kept f g s me (does (learns told (s me)) [])
    kept_learns run =
        knows_more (runs_up _ run) both (greater_left (s me).known told) (greater_long (s me).known told) both_were (learns told (s me)) refl run refl refl
        (λ _ v in'. (filter-has _ (s me).collected.votes v in', is_current both v.from v.known (filter-passes _ (s me).collected.votes v in')))
        (λ _ a in'. (filter-has _ (s me).collected.starts a in', is_current both a.from a.known (filter-passes _ (s me).collected.starts a in')))

    -- and so does one that recovers
    pub kept_learns_recovering : (s me).status ≡ Recovering → Kept f g s me (does (learns told (s me)) [])
    kept_learns_recovering recovering =
        kept_quiet f g s me holds y (still_recovers (s me) y refl (λ _. recovering)) (record {
          running = λ run. absurd (recovering_rests (s me).status recovering run);
          rests = (holds.sites me).rests;
          hears = hears_more (ap is_down recovering) both (greater_left (s me).known told) (greater_long (s me).known told) both_were;
          responses =
              λ nonce by a in'. (holds.sites me).responses nonce (record { status = by.status; boots = by.boots }) a
              (filter-has _ (s me).collected.responses a in');
          current = λ e a in'. (
              let old = (holds.sites me).current recovering a (filter-has _ (s me).collected.responses a in') in
              record {
                within = within-trans a.known (s me).known both old.within (greater_left (s me).known told);
                current = is_current both a.from a.known (filter-passes _ (s me).collected.responses a in');
              });
        })
      where
        y : Site C
        y = learns told (s me)

  -- a normal site notes the nonce of another
  pub kept_notes : (from to nonce : ℕ) → (s me).status ≡ Normal → from < length (s me).known → boot_of (s me).known from ≤ nonce
      → Contains g.said (mail from to (Recovery (record { nonce = nonce }))) → Kept f g s me (does (notes from nonce (s me)) [])
  kept_notes from to nonce normal small low said =
      knows_more (runs_up _ run) noted (set_within (s me).known from nonce small low) (let e = length-set (s me).known from nonce in
      omega arith) (λ k. were k (cases_eq k from)) (notes from nonce (s me)) refl run refl refl
      (λ e. absurd (let e' : Normal ≡ Change = sym normal ∙ e in cc)) (λ e. absurd (let e' : Normal ≡ Change = sym normal ∙ e in cc))
    where
      run : is_running (s me).status ≡ true
      run = normal_runs _ normal

      noted : List ℕ
      noted = set (s me).known from nonce

      were : (k : ℕ) → (k ≡ from) ⊎ (k ≡ from → ⊥) → WasBoot g k (boot_of noted k)
      were k (inl e) =
          subst (λ (i : ℕ). WasBoot g i (boot_of noted i)) (sym e)
          (subst (λ (n : ℕ). WasBoot g from n) (sym (set_here (s me).known from nonce small)) (asked to said))
      were k (inr apart) = subst (λ (n : ℕ). WasBoot g k n) (sym (set_there (s me).known from k nonce apart)) (hears.heard k)
