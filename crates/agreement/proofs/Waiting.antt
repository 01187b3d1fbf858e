-- A site in the change to a view takes the STARTVIEWCHANGE of another: it keeps it, and votes when it is due.
use Rattle.std.proofs.Common.{◌≡◌, ◌⊎◌, inl, inr, ℕ, ◌≤◌, Bool, true, false, not, ◌&&◌, ◌||◌, ◌==◌, nat_lt, nat_le, if◌then◌else◌, List, [], ◌∷◌, ◌++◌, count_by, refl, sym, ap, ◌∙◌, subst, arith, true≢false}
use Rattle.std.specs.Prelude.{Contains}
use Rattle.std.proofs.lemmas.Bool.Decides.{nat_tests}
use Rattle.std.proofs.lemmas.List.Elements.{Contains-append_left, Contains-append_right, Contains-append_cases}
use Rattle.vr_types.specs.declared.event.Status.TheVariants.{Change}
use Rattle.vr_types.specs.declared.message.EnvelopeOf.{EnvelopeOf}
use Rattle.vr_types.specs.Choice.{Choice}
use Rattle.vr_types.specs.Group.{sites, others, primary}
use Rattle.vr_types.specs.Site.{Site, Start, Vote, boot_of, has_start, has_vote, is_normal, is_change, is_recovering}
use Rattle.vr_types.specs.Step.{Step, Handled, does, greater, is_outdated, learns}
use Rattle.vr_types.specs.Change.{Part, with_start, with_vote, with_voted, own_vote, sends_vote, is_to_vote, is_to_open, starts_later_view, votes_where_due, opens_where_due, after_start, on_start_view_change}
use Rattle.vr_types.proofs.ChoosingPick.{Contains-cases, Contains-none, Contains-here}
use Rattle.vr_types.proofs.Vectors.{greater_is}
use Rattle.agreement.proofs.Members.{filter-has, filter-passes}
use Rattle.agreement.proofs.Counts.{one_at_most}
use Rattle.agreement.proofs.Facts.{filter_keeps}
use Rattle.agreement.proofs.Tests.{eq_of, eq_test, ge_of, not_true, found, Found}

-- a STARTVIEWCHANGE of site k is kept, of this boot or a later one
pub record KeepsStart {C : Type 0} (x : Site C) (k b : ℕ) : Type 0 where
  pub start : Start
  pub among : Contains x.collected.starts start
  pub from : start.from ≡ k
  pub current : b ≤ boot_of start.known k

-- so is a DOVIEWCHANGE
pub record KeepsVote {C : Type 0} (x : Site C) (k b : ℕ) : Type 0 where
  pub vote : Vote C
  pub among : Contains x.collected.votes vote
  pub from : vote.from ≡ k
  pub current : b ≤ boot_of vote.known k

-- site `me`, of boot b, is in change to view w, and keeps no vote but its own
pub record Changes {C : Type 0} (f w me b : ℕ) (x : Site C) : Type 0 where
  pub status : x.status ≡ Change
  pub view : x.view ≡ w
  pub boots : x.cell.boots ≡ b
  pub own : (v : Vote C) → Contains x.collected.votes v → v.from ≡ me
  pub logs : (v : Vote C) → Contains x.collected.votes v → v.log ≡ x.log
  pub made : x.collected.voted ≡ true → primary f w ≡ me → KeepsVote x me b

abbrev pub is_due : {C : Type 0} → ℕ → ℕ → Site C → Bool
is_due f me x = nat_le f (count_by (has_start x.collected.starts) (others f me))

-- and it has voted where that was due
pub record Waits {C : Type 0} (f w me b : ℕ) (x : Site C) : Type 0 where
  pub changes : Changes f w me b x
  pub due : is_due f me x ≡ true → x.collected.voted ≡ true

-- where what is known of a site is no more than this, what is of this boot or a later one is not outdated
pub passes : (known told : List ℕ) (j b : ℕ) → boot_of known j ≤ b → b ≤ boot_of told j → not (is_outdated known j told) ≡ true
passes known told j b low high = grind (arith, nat_tests, low, high)

pub not_outdated : (known told : List ℕ) (j : ℕ) → boot_of known j ≤ boot_of told j → is_outdated known j told ≡ false
not_outdated known told j low = grind (arith, nat_tests, low)

-- a vote that passed is of the boot that is known
pub current_of : (known told : List ℕ) (j : ℕ) → not (is_outdated known j told) ≡ true → boot_of known j ≤ boot_of told j
current_of known told j e = ge_of (boot_of told j) (boot_of known j) (not_true _ e)

pub has_start_of : (starts : List Start) (k : ℕ) (start : Start) → Contains starts start → start.from ≡ k → has_start starts k ≡ true
has_start_of [] k start in' e = absurd (Contains-none start in')
has_start_of (a ∷ starts) k start in' e = by_place (Contains-cases a start starts in') (λ there. has_start_of starts k start there e)
  where
    either : (b c : Bool) → (b ≡ true) ⊎ (c ≡ true) → (b || c) ≡ true
    either true c h = refl
    either false c (inl h) = absurd (true≢false (sym h))
    either false c (inr h) = h

    by_place : (a ≡ start) ⊎ Contains starts start → (Contains starts start → has_start starts k ≡ true) → has_start (a ∷ starts) k ≡ true
    by_place (inl same) rest = either (a.from == k) (has_start starts k) (inl (eq_test a.from k (ap (λ (s : Start). s.from) same ∙ e)))
    by_place (inr there) rest = either (a.from == k) (has_start starts k) (inr (rest there))

module _ {C : Type 0} (f w me b : ℕ) (boots : ℕ → ℕ) where
  -- what the sender knew is learnt
  module _ (x : Site C) (told : List ℕ) (known : (j : ℕ) → boot_of x.known j ≤ boots j) (knew : (j : ℕ) → boot_of told j ≤ boots j) where
    learnt_most : (j : ℕ) → boot_of (learns told x).known j ≤ boots j
    learnt_most j = let e = greater_is x.known told j in let p = known j in let q = knew j in omega arith

    pub learns_keeps_start : (j : ℕ) → KeepsStart x j (boots j) → KeepsStart (learns told x) j (boots j)
    learns_keeps_start j k = record {
      start = k.start;
      among = filter_keeps (λ (a : Start). not (is_outdated (greater x.known told) a.from a.known)) x.collected.starts k.start k.among
          (subst (λ (i : ℕ). not (is_outdated (greater x.known told) i k.start.known) ≡ true) (sym k.from)
          (passes (greater x.known told) k.start.known j (boots j) (learnt_most j) k.current));
      from = k.from;
      current = k.current;
    }

    pub learns_keeps_vote : (j : ℕ) → KeepsVote x j (boots j) → KeepsVote (learns told x) j (boots j)
    learns_keeps_vote j k = record {
      vote = k.vote;
      among = filter_keeps (λ (a : Vote C). not (is_outdated (greater x.known told) a.from a.known)) x.collected.votes k.vote k.among
          (subst (λ (i : ℕ). not (is_outdated (greater x.known told) i k.vote.known) ≡ true) (sym k.from)
          (passes (greater x.known told) k.vote.known j (boots j) (learnt_most j) k.current));
      from = k.from;
      current = k.current;
    }

    changes_learns : b ≡ boots me → Changes f w me b x → Changes f w me b (learns told x)
    changes_learns own c = record {
      status = c.status;
      view = c.view;
      boots = c.boots;
      own = λ v in'. c.own v (filter-has (λ (a : Vote C). not (is_outdated (greater x.known told) a.from a.known)) x.collected.votes v in');
      logs = λ v in'. c.logs v (filter-has (λ (a : Vote C). not (is_outdated (greater x.known told) a.from a.known)) x.collected.votes v in');
      made =
          λ voted leads. subst (λ (n : ℕ). KeepsVote (learns told x) me n) (sym own)
          (learns_keeps_vote me (subst (λ (n : ℕ). KeepsVote x me n) own (c.made voted leads)));
    }

  -- the STARTVIEWCHANGE is kept
  module _ (y : Site C) (k : ℕ) (told : List ℕ) where
    abbrev start : Start
    start = record { from = k; known = told }

    abbrev more : Site C
    more = record y { collected = record (y.collected) { starts = y.collected.starts ++ start ∷ [] } }

    changes_start : Changes f w me b y → Changes f w me b (with_start start y)
    changes_start c = by_test (has_start y.collected.starts k)
      where
        by_test : (t : Bool) → Changes f w me b (if t then y else more)
        by_test true = c
        by_test false =
            record {
              status = c.status;
              view = c.view;
              boots = c.boots;
              own = c.own;
              logs = c.logs;
              made = λ voted leads. (let v = c.made voted leads in record { vote = v.vote; among = v.among; from = v.from; current = v.current });
            }

    start_keeps : (j n : ℕ) → KeepsStart y j n → KeepsStart (with_start start y) j n
    start_keeps j n s = by_test (has_start y.collected.starts k)
      where
        by_test : (t : Bool) → KeepsStart (if t then y else more) j n
        by_test true = s
        by_test false =
            record { start = s.start; among = Contains-append_left y.collected.starts (start ∷ []) s.start s.among; from = s.from; current = s.current }

    start_is_kept : ((a : Start) → Contains y.collected.starts a → boot_of y.known a.from ≤ boot_of a.known a.from) → boots k ≤ boot_of y.known k
        → boots k ≤ boot_of told k → KeepsStart (with_start start y) k (boots k)
    start_is_kept current low high = by_test (has_start y.collected.starts k) refl
      where
        by_test : (t : Bool) → has_start y.collected.starts k ≡ t → KeepsStart (if t then y else more) k (boots k)
        by_test true e =
            let a : Found (λ (s : Start). s.from == k) y.collected.starts = found _ y.collected.starts e in
            let from = eq_of a.item.from k a.passes in
            record {
              start = a.item;
              among = a.among;
              from = from;
              current = subst (λ (i : ℕ). boots i ≤ boot_of a.item.known i) from (
                  let h = current a.item a.among in
                  let l : boots a.item.from ≤ boot_of y.known a.item.from = subst (λ (i : ℕ). boots i ≤ boot_of y.known i) (sym from) low in
                  omega arith);
            }
        by_test false e =
            record { start = start; among = Contains-append_right y.collected.starts (start ∷ []) start (Contains-here start []); from = refl; current = high }

    known_same : (with_start start y).known ≡ y.known
    known_same = by_test (has_start y.collected.starts k)
      where
        by_test : (t : Bool) → (let s : Site C = if t then y else more in s.known ≡ y.known)
        by_test true = refl
        by_test false = refl

    log_same : (with_start start y).log ≡ y.log
    log_same = by_test (has_start y.collected.starts k)
      where
        by_test : (t : Bool) → (let s : Site C = if t then y else more in s.log ≡ y.log)
        by_test true = refl
        by_test false = refl

    votes_same : (with_start start y).collected.votes ≡ y.collected.votes
    votes_same = by_test (has_start y.collected.starts k)
      where
        by_test : (t : Bool) → (let s : Site C = if t then y else more in s.collected.votes ≡ y.collected.votes)
        by_test true = refl
        by_test false = refl

  -- it votes where that is due
  module _ (z : Site C) (c : Changes f w me b z) (current : (v : Vote C) → Contains z.collected.votes v → boot_of z.known v.from ≤ boot_of v.known v.from)
      (low : b ≤ boot_of z.known me) where
    own_kept : KeepsVote (with_vote (own_vote me z) (with_voted z)) me b
    own_kept = by_test (has_vote z.collected.votes me) refl
      where
        by_test : (t : Bool) → has_vote z.collected.votes me ≡ t
            → KeepsVote (if t then with_voted z
            else record (with_voted z) { collected = record ((with_voted z).collected) { votes = z.collected.votes ++ own_vote me z ∷ [] } }) me b
        by_test true e =
            let a : Found (λ (v : Vote C). v.from == me) z.collected.votes = found _ z.collected.votes e in
            let from = eq_of a.item.from me a.passes in
            record {
              vote = a.item;
              among = a.among;
              from = from;
              current = subst (λ (i : ℕ). b ≤ boot_of a.item.known i) from (
                  let h = current a.item a.among in
                  let l : b ≤ boot_of z.known a.item.from = subst (λ (i : ℕ). b ≤ boot_of z.known i) (sym from) low in
                  omega arith);
            }
        by_test false e =
            record {
              vote = own_vote me z;
              among = Contains-append_right z.collected.votes (own_vote me z ∷ []) (own_vote me z) (Contains-here (own_vote me z) []);
              from = refl;
              current = low;
            }

    own_alone : (v : Vote C) → Contains (with_vote (own_vote me z) (with_voted z)).collected.votes v → v.from ≡ me
    own_alone v in' = by_test (has_vote z.collected.votes me) in'
      where
        last : (own_vote me z ≡ v) ⊎ Contains [] v → v.from ≡ me
        last (inl e) = sym (ap (λ (u : Vote C). u.from) e)
        last (inr none) = absurd (Contains-none v none)

        by_place : Contains z.collected.votes v ⊎ Contains (own_vote me z ∷ []) v → v.from ≡ me
        by_place (inl there) = c.own v there
        by_place (inr here) = last (Contains-cases (own_vote me z) v [] here)

        by_test : (t : Bool)
            → (let s : Site C = if t then with_voted z
            else record (with_voted z) { collected = record ((with_voted z).collected) { votes = z.collected.votes ++ own_vote me z ∷ [] } } in
            Contains s.collected.votes v) → v.from ≡ me
        by_test true in' = c.own v in'
        by_test false in' = by_place (Contains-append_cases z.collected.votes (own_vote me z ∷ []) v in')

    own_logs : (v : Vote C) → Contains (with_vote (own_vote me z) (with_voted z)).collected.votes v → v.log ≡ z.log
    own_logs v in' = by_test (has_vote z.collected.votes me) in'
      where
        last : (own_vote me z ≡ v) ⊎ Contains [] v → v.log ≡ z.log
        last (inl e) = sym (ap (λ (u : Vote C). u.log) e)
        last (inr none) = absurd (Contains-none v none)

        by_place : Contains z.collected.votes v ⊎ Contains (own_vote me z ∷ []) v → v.log ≡ z.log
        by_place (inl there) = c.logs v there
        by_place (inr here) = last (Contains-cases (own_vote me z) v [] here)

        by_test : (t : Bool)
            → (let s : Site C = if t then with_voted z
            else record (with_voted z) { collected = record ((with_voted z).collected) { votes = z.collected.votes ++ own_vote me z ∷ [] } } in
            Contains s.collected.votes v) → v.log ≡ z.log
        by_test true in' = c.logs v in'
        by_test false in' = by_place (Contains-append_cases z.collected.votes (own_vote me z ∷ []) v in')

    -- with its own vote it is as it was else
    record IsWith (y : Site C) : Type 0 where
      status : y.status ≡ z.status
      view : y.view ≡ z.view
      cell : y.cell ≡ z.cell
      starts : y.collected.starts ≡ z.collected.starts
      voted : y.collected.voted ≡ true
      log : y.log ≡ z.log

    with_own : IsWith (with_vote (own_vote me z) (with_voted z))
    with_own = by_test (has_vote z.collected.votes me)
      where
        by_test : (t : Bool)
            → IsWith (if t then with_voted z
            else record (with_voted z) { collected = record ((with_voted z).collected) { votes = z.collected.votes ++ own_vote me z ∷ [] } })
        by_test true = record { status = refl; view = refl; cell = refl; starts = refl; voted = refl; log = refl }
        by_test false = record { status = refl; view = refl; cell = refl; starts = refl; voted = refl; log = refl }

    -- after a part the site waits, and keeps the same starts
    pub record IsWaiting {R O : Type 0} (part : Part C R O) : Type 0 where
      pub waits : Waits f w me b part.site
      pub starts : part.site.collected.starts ≡ z.collected.starts
      pub log : part.site.log ≡ z.log

    waits_votes : {R O : Type 0} (sent : List (EnvelopeOf C R O)) → IsWaiting (votes_where_due f me (record { site = z; sent = sent }))
    waits_votes {R} {O} sent = by_tests (not (is_to_vote f me z)) (primary f z.view == me) refl refl
      where
        done_by : (t v : Bool) → not (t && not v) ≡ true → t ≡ true → v ≡ true
        done_by true true e h = refl
        done_by true false e h = absurd (true≢false (sym e))
        done_by false v e h = absurd (true≢false (sym h))

        by_tests : (due here : Bool) → not (is_to_vote f me z) ≡ due → (primary f z.view == me) ≡ here → IsWaiting {R = R} {O = O} (
            if due then record { site = z; sent = sent }
            else if here then record { site = with_vote (own_vote me z) (with_voted z); sent = sent }
            else record { site = with_voted z; sent = sent ++ sends_vote f me z })
        by_tests true here d e = record { waits = record { changes = c; due = done_by (is_due f me z) z.collected.voted d }; starts = refl; log = refl }
        by_tests false true d e =
            let o = with_own in
            record {
              waits = record {
                changes =
                    record {
                      status = o.status ∙ c.status;
                      view = o.view ∙ c.view;
                      boots = ap (λ cell. cell.boots) o.cell ∙ c.boots;
                      own = own_alone;
                      logs = λ v in'. own_logs v in' ∙ sym o.log;
                      made = λ _ _. own_kept;
                    };
                due = λ _. o.voted;
              };
              starts = o.starts;
              log = o.log;
            }
        by_tests false false d e = record {
          waits = record {
            changes =
                record {
                  status = c.status;
                  view = c.view;
                  boots = c.boots;
                  own = c.own;
                  logs = c.logs;
                  made = λ _ leads. absurd (true≢false (sym (eq_test (primary f z.view) me (ap (primary f) c.view ∙ leads)) ∙ e));
                };
            due = λ _. refl;
          };
          starts = refl;
          log = refl;
        }

  -- it does not open the view with its own vote alone
  pub not_open : 1 ≤ f → (x : Site C) → Changes f w me b x → is_to_open f me x ≡ false
  not_open some x c = by_last (is_change x.status) (primary f x.view == me) (has_vote x.collected.votes me)
    where
      alone : (j : ℕ) → has_vote x.collected.votes j ≡ true → j ≡ me
      alone j e = let a : Found (λ (v : Vote C). v.from == j) x.collected.votes = found _ x.collected.votes e in
          sym (eq_of a.item.from j a.passes) ∙ c.own a.item a.among

      few : nat_lt f (count_by (has_vote x.collected.votes) (sites f)) ≡ false
      few = let h = one_at_most f me (has_vote x.collected.votes) alone in grind (arith, nat_tests, h, some)

      by_last : (p q r : Bool) → (p && (q && (r && nat_lt f (count_by (has_vote x.collected.votes) (sites f))))) ≡ false
      by_last true true true = few
      by_last true true false = refl
      by_last true false r = refl
      by_last false q r = refl

pub if_yes : {A : Type 0} (b : Bool) (x y : A) → b ≡ true → (if b then x else y) ≡ x
if_yes true x y e = refl
if_yes false x y e = absurd (true≢false (sym e))

pub if_no : {A : Type 0} (b : Bool) (x y : A) → b ≡ false → (if b then x else y) ≡ y
if_no true x y e = absurd (true≢false e)
if_no false x y e = refl

pub not_less : (a b : ℕ) → a ≡ b → nat_lt a b ≡ false
not_less a b e = grind (arith, nat_tests, e)

pub keeps_same : {C : Type 0} (y z : Site C) (j n : ℕ) → z.collected.starts ≡ y.collected.starts → KeepsStart y j n → KeepsStart z j n
keeps_same y z j n e s = record { start = s.start; among = subst (λ (l : List Start). Contains l s.start) (sym e) s.among; from = s.from; current = s.current }

module _ {C R O : Type 0} (choose : Choice C) (f w me b : ℕ) (boots : ℕ → ℕ) where
  -- the site after it took the STARTVIEWCHANGE of site k
  pub record TakesStart (x : Site C) (k : ℕ) (step : Step C R O) : Type 0 where
    pub handled : step.ending ≡ Handled
    pub waits : Waits f w me b step.site
    pub has : KeepsStart step.site k (boots k)
    pub keeps : (j : ℕ) → KeepsStart x j (boots j) → KeepsStart step.site j (boots j)
    pub log : step.site.log ≡ x.log

  pub takes_start : 1 ≤ f → (x : Site C) (k : ℕ) (told : List ℕ) → Waits f w me b x → b ≡ boots me → ((j : ℕ) → boot_of x.known j ≤ boots j)
      → ((j : ℕ) → boot_of told j ≤ boots j)
      → boot_of told k ≡ boots k → boot_of x.known me ≡ b → TakesStart x k (on_start_view_change choose f me x w (record { from = k; known = told }))
  unfolding on_start_view_change
  takes_start some x k told waits own known knew is_k is_me =
      subst (λ (s : Step C R O). TakesStart x k s) (sym step_is) (record {
        handled = refl;
        waits = due.waits;
        log = due.log ∙ log_same f w me b boots y k told;
        has = keeps_same z part.site k (boots k) due.starts has;
        keeps =
            λ j s. keeps_same z part.site j (boots j) due.starts
            (start_keeps f w me b boots y k told j (boots j) (learns_keeps_start f w me b boots x told known knew j s));
      })
    where
      y : Site C
      y = learns told x

      z : Site C
      z = with_start (record { from = k; known = told }) y

      part : Part C R O
      part = votes_where_due f me (record { site = z; sent = [] })

      changes_y : Changes f w me b y
      changes_y = changes_learns f w me b boots x told known knew own waits.changes

      changes_z : Changes f w me b z
      changes_z = changes_start f w me b boots y k told changes_y

      current_y : (v : Vote C) → Contains y.collected.votes v → boot_of y.known v.from ≤ boot_of v.known v.from
      current_y v in' =
          current_of y.known v.known v.from (filter-passes (λ (a : Vote C). not (is_outdated (greater x.known told) a.from a.known)) x.collected.votes v in')

      current_z : (v : Vote C) → Contains z.collected.votes v → boot_of z.known v.from ≤ boot_of v.known v.from
      current_z v in' =
          subst (λ (a : List ℕ). boot_of a v.from ≤ boot_of v.known v.from) (sym (known_same f w me b boots y k told))
          (current_y v (subst (λ (l : List (Vote C)). Contains l v) (votes_same f w me b boots y k told) in'))

      low : b ≤ boot_of z.known me
      low =
          subst (λ (a : List ℕ). b ≤ boot_of a me) (sym (known_same f w me b boots y k told)) (let e = greater_is x.known told me in let d = is_me in
          omega arith)

      due : IsWaiting f w me b boots z changes_z current_z low part
      due = waits_votes f w me b boots z changes_z current_z low []

      has : KeepsStart z k (boots k)
      has = start_is_kept f w me b boots y k told
          (λ a in'. current_of y.known a.known a.from
          (filter-passes (λ (s : Start). not (is_outdated (greater x.known told) s.from s.known)) x.collected.starts a in'))
          (let e = greater_is x.known told k in let d = is_k in omega arith) (let d = is_k in omega arith)

      -- no view is started, as it is in this one
      begun : starts_later_view {R = R} {O = O} f me w y ≡ record { site = y; sent = [] }
      begun = if_no (nat_lt x.view w) _ _ (not_less x.view w waits.changes.view)

      after_is : after_start {R = R} {O = O} f me w (record { from = k; known = told }) x ≡ part
      after_is = ap (λ (p : Part C R O). votes_where_due f me (record p { site = with_start (record { from = k; known = told }) p.site })) begun

      step_is : on_start_view_change {R = R} {O = O} choose f me x w (record { from = k; known = told }) ≡ does part.site part.sent
      step_is =
          if_no (is_recovering x.status) _ _ (ap is_recovering waits.changes.status)
          ∙ (if_no (nat_lt w x.view) _ _ (not_less w x.view (sym waits.changes.view))
          ∙ (if_no (is_normal x.status && (w == x.view)) _ _ (ap (λ st. is_normal st && (w == x.view)) waits.changes.status)
          ∙ (if_no (is_outdated x.known k told) _ _ (not_outdated x.known told k (let a = known k in let d = is_k in omega arith))
          ∙ (ap (opens_where_due choose f me x) after_is
          ∙ if_yes (not (is_to_open f me part.site)) _ _ (ap not (not_open f w me b boots some part.site due.waits.changes))))))
