-- What a site does of its own vote, and whether the view opens.
use Rattle.std.proofs.Common.{◌⊎◌, inl, inr, ◌≡◌, ℕ, ◌+◌, ◌*◌, cond, ◌<◌, ◌≤◌, ◌==◌, ◌&&◌, ◌||◌, Bool, true, false, nat_lt, List, [], ◌∷◌, ◌++◌, count_by, max, if◌then◌else◌, refl, sym, ap, ◌∙◌, subst, arith, true≢false, eq-eqb, eqb→eq}
use Rattle.std.proofs.lemmas.Bool.{lt-ltb, le-ltb}
use Rattle.std.specs.Prelude.{Result}
use Rattle.std.specs.declared.alloc.AllocError.{AllocError}
use Rattle.std.proofs.lemmas.Bool.Decides.{nat_tests}
use Rattle.std.proofs.lemmas.List.Folds.{list_any-append}
use Rattle.vr_types.specs.declared.event.Status.{Status}
use Rattle.vr_types.specs.declared.event.Status.TheVariants.{Normal, Change, Recovering, Down}
use Rattle.vr_types.specs.declared.event.OutcomeOf.{OutcomeOf}
use Rattle.vr_types.specs.declared.machine.Machine.{Ghosts}
use Rattle.vr_types.specs.declared.message.EnvelopeOf.{EnvelopeOf}
use Rattle.vr_types.specs.Choice.{Choice, OneEach}
use Rattle.vr_types.specs.Group.{primary, sites}
use Rattle.vr_types.specs.Site.{Site, Collected, Start, Vote, nothing, has_start, has_vote, is_change, is_normal, is_running}
use Rattle.std.proofs.lemmas.List.Sums.{sum_by-cons}
use Rattle.vr_types.specs.Step.{Step, Handled, does, greater, learns}
use Rattle.vr_types.specs.Change.{Part, with_start, with_vote, with_voted, own_vote, sends_vote, is_to_vote, votes_where_due, is_to_open, opens_where_due, starts_view, starts_later_view}
use Rattle.vr_change.specs.Ballot.{with_starter, with_ballot}
use Rattle.vr_log.specs.declared.running.Running.{Running}
use Rattle.vr_log.specs.Running.{Follows, site_of}
use Rattle.vr_change.specs.Parts.{IsPart, opens_with, starts_learnt, start_goes_on, vote_goes_on, gathered}
use Rattle.vr_change.proofs.Ballots.{one_each-more}
use Rattle.vr_change.proofs.Counts.{count_same, at_most_one}

-- the site with one more STARTVIEWCHANGE
abbrev pub started : {C : Type 0} → Start → Site C → Site C
started start x = record x { collected = record (x.collected) { starts = with_starter x.collected.starts start } }

pub with_start-is : {C : Type 0} (start : Start) (x : Site C) → with_start start x ≡ started start x
with_start-is {C} start x = by_test (has_start x.collected.starts start.from)
  where
    by_test : (b : Bool)
        → (if b then x else record x { collected = record (x.collected) { starts = x.collected.starts ++ start ∷ [] } })
        ≡ record x { collected = record (x.collected) { starts = if b then x.collected.starts else x.collected.starts ++ start ∷ [] } }
    by_test true = refl
    by_test false = refl

-- the site with one more vote
abbrev pub voted : {C : Type 0} → Vote C → Site C → Site C
voted vote x = record x { collected = record (x.collected) { votes = with_ballot x.collected.votes vote } }

pub with_vote-is : {C : Type 0} (vote : Vote C) (x : Site C) → with_vote vote x ≡ voted vote x
with_vote-is {C} vote x = by_test (has_vote x.collected.votes vote.from)
  where
    by_test : (b : Bool)
        → (if b then x else record x { collected = record (x.collected) { votes = x.collected.votes ++ vote ∷ [] } })
        ≡ record x { collected = record (x.collected) { votes = if b then x.collected.votes else x.collected.votes ++ vote ∷ [] } }
    by_test true = refl
    by_test false = refl

pub with_ballot-kept : {C : Type 0} (votes : List (Vote C)) (vote : Vote C) → has_vote votes vote.from ≡ true → with_ballot votes vote ≡ votes
with_ballot-kept votes vote e = ap (λ b. if b then votes else votes ++ vote ∷ []) e

pub with_ballot-new : {C : Type 0} (votes : List (Vote C)) (vote : Vote C) → has_vote votes vote.from ≡ false → with_ballot votes vote ≡ votes ++ vote ∷ []
with_ballot-new votes vote e = ap (λ b. if b then votes else votes ++ vote ∷ []) e

or_false : (a b : Bool) → (a || (b || false)) ≡ (a || b)
or_false true b = refl
or_false false true = refl
or_false false false = refl

-- who has voted, with the vote that comes
pub has_ballot : {C : Type 0} (votes : List (Vote C)) (vote : Vote C) (j : ℕ) → has_vote (with_ballot votes vote) j ≡ (has_vote votes j || (vote.from == j))
has_ballot {C} votes vote j = by_test (has_vote votes vote.from) refl
  where
    same : (has_vote votes vote.from ≡ true) → (b : Bool) → (vote.from == j) ≡ b → has_vote votes j ≡ (has_vote votes j || b)
    same e true eb =
        let one : vote.from ≡ j = eqb→eq vote.from j (rw eb tt) in
        let has : has_vote votes j ≡ true = ap (has_vote votes) (sym one) ∙ e in
        has ∙ ap (λ t. t || true) (sym has)
    same e false eb = keeps (has_vote votes j)
      where
        keeps : (b : Bool) → b ≡ (b || false)
        keeps true = refl
        keeps false = refl

    by_test : (b : Bool) → has_vote votes vote.from ≡ b → has_vote (with_ballot votes vote) j ≡ (has_vote votes j || (vote.from == j))
    by_test true e = ap (λ l. has_vote l j) (with_ballot-kept votes vote e) ∙ same e (vote.from == j) refl
    by_test false e =
        ap (λ l. has_vote l j) (with_ballot-new votes vote e) ∙ list_any-append (λ (v : Vote C). v.from == j) votes (vote ∷ [])
        ∙ or_false (has_vote votes j) (vote.from == j)

pub count_ballot : {C : Type 0} (f : ℕ) (votes : List (Vote C)) (vote : Vote C)
    → count_by (has_vote (with_ballot votes vote)) (sites f) ≡ count_by (λ j. has_vote votes j || (vote.from == j)) (sites f)
count_ballot f votes vote = count_same (has_vote (with_ballot votes vote)) (λ j. has_vote votes j || (vote.from == j)) (sites f) (has_ballot votes vote)

-- a vote alone, or none, is too few
pub few_one : {C : Type 0} (f : ℕ) (vote : Vote C) → 1 ≤ f → nat_lt f (count_by (has_vote (vote ∷ [])) (sites f)) ≡ false
few_one f vote some = let most = at_most_one vote.from 0 (2 * f + 1) in le-ltb _ _ (omega arith)

pub few_none : (C : Type 0) (f : ℕ) → nat_lt f (count_by (has_vote {C = C} []) (sites f)) ≡ false
few_none C f = let none = none_counted (sites f) in le-ltb _ _ (omega arith)
  where
    none_counted : (xs : List ℕ) → count_by (has_vote {C = C} []) xs ≡ 0
    none_counted [] = refl
    none_counted (j ∷ xs) = sum_by-cons (λ k. cond (has_vote {C = C} [] k) 1 0) j xs ∙ ap (λ n. 0 + n) (none_counted xs)

and_false : (b : Bool) → (b && false) ≡ false
and_false true = refl
and_false false = refl

-- whether the view opens
pub not_open-backup : {C : Type 0} (f me : ℕ) (x : Site C) → (primary f x.view == me) ≡ false → is_to_open f me x ≡ false
not_open-backup f me x p =
    ap (λ b. is_change x.status && (b && (has_vote x.collected.votes me && nat_lt f (count_by (has_vote x.collected.votes) (sites f))))) p
    ∙ and_false (is_change x.status)

pub not_open-own : {C : Type 0} (f me : ℕ) (x : Site C) → has_vote x.collected.votes me ≡ false → is_to_open f me x ≡ false
not_open-own f me x e =
    ap (λ b. is_change x.status && ((primary f x.view == me) && (b && nat_lt f (count_by (has_vote x.collected.votes) (sites f))))) e
    ∙ ap (λ b. is_change x.status && b) (and_false (primary f x.view == me)) ∙ and_false (is_change x.status)

pub not_open-few : {C : Type 0} (f me : ℕ) (x : Site C) → nat_lt f (count_by (has_vote x.collected.votes) (sites f)) ≡ false → is_to_open f me x ≡ false
not_open-few f me x e =
    ap (λ b. is_change x.status && ((primary f x.view == me) && (has_vote x.collected.votes me && b))) e
    ∙ ap (λ b. is_change x.status && ((primary f x.view == me) && b)) (and_false (has_vote x.collected.votes me))
    ∙ ap (λ b. is_change x.status && b) (and_false (primary f x.view == me)) ∙ and_false (is_change x.status)

pub opens-now : {C : Type 0} (f me : ℕ) (x : Site C) → is_change x.status ≡ true → (primary f x.view == me) ≡ true → has_vote x.collected.votes me ≡ true
    → nat_lt f (count_by (has_vote x.collected.votes) (sites f)) ≡ true → is_to_open f me x ≡ true
opens-now f me x c p h n = rw (c, p, h, n)

module _ {C R O : Type 0} (f me : ℕ) (x : Site C) (start : Start) (sent : List (EnvelopeOf C R O)) where
  -- the rule over the site with one more STARTVIEWCHANGE
  over_started : (P : Part C R O → Type 0) → P (votes_where_due f me (record { site = started start x; sent = sent }))
      → P (votes_where_due f me (record { site = with_start start x; sent = sent }))
  over_started P h = subst (λ y. P (votes_where_due f me (record { site = y; sent = sent }))) (sym (with_start-is start x)) h

  due_started : (b : Bool) → is_to_vote f me (with_start start x) ≡ b → is_to_vote f me (started start x) ≡ b
  due_started b e = ap (is_to_vote f me) (sym (with_start-is start x)) ∙ e

  pub part-silent : is_to_vote f me (with_start start x) ≡ false
      → ◌≡◌ {A = Part C R O} (votes_where_due f me (record { site = with_start start x; sent = sent })) (record { site = started start x; sent = sent })
  part-silent due = over_started (λ part. part ≡ record { site = started start x; sent = sent })
      (let e = due_started false due in rw e)

  pub part-votes : is_to_vote f me (with_start start x) ≡ true → (primary f x.view == me) ≡ false
      → ◌≡◌ {A = Part C R O} (votes_where_due f me (record { site = with_start start x; sent = sent }))
      (record { site = with_voted (started start x); sent = sent ++ sends_vote f me x })
  part-votes due p = over_started (λ part. part ≡ record { site = with_voted (started start x); sent = sent ++ sends_vote f me x })
      (let e = due_started true due in rw (e, p))

  pub part-lead : (votes : Bool) → is_to_vote f me (with_start start x) ≡ votes → (primary f x.view == me) ≡ true
      → ◌≡◌ {A = Part C R O} (votes_where_due f me (record { site = with_start start x; sent = sent }))
      (record { site = gathered votes me start x; sent = sent })
  part-lead false due p = part-silent due
  part-lead true due p = over_started (λ part. part ≡ record { site = gathered true me start x; sent = sent })
      (let e = due_started true due in
      rw (e, p) (ap (λ y. let part : Part C R O = record { site = y; sent = sent } in
      part) (with_vote-is (own_vote me (started start x)) (with_voted (started start x)))))

  -- where no vote is kept yet, the view stays closed
  pub not_open-started : x.collected.votes ≡ [] → 1 ≤ f
      → is_to_open f me (votes_where_due f me (record { site = with_start start x; sent = sent })).site ≡ false
  not_open-started none some = by_test (primary f x.view == me) (is_to_vote f me (with_start start x)) refl refl
    where
      by_test : (p b : Bool) → (primary f x.view == me) ≡ p → is_to_vote f me (with_start start x) ≡ b
          → is_to_open f me (votes_where_due f me (record { site = with_start start x; sent = sent })).site ≡ false
      by_test true b ep eb =
          ap (λ (part : Part C R O). is_to_open f me part.site) (part-lead b eb ep) ∙ not_open-few f me (gathered b me start x) (few_gathered b)
        where
          few_gathered : (v : Bool) → nat_lt f (count_by (has_vote (gathered v me start x).collected.votes) (sites f)) ≡ false
          few_gathered true = ap (λ l. nat_lt f (count_by (has_vote (with_ballot l (own_vote me x))) (sites f))) none ∙ few_one f (own_vote me x) some
          few_gathered false = ap (λ l. nat_lt f (count_by (has_vote l) (sites f))) none ∙ few_none C f
      by_test false true ep eb =
          ap (λ (part : Part C R O). is_to_open f me part.site) (part-votes eb ep) ∙ not_open-backup f me (with_voted (started start x)) ep
      by_test false false ep eb = ap (λ (part : Part C R O). is_to_open f me part.site) (part-silent eb) ∙ not_open-backup f me (started start x) ep

module _ {C R O : Type 0} (choose : Choice C) (f me : ℕ) (x y : Site C) where
  pub opens-not : (part : Part C R O) → is_to_open f me part.site ≡ false → ◌≡◌ {A = Step C R O} (opens_where_due choose f me x part) (does part.site part.sent)
  opens-not part e = rw e

  pub opens-col : (col : Collected C) (sent : List (EnvelopeOf C R O)) → is_to_open f me (record y { collected = col }) ≡ true
      → ◌≡◌ {A = Step C R O} (opens_where_due choose f me x (record { site = record y { collected = col }; sent = sent }))
      (opens_with choose f me x y sent (choose.pick col.votes).log (choose.most_done col.votes))
  opens-col col sent e = rw e

  -- a STARTVIEWCHANGE came to a site that is not the primary
  pub follow-silent : (start : Start) (sent : List (EnvelopeOf C R O)) → is_to_vote f me (with_start start y) ≡ false → (primary f y.view == me) ≡ false
      → ◌≡◌ {A = Step C R O} (opens_where_due choose f me x (votes_where_due f me (record { site = with_start start y; sent = sent })))
      (does (started start y) sent)
  follow-silent start sent due p =
      ap (opens_where_due choose f me x) (part-silent f me y start sent due)
      ∙ opens-not (record { site = started start y; sent = sent }) (not_open-backup f me (started start y) p)

  pub follow-votes : (start : Start) (sent : List (EnvelopeOf C R O)) → is_to_vote f me (with_start start y) ≡ true → (primary f y.view == me) ≡ false
      → ◌≡◌ {A = Step C R O} (opens_where_due choose f me x (votes_where_due f me (record { site = with_start start y; sent = sent })))
      (does (with_voted (started start y)) (sent ++ sends_vote f me y))
  follow-votes start sent due p =
      ap (opens_where_due choose f me x) (part-votes f me y start sent due p)
      ∙ opens-not (record { site = with_voted (started start y); sent = sent ++ sends_vote f me y }) (not_open-backup f me (with_voted (started start y)) p)

  -- either way it is handled
  pub follow-handled : (start : Start) (sent : List (EnvelopeOf C R O)) → (primary f y.view == me) ≡ false
      → (opens_where_due choose f me x (votes_where_due f me (record { site = with_start start y; sent = sent }))).ending ≡ Handled
  follow-handled start sent p = by_test (is_to_vote f me (with_start start y)) refl
    where
      by_test : (b : Bool) → is_to_vote f me (with_start start y) ≡ b
          → (opens_where_due choose f me x (votes_where_due f me (record { site = with_start start y; sent = sent }))).ending ≡ Handled
      by_test true due = ap (λ (s : Step C R O). s.ending) (follow-votes start sent due p)
      by_test false due = ap (λ (s : Step C R O). s.ending) (follow-silent start sent due p)

  -- a STARTVIEWCHANGE came to the primary
  pub lead-is : (start : Start) (sent : List (EnvelopeOf C R O)) (votes : Bool) → is_to_vote f me (with_start start y) ≡ votes → (primary f y.view == me) ≡ true
      → ◌≡◌ {A = Step C R O} (opens_where_due choose f me x (votes_where_due f me (record { site = with_start start y; sent = sent })))
      (opens_where_due choose f me x (record { site = gathered votes me start y; sent = sent }))
  lead-is start sent votes due p = ap (opens_where_due choose f me x) (part-lead f me y start sent votes due p)

  -- a vote came to the primary
  pub take-is : (vote : Vote C) (sent : List (EnvelopeOf C R O))
      → ◌≡◌ {A = Step C R O} (opens_where_due choose f me x (record { site = with_vote vote y; sent = sent }))
      (opens_where_due choose f me x (record { site = voted vote y; sent = sent }))
  take-is vote sent = ap (λ z. opens_where_due choose f me x (record { site = z; sent = sent })) (with_vote-is vote y)

-- one vote of each site, with the vote that comes
pub one_each_ballot : {C : Type 0} (votes : List (Vote C)) (vote : Vote C) → OneEach (λ (v : Vote C). v.from) votes
    → OneEach (λ (v : Vote C). v.from) (with_ballot votes vote)
one_each_ballot {C} votes vote each = by_test (has_vote votes vote.from) refl
  where
    by_test : (b : Bool) → has_vote votes vote.from ≡ b → OneEach (λ (v : Vote C). v.from) (with_ballot votes vote)
    by_test true e = subst (OneEach (λ (v : Vote C). v.from)) (sym (with_ballot-kept votes vote e)) each
    by_test false e = subst (OneEach (λ (v : Vote C). v.from)) (sym (with_ballot-new votes vote e)) (one_each-more votes vote each e)

-- no later view is started
pub later_same : {C R O : Type 0} (f me w : ℕ) (told : List ℕ) (x : Site C) → w ≡ x.view
    → ◌≡◌ {A = Part C R O} (starts_learnt f me w told x) (record { site = x; sent = [] })
later_same f me w told x e = let low : w ≤ x.view = omega arith in rw (le-ltb _ _ low)

-- a later view is started
pub later_starts : {C R O : Type 0} (f me w : ℕ) (told : List ℕ) (x : Site C) → x.view < w
    → ◌≡◌ {A = Part C R O} (starts_learnt f me w told x) (starts_view f me w (learns told x))
later_starts f me w told x e = rw (lt-ltb _ _ e)

-- what is learnt twice is learnt once
pub greater_again : (known told : List ℕ) → greater (greater known told) told ≡ greater known told
greater_again [] [] = refl
greater_again [] (b ∷ told) = again b told
  where
    twice : (n : ℕ) → max n n ≡ n
    twice n = omega arith

    again : (b : ℕ) (told : List ℕ) → greater (b ∷ told) (b ∷ told) ≡ b ∷ told
    again b [] = ap (λ n. n ∷ []) (twice b)
    again b (c ∷ told) = ap (λ n. n ∷ greater (c ∷ told) (c ∷ told)) (twice b) ∙ ap (λ l. b ∷ l) (again c told)
greater_again (a ∷ known) [] = refl
greater_again (a ∷ known) (b ∷ told) =
    let twice : max (max a b) b ≡ max a b = omega arith in
    ap (λ n. n ∷ greater (greater known told) told) twice ∙ ap (λ l. max a b ∷ l) (greater_again known told)

-- a vote came: the view stays closed
pub take-not : {C R O : Type 0} (choose : Choice C) (f me : ℕ) (x y : Site C) (vote : Vote C) (sent : List (EnvelopeOf C R O))
    → is_to_open f me (voted vote y) ≡ false
    → ◌≡◌ {A = Step C R O} (opens_where_due choose f me x (record { site = with_vote vote y; sent = sent })) (does (with_vote vote y) sent)
take-not choose f me x y vote sent e =
    opens-not choose f me x y (record { site = with_vote vote y; sent = sent }) (ap (is_to_open f me) (with_vote-is vote y) ∙ e)

pub not_open-first : {C : Type 0} (f me : ℕ) (x : Site C) (vote : Vote C) → x.collected.votes ≡ [] → 1 ≤ f → is_to_open f me (with_vote vote x) ≡ false
not_open-first f me x vote none some =
    ap (is_to_open f me) (with_vote-is vote x) ∙ not_open-few f me (voted vote x)
    (ap (λ l. nat_lt f (count_by (has_vote (with_ballot l vote)) (sites f))) none ∙ few_one f vote some)

-- a running site that is not normal is in change
pub changes : (s : Status) → is_running s ≡ true → is_normal s ≡ false → is_change s ≡ true
changes Normal up e = sym e
changes Change up e = refl
changes Recovering up e = up
changes Down up e = up

-- all votes, where the site votes or has voted
pub ballot_whole : {C : Type 0} (votes : List (Vote C)) (vote : Vote C) (b : Bool) → (b ≡ true) ⊎ (has_vote votes vote.from ≡ true)
    → (if b then with_ballot votes vote else votes) ≡ with_ballot votes vote
ballot_whole votes vote true h = refl
ballot_whole votes vote false (inl e) = absurd (true≢false (sym e))
ballot_whole votes vote false (inr e) = sym (with_ballot-kept votes vote e)

pub is_mine : (n : ℕ) → (n == n) ≡ true
is_mine n = eq-eqb n n refl

or_true : (b : Bool) → (b || true) ≡ true
or_true true = refl
or_true false = refl

-- the site's own vote is among all
pub has_own_ballot : {C : Type 0} (votes : List (Vote C)) (vote : Vote C) (me : ℕ) → vote.from ≡ me → has_vote (with_ballot votes vote) me ≡ true
has_own_ballot votes vote me e = has_ballot votes vote me ∙ ap (λ b. has_vote votes me || b) (eq-eqb vote.from me e) ∙ or_true (has_vote votes me)

-- a site that takes part in the change, and that has learnt, learns nothing more
learnt_again : {C : Type 0} (w : ℕ) (x : Site C) (told : List ℕ)
    → learns told (record (learns told x) { status = Change; view = w; collected = nothing })
    ≡ record (learns told x) { status = Change; view = w; collected = nothing }
learnt_again {C} w x told =
    ap (λ known. let y : Site C = record x { status = Change; view = w; collected = nothing; known = known } in y) (greater_again x.known told)

-- a message of a later view meets the site that takes part in the change to it
module _ {C R O : Type 0} (f me w : ℕ) (x : Site C) (later : x.view ≤ w) (told : List ℕ) where
  over_later : (P : Part C R O → Part C R O → Type 0)
      → (x.view < w → P (starts_view f me w (learns told x)) (starts_view f me w (learns told x)))
      → (w ≡ x.view → P (record { site = learns told x; sent = [] }) (record { site = x; sent = [] }))
      → P (starts_later_view f me w (learns told x)) (starts_learnt f me w told x)
  over_later P h k = by_test (nat_lt x.view w) refl
    where
      by_test : (b : Bool) → nat_lt x.view w ≡ b
          → P (if b then starts_view f me w (learns told x) else record { site = learns told x; sent = [] })
          (if b then starts_view f me w (learns told x) else record { site = x; sent = [] })
      by_test true e = h (grind (arith, nat_tests, e))
      by_test false e = k (let low : w ≤ x.view = grind (arith, nat_tests, e) in omega arith)

module _ {C R O : Type 0} (choose : Choice C) (f me w : ℕ) (x : Site C) (some : 1 ≤ f) (later : x.view ≤ w) (start : Start) where
  -- the site with the STARTVIEWCHANGE, and its own vote where that is due
  abbrev after_start : Part C R O → Part C R O
  after_start part = votes_where_due f me (record { site = with_start start part.site; sent = part.sent })

  pub start-later : let part : Part C R O = starts_learnt f me w start.known x in
      ◌≡◌ {A = Step C R O} (opens_where_due choose f me x (after_start (starts_later_view f me w (learns start.known x))))
      (start_goes_on choose f me start part.site part.sent)
  start-later = over_later f me w x later start.known
      (λ p part. ◌≡◌ {A = Step C R O} (opens_where_due choose f me x (after_start p)) (start_goes_on choose f me start part.site part.sent))
      (λ _. let q : Part C R O = starts_view f me w (learns start.known x) in
      let e = not_open-started f me q.site start q.sent refl some in
      opens-not choose f me x q.site (after_start q) e ∙ sym (opens-not choose f me q.site q.site (after_start q) e)
      ∙ ap (λ y. opens_where_due choose f me q.site (after_start (record { site = y; sent = q.sent }))) (sym (learnt_again w x start.known)))
      (λ _. refl)

  -- where a later view is started, it is handled
  pub start-does : x.view < w → let part : Part C R O = after_start (starts_later_view f me w (learns start.known x)) in
      ◌≡◌ {A = Step C R O} (opens_where_due choose f me x part) (does part.site part.sent)
  start-does low = over_later f me w x later start.known
      (λ p part. ◌≡◌ {A = Step C R O} (opens_where_due choose f me x (after_start p)) (does (after_start p).site (after_start p).sent))
      (λ _. let q : Part C R O = starts_view f me w (learns start.known x) in
      opens-not choose f me x q.site (after_start q) (not_open-started f me q.site start q.sent refl some))
      (λ same. absurd (omega arith))

module _ {C R O : Type 0} (choose : Choice C) (f me w : ℕ) (x : Site C) (some : 1 ≤ f) (later : x.view ≤ w) (vote : Vote C) where
  -- the site with the vote
  abbrev after_vote : Part C R O → Part C R O
  after_vote part = record { site = with_vote vote part.site; sent = part.sent }

  pub vote-later : let part : Part C R O = starts_learnt f me w vote.known x in
      ◌≡◌ {A = Step C R O} (opens_where_due choose f me x (after_vote (starts_later_view f me w (learns vote.known x))))
      (vote_goes_on choose f me vote part.site part.sent)
  vote-later = over_later f me w x later vote.known
      (λ p part. ◌≡◌ {A = Step C R O} (opens_where_due choose f me x (after_vote p)) (vote_goes_on choose f me vote part.site part.sent))
      (λ _. let q : Part C R O = starts_view f me w (learns vote.known x) in
      let e = not_open-first f me q.site vote refl some in
      opens-not choose f me x q.site (after_vote q) e ∙ sym (opens-not choose f me q.site q.site (after_vote q) e)
      ∙ ap (λ y. opens_where_due choose f me q.site (after_vote (record { site = y; sent = q.sent }))) (sym (learnt_again w x vote.known)))
      (λ _. refl)

  pub vote-does : x.view < w → let part : Part C R O = after_vote (starts_later_view f me w (learns vote.known x)) in
      ◌≡◌ {A = Step C R O} (opens_where_due choose f me x part) (does part.site part.sent)
  vote-does low = over_later f me w x later vote.known
      (λ p part. ◌≡◌ {A = Step C R O} (opens_where_due choose f me x (after_vote p)) (does (after_vote p).site (after_vote p).sent))
      (λ _. let q : Part C R O = starts_view f me w (learns vote.known x) in
      opens-not choose f me x q.site (after_vote q) (not_open-first f me q.site vote refl some))
      (λ same. absurd (omega arith))

-- what runs in the middle of the rule goes on as the site there
pub goes_on : {H C R O S : Type 0} (m : Ghosts H C R O S) (start : H) (f me : ℕ) (k r : Running H C R O S) (result : Result (OutcomeOf C R O) AllocError)
    (sent : List (EnvelopeOf C R O)) (part : Part C R O) → IsPart m start f k sent part
    → (step : Site C → List (EnvelopeOf C R O) → Step C R O) → Follows m start f me r result (step (site_of k part.site.collected.acks part.site.cell) sent)
    → Follows m start f me r result (step part.site part.sent)
goes_on m start f me k r result sent part is step h =
    subst (λ l. Follows m start f me r result (step part.site l)) is.sent (subst (λ y. Follows m start f me r result (step y sent)) (sym is.site) h)
