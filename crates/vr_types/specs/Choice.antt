-- What the rules define by a property: the place up to which a primary executes, the log of a new view, the state that
-- a recovering site regains. A step takes each as given; `IsRight` says what it is. Sections are those of 'Viewstamped
-- Replication Revisited' (MIT-CSAIL-TR-2012-021).
use Rattle.std.specs.Prelude.{◌≡◌, ℕ, ◌<◌, ◌≤◌, ◌==◌, ◌&&◌, ◌||◌, ◌⊎◌, ◌↔◌, Bool, IsTrue, nat_le, min, List, length, Contains, Any, count_by, Option, Some, MatchOption}
use Rattle.std.specs.List.{list_any}
use Rattle.vr_types.specs.declared.message.StateOf.{StateOf}
use Rattle.vr_types.specs.Group.{sites, others, primary}
use Rattle.vr_types.specs.Site.{Ack, Vote, Response, boot_of, has_response}

-- x has the property, and nothing greater has it
pub record IsLargest (Holds : ℕ → Type 0) (x : ℕ) : Type 0 where
  pub holds : Holds x
  pub largest : (n : ℕ) → Holds n → n ≤ x

-- Site j has acknowledged the first n rows, by a PREPAREOK whose place is cut at the length that the log then had. Of
-- no rows this is always so.
abbrev pub has_acknowledged : List Ack → ℕ → ℕ → Bool
has_acknowledged acks n j = (n == 0) || list_any (λ ack. (ack.from == j) && nat_le n (min ack.place ack.rows)) acks

-- The commit rule (section 4.1, step 5): at least f different other sites have acknowledged the first n rows.
abbrev pub IsAcknowledged : ℕ → ℕ → List Ack → ℕ → Type 0
IsAcknowledged f me acks n = f ≤ count_by (has_acknowledged acks n) (others f me)

-- the place up to which the primary executes
abbrev pub IsCommitPlace : ℕ → ℕ → List Ack → ℕ → Type 0
IsCommitPlace f me acks place = IsLargest (IsAcknowledged f me acks) place

-- the first vote has a greater last normal view; or the same, and a longer log; or both are the same, and its site is
-- lower
abbrev pub GoesBefore : {C : Type 0} → Vote C → Vote C → Type 0
GoesBefore a b =
    (b.last_normal < a.last_normal)
    ⊎ ((a.last_normal ≡ b.last_normal) × (length b.log < length a.log))
    ⊎ ((a.last_normal ≡ b.last_normal) × (length a.log ≡ length b.log) × (a.from < b.from))

-- The vote whose log a new primary takes (section 4.2, step 3): one of those kept, and none of them goes before it.
-- The published rule leaves open which of equal votes is taken; here it is that of the lowest site.
pub record IsPick {C : Type 0} (votes : List (Vote C)) (pick : Vote C) : Type 0 where
  pub kept : Contains votes pick
  pub first : (vote : Vote C) → Contains votes vote → ¬ GoesBefore vote pick

-- the largest commit-number of the votes
abbrev pub IsMostDone : {C : Type 0} → List (Vote C) → ℕ → Type 0
IsMostDone votes done = IsLargest (λ n. Any (λ vote. vote.done ≡ n) votes) done

-- a view, and the state that its primary answered with
pub record Regained (C : Type 0) : Type 0 where
  pub view : ℕ
  pub state : StateOf C

-- The state that a recovering site regains (section 4.3, step 3): at least f+1 sites have answered, none from a later
-- view than this one, and the primary of this view has answered from it with its state.
pub record IsRegained {C : Type 0} (f : ℕ) (responses : List (Response C)) (regained : Regained C) : Type 0 where
  pub enough : f < count_by (has_response responses) (sites f)
  pub greatest : (response : Response C) → Contains responses response → response.view ≤ regained.view
  pub known : List ℕ
  pub answered : Contains responses (record {
    from = primary f regained.view;
    view = regained.view;
    state = Some regained.state;
    known = known;
  })

-- each sender has at most one
abbrev pub OneEach : {A : Type 0} → (A → ℕ) → List A → Type 0
OneEach {A} sender xs = (a b : A) → Contains xs a → Contains xs b → sender a ≡ sender b → a ≡ b

-- a set of messages is fresh: for any two messages a and b of it, the sender of a knew no later boot of the sender of
-- b than the one that b is of
abbrev pub AreFresh : {A : Type 0} → (A → ℕ) → (A → List ℕ) → List A → Type 0
AreFresh {A} sender known xs =
    (a b : A) → Contains xs a → Contains xs b
    → boot_of (known a) (sender b) ≤ boot_of (known b) (sender b)

-- what a step takes as given
pub record Choice (C : Type 0) : Type 0 where
  pub same : C → C → Bool  -- whether two commands are the same
  pub commit_place : ℕ → List Ack → ℕ  -- the place up to which this site executes as a primary
  pub pick : List (Vote C) → Vote C  -- the vote whose log opens a view
  pub most_done : List (Vote C) → ℕ  -- the commit-number with which it opens
  pub regained : List (Response C) → Option (Regained C)  -- the state that is regained, where one is

pub record IsRight {C : Type 0} (f : ℕ) (choose : Choice C) : Type 0 where
  pub same : (a b : C) → IsTrue (choose.same a b) ↔ (a ≡ b)
  pub commit_place : (me : ℕ) (acks : List Ack) → IsCommitPlace f me acks (choose.commit_place me acks)
  pub pick : (votes : List (Vote C)) → 0 < length votes → IsPick votes (choose.pick votes)
  pub most_done : (votes : List (Vote C)) → 0 < length votes → IsMostDone votes (choose.most_done votes)
  pub regained : (responses : List (Response C)) → MatchOption (choose.regained responses)
      ((regained : Regained C) → ¬ IsRegained f responses regained)
      (IsRegained f responses)
