-- Which vote goes before all others, where one more comes.
use Rattle.std.proofs.Common.{◌⊎◌, inl, inr, true≢false, ◌≡◌, ℕ, suc, zero, ◌+◌, ◌<◌, ◌==◌, ◌||◌, eq-eqb, Bool, true, false, List, [], ◌∷◌, ◌++◌, length, map, take, slice_get, get_or, Option, Some, None, ◌&&◌, append-nil, fold, max, if◌then◌else◌, refl, sym, ap, ◌∙◌, subst, arith}
use Rattle.std.specs.List.{list_any}
use Rattle.std.specs.Prelude.{IfSome, MatchOption, Contains}
use Rattle.std.specs.Option.{option_map}
use Rattle.std.proofs.lemmas.List.Elements.{filter-append}
use Rattle.std.proofs.lemmas.List.Sums.{fold-append}
use Rattle.std.proofs.lemmas.Option.{slice_get-map, slice_get_read}
use Rattle.vr_types.specs.Choice.{GoesBefore, IsPick, OneEach}
use Rattle.vr_types.specs.Site.{Vote, has_vote}
use Rattle.vr_types.proofs.Choosing.{goes_before, pick_of}
use Rattle.vr_types.proofs.ChoosingPick.{pick-right, Contains-here, Contains-there, Contains-cases, Contains-none, IsNotBefore, not_before, not_before-trans, before_refuted, before_one_way, before_by_test}
use Rattle.vr_log.specs.declared.running.VoteOf.{VoteOf}
use Rattle.vr_log.specs.Running.{vote_of}
use Rattle.vr_types.proofs.Lists.{take_next}
use Rattle.vr_change.specs.Ballot.{is_left, votes_left, vote_at, goes_past}

-- a test of what a list is mapped to
pub list_any-map : {A B : Type 0} (p : B → Bool) (h : A → B) (xs : List A) → list_any (λ x. p (h x)) xs ≡ list_any p (map h xs)
list_any-map p h [] = refl
list_any-map p h (x ∷ xs) = ap (λ b. p (h x) || b) (list_any-map p h xs)

pub some_one : {A : Type 0} {a b : A} → Some a ≡ Some b → a ≡ b
some_one e = cc

-- the vote at an index
pub kept_at : {C : Type 0} (votes : List (VoteOf C)) (at : ℕ) (vote : VoteOf C) → at < length votes → vote ≡ get_or votes at vote
    → slice_get (map vote_of votes) at ≡ Some (vote_of vote)
kept_at votes at vote low e = slice_get-map vote_of votes at ∙ ap (option_map vote_of) (slice_get_read votes (length votes) at vote refl low e)

-- what stands at an index is one
pub one_element : {A : Type 0} (xs : List A) (at : ℕ) (a b : A) → at < length xs → a ≡ get_or xs at a → b ≡ get_or xs at b → a ≡ b
one_element xs at a b low ea eb = some_one (sym (slice_get_read xs (length xs) at a refl low ea) ∙ slice_get_read xs (length xs) at b refl low eb)

-- the vote that goes before all others, where there is any
abbrev pub best_of : {C : Type 0} → List (Vote C) → Option (Vote C)
best_of [] = None
best_of (vote ∷ votes) = Some (pick_of (vote ∷ votes))

-- one more vote
pub best_of-more : {C : Type 0} (votes : List (Vote C)) (vote : Vote C)
    → best_of (votes ++ vote ∷ []) ≡ (if goes_past vote (best_of votes) then Some vote else best_of votes)
best_of-more [] vote = refl
best_of-more {C} (first ∷ votes) vote =
    ap (λ p. let o : Option (Vote C) = Some p in o) (fold-append (λ best next. if goes_before next best then next else best) first votes (vote ∷ []))
    ∙ by_test (goes_before vote (pick_of (first ∷ votes)))
  where
    by_test : (b : Bool) → Some (if b then vote else pick_of (first ∷ votes)) ≡ (if b then Some vote else Some (pick_of (first ∷ votes)))
    by_test true = refl
    by_test false = refl

-- one more vote, where it is left
pub left-more : {C : Type 0} (known told : List ℕ) (votes : List (Vote C)) (at : ℕ) (vote : Vote C) (b : Bool) → slice_get votes at ≡ Some vote
    → is_left known told vote.from vote.known ≡ b
    → votes_left known told (take (at + 1) votes) ≡ (if b then votes_left known told (take at votes) ++ vote ∷ [] else votes_left known told (take at votes))
left-more {C} known told votes at vote b e is =
    ap (votes_left known told) (take_next votes at vote e) ∙ filter-append (λ (v : Vote C). is_left known told v.from v.known) (take at votes) (vote ∷ [])
    ∙ ap (λ c. votes_left known told (take at votes) ++ (if c then vote ∷ [] else [])) is ∙ by_test b
  where
    by_test : (c : Bool)
        → votes_left known told (take at votes) ++ (if c then vote ∷ [] else [])
        ≡ (if c then votes_left known told (take at votes) ++ vote ∷ [] else votes_left known told (take at votes))
    by_test true = refl
    by_test false = append-nil (votes_left known told (take at votes))

-- the best so far, with the next vote
pub best_next : {C : Type 0} (known told : List ℕ) (votes : List (Vote C)) (at : ℕ) (best : Option ℕ) (a : Vote C) (t : Bool) → slice_get votes at ≡ Some a
    → vote_at votes best ≡ best_of (votes_left known told (take at votes)) → (is_left known told a.from a.known && goes_past a (vote_at votes best)) ≡ t
    → vote_at votes (if t then Some at else best) ≡ best_of (votes_left known told (take (at + 1) votes))
best_next {C} known told votes at best a t ea so_far e =
    by_left (is_left known told a.from a.known) (goes_past a (best_of (votes_left known told (take at votes)))) refl refl
    (ap (λ o. is_left known told a.from a.known && goes_past a o) (sym so_far) ∙ e)
  where
    by_left : (l p : Bool) → is_left known told a.from a.known ≡ l → goes_past a (best_of (votes_left known told (take at votes))) ≡ p
        → (is_left known told a.from a.known && goes_past a (best_of (votes_left known told (take at votes)))) ≡ t
        → vote_at votes (if t then Some at else best) ≡ best_of (votes_left known told (take (at + 1) votes))
    by_left l p el ep et =
        let test : t ≡ (l && p) = sym et ∙ ap (λ b. b && goes_past a (best_of (votes_left known told (take at votes)))) el ∙ ap (λ b. l && b) ep in
        ap (λ b. vote_at votes (if b then Some at else best)) test ∙ by_tests l p el ep ∙ ap best_of (sym (left-more known told votes at a l ea el))
      where
        by_tests : (l p : Bool) → is_left known told a.from a.known ≡ l → goes_past a (best_of (votes_left known told (take at votes))) ≡ p
            → vote_at votes (if l && p then Some at else best) ≡ best_of (if l then votes_left known told (take at votes) ++ a ∷ []
            else votes_left known told (take at votes))
        by_tests false p el ep = so_far
        by_tests true true el ep =
            ea ∙ sym (best_of-more (votes_left known told (take at votes)) a ∙ ap (λ b. if b then Some a
            else best_of (votes_left known told (take at votes))) ep)
        by_tests true false el ep =
            so_far ∙ sym (best_of-more (votes_left known told (take at votes)) a ∙ ap
            (λ b. if b then Some a else best_of (votes_left known told (take at votes))) ep)

-- the best of those that are left is the pick
pub best_is_pick : {C : Type 0} (votes left : List (Vote C)) (n : ℕ) (best : Option ℕ) → length votes ≡ n → vote_at votes best ≡ best_of left
    → IfSome best (λ at. at < n)
    → MatchOption best (left ≡ []) (λ at. (at < n) × IfSome (slice_get votes at) (IsPick left))
best_is_pick votes [] n None long e within = refl
best_is_pick votes (first ∷ left) n None long e within = absurd (none_some e)
  where
    none_some : {A : Type 0} {a : A} → None ≡ Some a → ⊥
    none_some n = cc
best_is_pick votes [] n (Some at) long e within = absurd (there votes at (omega arith) e)
  where
    there : {A : Type 0} (xs : List A) (i : ℕ) → i < length xs → slice_get xs i ≡ None → ⊥
    there [] i low n = absurd (omega arith)
    there (x ∷ xs) zero low n = cc
    there (x ∷ xs) (suc i) low n = there xs i (omega arith) n
best_is_pick votes (first ∷ left) n (Some at) long e within =
    (within, subst (λ o. IfSome o (IsPick (first ∷ left))) (sym e) (pick-right (first ∷ left) (omega arith)))

pub Contains-left : {A : Type 0} (x : A) (xs ys : List A) → Contains xs x → Contains (xs ++ ys) x
Contains-left x [] ys h = absurd (Contains-none x h)
Contains-left {A} x (y ∷ xs) ys h = by_place (Contains-cases y x xs h) (Contains-left x xs ys)
  where
    by_place : (y ≡ x) ⊎ Contains xs x → (Contains xs x → Contains (xs ++ ys) x) → Contains (y ∷ (xs ++ ys)) x
    by_place (inl e) rest = subst (Contains (y ∷ (xs ++ ys))) e (Contains-here y (xs ++ ys))
    by_place (inr at) rest = Contains-there y x (xs ++ ys) (rest at)

pub Contains-last : {A : Type 0} (xs : List A) (y : A) → Contains (xs ++ y ∷ []) y
Contains-last [] y = Contains-here y []
Contains-last (x ∷ xs) y = Contains-there x y (xs ++ y ∷ []) (Contains-last xs y)

pub Contains-snoc : {A : Type 0} (x y : A) (xs : List A) → Contains (xs ++ y ∷ []) x → Contains xs x ⊎ (y ≡ x)
Contains-snoc {A} x y [] h = by_place (Contains-cases y x [] h)
  where
    by_place : (y ≡ x) ⊎ Contains [] x → Contains [] x ⊎ (y ≡ x)
    by_place (inl e) = inr e
    by_place (inr at) = inl at
Contains-snoc {A} x y (z ∷ xs) h = by_place (Contains-cases z x (xs ++ y ∷ []) h) (Contains-snoc x y xs)
  where
    by_rest : Contains xs x ⊎ (y ≡ x) → Contains (z ∷ xs) x ⊎ (y ≡ x)
    by_rest (inl at) = inl (Contains-there z x xs at)
    by_rest (inr e) = inr e

    by_place : (z ≡ x) ⊎ Contains (xs ++ y ∷ []) x → (Contains (xs ++ y ∷ []) x → Contains xs x ⊎ (y ≡ x)) → Contains (z ∷ xs) x ⊎ (y ≡ x)
    by_place (inl e) rest = inl (subst (Contains (z ∷ xs)) e (Contains-here z xs))
    by_place (inr at) rest = by_rest (rest at)

-- the new vote goes before the best so far, or does not
pub pick_new : {C : Type 0} (votes : List (Vote C)) (best new : Vote C) → IsPick votes best → goes_before new best ≡ true → IsPick (votes ++ new ∷ []) new
pick_new {C} votes best new p t = record {
  kept = Contains-last votes new;
  first = λ vote h. before_refuted vote new (by_place vote (before_by_test new best) (Contains-snoc vote new votes h));
}
  where
    by_place : (vote : Vote C) → ((goes_before new best ≡ true) × GoesBefore new best) ⊎ ((goes_before new best ≡ false) × IsNotBefore new best)
        → Contains votes vote ⊎ (new ≡ vote) → IsNotBefore vote new
    by_place vote (inl before) (inl at) = not_before-trans vote best new (not_before vote best (p.first vote at)) (before_one_way new best before.1)
    by_place vote (inl before) (inr e) = subst (λ v. IsNotBefore v new) e (record { view = omega arith; rows = λ _. omega arith; site = λ _ _. omega arith })
    by_place vote (inr other) at = absurd (true≢false (sym t ∙ other.0))

pub pick_kept : {C : Type 0} (votes : List (Vote C)) (best new : Vote C) → IsPick votes best → goes_before new best ≡ false → IsPick (votes ++ new ∷ []) best
pick_kept {C} votes best new p t = record {
  kept = Contains-left best votes (new ∷ []) p.kept;
  first = λ vote h. before_refuted vote best (by_place vote (before_by_test new best) (Contains-snoc vote new votes h));
}
  where
    by_place : (vote : Vote C) → ((goes_before new best ≡ true) × GoesBefore new best) ⊎ ((goes_before new best ≡ false) × IsNotBefore new best)
        → Contains votes vote ⊎ (new ≡ vote) → IsNotBefore vote best
    by_place vote (inl before) at = absurd (true≢false (sym before.0 ∙ t))
    by_place vote (inr other) (inl at) = not_before vote best (p.first vote at)
    by_place vote (inr other) (inr e) = subst (λ v. IsNotBefore v best) e other.1

-- the vote that the pick is
pub picked : {C : Type 0} (votes ballot : List (Vote C)) (at : ℕ) (vote : Vote C) → slice_get votes at ≡ Some vote → IfSome (slice_get votes at) (IsPick ballot)
    → IsPick ballot vote
picked votes ballot at vote e h = subst (λ o. IfSome o (IsPick ballot)) e h

pub picked_at : {C : Type 0} (votes ballot : List (Vote C)) (at : ℕ) (vote : Vote C) → slice_get votes at ≡ Some vote → IsPick ballot vote
    → IfSome (slice_get votes at) (IsPick ballot)
picked_at votes ballot at vote e h = subst (λ o. IfSome o (IsPick ballot)) (sym e) h

-- something stands at an index below the length
pub something_at : {A : Type 0} (xs : List A) (at : ℕ) → at < length xs → (x : A) × (slice_get xs at ≡ Some x)
something_at [] at low = absurd (omega arith)
something_at (x ∷ xs) zero low = (x, refl)
something_at (x ∷ xs) (suc at) low = something_at xs at (omega arith)

-- what stands at an index below the length
pub there_is : {A : Type 0} (P : A → Type 0) (xs : List A) (at : ℕ) → at < length xs → IfSome (slice_get xs at) P → (x : A) × (slice_get xs at ≡ Some x) × P x
there_is P [] at low h = absurd (omega arith)
there_is P (x ∷ xs) zero low h = (x, refl, h)
there_is P (x ∷ xs) (suc at) low h = there_is P xs at (omega arith) h

-- none of the votes is of that site
not_there : {C : Type 0} (votes : List (Vote C)) (vote other : Vote C) → has_vote votes vote.from ≡ false → Contains votes other → other.from ≡ vote.from → ⊥
not_there [] vote other none at same = Contains-none other at
not_there {C} (first ∷ votes) vote other none at same =
    by_place (Contains-cases first other votes at) (first.from == vote.from) refl none (not_there votes vote other)
  where
    by_place : (first ≡ other) ⊎ Contains votes other → (b : Bool) → (first.from == vote.from) ≡ b → (b || has_vote votes vote.from) ≡ false
        → (has_vote votes vote.from ≡ false → Contains votes other → other.from ≡ vote.from → ⊥) → ⊥
    by_place (inl e) b eb f rest =
        let one : (first.from == vote.from) ≡ true = eq-eqb first.from vote.from (ap (λ (v : Vote C). v.from) e ∙ same) in
        let all : (b || has_vote votes vote.from) ≡ true = ap (λ t. t || has_vote votes vote.from) (sym eb ∙ one) in
        true≢false (sym all ∙ f)
    by_place (inr at) true eb f rest = true≢false f
    by_place (inr at) false eb f rest = rest f at same

-- one of each site, with a vote of a site that had none
pub one_each-more : {C : Type 0} (votes : List (Vote C)) (vote : Vote C) → OneEach (λ (v : Vote C). v.from) votes → has_vote votes vote.from ≡ false
    → OneEach (λ (v : Vote C). v.from) (votes ++ vote ∷ [])
one_each-more {C} votes vote each none = λ a b at bt same. by_place a b same (Contains-snoc a vote votes at) (Contains-snoc b vote votes bt)
  where
    by_place : (a b : Vote C) → a.from ≡ b.from → Contains votes a ⊎ (vote ≡ a) → Contains votes b ⊎ (vote ≡ b) → a ≡ b
    by_place a b same (inl at) (inl bt) = each a b at bt same
    by_place a b same (inl at) (inr e) = absurd (not_there votes vote a none at (same ∙ sym (ap (λ (v : Vote C). v.from) e)))
    by_place a b same (inr e) (inl bt) = absurd (not_there votes vote b none bt (sym same ∙ sym (ap (λ (v : Vote C). v.from) e)))
    by_place a b same (inr e) (inr d) = sym e ∙ d

-- the largest commit-number of those that are left, with the next vote
pub most_next : {C : Type 0} (known told : List ℕ) (votes : List (Vote C)) (at : ℕ) (vote : Vote C) (b : Bool) → slice_get votes at ≡ Some vote
    → is_left known told vote.from vote.known ≡ b
    → (let most = fold (λ m (v : Vote C). max m v.done) 0 (votes_left known told (take at votes)) in if b then max most vote.done else most)
    ≡ fold (λ m (v : Vote C). max m v.done) 0 (votes_left known told (take (at + 1) votes))
most_next {C} known told votes at vote b e is = by_test b ∙ ap (fold (λ m (v : Vote C). max m v.done) 0) (sym (left-more known told votes at vote b e is))
  where
    by_test : (c : Bool)
        → (let most = fold (λ m (v : Vote C). max m v.done) 0 (votes_left known told (take at votes)) in if c then max most vote.done else most)
        ≡ fold (λ m (v : Vote C). max m v.done) 0 (if c then votes_left known told (take at votes) ++ vote ∷ [] else votes_left known told (take at votes))
    by_test true = sym (fold-append (λ m (v : Vote C). max m v.done) 0 (votes_left known told (take at votes)) (vote ∷ []))
    by_test false = refl
