-- What is left of the messages that are collected, as a site learns what it was told.
use Rattle.std.proofs.Common.{◌≡◌, ◌⊎◌, inl, inr, ℕ, ◌<◌, ◌≤◌, ◌&&◌, ◌||◌, Bool, true, false, not, nat_lt, max, List, [], ◌∷◌, length, map, if◌then◌else◌, refl, sym, ap, ◌∙◌, subst, arith}
use Rattle.std.specs.Prelude.{Contains}
use Rattle.std.specs.List.{filter, list_any}
use Rattle.std.proofs.lemmas.Bool.Decides.{nat_tests}
use Rattle.vr_types.specs.Choice.{OneEach}
use Rattle.vr_types.specs.Site.{Vote, boot_of}
use Rattle.vr_types.specs.Step.{greater, is_outdated}
use Rattle.vr_types.proofs.ChoosingPick.{Contains-here, Contains-there, Contains-cases}
use Rattle.vr_types.proofs.Vectors.{greater_is}
use Rattle.vr_change.specs.Ballot.{is_left, votes_left}

-- what is left is not outdated by what was known, nor by what was told
pub left_by_both : (known told : List ℕ) (from : ℕ) (sent : List ℕ)
    → (not (is_outdated known from sent) && not (is_outdated told from sent)) ≡ is_left known told from sent
left_by_both known told from sent =
    tests (boot_of sent from) (boot_of known from) (boot_of told from) ∙ ap (λ n. not (nat_lt (boot_of sent from) n)) (sym (greater_is known told from))
  where
    tests : (a b c : ℕ) → (not (nat_lt a b) && not (nat_lt a c)) ≡ not (nat_lt a (max b c))
    tests a b c = by_tests (nat_lt a b) (nat_lt a c) (nat_lt a (max b c)) refl refl refl
      where
        by_tests : (p q r : Bool) → nat_lt a b ≡ p → nat_lt a c ≡ q → nat_lt a (max b c) ≡ r → (not p && not q) ≡ not r
        by_tests true q true ep eq er = refl
        by_tests true q false ep eq er =
            absurd (let h : a < b = grind (arith, nat_tests, ep) in let k : max b c ≤ a = grind (arith, nat_tests, er) in omega arith)
        by_tests false true true ep eq er = refl
        by_tests false true false ep eq er =
            absurd (let h : a < c = grind (arith, nat_tests, eq) in let k : max b c ≤ a = grind (arith, nat_tests, er) in omega arith)
        by_tests false false true ep eq er =
            absurd (let h : b ≤ a = grind (arith, nat_tests, ep) in let k : c ≤ a = grind (arith, nat_tests, eq) in
            let l : a < max b c = grind (arith, nat_tests, er) in omega arith)
        by_tests false false false ep eq er = refl

-- what is known stays as long
pub greater_length : (known told : List ℕ) → length told ≤ length known → length (greater known told) ≡ length known
greater_length [] [] fits = refl
greater_length [] (b ∷ told) fits = absurd (omega arith)
greater_length (a ∷ known) [] fits = refl
greater_length (a ∷ known) (b ∷ told) fits = (let rest = greater_length known told (omega arith) in omega arith)

-- what a filter leaves of what a list is mapped to
pub filter-map : {A B : Type 0} (p : B → Bool) (h : A → B) (xs : List A) → map h (filter (λ x. p (h x)) xs) ≡ filter p (map h xs)
filter-map p h [] = refl
filter-map {A} {B} p h (x ∷ xs) = by_test (p (h x)) ∙ ap (λ l. if p (h x) then h x ∷ l else l) (filter-map p h xs)
  where
    by_test : (b : Bool)
        → map h (if b then x ∷ filter (λ y. p (h y)) xs else filter (λ y. p (h y)) xs)
        ≡ (if b then h x ∷ map h (filter (λ y. p (h y)) xs) else map h (filter (λ y. p (h y)) xs))
    by_test true = refl
    by_test false = refl

pub Contains-filter : {A : Type 0} (p : A → Bool) (xs : List A) (x : A) → Contains (filter p xs) x → Contains xs x
Contains-filter p [] x at = at
Contains-filter {A} p (y ∷ xs) x at = by_test (p y) at (Contains-filter p xs x)
  where
    by_place : (y ≡ x) ⊎ Contains (filter p xs) x → (Contains (filter p xs) x → Contains xs x) → Contains (y ∷ xs) x
    by_place (inl e) rest = subst (Contains (y ∷ xs)) e (Contains-here y xs)
    by_place (inr in') rest = Contains-there y x xs (rest in')

    by_test : (b : Bool) → Contains (if b then y ∷ filter p xs else filter p xs) x → (Contains (filter p xs) x → Contains xs x) → Contains (y ∷ xs) x
    by_test true in' rest = by_place (Contains-cases y x (filter p xs) in') rest
    by_test false in' rest = by_place (inr in') rest

-- of each site one is left
pub one_each-left : {C : Type 0} (known told : List ℕ) (votes : List (Vote C)) → OneEach (λ (vote : Vote C). vote.from) votes
    → OneEach (λ (vote : Vote C). vote.from) (votes_left known told votes)
one_each-left known told votes each = λ a b at bt same. each a b (Contains-filter _ votes a at) (Contains-filter _ votes b bt) same

-- a test of those that are left
pub list_any-filter : {A : Type 0} (q p : A → Bool) (xs : List A) → list_any (λ x. q x && p x) xs ≡ list_any q (filter p xs)
list_any-filter q p [] = refl
list_any-filter {A} q p (x ∷ xs) = ap (λ b. (q x && p x) || b) (list_any-filter q p xs) ∙ by_tests (q x) (p x) refl
  where
    by_tests : (a b : Bool) → q x ≡ a → ((a && b) || list_any q (filter p xs)) ≡ list_any q (if b then x ∷ filter p xs else filter p xs)
    by_tests true true e = ap (λ c. c || list_any q (filter p xs)) (sym e)
    by_tests true false e = refl
    by_tests false true e = ap (λ c. c || list_any q (filter p xs)) (sym e)
    by_tests false false e = refl
