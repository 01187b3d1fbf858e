-- Lists that are seen another way.
use Rattle.std.proofs.Common.{◌≡◌, ℕ, suc, ◌+◌, ◌≤◌, ◌&&◌, ◌||◌, Bool, true, false, nat_lt, Some, None, if◌then◌else◌, arith, List, [], ◌∷◌, length, map, count_by, cond, get_or, refl, sym, ap, ◌∙◌, subst}
use Rattle.std.specs.Prelude.{All, Contains}
use Rattle.std.specs.List.{list_any, filter, position, position_or_len}
use Rattle.vr_types.specs.Step.{greater}
use Rattle.std.proofs.Math.ListN.{get_or-map}
use Rattle.std.proofs.lemmas.List.{length-map}
use Rattle.std.proofs.lemmas.List.Sums.{sum_by-cons, fails_before_first}
use Rattle.std.proofs.lemmas.Bool.Decides.{nat_tests}
use Rattle.std.proofs.lemmas.List.Elements.{All-contains, All-contains_itself, All-filter, All-map, Contains-get_or, filter_passes}

pub list_any-map : {A B : Type 0} (p : B → Bool) (h : A → B) (xs : List A) → list_any p (map h xs) ≡ list_any (λ x. p (h x)) xs
list_any-map p h [] = refl
list_any-map p h (x ∷ xs) = ap (λ b. p (h x) || b) (list_any-map p h xs)

-- elements that a test tells alike count alike
pub count_by-same : {X : Type 0} (p q : X → Bool) (xs : List X) → ((x : X) → p x ≡ q x) → count_by p xs ≡ count_by q xs
count_by-same p q [] e = refl
count_by-same p q (x ∷ xs) e =
    sum_by-cons (λ y. cond (p y) 1 0) x xs ∙ ap (λ b. cond b 1 0 + count_by p xs) (e x) ∙ ap (λ n. cond (q x) 1 0 + n) (count_by-same p q xs e)
    ∙ sym (sum_by-cons (λ y. cond (q y) 1 0) x xs)

-- what a map has is the image of something
pub map-has : {A B : Type 0} (h : A → B) (xs : List A) (y : B) → Contains (map h xs) y → (x : A) × Contains xs x × (h x ≡ y)
map-has {A} {B} h xs y in' =
    let Images : B → Type 0 = λ z. (x : A) × Contains xs x × (h x ≡ z) in
    All-contains Images (map h xs) y (All-map Images h xs (λ k d low. (get_or xs k d, Contains-get_or xs k d low, refl))) in'

-- the image of what a list has
pub has-map : {A B : Type 0} (h : A → B) (xs : List A) (x : A) → Contains xs x → Contains (map h xs) (h x)
has-map h xs x in' =
    All-contains (λ z. Contains (map h xs) (h z)) xs x
    (λ k d low. subst (Contains (map h xs)) (get_or-map h xs k d) (Contains-get_or (map h xs) k (h d) (rw (length-map xs h) low))) in'

-- where a test finds no place, it fails everywhere
pub position-None : {X : Type 0} (p : X → Bool) (xs : List X) → position p xs ≡ None → All (λ x. p x ≡ false) xs
position-None {X} p xs h = by_test (nat_lt (position_or_len p xs) (length xs)) refl h
  where
    by_test : (b : Bool) → nat_lt (position_or_len p xs) (length xs) ≡ b → (if b then Some (position_or_len p xs) else None) ≡ None → All (λ x. p x ≡ false) xs
    by_test true e none = absurd (cc)
    by_test false e none = λ k d low. (let all : length xs ≤ position_or_len p xs = grind (arith, nat_tests, e) in fails_before_first p xs k d (omega arith))

-- a filter keeps what was there, and passes its test
pub filter-has : {X : Type 0} (p : X → Bool) (xs : List X) (x : X) → Contains (filter p xs) x → Contains xs x × (p x ≡ true)
filter-has p xs x in' = (
  All-contains (Contains xs) (filter p xs) x (All-filter p (Contains xs) xs (All-contains_itself xs)) in',
  All-contains (λ y. p y ≡ true) (filter p xs) x (filter_passes p xs) in',
)

pub filter-map : {A B : Type 0} (p : B → Bool) (h : A → B) (xs : List A) → filter p (map h xs) ≡ map h (filter (λ x. p (h x)) xs)
filter-map p h [] = refl
filter-map {A} {B} p h (x ∷ xs) = by_test (p (h x)) (filter-map p h xs)
  where
    by_test : (b : Bool) → filter p (map h xs) ≡ map h (filter (λ y. p (h y)) xs)
        → cond b (h x ∷ filter p (map h xs)) (filter p (map h xs)) ≡ map h (cond b (x ∷ filter (λ y. p (h y)) xs) (filter (λ y. p (h y)) xs))
    by_test true e = ap (λ ys. h x ∷ ys) e
    by_test false e = e

-- what is tested of what a filter keeps
pub list_any-filter : {X : Type 0} (p q : X → Bool) (xs : List X) → list_any q (filter p xs) ≡ list_any (λ x. p x && q x) xs
list_any-filter p q [] = refl
list_any-filter {X} p q (x ∷ xs) = by_test (p x) (list_any-filter p q xs)
  where
    by_test : (b : Bool) → list_any q (filter p xs) ≡ list_any (λ y. p y && q y) xs
        → list_any q (cond b (x ∷ filter p xs) (filter p xs)) ≡ ((b && q x) || list_any (λ y. p y && q y) xs)
    by_test true e = ap (λ rest. q x || rest) e
    by_test false e = e

-- tests that tell each element alike
pub list_any-same : {X : Type 0} (p q : X → Bool) (xs : List X) → ((x : X) → p x ≡ q x) → list_any p xs ≡ list_any q xs
list_any-same p q [] e = refl
list_any-same p q (x ∷ xs) e = ap (λ b. b || list_any p xs) (e x) ∙ ap (λ rest. q x || rest) (list_any-same p q xs e)

pub and_turned : (a b : Bool) → (a && b) ≡ (b && a)
and_turned true true = refl
and_turned true false = refl
and_turned false true = refl
and_turned false false = refl

pub and_false : (a : Bool) → (a && false) ≡ false
and_false true = refl
and_false false = refl

-- what is learnt is of no more sites
pub greater_length : (known told : List ℕ) → length told ≤ length known → length (greater known told) ≡ length known
greater_length [] [] low = refl
greater_length [] (b ∷ told) low = absurd (omega arith)
greater_length (a ∷ known) [] low = refl
greater_length (a ∷ known) (b ∷ told) low = ap suc (greater_length known told (omega arith))
