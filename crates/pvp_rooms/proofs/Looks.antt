-- What is read of what actors left.
use Rattle.std.proofs.Common.{◌≡◌, ℕ, zero, suc, ◌<◌, ◌+◌, List, [], ◌∷◌, ◌++◌, length, take, get_or, slice_get, slice_set, ◌≢◌, ◌==◌, Bool, true, false, subst, Some, refl, ap, sym, ◌∙◌, inl, inr, ◌⊎◌, arith}
use Rattle.std.proofs.lemmas.Option.{slice_get_read}
use Rattle.std.proofs.lemmas.Bool.{cases_order, eqb-true, eqb-false}
use Rattle.pvp_rooms.specs.declared.cell.Closed.{Closed}
use Rattle.pvp_rooms.specs.Runs.{history_in, history_of}

pub history_read : {A N E O : Type 0} (closed : List (Closed A N E O)) (k : ℕ) (c : Closed A N E O) → k < length closed → c ≡ get_or closed k c
    → history_of closed k ≡ c.history.items
history_read closed k c h e = ap history_in (slice_get_read closed (length closed) k c refl h e)

-- the first n items have the items below n
pub slice_get-first : {X : Type 0} (xs : List X) (n i : ℕ) → i < n → slice_get (take n xs) i ≡ slice_get xs i
slice_get-first [] zero i h = refl
slice_get-first [] (suc n) i h = refl
slice_get-first (x ∷ xs) zero i h = absurd (omega (arith, h))
slice_get-first (x ∷ xs) (suc n) zero h = refl
slice_get-first (x ∷ xs) (suc n) (suc i) h = slice_get-first xs n i (omega (arith, h))

-- an item of a list with one more is in the list, or is the one
pub get_pushed : {X : Type 0} (xs : List X) (x y : X) (k : ℕ) → slice_get (xs ++ x ∷ []) k ≡ Some y → (slice_get xs k ≡ Some y) ⊎ ((k ≡ length xs) × (y ≡ x))
get_pushed [] x y zero h = inr (refl, cc)
get_pushed [] x y (suc k) h = inl h
get_pushed (z ∷ xs) x y zero h = inl h
get_pushed (z ∷ xs) x y (suc k) h = elim (get_pushed xs x y k h) [ inl e ↦ inl e | inr e ↦ inr (ap suc e.0, e.1) ]

pub get_set_same : {X : Type 0} (xs : List X) (k : ℕ) (a : X) → k < length xs → slice_get (slice_set xs k a) k ≡ Some a
get_set_same [] k a h = absurd (omega (arith, h))
get_set_same (x ∷ xs) zero a h = refl
get_set_same (x ∷ xs) (suc k) a h = get_set_same xs k a (omega (arith, h))

pub get_set_other : {X : Type 0} (xs : List X) (k j : ℕ) (a : X) → k ≢ j → slice_get (slice_set xs k a) j ≡ slice_get xs j
get_set_other [] k j a h = refl
get_set_other (x ∷ xs) zero zero a h = absurd (h refl)
get_set_other (x ∷ xs) zero (suc j) a h = refl
get_set_other (x ∷ xs) (suc k) zero a h = refl
get_set_other (x ∷ xs) (suc k) (suc j) a h = get_set_other xs k j a (λ e. h (ap suc e))

-- what holds of each item below n and of item n
pub below_more : {X : Type 0} (P : X → Type 0) (xs : List X) (n : ℕ) (x : X) → n < length xs → x ≡ get_or xs n x
    → ((k : ℕ) (y : X) → slice_get xs k ≡ Some y → k < n → P y) → P x → (k : ℕ) (y : X) → slice_get xs k ≡ Some y → k < n + 1 → P y
below_more {X = X} P xs n x within is old here k y hy h = go (n == k) refl
  where
    some : (a b : X) → Some a ≡ Some b → a ≡ b
    some a b e = cc

    go : (b : Bool) → (n == k) ≡ b → P y
    go true e = subst P (some x y (sym (slice_get_read xs (length xs) n x refl within is) ∙ ap (slice_get xs) (eqb-true n k e) ∙ hy)) here
    go false e = let ne = eqb-false n k e in old k y hy (omega (arith, h, ne))

-- what holds of each item below a place and of the item there
pub below_place : {X : Type 0} (P : ℕ → X → Type 0) (xs : List X) (n : ℕ) (x : X) → slice_get xs n ≡ Some x
    → ((k : ℕ) (y : X) → slice_get xs k ≡ Some y → k < n → P k y) → P n x → (k : ℕ) (y : X) → slice_get xs k ≡ Some y → k < n + 1 → P k y
below_place {X = X} P xs n x is old here k y hy h = go (n == k) refl
  where
    some : (a b : X) → Some a ≡ Some b → a ≡ b
    some a b e = cc

    go : (b : Bool) → (n == k) ≡ b → P k y
    go true e = let same = eqb-true n k e in subst (λ j. P j y) same (subst (P n) (some x y (sym is ∙ ap (slice_get xs) same ∙ hy)) here)
    go false e = let ne = eqb-false n k e in old k y hy (omega (arith, h, ne))
