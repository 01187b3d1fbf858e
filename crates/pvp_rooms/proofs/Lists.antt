-- Lists with one item more, and with none.
use Rattle.std.proofs.Common.{◌≡◌, ◌⊎◌, inl, inr, ℕ, zero, suc, List, [], ◌∷◌, ◌++◌, length, take, slice_get, Some, None, refl, ap}
use Rattle.pvp_rooms.proofs.Order.{same_some}

pub none_some : {X : Type 0} (x : X) → None ≡ Some x → ⊥
none_some x e = cc

pub push_cases : {X : Type 0} (xs : List X) (y : X) (i : ℕ) (r : X) → slice_get (xs ++ y ∷ []) i ≡ Some r → (slice_get xs i ≡ Some r) ⊎ (y ≡ r)
push_cases [] y zero r e = inr (same_some y r e)
push_cases [] y (suc i) r e = absurd (none_some r e)
push_cases (x ∷ xs) y zero r e = inl e
push_cases (x ∷ xs) y (suc i) r e = push_cases xs y i r e

pub push_last : {X : Type 0} (xs : List X) (y : X) → slice_get (xs ++ y ∷ []) (length xs) ≡ Some y
push_last [] y = refl
push_last (x ∷ xs) y = push_last xs y

pub push_keep : {X : Type 0} (xs ys : List X) (i : ℕ) (r : X) → slice_get xs i ≡ Some r → slice_get (xs ++ ys) i ≡ Some r
push_keep [] ys i r e = absurd (none_some r e)
push_keep (x ∷ xs) ys zero r e = e
push_keep (x ∷ xs) ys (suc i) r e = push_keep xs ys i r e

pub push_length : {X : Type 0} (xs : List X) (y : X) → length (xs ++ y ∷ []) ≡ suc (length xs)
push_length [] y = refl
push_length (x ∷ xs) y = ap (λ n. suc n) (push_length xs y)

pub take_none : {X : Type 0} (n : ℕ) → ◌≡◌ {A = List X} (take n []) []
take_none zero = refl
take_none (suc n) = refl
