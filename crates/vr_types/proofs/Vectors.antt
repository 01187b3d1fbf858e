-- What is known of boots: the greater of two, a site's entry set, and a vector within another.
use Rattle.std.proofs.Common.{◌≡◌, ◌≢◌, ◌⊎◌, inl, inr, ℕ, zero, suc, ◌+◌, ◌*◌, ◌<◌, ◌≤◌, max, List, [], ◌∷◌, length, take, replicate, set, refl, sym, ap, ◌∙◌, subst, arith, get_or-set_same, get_or-set_other}
use Rattle.std.proofs.lemmas.Bool.{cases_lt, cases_eq}
use Rattle.std.proofs.lemmas.List.{length-replicate}
use Rattle.vr_types.specs.Site.{boot_of, no_boots}
use Rattle.vr_types.specs.Step.{greater}

-- all that a knows b knows
abbrev pub Within : List ℕ → List ℕ → Type 0
Within a b = (k : ℕ) → boot_of a k ≤ boot_of b k

pub greater_is : (a b : List ℕ) (k : ℕ) → boot_of (greater a b) k ≡ max (boot_of a k) (boot_of b k)
greater_is [] b k = omega arith
greater_is (x ∷ a) [] zero = omega arith
greater_is (x ∷ a) [] (suc k) = omega arith
greater_is (x ∷ a) (y ∷ b) zero = refl
greater_is (x ∷ a) (y ∷ b) (suc k) = greater_is a b k

pub greater_left : (a b : List ℕ) → Within a (greater a b)
greater_left a b k = let e = greater_is a b k in omega arith

pub greater_right : (a b : List ℕ) → Within b (greater a b)
greater_right a b k = let e = greater_is a b k in omega arith

pub greater_one_of : (a b : List ℕ) (k : ℕ) → (boot_of (greater a b) k ≡ boot_of a k) ⊎ (boot_of (greater a b) k ≡ boot_of b k)
greater_one_of a b k = by_order (cases_lt (boot_of a k) (boot_of b k))
  where
    e : boot_of (greater a b) k ≡ max (boot_of a k) (boot_of b k)
    e = greater_is a b k

    by_order : (boot_of a k < boot_of b k) ⊎ (boot_of b k ≤ boot_of a k) → (boot_of (greater a b) k ≡ boot_of a k) ⊎ (boot_of (greater a b) k ≡ boot_of b k)
    by_order (inl l) = inr (let d = e in omega arith)
    by_order (inr l) = inl (let d = e in omega arith)

pub greater_long : (a b : List ℕ) → length a ≤ length (greater a b)
greater_long [] b = omega arith
greater_long (x ∷ a) [] = omega arith
greater_long (x ∷ a) (y ∷ b) = let h = greater_long a b in omega arith

pub within-trans : (a b c : List ℕ) → Within a b → Within b c → Within a c
within-trans a b c p q k = let h = p k in let i = q k in omega arith

-- an entry is set
pub set_here : (known : List ℕ) (j x : ℕ) → j < length known → boot_of (set known j x) j ≡ x
set_here known j x low = get_or-set_same known j x 0 low

pub set_there : (known : List ℕ) (j k x : ℕ) → k ≢ j → boot_of (set known j x) k ≡ boot_of known k
set_there known j k x apart = get_or-set_other known j k x 0 apart

-- to no less than it was
pub set_within : (known : List ℕ) (j x : ℕ) → j < length known → boot_of known j ≤ x → Within known (set known j x)
set_within known j x low more k = by_site (cases_eq k j)
  where
    by_site : (k ≡ j) ⊎ (k ≡ j → ⊥) → boot_of known k ≤ boot_of (set known j x) k
    by_site (inl e) = subst (λ (i : ℕ). boot_of known i ≤ boot_of (set known j x) i) (sym e) (let h = set_here known j x low in omega arith)
    by_site (inr apart) = let h = set_there known j k x apart in omega arith

nothing_known : (n k : ℕ) → boot_of (replicate n 0) k ≡ 0
nothing_known zero k = refl
nothing_known (suc n) zero = refl
nothing_known (suc n) (suc k) = nothing_known n k

pub no_boots_is : (f k : ℕ) → boot_of (no_boots f) k ≡ 0
no_boots_is f k = nothing_known (2 * f + 1) k

pub no_boots_long : (f : ℕ) → length (no_boots f) ≡ 2 * f + 1
no_boots_long f = length-replicate (2 * f + 1) 0

-- one entry more of what a sender knew is learnt
pub greater_none : (known : List ℕ) → greater known [] ≡ known
greater_none [] = refl
greater_none (a ∷ known) = refl

pub greater_next : (known told : List ℕ) (n : ℕ) → n < length told → n < length known
    → set (greater known (take n told)) n (max (boot_of (greater known (take n told)) n) (boot_of told n)) ≡ greater known (take (n + 1) told)
greater_next [] told n low within = absurd (omega arith)
greater_next (a ∷ known) [] n low within = absurd (omega arith)
greater_next (a ∷ known) (b ∷ told) zero low within = ap (λ rest. max a b ∷ rest) (sym (greater_none known))
greater_next (a ∷ known) (b ∷ told) (suc n) low within =
    let one_more : suc (n + 1) ≡ suc n + 1 = omega arith in
    ap (λ rest. max a b ∷ rest) (greater_next known told n (omega arith) (omega arith)) ∙ ap (λ m. greater (a ∷ known) (take m (b ∷ told))) one_more
