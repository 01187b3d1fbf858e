-- Reading the items of a list one after the other, as a loop does.
use Rattle.std.proofs.Common.{◌≡◌, ◌⊎◌, inl, inr, true, false, ℕ, zero, suc, ◌-◌, ◌+◌, ◌≤◌, ◌<◌, List, [], ◌∷◌, ◌++◌, Ok, Err, refl, sym, ap, ◌∙◌, append_assoc, arith}
use Rattle.std.proofs.lemmas.List.{append-nil}
use Rattle.pvp_wire.specs.declared.fault.WireFault.{WireFault}
use Rattle.pvp_wire.specs.declared.fault.WireFault.TheVariants.{NoMemory}
use Rattle.pvp_wire.specs.Shape.{◌>>=◌, Reads, items_from}

-- what was read before, and what is still read
abbrev pub with_front : {A : Type 0} → List A → Reads (List A) → Reads (List A)
with_front front read = read >>= λ x. Ok (front ++ x.0, x.1)

regroup : {A : Type 0} (front : List A) (x : A) (read : Reads (List A)) → with_front front (read >>= λ y. Ok (x ∷ y.0, y.1)) ≡ with_front (front ++ x ∷ []) read
regroup {A} front x (Ok y) = ap (λ (items : List A). Ok (items, y.1)) (simp append_assoc)
regroup front x (Err f) = refl

pub goes_on : {A : Type 0} (item_at : List ℕ → Reads A) (front : List A) (count i : ℕ) (bytes : List ℕ) (x : A) (after : List ℕ) (total : Reads (List A))
    → i < count → item_at bytes ≡ Ok (x, after)
    → with_front front (items_from item_at false (count - i) bytes) ≡ total
    → with_front (front ++ x ∷ []) (items_from item_at false (count - (i + 1)) after) ≡ total
unfolding items_from
goes_on item_at front count i bytes x after total lt h so_far =
    let k : count - i ≡ suc (count - (i + 1)) = omega arith in
    let one : with_front front (items_from item_at false (count - i) bytes) ≡ with_front (front ++ x ∷ []) (items_from item_at false (count - (i + 1)) after) =
    rw (k, h) (regroup front x (items_from item_at false (count - (i + 1)) after)) in
    sym one ∙ so_far

pub ends : {A : Type 0} (item_at : List ℕ → Reads A) (fault : WireFault) (front : List A) (count i : ℕ) (bytes : List ℕ) (total : Reads (List A)) → i < count
    → item_at bytes ≡ Err fault
    → with_front front (items_from item_at false (count - i) bytes) ≡ total → total ≡ Err fault
unfolding items_from
ends item_at fault front count i bytes total lt h so_far =
    let k : count - i ≡ suc (count - (i + 1)) = omega arith in
    let one : with_front front (items_from item_at false (count - i) bytes) ≡ Err fault = rw (k, h) refl in
    sym so_far ∙ one

pub is_done : {A : Type 0} (item_at : List ℕ → Reads A) (front : List A) (count i : ℕ) (bytes : List ℕ) (total : Reads (List A)) → count ≤ i
    → with_front front (items_from item_at false (count - i) bytes) ≡ total → total ≡ Ok (front, bytes)
unfolding items_from
is_done {A} item_at front count i bytes total le so_far =
    let k : count - i ≡ 0 = omega arith in
    let one : with_front front (items_from item_at false (count - i) bytes) ≡ Ok (front, bytes) =
    rw k (ap (λ (items : List A). Ok (items, bytes)) (append-nil front)) in
    sym so_far ∙ one

-- no item was read before, or one was, which takes memory
abbrev pub IsAsked : {A : Type 0} → (List ℕ → Reads A) → ℕ → ℕ → List ℕ → List ℕ → Type 0
IsAsked item_at count i rest bytes = ((i ≡ 0) × (rest ≡ bytes)) ⊎ (items_from item_at true count bytes ≡ Err NoMemory)

-- an item that is read takes memory
pub asks : {A : Type 0} (item_at : List ℕ → Reads A) (count i : ℕ) (rest bytes : List ℕ) (x : A) (after : List ℕ) → i < count → item_at rest ≡ Ok (x, after)
    → IsAsked item_at count i rest bytes → items_from item_at true count bytes ≡ Err NoMemory
unfolding items_from
asks item_at zero i rest bytes x after lt h asked = absurd (omega arith)
asks item_at (suc count) i rest bytes x after lt h (inl first) = rw (← first.1, h) refl
asks item_at (suc count) i rest bytes x after lt h (inr asked) = asked
