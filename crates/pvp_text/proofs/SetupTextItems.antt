-- Reading the items of an array one after the other, as a loop does.
use Rattle.std.proofs.Common.{◌≡◌, ℕ, zero, suc, ◌+◌, ◌<◌, ◌≤◌, List, [], ◌∷◌, ◌++◌, length, get_or, drop, Option, Some, None, Result, Ok, Err, inl, inr, refl, sym, ap, ◌∙◌, append_assoc, arith}
use Rattle.std.proofs.lemmas.List.{drop_more, drop_all, append-nil}
use Rattle.serde_json.specs.View.{view, items_view}
use Rattle.serde_json.specs.declared.value.Value.{Value}
use Rattle.pvp_text.specs.declared.setup.TextFault.{TextFault}
use Rattle.pvp_text.specs.declared.setup.TextFault.TheVariants.{NoMemory}
use Rattle.pvp_text.specs.Reading.{◌>>=◌, Faults}
use Rattle.pvp_text.specs.SetupText.{Kind, each_of, text_fault_is_memory}
use Rattle.pvp_text.specs.Steadiness.{IsSteadyKind}

-- what was read before, and what the items from place i on hold
abbrev pub with_front : {A : Type 0} → List A → Result (List A) TextFault → Result (List A) TextFault
with_front front held = held >>= λ xs. Ok (front ++ xs)

abbrev pub from_item : {A : Type 0} → Kind A → Option TextFault → ℕ → List Value → Result (List A) TextFault
from_item kind refused i vs = each_of kind refused (items_view (drop i vs))

-- Where no memory is refused, what was read and what is still read are all. Where it is refused, that is told before the first item is kept.
pub record IsSoFar {A : Type 0} (kind : Kind A) (front : List A) (i : ℕ) (vs : List Value) : Type 0 where
  pub held : with_front front (from_item kind None i vs) ≡ each_of kind None (items_view vs)
  pub refused : (refusal : TextFault) → 0 < i → each_of kind (Some refusal) (items_view vs) ≡ Err refusal

regroup : {A : Type 0} (front : List A) (x : A) (held : Result (List A) TextFault)
    → with_front front (held >>= λ xs. Ok (x ∷ xs)) ≡ with_front (front ++ x ∷ []) held
regroup front x (Err fault) = refl
regroup front x (Ok xs) = ap (λ ys. Ok ys) (sym (append_assoc front (x ∷ []) xs))

next_item : (vs : List Value) (i : ℕ) (v : Value) → i < length vs → v ≡ get_or vs i v → drop i vs ≡ v ∷ drop (i + 1) vs
next_item vs i v lt is = drop_more vs i v lt ∙ ap (λ w. w ∷ drop (i + 1) vs) (sym is)

-- an item that is read is kept, for which memory may be refused
first_kept : {A : Type 0} (kind : Kind A) → IsSteadyKind kind → (refusal : TextFault) (v : Value) (x : A) (vs : List Value) → kind None (view v) ≡ Ok x
    → each_of kind (Some refusal) (items_view (v ∷ vs)) ≡ Err refusal
first_kept kind steady refusal v x vs held = elim (steady (view v) refusal) [
  | inl same ↦ rw (same, held) refl
  | inr told ↦ rw told refl
]

-- memory is refused to an item, or to an item before it
refused_by : {A : Type 0} (kind : Kind A) → IsSteadyKind kind → (refusal : TextFault) (vs : List Value) (i : ℕ) (v : Value) (x : A) → i < length vs
    → v ≡ get_or vs i v → kind None (view v) ≡ Ok x
    → (0 < i → each_of kind (Some refusal) (items_view vs) ≡ Err refusal) → each_of kind (Some refusal) (items_view vs) ≡ Err refusal
refused_by kind steady refusal vs zero v x lt is held before =
    let all : vs ≡ v ∷ drop 1 vs = next_item vs 0 v lt is in
    rw all (first_kept kind steady refusal v x (drop 1 vs) held)
refused_by kind steady refusal vs (suc i) v x lt is held before = before (omega arith)

pub goes_on : {A : Type 0} (kind : Kind A) → IsSteadyKind kind → (front : List A) (vs : List Value) (i : ℕ) (v : Value) (x : A) → i < length vs
    → v ≡ get_or vs i v → kind None (view v) ≡ Ok x
    → IsSoFar kind front i vs → IsSoFar kind (front ++ x ∷ []) (i + 1) vs
goes_on kind steady front vs i v x lt is held so_far =
    let one : with_front front (from_item kind None i vs) ≡ with_front (front ++ x ∷ []) (from_item kind None (i + 1) vs) =
    rw (next_item vs i v lt is, held) (regroup front x (from_item kind None (i + 1) vs)) in
    record { held = sym one ∙ so_far.held; refused = λ refusal past. refused_by kind steady refusal vs i v x lt is held (so_far.refused refusal) }

-- the item that is at fault
pub ends : {A : Type 0} (fault : TextFault) (kind : Kind A) (front : List A) (vs : List Value) (i : ℕ) (v : Value) → i < length vs → v ≡ get_or vs i v
    → Faults text_fault_is_memory fault (λ refused. kind refused (view v))
    → IsSoFar kind front i vs → Faults text_fault_is_memory fault (λ refused. each_of kind refused (items_view vs))
ends fault kind front vs i v lt is (inl failed) so_far =
    let one : with_front front (from_item kind None i vs) ≡ Err fault = rw (next_item vs i v lt is, failed) refl in
    inl (sym so_far.held ∙ one)
ends fault kind front vs zero v lt is (inr told) so_far =
    let all : vs ≡ v ∷ drop 1 vs = next_item vs 0 v lt is in
    inr (told.0, rw (all, told.1) refl)
ends fault kind front vs (suc i) v lt is (inr told) so_far = inr (told.0, so_far.refused fault (omega arith))

-- memory is refused to the item that was read
pub is_refused : {A : Type 0} (kind : Kind A) → IsSteadyKind kind → (front : List A) (vs : List Value) (i : ℕ) (v : Value) (x : A) → i < length vs
    → v ≡ get_or vs i v → kind None (view v) ≡ Ok x
    → IsSoFar kind front i vs → Faults text_fault_is_memory NoMemory (λ refused. each_of kind refused (items_view vs))
is_refused kind steady front vs i v x lt is held so_far = inr (refl, refused_by kind steady NoMemory vs i v x lt is held (so_far.refused NoMemory))

pub is_done : {A : Type 0} (kind : Kind A) (front : List A) (vs : List Value) (i : ℕ) → length vs ≤ i → IsSoFar kind front i vs
    → each_of kind None (items_view vs) ≡ Ok front
is_done kind front vs i le so_far =
    let one : with_front front (from_item kind None i vs) ≡ Ok front = rw (drop_all i vs le) (ap (λ ys. Ok ys) (append-nil front)) in
    sym so_far.held ∙ one
