-- Reading the frames of what was sent one after the other, as a loop does.
use Rattle.std.proofs.Common.{◌≡◌, ◌⊎◌, inl, inr, ℕ, suc, ◌-◌, ◌+◌, ◌≤◌, ◌<◌, List, [], ◌∷◌, ◌++◌, Ok, Err, refl, sym, ap, ◌∙◌, append_assoc, arith}
use Rattle.std.proofs.lemmas.List.{append-nil}
use Rattle.pvp_wire.specs.declared.fault.WireFault.{WireFault}
use Rattle.pvp_wire.specs.declared.fault.WireFault.TheVariants.{NoMemory}
use Rattle.pvp_wire.specs.Reading.{◌>>=◌, Reads}
use Rattle.pvp_wire.proofs.Loop.{with_front}
use Rattle.pvp_journal.specs.Spelling.{Envelope}
use Rattle.pvp_journal.specs.Reading.{sent_at, frames_from}

regroup : (front : List Envelope) (x : Envelope) (read : Reads (List Envelope))
    → with_front front (read >>= λ y. Ok (x ∷ y.0, y.1)) ≡ with_front (front ++ x ∷ []) read
regroup front x (Ok y) = ap (λ (items : List Envelope). Ok (items, y.1)) (simp append_assoc)
regroup front x (Err f) = refl

pub goes_on : (me clock : ℕ) (front : List Envelope) (count i : ℕ) (bytes : List ℕ) (x : Envelope) (after : List ℕ) (total : Reads (List Envelope)) → i < count
    → sent_at me clock i bytes ≡ Ok (x, after)
    → with_front front (frames_from me clock (count - i) i bytes) ≡ total
    → with_front (front ++ x ∷ []) (frames_from me clock (count - (i + 1)) (i + 1) after) ≡ total
unfolding frames_from
goes_on me clock front count i bytes x after total lt h so_far =
    let k : count - i ≡ suc (count - (i + 1)) = omega arith in
    let one : with_front front (frames_from me clock (count - i) i bytes) ≡ with_front (front ++ x ∷ [])
    (frames_from me clock (count - (i + 1)) (i + 1) after) = rw (k, h) (regroup front x (frames_from me clock (count - (i + 1)) (i + 1) after)) in
    sym one ∙ so_far

pub ends : (me clock : ℕ) (fault : WireFault) (front : List Envelope) (count i : ℕ) (bytes : List ℕ) (total : Reads (List Envelope)) → i < count
    → sent_at me clock i bytes ≡ Err fault
    → with_front front (frames_from me clock (count - i) i bytes) ≡ total → total ≡ Err fault
unfolding frames_from
ends me clock fault front count i bytes total lt h so_far =
    let k : count - i ≡ suc (count - (i + 1)) = omega arith in
    let one : with_front front (frames_from me clock (count - i) i bytes) ≡ Err fault = rw (k, h) refl in
    sym so_far ∙ one

-- an item that was not read, or for which memory was refused
pub ends_or : (me clock : ℕ) (fault : WireFault) (front : List Envelope) (count i : ℕ) (bytes : List ℕ) (total : Reads (List Envelope)) → i < count
    → (sent_at me clock i bytes ≡ Err fault) ⊎ (fault ≡ NoMemory)
    → with_front front (frames_from me clock (count - i) i bytes) ≡ total → (total ≡ Err fault) ⊎ (fault ≡ NoMemory)
ends_or me clock fault front count i bytes total lt (inl h) so_far = inl (ends me clock fault front count i bytes total lt h so_far)
ends_or me clock fault front count i bytes total lt (inr h) so_far = inr h

pub is_done : (me clock : ℕ) (front : List Envelope) (count i : ℕ) (bytes : List ℕ) (total : Reads (List Envelope)) → count ≤ i
    → with_front front (frames_from me clock (count - i) i bytes) ≡ total → total ≡ Ok (front, bytes)
unfolding frames_from
is_done me clock front count i bytes total le so_far =
    let k : count - i ≡ 0 = omega arith in
    let one : with_front front (frames_from me clock (count - i) i bytes) ≡ Ok (front, bytes) =
    rw k (ap (λ (items : List Envelope). Ok (items, bytes)) (append-nil front)) in
    sym so_far ∙ one
