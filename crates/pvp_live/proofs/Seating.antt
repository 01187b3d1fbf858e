-- The seats of a bank's cells, from their opening to their close.
use Rattle.std.proofs.Common.{◌≡◌, ◌⊎◌, inl, inr, ℕ, ◌<◌, ◌==◌, Bool, true, false, zero, suc, List, [], ◌∷◌, ◌++◌, length, get_or, slice_get, slice_set, Some, eqb-true, refl, sym, ap, ◌∙◌, subst, arith}
use Rattle.std.specs.Prelude.{Contains, IsPermutation}
use Rattle.std.specs.Global.{Vec}
use Rattle.std.proofs.lemmas.Bool.{eqb-false}
use Rattle.std.proofs.lemmas.List.{length-append, length-set, get_or-set_same, get_or-set_other}
use Rattle.std.proofs.lemmas.List.Elements.{Contains-append_left, Contains-push, Contains-push_cases}
use Rattle.std.proofs.lemmas.List.Sorted.{Contains-permutation}
use Rattle.std.proofs.lemmas.Option.{slice_get_within, get_or_from_slice_get}
use Rattle.vr_types.proofs.ChoosingPick.{Contains-none, Contains-here, Contains-there}
use Rattle.pvp_rooms.specs.Closing.{fresh_seats}
use Rattle.pvp_rooms.specs.Seats.{Place}
use Rattle.vr_types.specs.declared.cell.BootCell.{Ghosts as Cell}
use Rattle.pvp_audit.specs.Judged.{Left}
use Rattle.pvp_audit.specs.Cells.{LeftOver, AreInMemory}
use Rattle.pvp_live.specs.Seating.{BankSeat, AreNew, IsAmong, TakesBack, TakesOne, IsKeptSeat, Keeps}

-- ---- new seats

fresh_each : (seats actor : ℕ) (seat : BankSeat) → Contains (fresh_seats seats actor) seat → (seat.actor ≡ actor) × (seat.receipts ≡ [])
fresh_each zero actor seat in' = absurd (Contains-none seat in')
fresh_each (suc n) actor seat in' =
    fresh_case (Contains-push_cases (fresh_seats n actor) (record { actor = actor; number = n; receipts = [] }) seat in') (fresh_each n actor seat)
  where
    fresh_case : Contains (fresh_seats n actor) seat ⊎ (record { actor = actor; number = n; receipts = [] } ≡ seat)
        → (Contains (fresh_seats n actor) seat → (seat.actor ≡ actor) × (seat.receipts ≡ []))
        → (seat.actor ≡ actor) × (seat.receipts ≡ [])
    fresh_case (inl before) rest = rest before
    fresh_case (inr e) rest = (ap (λ (s : BankSeat). s.actor) (sym e), ap (λ (s : BankSeat). s.receipts) (sym e))

pub fresh_long : (seats actor : ℕ) → length {A = BankSeat} (fresh_seats seats actor) ≡ seats
fresh_long zero actor = refl
fresh_long (suc n) actor =
    let front : List BankSeat = fresh_seats n actor in
    let last : BankSeat = record { actor = actor; number = n; receipts = [] } in
    let rest : length front ≡ n = fresh_long n actor in
    let long = length-append front (last ∷ []) in
    omega (arith, rest, long)

-- the last of new seats
pub fresh_last : (seats actor : ℕ) (all front : List BankSeat) (last : BankSeat) → all ≡ fresh_seats seats actor → all ≡ front ++ last ∷ []
    → (last.actor ≡ actor) × (last.receipts ≡ [])
fresh_last seats actor all front last is ends =
    fresh_each seats actor last (subst (λ (l : List BankSeat). Contains l last) (sym ends ∙ is) (Contains-push front last))

-- one more actor, with a new seat
pub new_more : (cells : List Place) (seats : List BankSeat) (cell : Place) (seat : BankSeat) → AreNew cells seats → seat.actor ≡ cell.number
    → seat.receipts ≡ [] → AreNew (cells ++ cell ∷ []) (seats ++ seat ∷ [])
new_more [] [] cell seat new actor receipts = (actor, receipts, tt)
new_more [] (other ∷ seats) cell seat new actor receipts = absurd new
new_more (first ∷ cells) [] cell seat new actor receipts = absurd new
new_more (first ∷ cells) (other ∷ seats) cell seat new actor receipts = (new.0, new.1, new_more cells seats cell seat new.2 actor receipts)

-- ---- seats that are given back

module _ {X : Type 0} where
  set_in : (xs : List X) (i : ℕ) (x y : X) → slice_get xs i ≡ Some x → Contains (slice_set xs i y) y
  set_in xs i x y there =
      let within = slice_get_within xs i x there in
      (i, subst (λ (n : ℕ). i < n) (sym (length-set xs i y)) within, get_or-set_same xs i y y within)

  stays_at : (xs : List X) (i : ℕ) (x y z : X) (k : ℕ) → slice_get xs i ≡ Some x → k < length xs → get_or xs k z ≡ z → (same : Bool) → (k == i) ≡ same
      → (z ≡ x) ⊎ Contains (slice_set xs i y) z
  stays_at xs i x y z k there within read true is = inl (sym read ∙ ap (λ (n : ℕ). get_or xs n z) (eqb-true k i is) ∙ get_or_from_slice_get xs i x z there)
  stays_at xs i x y z k there within read false is =
      inr (k, subst (λ (n : ℕ). k < n) (sym (length-set xs i y)) within, get_or-set_other xs i k y z (λ e. eqb-false k i is e) ∙ read)

  -- what stood in a list is what was replaced, or stands there still
  stays_in : (xs : List X) (i : ℕ) (x y z : X) → slice_get xs i ≡ Some x → Contains xs z → (z ≡ x) ⊎ Contains (slice_set xs i y) z
  stays_in xs i x y z there (k, within, read) = stays_at xs i x y z k there within read (k == i) refl

pub taken_none : (seats : List (Vec BankSeat)) → TakesBack seats [] seats
taken_none seats = λ seat given. among given
  where
    among : {seat : BankSeat} → IsAmong seats seat ⊎ Contains [] seat → IsAmong seats seat
    among (inl there) = there
    among {seat} (inr none) = absurd (Contains-none seat none)

module _ (now : List (Vec BankSeat)) (at : ℕ) (own longer : Vec BankSeat) (seat : BankSeat) (there : slice_get now at ≡ Some own)
    (grown : longer.items ≡ own.items ++ seat ∷ []) where
  among_one : (other : BankSeat) (those : Vec BankSeat) → Contains those.items other → (those ≡ own) ⊎ Contains (slice_set now at longer) those
      → IsAmong (slice_set now at longer) other
  among_one other those has (inl e) = (
    longer,
    set_in now at own longer there,
    subst (λ (l : List BankSeat). Contains l other) (sym grown)
        (Contains-append_left own.items (seat ∷ []) other (subst (λ (v : Vec BankSeat). Contains v.items other) e has)),
  )
  among_one other those has (inr still) = (those, still, has)

  among_more : (other : BankSeat) → IsAmong now other → IsAmong (slice_set now at longer) other
  among_more other (those, in', has) = among_one other those has (stays_in now at own longer those there in')

  among_new : IsAmong (slice_set now at longer) seat
  among_new = (longer, set_in now at own longer there, subst (λ (l : List BankSeat). Contains l seat) (sym grown) (Contains-push own.items seat))

  taken_here : (other : BankSeat) → IsAmong now other ⊎ (seat ≡ other) → IsAmong (slice_set now at longer) other
  taken_here other (inl before) = among_more other before
  taken_here other (inr e) = subst (IsAmong (slice_set now at longer)) e among_new

  -- a seat was put at its place
  pub takes_one : (new : List (Vec BankSeat)) → new ≡ slice_set now at longer → TakesOne now seat new
  takes_one new is = λ other given. subst (λ (s : List (Vec BankSeat)). IsAmong s other) (sym is) (taken_here other given)

module _ (old now new : List (Vec BankSeat)) (done : List BankSeat) (seat : BankSeat) (taken : TakesBack old done now) (one : TakesOne now seat new) where
  taken_case : (other : BankSeat) → IsAmong old other ⊎ (Contains done other ⊎ (seat ≡ other)) → IsAmong new other
  taken_case other (inl before) = one other (inl (taken other (inl before)))
  taken_case other (inr (inl given)) = one other (inl (taken other (inr given)))
  taken_case other (inr (inr e)) = one other (inr e)

  taken_split : (other : BankSeat) → IsAmong old other ⊎ Contains (done ++ seat ∷ []) other → IsAmong old other ⊎ (Contains done other ⊎ (seat ≡ other))
  taken_split other (inl before) = inl before
  taken_split other (inr given) = inr (Contains-push_cases done seat other given)

  -- one seat more
  pub taken_more : TakesBack old (done ++ seat ∷ []) new
  taken_more = λ other given. taken_case other (taken_split other given)

-- ---- cells that are closed

pub keeps_none : {B : Type 0} (closed : List (LeftOver B)) → Keeps [] closed
keeps_none closed = λ seat there. absurd (Contains-none there.0 there.1)

module _ {B : Type 0} (done : List (Vec BankSeat)) (closed : List (LeftOver B)) (own : Vec BankSeat) (one : LeftOver B)
    (same : IsPermutation own.items one.seats.items) where
  keeps_case : Keeps done closed → (seat : BankSeat) (those : Vec BankSeat) → Contains those.items seat → Contains done those ⊎ (own ≡ those)
      → IsKeptSeat (closed ++ one ∷ []) seat
  keeps_case keeps seat those has (inl before) =
      let kept = keeps seat (those, before, has) in (kept.0, Contains-append_left closed (one ∷ []) kept.0 kept.1, kept.2)
  keeps_case keeps seat those has (inr e) = (
    one,
    Contains-push closed one,
    Contains-permutation own.items one.seats.items seat same
        (subst (λ (v : Vec BankSeat). Contains v.items seat) (sym e) has),
  )

  -- one cell more
  pub keeps_more : Keeps done closed → Keeps (done ++ own ∷ []) (closed ++ one ∷ [])
  keeps_more keeps = λ seat there. keeps_case keeps seat there.0 there.2 (Contains-push_cases done own there.0 there.1)

-- ---- cells that are read over cells in memory

module _ {B : Type 0} (c : Cell B) where
  -- what stands at a place was read there, with the same seats
  read_at : (closed : List (LeftOver B)) (read : List Left) → AreInMemory c closed read → (one : LeftOver B) → Contains closed one
      → (other : Left) × Contains read other × (other.seats ≡ one.seats)
  read_at [] read all one in' = absurd (Contains-none one in')
  read_at (first ∷ more) [] all one in' = absurd all
  read_at (first ∷ more) (other ∷ others) all one (zero, within, is) = (other, Contains-here other others, ap (λ l. l.seats) all.0.is ∙ ap (λ l. l.seats) is)
  read_at (first ∷ more) (other ∷ others) all one (suc at, within, is) =
      let rest = read_at more others all.1 one (at, omega (arith, within), is) in (rest.0, Contains-there other rest.0 others rest.1, rest.2)

  pub keeps_read : (seats : List (Vec BankSeat)) (closed : List (LeftOver B)) (read : List Left) → AreInMemory c closed read → Keeps seats closed
      → Keeps seats read
  keeps_read seats closed read all keeps = λ seat there.
      let kept = keeps seat there in
      let other = read_at closed read all kept.0 kept.1 in
      (other.0, other.1, subst (λ (v : Vec BankSeat). Contains v.items seat) (sym other.2) kept.2)
