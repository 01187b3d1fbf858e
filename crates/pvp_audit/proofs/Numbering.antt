-- The numbers of what a run sends.
use Rattle.std.proofs.Common.{◌≡◌, ℕ, zero, suc, ◌+◌, ◌-◌, ◌^◌, ◌<◌, ◌==◌, Bool, true, false, List, [], ◌∷◌, ◌++◌, length, length-append, append-nil, take, Some, slice_get, slice_set, slice_index, replicate, unwrap_or, if◌then◌else◌, inl, inr, refl, sym, ap, subst, ◌∙◌, arith}
use Rattle.std.proofs.lemmas.Bool.{eqb-true, eqb-false}
use Rattle.std.proofs.lemmas.Option.{slice_get_within}
use Rattle.pvp_wire.specs.declared.stamped.Stamp.{Stamp}
use Rattle.pvp_rooms.specs.declared.message.Recorded.{Recorded}
use Rattle.pvp_rooms.specs.declared.cell.Closed.{Closed}
use Rattle.pvp_rooms.specs.Runs.{Tagged, own_events, number_in, history_of, AreInOrder}
use Rattle.pvp_rooms.specs.Verdicts.{ClocksRise}
use Rattle.pvp_rooms.specs.Merging.{IsMerged}
use Rattle.pvp_rooms.proofs.Looks.{get_pushed, get_set_other}
use Rattle.pvp_rooms.proofs.Order.{who_took}
use Rattle.pvp_audit.specs.Numbered.{post_of, firsts_of, noted_of, AreNumbered, IsEventOf, IsFound}
use Rattle.pvp_audit.proofs.Noting.{names_one, names_no_other}

-- what stands in a list stands there with more behind it
pub get_left : {X : Type 0} (xs ys : List X) (i : ℕ) (x : X) → slice_get xs i ≡ Some x → slice_get (xs ++ ys) i ≡ Some x
get_left [] ys i x is = cc
get_left (z ∷ zs) ys zero x is = is
get_left (z ∷ zs) ys (suc i) x is = get_left zs ys i x is

pub get_right : {X : Type 0} (xs ys : List X) (i n : ℕ) → n ≡ length xs + i → slice_get (xs ++ ys) n ≡ slice_get ys i
get_right [] ys i n e = ap (slice_get ys) (omega (arith, e))
get_right (z ∷ zs) ys i zero e = absurd (omega (arith, e))
get_right (z ∷ zs) ys i (suc n) e = get_right zs ys i n (omega (arith, e))

get_last : {X : Type 0} (xs : List X) (x : X) (i : ℕ) → i ≡ length xs → slice_get (xs ++ x ∷ []) i ≡ Some x
get_last xs x i e = get_right xs (x ∷ []) 0 i (omega (arith, e))

-- before any event nothing is noted
pub numbered_none : {O L : Type 0} (E : Type 0) (sent : O → List L) (actors : ℕ) → AreNumbered {E = E} sent [] (replicate actors [])
numbered_none E sent zero k = refl
numbered_none E sent (suc n) zero = refl
numbered_none E sent (suc n) (suc k) = numbered_none E sent n k

noted_same : (numbers : List (List ℕ)) (k : ℕ) (l : List ℕ) → k < length numbers → noted_of (slice_set numbers k l) k ≡ l
noted_same [] k l low = absurd (omega (arith, low))
noted_same (x ∷ xs) zero l low = refl
noted_same (x ∷ xs) (suc k) l low = noted_same xs k l (omega (arith, low))

module _ {E O L : Type 0} (sent : O → List L) where
  -- an event's first number: on the post stands from there what the event sent
  pub record IsFirst (run : List (Tagged E O)) (r : Recorded E O) (first : ℕ) : Type 0 where
    pub counted : 0 < first
    pub stands : (j : ℕ) (letter : L) → slice_get (sent r.outcome) j ≡ Some letter → slice_get (post_of sent run) (first + j - 1) ≡ Some letter

  -- as many numbers as events
  many_firsts : (run : List (Tagged E O)) (k : ℕ) → length (firsts_of sent run k) ≡ length (own_events run k)
  many_firsts [] k = refl
  many_firsts (t ∷ past) k = go (t.by == k) (many_firsts past k)
    where
      go : (b : Bool) → length (firsts_of sent past k) ≡ length (own_events past k)
          → length (firsts_of sent past k ++ (if b then (length (post_of sent past) + 1) ∷ [] else []))
          ≡ length (own_events past k ++ (if b then t.what ∷ [] else []))
      go true h =
          let m = length-append (firsts_of sent past k) ((length (post_of sent past) + 1) ∷ []) in
          let n = length-append (own_events past k) (t.what ∷ []) in
          omega (arith, h, m, n)
      go false h = ap length (append-nil (firsts_of sent past k)) ∙ h ∙ sym (ap length (append-nil (own_events past k)))

  -- an event more puts what it sends at the end
  stays_first : (t : Tagged E O) (past : List (Tagged E O)) (r : Recorded E O) (first : ℕ) → IsFirst past r first → IsFirst (t ∷ past) r first
  stays_first t past r first is = record {
    counted = is.counted;
    stands = λ j letter at. get_left (post_of sent past) (sent t.what.outcome) (first + j - 1) letter (is.stands j letter at);
  }

  is_first : (t : Tagged E O) (past : List (Tagged E O)) (r : Recorded E O) → r ≡ t.what → IsFirst (t ∷ past) r (length (post_of sent past) + 1)
  is_first t past r same = record {
    counted = omega arith;
    stands =
        λ j letter at. get_right (post_of sent past) (sent t.what.outcome) j (length (post_of sent past) + 1 + j - 1) (omega arith)
        ∙ ap (λ (q : Recorded E O). slice_get (sent q.outcome) j) (sym same) ∙ at;
  }

  -- the number of each event of each actor
  pub first_number : (run : List (Tagged E O)) (k i : ℕ) (r : Recorded E O) → slice_get (own_events run k) i ≡ Some r
      → (first : ℕ) × (slice_get (firsts_of sent run k) i ≡ Some first) × IsFirst run r first
  first_number [] k i r is = cc
  first_number (t ∷ past) k i r is = go (t.by == k) (first_number past k i r) is
    where
      IsAt : List ℕ → List (Tagged E O) → Type 0
      IsAt numbers events = (first : ℕ) × (slice_get numbers i ≡ Some first) × IsFirst events r first

      old : (more : List ℕ) → IsAt (firsts_of sent past k) past → IsAt (firsts_of sent past k ++ more) (t ∷ past)
      old more f = (f.0, get_left (firsts_of sent past k) more i f.0 f.1, stays_first t past r f.0 f.2)

      go : (b : Bool) → (slice_get (own_events past k) i ≡ Some r → IsAt (firsts_of sent past k) past)
          → slice_get (own_events past k ++ (if b then t.what ∷ [] else [])) i ≡ Some r
          → IsAt (firsts_of sent past k ++ (if b then (length (post_of sent past) + 1) ∷ [] else [])) (t ∷ past)
      go true so there = elim (get_pushed (own_events past k) t.what r i there) [
        | inl e ↦ old ((length (post_of sent past) + 1) ∷ []) (so e)
        | inr w ↦ (
          length (post_of sent past) + 1,
          get_last (firsts_of sent past k) (length (post_of sent past) + 1) i (w.0 ∙ sym (many_firsts past k)),
          is_first t past r w.1,
        )
      ]
      go false so there = old [] (so (ap (λ l. slice_get l i) (sym (append-nil (own_events past k))) ∙ there))

  -- an event more: its number is one more than what the post has before it
  pub numbered_next : (run : List (Tagged E O)) (numbers : List (List ℕ)) (t : Tagged E O) → t.by < length numbers → AreNumbered sent run numbers
      → AreNumbered sent (t ∷ run) (slice_set numbers t.by (noted_of numbers t.by ++ (length (post_of sent run) + 1) ∷ []))
  numbered_next run numbers t low so k = go (t.by == k) refl
    where
      now : List (List ℕ)
      now = slice_set numbers t.by (noted_of numbers t.by ++ (length (post_of sent run) + 1) ∷ [])

      go : (b : Bool) → (t.by == k) ≡ b → noted_of now k ≡ firsts_of sent run k ++ (if b then (length (post_of sent run) + 1) ∷ [] else [])
      go true e =
          subst (λ n. noted_of now n ≡ firsts_of sent run n ++ (length (post_of sent run) + 1) ∷ []) (eqb-true t.by k e)
          (noted_same numbers t.by (noted_of numbers t.by ++ (length (post_of sent run) + 1) ∷ []) low
          ∙ ap (λ l. l ++ (length (post_of sent run) + 1) ∷ []) (so t.by))
      go false e =
          ap (λ o. unwrap_or o []) (get_set_other numbers t.by k (noted_of numbers t.by ++ (length (post_of sent run) + 1) ∷ []) (eqb-false t.by k e)) ∙ so k
          ∙ sym (append-nil (firsts_of sent run k))

-- what was sent in a run is what was found
module _ {A N E O L : Type 0} (sent : O → List L) (closed : List (Closed A N E O)) (order : AreInOrder closed) (clocks : ClocksRise closed) (at : List ℕ)
    (run : List (Tagged E O)) (merged : IsMerged closed run at) (numbers : List (List ℕ)) (numbered : AreNumbered sent run numbers) where
  -- an event of the run is an event of its actor
  of_history : (k i : ℕ) (r : Recorded E O) → slice_get (own_events run k) i ≡ Some r → slice_get (history_of closed k) i ≡ Some r
  of_history k i r there = taken (history_of closed k) (slice_index at k) i (ap (λ l. slice_get l i) (sym (merged.each k)) ∙ there)
    where
      taken : (xs : List (Recorded E O)) (n i : ℕ) → slice_get (take n xs) i ≡ Some r → slice_get xs i ≡ Some r
      taken [] zero i e = e
      taken [] (suc n) i e = e
      taken (x ∷ xs) zero i e = cc
      taken (x ∷ xs) (suc n) zero e = e
      taken (x ∷ xs) (suc n) (suc i) e = taken xs n i e

  module _ (stamp : Stamp) (by place : ℕ) (what : Recorded E O) (there : slice_get (own_events run by) place ≡ Some what)
      (number_is : number_in (slice_get closed by) ≡ stamp.actor) (clock : what.clock ≡ stamp.clock) where
    event_named : IsEventOf closed stamp by place
    event_named =
        let who = who_took closed by place what (of_history by place what there) in
        record { who = who.0; is = who.1; actor = sym (ap number_in who.1) ∙ number_is; what = what; there = who.2; clock = clock }

    -- the number that is found for a stamp is that of the envelope that the event sent at its index
    pub number_found : (letter : L) → slice_get (sent what.outcome) stamp.index ≡ Some letter → length (post_of sent run) < 2 ^ 64 → (number : ℕ)
        → IsFound closed numbers (Some stamp) number
        → (0 < number) × (slice_get (post_of sent run) (number - 1) ≡ Some letter)
    number_found letter sends fits number found =
        let f = first_number sent run by place what there in
        let noted : slice_get (noted_of numbers by) place ≡ Some f.0 = ap (λ l. slice_get l place) (numbered by) ∙ f.1 in
        let stands = f.2.stands stamp.index letter sends in
        let counted = f.2.counted in
        let within = slice_get_within (post_of sent run) (f.0 + stamp.index - 1) letter stands in
        elim found [
          | inl n ↦ (
              let is = names_no_other closed order clocks stamp numbers by place event_named f.0 number noted n in
              (omega (arith, is, counted), ap (λ m. slice_get (post_of sent run) (m - 1)) is ∙ stands))
          | inr w ↦ absurd (w.1 (f.0 + stamp.index) (omega (arith, within, fits, counted))
              (names_one closed order clocks stamp numbers by place event_named f.0 noted))
        ]
