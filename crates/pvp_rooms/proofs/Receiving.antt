-- The tests of an actor alone exclude one another, and each fails at one event at most.
use Rattle.std.proofs.Common.{◌≡◌, inl, inr, ℕ, zero, suc, ◌+◌, ◌<◌, ◌≤◌, List, [], ◌∷◌, length, take, Option, Some, None, slice_get, slice_index, slice_set, refl, sym, ap, subst, ◌∙◌, arith}
use Rattle.std.proofs.lemmas.Bool.{cases_order}
use Rattle.std.proofs.lemmas.Option.{slice_get_within}
use Rattle.pvp_rooms.specs.declared.message.Recorded.{Recorded}
use Rattle.pvp_rooms.specs.Seats.{Held}
use Rattle.pvp_rooms.specs.Histories.{IsRising}
use Rattle.pvp_rooms.specs.Together.{IsNext, receipts_in, receipts_of}
use Rattle.pvp_rooms.specs.Verdicts.{IsLowest, AreUsedUp, AreReceived, HasNoReceipt, IsLeftOver, ReceiptsFail, ClockFails, first_places}
use Rattle.pvp_rooms.proofs.Looks.{slice_get-first}

-- LISTS

take_less : {X : Type 0} (xs : List X) (n m : ℕ) → n ≤ m → take n (take m xs) ≡ take n xs
take_less [] zero zero low = refl
take_less [] zero (suc m) low = refl
take_less [] (suc n) zero low = refl
take_less [] (suc n) (suc m) low = refl
take_less (x ∷ xs) zero m low = refl
take_less (x ∷ xs) (suc n) zero low = absurd (omega (arith, low))
take_less (x ∷ xs) (suc n) (suc m) low = ap (λ l. x ∷ l) (take_less xs n m (omega (arith, low)))

-- HOW RECEIPTS ARE USED UP

module _ {E O : Type 0} (seats : List (Held E O)) where
  one_lowest : (at : List ℕ) (event : Recorded E O) (k j : ℕ) → IsLowest seats at event k → IsLowest seats at event j → k ≡ j
  one_lowest at event k j p q = elim (cases_order k j) [
    | inl same ↦ same
    | inr w ↦ elim w [ inl less ↦ absurd (q.lowest k less p.next) | inr more ↦ absurd (p.lowest j more q.next) ]
  ]

  -- in one way
  one_use : (at : List ℕ) (events : List (Recorded E O)) (now then' : List ℕ) → AreUsedUp seats at events now → AreUsedUp seats at events then' → now ≡ then'
  one_use at [] now then' p q = p ∙ sym q
  one_use at (event ∷ events) now then' p q =
      let same = one_lowest at event q.0 p.0 q.1 p.1 in
      let there : AreUsedUp seats (slice_set at p.0 (slice_index at p.0 + 1)) events then' =
      subst (λ k. AreUsedUp seats (slice_set at k (slice_index at k + 1)) events then') same q.2 in
      one_use (slice_set at p.0 (slice_index at p.0 + 1)) events now then' p.2 there

  -- those before an event, and then its own
  used_before : (at : List ℕ) (events : List (Recorded E O)) (now : List ℕ) (many : ℕ) (event : Recorded E O) → AreUsedUp seats at events now
      → slice_get events many ≡ Some event → (before : List ℕ) × AreUsedUp seats at (take many events) before × ((k : ℕ) × IsNext seats before event k)
  used_before at [] now many event p there = cc
  used_before at (e ∷ events) now zero event p there = (at, refl, (p.0, subst (λ r. IsNext seats at r p.0) (some_same e event there) p.1.next))
    where
      some_same : (x y : Recorded E O) → Some x ≡ Some y → x ≡ y
      some_same x y h = cc
  used_before at (e ∷ events) now (suc many) event p there =
      let rest = used_before (slice_set at p.0 (slice_index at p.0 + 1)) events now many event p.2 there in
      (rest.0, (p.0, p.1, rest.1), rest.2)

  -- an event whose receipt was used is not one that has none
  no_lack : (history : List (Recorded E O)) (now : List ℕ) (many : ℕ) → AreUsedUp seats (first_places seats) history now → HasNoReceipt history seats many → ⊥
  no_lack history now many p q =
      let before = used_before (first_places seats) history now many q.event p q.is in
      let same = one_use (first_places seats) (take many history) q.at before.0 q.used before.1 in
      q.none before.2.0 (subst (λ (l : List ℕ). IsNext seats l q.event before.2.0) (sym same) before.2.1)

  none_there : (o : Option (Held E O)) (k : ℕ) → slice_get seats k ≡ o → (length seats ≤ k) → receipts_in o ≡ []
  none_there None k is high = refl
  none_there (Some s) k is high = let low = slice_get_within seats k s is in absurd (omega (arith, low, high))

  none_left : (history : List (Recorded E O)) → AreReceived history seats → IsLeftOver history seats → ⊥
  none_left history p q =
      let same : slice_index p.at q.seat ≡ slice_index q.at q.seat =
      ap (λ (l : List ℕ). slice_index l q.seat) (one_use (first_places seats) history p.at q.at p.used q.used) in
      let left = q.left in
      elim (cases_order q.seat (length seats)) [
        | inl e ↦ absurd (beyond (omega (arith, e)))
        | inr w ↦ elim w [ inl low ↦ (let full = p.full q.seat low in omega (arith, same, full, left)) | inr high ↦ absurd (beyond (omega (arith, high))) ]
      ]
    where
      beyond : length seats ≤ q.seat → ⊥
      beyond high =
          let none : length (receipts_of seats q.seat) ≡ 0 = ap length (none_there (slice_get seats q.seat) q.seat refl high) in
          let left = q.left in
          omega (arith, none, left)

  -- THE TEST OF RECEIPTS passes, or fails at one event
  pub received_not_fails : (history : List (Recorded E O)) (event : ℕ) → AreReceived history seats → ReceiptsFail history seats event → ⊥
  received_not_fails history event p (inl left) = none_left history p left.1
  received_not_fails history event p (inr lack) = no_lack history p.at lack.0 p.used lack.2

  earlier_lack : (history : List (Recorded E O)) (many more : ℕ) → many < more → HasNoReceipt history seats many → HasNoReceipt history seats more → ⊥
  earlier_lack history many more less p q =
      no_lack (take more history) q.at many q.used (record {
        event = p.event;
        is = slice_get-first history more many less ∙ p.is;
        at = p.at;
        used =
            subst (λ (l : List (Recorded E O)). AreUsedUp seats (first_places seats) l p.at) (sym (take_less history many more (omega (arith, less)))) p.used;
        none = p.none;
      })

  pub one_unreceived : (history : List (Recorded E O)) (a b : ℕ) → ReceiptsFail history seats a → ReceiptsFail history seats b → a ≡ b
  one_unreceived history a b (inl p) (inl q) = p.0 ∙ sym q.0
  one_unreceived history a b (inl p) (inr q) = absurd (no_lack history p.1.at q.0 p.1.used q.2)
  one_unreceived history a b (inr p) (inl q) = absurd (no_lack history q.1.at p.0 q.1.used p.2)
  one_unreceived history a b (inr p) (inr q) = elim (cases_order p.0 q.0) [
    | inl same ↦ p.1 ∙ ap (λ n. n + 1) same ∙ sym q.1
    | inr w ↦ elim w [ inl less ↦ absurd (earlier_lack history p.0 q.0 less p.2 q.2) | inr more ↦ absurd (earlier_lack history q.0 p.0 more q.2 p.2) ]
  ]

-- THE TEST OF CLOCKS

rising_front : {E O : Type 0} (history : List (Recorded E O)) (n last : ℕ) → IsRising history last → IsRising (take n history) last
rising_front [] zero last p = tt
rising_front [] (suc n) last p = tt
rising_front (r ∷ more) zero last p = tt
rising_front (r ∷ more) (suc n) last p = (p.0, p.1, rising_front more n r.clock p.2)

pub rising_not_fails : {E O : Type 0} (history : List (Recorded E O)) (event : ℕ) → IsRising history 0 → ClockFails history event → ⊥
rising_not_fails history event p q = q.fails (rising_front history (q.many + 1) 0 p)

pub one_unrisen : {E O : Type 0} (history : List (Recorded E O)) (a b : ℕ) → ClockFails history a → ClockFails history b → a ≡ b
one_unrisen {E} {O} history a b p q = elim (cases_order p.many q.many) [
  | inl same ↦ p.count ∙ ap (λ n. n + 1) same ∙ sym q.count
  | inr w ↦ elim w [ inl less ↦ absurd (earlier p q less) | inr more ↦ absurd (earlier q p more) ]
]
  where
    earlier : {x y : ℕ} (p : ClockFails history x) (q : ClockFails history y) → p.many < q.many → ⊥
    earlier p q less =
        p.fails (subst (λ (l : List (Recorded E O)). IsRising l 0) (take_less history (p.many + 1) q.many (omega (arith, less)))
        (rising_front (take q.many history) (p.many + 1) 0 q.rising))
