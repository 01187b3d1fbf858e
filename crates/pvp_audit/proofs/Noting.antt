-- What was noted of actors, and the event that a stamp names.
use Rattle.std.proofs.Common.{◌≡◌, ℕ, zero, suc, ◌+◌, ◌^◌, ◌<◌, ◌≤◌, List, [], ◌∷◌, ◌++◌, length, map, Option, Some, None, IfSome, IfNone, slice_get, slice_set, inl, inr, refl, sym, ap, subst, ◌∙◌, arith}
use Rattle.std.proofs.lemmas.Bool.{cases_order}
use Rattle.std.specs.Option.{SomeIff}
use Rattle.pvp_wire.specs.declared.stamped.Stamp.{Stamp}
use Rattle.pvp_rooms.specs.declared.message.Recorded.{Recorded}
use Rattle.pvp_rooms.specs.declared.cell.Closed.{Closed}
use Rattle.pvp_rooms.specs.Runs.{AreInOrder}
use Rattle.pvp_rooms.specs.Verdicts.{ClocksRise}
use Rattle.pvp_rooms.proofs.Order.{same_some}
use Rattle.pvp_rooms.proofs.Halving.{Rises, clocks_rise, numbers_rise}
use Rattle.pvp_audit.specs.Numbered.{noted_of, IsEventOf, IsNumber, NamesNone}

module _ {X : Type 0} (f : X → List ℕ) where
  -- what was noted of an actor, as it is kept
  pub noted_at : (xs : List X) (k : ℕ) (x : X) → slice_get xs k ≡ Some x → noted_of (map f xs) k ≡ f x
  noted_at [] k x is = cc
  noted_at (y ∷ ys) zero x is = ap f (same_some y x is)
  noted_at (y ∷ ys) (suc k) x is = noted_at ys k x is

  pub noted_past : (xs : List X) (k : ℕ) → length xs ≤ k → noted_of (map f xs) k ≡ []
  noted_past [] k past = refl
  noted_past (y ∷ ys) zero past = absurd (omega (arith, past))
  noted_past (y ∷ ys) (suc k) past = noted_past ys k (omega (arith, past))

  map_put : (xs : List X) (k : ℕ) (z : X) → map f (slice_set xs k z) ≡ slice_set (map f xs) k (f z)
  map_put [] k z = refl
  map_put (y ∷ ys) zero z = refl
  map_put (y ∷ ys) (suc k) z = ap (λ l. f y ∷ l) (map_put ys k z)

  -- one number more is noted
  pub put_more : (xs : List X) (k : ℕ) (x z : X) (first : ℕ) → slice_get xs k ≡ Some x → f z ≡ f x ++ first ∷ []
      → map f (slice_set xs k z) ≡ slice_set (map f xs) k (noted_of (map f xs) k ++ first ∷ [])
  put_more xs k x z first is more = map_put xs k z ∙ ap (slice_set (map f xs) k) (more ∙ ap (λ l. l ++ first ∷ []) (sym (noted_at xs k x is)))

  -- where there is no such actor
  pub put_past : (xs : List X) (k : ℕ) (l : List ℕ) → length xs ≤ k → map f xs ≡ slice_set (map f xs) k l
  put_past [] k l past = refl
  put_past (y ∷ ys) zero l past = absurd (omega (arith, past))
  put_past (y ∷ ys) (suc k) l past = ap (λ m. f y ∷ m) (put_past ys k l (omega (arith, past)))

  -- nothing more is noted
  pub put_same : (xs : List X) (k : ℕ) (x z : X) → slice_get xs k ≡ Some x → f z ≡ f x → map f (slice_set xs k z) ≡ map f xs
  put_same [] k x z is same = cc
  put_same (y ∷ ys) zero x z is same = ap (λ l. l ∷ map f ys) (same ∙ ap f (sym (same_some y x is)))
  put_same (y ∷ ys) (suc k) x z is same = ap (λ l. f y ∷ l) (put_same ys k x z is same)

-- where keys rise, a key stands at one place
one_place : {X : Type 0} (key : X → ℕ) (xs : List X) → Rises key xs → (i j : ℕ) (x y : X) → slice_get xs i ≡ Some x → slice_get xs j ≡ Some y → key x ≡ key y
    → i ≡ j
one_place key xs rises i j x y is there same = elim (cases_order i j) [
  | inl e ↦ e
  | inr w ↦ elim w [
    | inl less ↦ (let b = rises i j x y less is there in absurd (omega (arith, b, same)))
    | inr more ↦ (let b = rises j i y x more there is in absurd (omega (arith, b, same)))
  ]
]

module _ {A N E O : Type 0} (closed : List (Closed A N E O)) (order : AreInOrder closed) (clocks : ClocksRise closed) (stamp : Stamp) where
  -- a stamp names one event
  pub one_event : (by place j i : ℕ) → IsEventOf closed stamp by place → IsEventOf closed stamp j i → (by ≡ j) × (place ≡ i)
  one_event by place j i e d =
      let here : by ≡ j = one_place (λ (c : Closed A N E O). c.number) closed (numbers_rise closed order) by j e.who d.who e.is d.is (e.actor ∙ sym d.actor) in
      let one : d.who ≡ e.who = same_some d.who e.who (sym d.is ∙ ap (slice_get closed) (sym here) ∙ e.is) in
      let there : slice_get e.who.history.items i ≡ Some d.what = ap (λ (c : Closed A N E O). slice_get c.history.items i) (sym one) ∙ d.there in (
        here,
        one_place (λ (r : Recorded E O). r.clock) e.who.history.items (clocks_rise e.who.history.items (clocks by e.who e.is)) place i e.what d.what e.there
            there (e.clock ∙ sym d.clock),
      )

  module _ (numbers : List (List ℕ)) (by place : ℕ) (event : IsEventOf closed stamp by place) where
    -- what was noted of the event that a number is counted from
    noted_here : (number : ℕ) (n : IsNumber closed numbers stamp number) → slice_get (noted_of numbers by) place ≡ Some n.first
    noted_here number n =
        let same = one_event n.by n.place by place n.event event in
        ap (λ k. slice_get (noted_of numbers k) place) (sym same.0) ∙ ap (slice_get (noted_of numbers n.by)) (sym same.1) ∙ n.noted

    -- nothing was noted of the event
    pub names_none : slice_get (noted_of numbers by) place ≡ None → NamesNone closed numbers stamp
    names_none none number low n = let e : None ≡ Some n.first = sym none ∙ noted_here number n in cc

    -- this was noted of it
    pub names_one : (first : ℕ) → slice_get (noted_of numbers by) place ≡ Some first → IsNumber closed numbers stamp (first + stamp.index)
    names_one first is = record { by = by; place = place; event = event; first = first; noted = is; counts = refl }

    pub names_no_other : (first number : ℕ) → slice_get (noted_of numbers by) place ≡ Some first → IsNumber closed numbers stamp number
        → number ≡ first + stamp.index
    names_no_other first number is n = n.counts ∙ ap (λ m. m + stamp.index) (same_some n.first first (sym (noted_here number n) ∙ is))

    -- what comes of adding the index, where the sum fits
    pub sum_named : (first : ℕ) → slice_get (noted_of numbers by) place ≡ Some first → (sum : Option ℕ)
        → SomeIff sum (first + stamp.index < 2 ^ 64) (first + stamp.index) → IfSome sum (IsNumber closed numbers stamp)
    sum_named first is None made = tt
    sum_named first is (Some number) made = subst (IsNumber closed numbers stamp) (sym made.1) (names_one first is)

    pub no_sum_named : (first : ℕ) → slice_get (noted_of numbers by) place ≡ Some first → (sum : Option ℕ)
        → SomeIff sum (first + stamp.index < 2 ^ 64) (first + stamp.index) → IfNone sum (NamesNone closed numbers stamp)
    no_sum_named first is None made = λ number low n. made (subst (λ m. m < 2 ^ 64) (names_no_other first number is n) low)
    no_sum_named first is (Some number) made = tt
