-- The step of a response, by its cases.
use Rattle.std.proofs.Common.{◌≡◌, ◌≢◌, ◌⊎◌, inl, inr, ℕ, ◌≤◌, ◌==◌, ◌&&◌, Bool, true, false, not, true≢false, nat_lt, nat_le, List, [], ◌∷◌, ◌++◌, Option, Some, None, if◌then◌else◌, refl, sym, ap, ◌∙◌, subst, arith, eq-eqb, eqb→eq}
use Rattle.std.specs.Prelude.{Contains, MatchOption, Result, Ok, Err, IsErr}
use Rattle.std.specs.declared.alloc.AllocError.{AllocError}
use Rattle.std.specs.List.{filter, list_any}
use Rattle.std.proofs.lemmas.Bool.{ne_eqb}
use Rattle.std.proofs.lemmas.Bool.Decides.{nat_tests}
use Rattle.std.proofs.lemmas.List.{map-append}
use Rattle.std.proofs.lemmas.List.Elements.{Contains-push_cases}
use Rattle.vr_types.specs.declared.cell.Boot.{Boot}
use Rattle.vr_types.specs.declared.event.Why.TheVariants.{Known, Stale}
use Rattle.vr_types.specs.Choice.{Choice, Regained, IsRegained, IsRight, OneEach}
use Rattle.vr_types.specs.Recovery.{on_recovery_response, regains, has_as_late}
use Rattle.vr_types.specs.Site.{Ack, Response, Site, boot_of, nothing}
use Rattle.vr_types.specs.Step.{Step, Handled, does, drops, greater, is_outdated}
use Rattle.vr_types.specs.Cell.{nonce_of}
use Rattle.vr_types.proofs.ChoosingState.{regained-one}
use Rattle.vr_types.proofs.Vectors.{greater_is}
use Rattle.vr_recover.specs.declared.progress.Progress.{Progress}
use Rattle.vr_recover.specs.declared.recovering.RecoveringOf.{RecoveringOf}
use Rattle.vr_recover.specs.declared.recovering.ResponseOf.{ResponseOf}
use Rattle.vr_recover.specs.Progress.{FollowsProgress}
use Rattle.vr_recover.specs.Recovering.{response_of, responses_of, IsOneEach, recovers_with}
use Rattle.vr_recover.proofs.Lists.{list_any-map, list_any-filter, list_any-same, and_turned, and_false, filter-has, filter-map}

-- where nothing is regained, nothing is chosen
pub nothing_chosen : {C : Type 0} (f : ℕ) (choose : Choice C) (responses : List (Response C)) → IsRight f choose
    → ((regained : Regained C) → ¬ IsRegained f responses regained) → choose.regained responses ≡ None
nothing_chosen {C} f choose responses right none = by_choice (choose.regained responses) (right.regained responses)
  where
    by_choice : (o : Option (Regained C)) → MatchOption o ((regained : Regained C) → ¬ IsRegained f responses regained) (IsRegained f responses) → o ≡ None
    by_choice None h = refl
    by_choice (Some regained) h = absurd (none regained h)

-- what is regained is chosen
pub regained_chosen : {C : Type 0} (f : ℕ) (choose : Choice C) (kept : List (ResponseOf C)) (regained : Regained C) → IsRight f choose → IsOneEach kept
    → IsRegained f (responses_of kept) regained → choose.regained (responses_of kept) ≡ Some regained
regained_chosen {C} f choose kept regained right one is = by_choice (choose.regained (responses_of kept)) (right.regained (responses_of kept))
  where
    by_choice : (o : Option (Regained C)) → MatchOption o ((r : Regained C) → ¬ IsRegained f (responses_of kept) r) (IsRegained f (responses_of kept))
        → o ≡ Some regained
    by_choice None h = absurd (h regained is)
    by_choice (Some r) h = ap (λ x. Some x) (regained-one f (responses_of kept) r regained one h is)

-- the responses after one more
abbrev pub kept_with : {C : Type 0} → List (ResponseOf C) → ResponseOf C → List (ResponseOf C)
kept_with kept new = filter (λ old. not (old.from == new.from)) kept ++ new ∷ []

pub responses_with : {C : Type 0} (kept : List (ResponseOf C)) (new : ResponseOf C)
    → responses_of (kept_with kept new) ≡ filter (λ old. not (old.from == new.from)) (responses_of kept) ++ response_of new ∷ []
responses_with {C} kept new =
    map-append response_of (filter (λ old. not (old.from == new.from)) kept) (new ∷ [])
    ∙ ap (λ rest. rest ++ response_of new ∷ []) (sym (filter-map (λ (old : Response C). not (old.from == new.from)) response_of kept))

-- one response of a site is kept still
pub one_each_with : {C : Type 0} (kept : List (ResponseOf C)) (new : ResponseOf C) → IsOneEach kept → IsOneEach (kept_with kept new)
one_each_with {C} kept new one = rw (responses_with kept new) each
  where
    others : List (Response C)
    others = filter (λ old. not (old.from == new.from)) (responses_of kept)

    differs : (a : Response C) → Contains others a → a.from ≡ new.from → ⊥
    differs a in' same =
        let passes = (filter-has (λ (old : Response C). not (old.from == new.from)) (responses_of kept) a in').1 in
        let is : not (a.from == new.from) ≡ false = rw (eq-eqb _ _ same) refl in
        absurd (true≢false (sym passes ∙ is))

    by_place : (a b : Response C) → Contains others a ⊎ (response_of new ≡ a) → Contains others b ⊎ (response_of new ≡ b) → a.from ≡ b.from → a ≡ b
    by_place a b (inl p) (inl q) same =
        one a b (filter-has (λ (old : Response C). not (old.from == new.from)) (responses_of kept) a p).0
        (filter-has (λ (old : Response C). not (old.from == new.from)) (responses_of kept) b q).0 same
    by_place a b (inl p) (inr q) same = absurd (differs a p (same ∙ sym (ap (λ r. r.from) q)))
    by_place a b (inr p) (inl q) same = absurd (differs b q (sym same ∙ sym (ap (λ r. r.from) p)))
    by_place a b (inr p) (inr q) same = sym p ∙ q

    each : OneEach (λ (response : Response C). response.from) (others ++ response_of new ∷ [])
    each a b in_a in_b same = by_place a b (Contains-push_cases others (response_of new) a in_a) (Contains-push_cases others (response_of new) b in_b) same

-- the responses that are not outdated by this
abbrev pub current_of : {C : Type 0} → List ℕ → List (ResponseOf C) → List (ResponseOf C)
current_of known kept = filter (λ old. not (is_outdated known old.from old.known)) kept

pub responses_current : {C : Type 0} (known : List ℕ) (kept : List (ResponseOf C))
    → filter (λ response. not (is_outdated known response.from response.known)) (responses_of kept) ≡ responses_of (current_of known kept)
responses_current {C} known kept = filter-map (λ (old : Response C). not (is_outdated known old.from old.known)) response_of kept

pub one_each_current : {C : Type 0} (known : List ℕ) (kept : List (ResponseOf C)) → IsOneEach kept → IsOneEach (current_of known kept)
one_each_current {C} known kept one = subst (OneEach (λ (response : Response C). response.from)) (responses_current known kept) each
  where
    current : Response C → Bool
    current = λ response. not (is_outdated known response.from response.known)

    each : OneEach (λ (response : Response C). response.from) (filter current (responses_of kept))
    each a b in_a in_b same = one a b (filter-has current (responses_of kept) a in_a).0 (filter-has current (responses_of kept) b in_b).0 same

-- what the site keeps after it learnt what the new response's sender knew
abbrev pub left_with : {C : Type 0} → List ℕ → List (ResponseOf C) → ResponseOf C → List (ResponseOf C)
left_with known kept new = current_of (greater known new.known) kept

module _ {C : Type 0} (known : List ℕ) (kept : List (ResponseOf C)) (new : ResponseOf C)
    (told : nat_lt (boot_of new.known new.from) (boot_of known new.from) ≡ false) where
  -- of the new one's sender the site then knows what that knew
  sender_known : boot_of (greater known new.known) new.from ≡ boot_of new.known new.from
  sender_known = let e = greater_is known new.known new.from in grind (arith, nat_tests, told, e)

  -- whether one as late is left is seen without learning
  one_late : (old : ResponseOf C)
      → (not (is_outdated (greater known new.known) old.from old.known) && ((old.from == new.from) && nat_le new.view old.view))
      ≡ ((old.from == new.from) && nat_le new.view old.view && not (is_outdated new.known old.from old.known))
  one_late old = by_sender (old.from == new.from) refl
    where
      by_sender : (b : Bool) → (old.from == new.from) ≡ b
          → (not (is_outdated (greater known new.known) old.from old.known) && (b && nat_le new.view old.view))
          ≡ (b && nat_le new.view old.view && not (is_outdated new.known old.from old.known))
      by_sender true e =
          let same : old.from ≡ new.from = eqb→eq old.from new.from (rw e tt) in
          let at : boot_of (greater known new.known) old.from ≡ boot_of new.known old.from = rw same sender_known in
          ap (λ n. not (nat_lt (boot_of old.known old.from) n) && nat_le new.view old.view) at
          ∙ and_turned (not (is_outdated new.known old.from old.known)) (nat_le new.view old.view)
      by_sender false e = and_false (not (is_outdated (greater known new.known) old.from old.known))

  -- as it is kept
  pub as_late-same : has_as_late (responses_of (left_with known kept new)) (response_of new)
      ≡ list_any (λ old. (old.from == new.from) && nat_le new.view old.view && not (is_outdated new.known old.from old.known)) kept
  as_late-same =
      list_any-map (λ (old : Response C). (old.from == new.from) && nat_le new.view old.view) response_of (left_with known kept new)
      ∙ list_any-filter (λ (old : ResponseOf C). not (is_outdated (greater known new.known) old.from old.known))
      (λ (old : ResponseOf C). (old.from == new.from) && nat_le new.view old.view) kept
      ∙ list_any-same _ _ kept one_late

module _ {C R O : Type 0} (choose : Choice C) (known : List ℕ) (kept : List (ResponseOf C)) (acks : List Ack) (cell : Boot) (nonce : ℕ)
    (new : ResponseOf C) where
  pub response_to_earlier : nonce ≢ nonce_of cell
      → ◌≡◌ {A = Step C R O} (on_recovery_response choose (recovers_with known kept acks cell) nonce (response_of new))
      (drops (recovers_with known kept acks cell) Stale)
  unfolding on_recovery_response
  response_to_earlier ne = rw (ne_eqb _ _ ne)

  pub response_outdated : nonce ≡ nonce_of cell → is_outdated known new.from new.known ≡ true
      → ◌≡◌ {A = Step C R O} (on_recovery_response choose (recovers_with known kept acks cell) nonce (response_of new))
      (drops (recovers_with known kept acks cell) Stale)
  unfolding on_recovery_response
  response_outdated same old = rw (eq-eqb _ _ same, old)

  pub response_known : nonce ≡ nonce_of cell → is_outdated known new.from new.known ≡ false
      → has_as_late (responses_of (left_with known kept new)) (response_of new) ≡ true
      → ◌≡◌ {A = Step C R O} (on_recovery_response choose (recovers_with known kept acks cell) nonce (response_of new))
      (drops (recovers_with known kept acks cell) Known)
  unfolding on_recovery_response
  response_known same current late = rw (eq-eqb _ _ same, current, responses_current (greater known new.known) kept, late)

  pub response_kept : nonce ≡ nonce_of cell → is_outdated known new.from new.known ≡ false
      → has_as_late (responses_of (left_with known kept new)) (response_of new) ≡ false
      → ◌≡◌ {A = Step C R O} (on_recovery_response choose (recovers_with known kept acks cell) nonce (response_of new))
      (regains (recovers_with (greater known new.known) (kept_with (left_with known kept new) new) acks cell)
      (choose.regained (responses_of (kept_with (left_with known kept new) new))))
  unfolding on_recovery_response
  response_kept same current later =
      let learnt = greater known new.known in
      rw (eq-eqb _ _ same, current, responses_current learnt kept, later)
      (ap (λ responses. let y : Site C = record (recovers_with learnt [] acks cell) { collected = record nothing { acks = acks; responses = responses } } in
      regains {R = R} {O = O} y (choose.regained responses)) (sym (responses_with (left_with known kept new) new)))

-- whether or not a state is regained, the response is handled
pub regains_handled : {C : Type 0} (R O : Type 0) (x : Site C) (regained : Option (Regained C)) → (regains {R = R} {O = O} x regained).ending ≡ Handled
regains_handled R O x None = refl
regains_handled R O x (Some regained) = refl

module _ {H C R O S : Type 0} (kept : RecoveringOf C) (acks : List Ack) (cell : Boot) where
  -- it follows the step that this one is
  pub progress_as : (result : Result (Progress H C R O S) AllocError) (a b : Step C R O) → a ≡ b → FollowsProgress kept acks cell result b
      → FollowsProgress kept acks cell result a
  progress_as result a b e p = subst (λ s. FollowsProgress kept acks cell result s) (sym e) p

  -- a growth was refused
  pub err_progress : (result : Result (Progress H C R O S) AllocError) (step : Step C R O) → IsErr result → step.ending ≡ Handled
      → FollowsProgress kept acks cell result step
  err_progress (Ok progress) step e h = absurd (true≢false (sym e))
  err_progress (Err error) step e h = h
