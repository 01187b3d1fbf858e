-- One more step stands in a scene, and one more envelope.
use Rattle.std.proofs.Common.{◌≡◌, ◌⊎◌, inl, inr, ℕ, zero, suc, ◌+◌, ◌-◌, ◌≤◌, List, [], ◌∷◌, ◌++◌, length, length-append, Some, refl, sym, ap, ◌∙◌, subst, arith}
use Rattle.std.specs.Prelude.{slice_get, All}
use Rattle.std.proofs.lemmas.List.Elements.{All-append}
use Rattle.headline.proofs.Basics.{none-some, some-same}
use Rattle.pvp_types.specs.declared.setup.Setup.{Setup}
use Rattle.rtgs_node.specs.Node.{Envelope}
use Rattle.pvp_trace.specs.declared.attempt.Attempt.{Attempt}
use Rattle.pvp_picture.specs.declared.scene.Flight.{Flight}
use Rattle.pvp_picture.specs.declared.scene.ShownStep.{ShownStep}
use Rattle.pvp_picture.specs.declared.scene.Snapshot.{Snapshot}
use Rattle.pvp_picture.specs.Scene.{IsShownStep, AreShownSteps, IsFlight}

-- what stands at a place of a list with one more at its end: that, or what stood there
at-end : {X : Type 0} (xs : List X) (x : X) (i : ℕ) (y : X) → slice_get (xs ++ x ∷ []) i ≡ Some y → ((i ≡ length xs) × (x ≡ y)) ⊎ (slice_get xs i ≡ Some y)
at-end [] x zero y e = inl (refl, some-same x y e)
at-end [] x (suc i) y e = absurd (none-some y e)
at-end (z ∷ xs) x zero y e = inr e
at-end (z ∷ xs) x (suc i) y e = by (at-end xs x i y e)
  where
    by : ((i ≡ length xs) × (x ≡ y)) ⊎ (slice_get xs i ≡ Some y) → ((suc i ≡ suc (length xs)) × (x ≡ y)) ⊎ (slice_get xs i ≡ Some y)
    by (inl h) = inl (ap (λ n. suc n) h.0, h.1)
    by (inr h) = inr h

module _ (setup : Setup) (post : List Envelope) (noted : List Attempt) (along : List (List Snapshot)) (first : ℕ) where
  pub steps_none : (place : ℕ) (steps : List ShownStep) → steps ≡ [] → place ≡ first → AreShownSteps setup post noted along first (place - first) steps
  steps_none place steps none is = record {
    count = ap length none ∙ omega arith;
    each = λ i step there. absurd (none-some step (sym (ap (λ ts. slice_get ts i) none) ∙ there));
  }

  pub steps_more : (place : ℕ) (steps more : List ShownStep) (step : ShownStep) → first ≤ place → more ≡ steps ++ step ∷ []
      → IsShownStep setup post noted along place step → AreShownSteps setup post noted along first (place - first) steps
      → AreShownSteps setup post noted along first (place + 1 - first) more
  steps_more place steps more step within pushed is before = record {
    count = let counted = before.count in ap length pushed ∙ length-append steps (step ∷ []) ∙ ap (λ n. n + 1) counted ∙ omega arith;
    each = λ i other there. by i other (at-end steps step i other (sym (ap (λ ts. slice_get ts i) pushed) ∙ there));
  }
    where
      here : (i : ℕ) → i ≡ length steps → place ≡ first + i
      here i at = let counted = before.count in omega arith

      by : (i : ℕ) (other : ShownStep) → ((i ≡ length steps) × (step ≡ other)) ⊎ (slice_get steps i ≡ Some other)
          → IsShownStep setup post noted along (first + i) other
      by i other (inl h) =
          subst (λ t. IsShownStep setup post noted along (first + i) t) h.1 (subst (λ k. IsShownStep setup post noted along k step) (here i h.0) is)
      by i other (inr h) = before.each i other h

-- one more way of an envelope stands in a scene
only : (P : Flight → Type 0) (flight : Flight) → P flight → All P (flight ∷ [])
only P flight is zero d within = is
only P flight is (suc k) d within = absurd (omega arith)

pub flights_more : (setup : Setup) (post : List Envelope) (flights more : List Flight) (flight : Flight) → more ≡ flights ++ flight ∷ []
    → IsFlight setup post flight → All (IsFlight setup post) flights → All (IsFlight setup post) more
flights_more setup post flights more flight pushed is before =
    subst (λ all. All (IsFlight setup post) all) (sym pushed)
    (All-append (IsFlight setup post) flights (flight ∷ []) before (only (IsFlight setup post) flight is))
