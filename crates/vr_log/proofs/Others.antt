-- The other sites, one more at a time.
use Rattle.std.proofs.Common.{◌≡◌, ◌≢◌, ℕ, ◌+◌, ◌==◌, List, [], ◌∷◌, ◌++◌, map, filter, Bool, true, false, not, if◌then◌else◌, refl, ap, ◌∙◌, append-nil, eq-eqb, arith}
use Rattle.std.specs.List.{range_with_len}
use Rattle.std.proofs.lemmas.Bool.{ne_eqb}
use Rattle.std.proofs.lemmas.List.{map-append}
use Rattle.std.proofs.lemmas.List.Elements.{filter-append}
use Rattle.vr_types.specs.declared.message.MsgOf.{MsgOf}
use Rattle.vr_types.specs.declared.message.EnvelopeOf.{EnvelopeOf}
use Rattle.vr_types.specs.Group.{mail}
use Rattle.vr_log.proofs.Rows.{range_more}

-- the first n sites but this one
abbrev pub others_below : ℕ → ℕ → List ℕ
others_below n me = filter (λ j. not (j == me)) (range_with_len 0 n)

-- one more site
pub others_below-next : (n me : ℕ) → others_below (n + 1) me ≡ (if n == me then others_below n me else others_below n me ++ n ∷ [])
others_below-next n me =
    let last : 0 + n ≡ n = omega arith in
    ap (filter (λ j. not (j == me))) (range_more 0 n ∙ ap (λ k. range_with_len 0 n ++ k ∷ []) last)
    ∙ filter-append (λ j. not (j == me)) (range_with_len 0 n) (n ∷ []) ∙ by_test (n == me)
  where
    by_test : (b : Bool) → others_below n me ++ (if not b then n ∷ [] else []) ≡ (if b then others_below n me else others_below n me ++ n ∷ [])
    by_test true = append-nil (others_below n me)
    by_test false = refl

pub others_below-other : (n me : ℕ) → n ≢ me → others_below (n + 1) me ≡ others_below n me ++ n ∷ []
others_below-other n me ne = others_below-next n me ∙ ap (λ b. if b then others_below n me else others_below n me ++ n ∷ []) (ne_eqb n me ne)

pub others_below-me : (n me : ℕ) → n ≡ me → others_below (n + 1) me ≡ others_below n me
others_below-me n me e = others_below-next n me ∙ ap (λ b. if b then others_below n me else others_below n me ++ n ∷ []) (eq-eqb n me e)

-- a message to each of the first n sites but this one
abbrev pub told : {C R O : Type 0} → ℕ → ℕ → MsgOf C R O → List (EnvelopeOf C R O)
told n me msg = map (λ j. mail me j msg) (others_below n me)

pub told-other : {C R O : Type 0} (n me : ℕ) (msg : MsgOf C R O) → n ≢ me → told (n + 1) me msg ≡ told n me msg ++ mail me n msg ∷ []
told-other n me msg ne = ap (map (λ j. mail me j msg)) (others_below-other n me ne) ∙ map-append (λ j. mail me j msg) (others_below n me) (n ∷ [])

pub told-me : {C R O : Type 0} (n me : ℕ) (msg : MsgOf C R O) → n ≡ me → told (n + 1) me msg ≡ told n me msg
told-me n me msg e = ap (map (λ j. mail me j msg)) (others_below-me n me e)
