-- Many steps, one after another.
use Rattle.std.proofs.Common.{◌≡◌, ℕ, zero, suc, ◌+◌, ◌≤◌, List, [], ◌∷◌, ◌++◌, length, map, take, drop, slice_get, Some, Err, refl, sym, ap, ◌∙◌, subst, append_assoc, append-nil, arith}
use Rattle.vr_types.specs.declared.cell.BootCell.{Ghosts as Cell}
use Rattle.pvp_types.specs.declared.step.Step.{Step}
use Rattle.headline.specs.declared.step.Move.TheVariants.{Takes}
use Rattle.headline.proofs.Basics.{none-some, some-same}
use Rattle.pvp_world.specs.declared.fault.WorldFault.{WorldFault}
use Rattle.pvp_world.specs.World.{ShownWorld}
use Rattle.pvp_world.specs.Steps.{Moves, AreTaken, IsRefused, TellsFailures, failures, IsStopped}

-- the first elements and the next one
take-more : {A : Type 0} (xs : List A) (i : ℕ) (x : A) → slice_get xs i ≡ Some x → take (suc i) xs ≡ take i xs ++ x ∷ []
take-more [] i x at = absurd (none-some x at)
take-more (y ∷ xs) zero x at = ap (λ z. z ∷ []) (some-same y x at)
take-more (y ∷ xs) (suc i) x at = ap (λ zs. y ∷ zs) (take-more xs i x at)

take-drop : {A : Type 0} (xs : List A) (i : ℕ) (x : A) → slice_get xs i ≡ Some x → xs ≡ take i xs ++ x ∷ drop (suc i) xs
take-drop [] i x at = absurd (none-some x at)
take-drop (y ∷ xs) zero x at = ap (λ z. z ∷ xs) (some-same y x at)
take-drop (y ∷ xs) (suc i) x at = ap (λ zs. y ∷ zs) (take-drop xs i x at)

pub take-whole : {A : Type 0} (xs : List A) (i : ℕ) → length xs ≤ i → take i xs ≡ xs
take-whole [] zero low = refl
take-whole [] (suc i) low = refl
take-whole (x ∷ xs) zero low = absurd (omega arith)
take-whole (x ∷ xs) (suc i) low = ap (λ zs. x ∷ zs) (take-whole xs i (omega arith))

map-more : (steps : List Step) (s : Step) → map (λ step. Takes step) (steps ++ s ∷ []) ≡ map (λ step. Takes step) steps ++ Takes s ∷ []
map-more [] s = refl
map-more (t ∷ steps) s = ap (λ zs. Takes t ∷ zs) (map-more steps s)

pub none-taken : {B : Type 0} (old : ShownWorld B) → AreTaken old old []
none-taken old = record { setup = refl; opening = refl; trail = sym (append-nil old.trail) }

module _ {B : Type 0} (c : Cell B) (old mid new : ShownWorld B) (steps : List Step) (i : ℕ) (s : Step) (at : slice_get steps i ≡ Some s)
    (taken : AreTaken old mid (take i steps)) where
  taken-next : Moves c.held mid new (Takes s) → AreTaken old new (take (suc i) steps)
  taken-next moves = record {
    setup = moves.setup ∙ taken.setup;
    opening = moves.opening ∙ taken.opening;
    trail =
        moves.trail ∙ ap (λ t. t ++ Takes s ∷ []) taken.trail
        ∙ append_assoc old.trail (map (λ step. Takes step) (take i steps)) (Takes s ∷ [])
        ∙ ap (λ t. old.trail ++ t) (sym (map-more (take i steps) s) ∙ ap (λ zs. map (λ step. Takes step) zs) (sym (take-more steps i s at)));
  }

  pub taken-more : Moves c.held mid new (Takes s) → AreTaken old new (take (i + 1) steps)
  taken-more moves = let e : suc i ≡ i + 1 = omega arith in subst (λ n. AreTaken old new (take n steps)) e (taken-next moves)

  pub stopped-at : (fault : WorldFault) → failures c mid ≡ failures c old → IsRefused c.held mid new s fault → TellsFailures c mid new s (Err fault)
      → IsStopped c old new steps fault
  stopped-at fault counted refused tells = record {
    done = take i steps;
    next = s;
    rest = drop (suc i) steps;
    parts = take-drop steps i s at;
    between = mid;
    taken = taken;
    counted = counted;
    refused = refused;
    tells = tells;
  }
