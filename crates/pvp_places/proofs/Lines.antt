-- A file is read line by line.
use Rattle.std.proofs.Common.{◌≡◌, ◌⊎◌, inl, inr, ℕ, ◌+◌, List, [], ◌∷◌, Result, Ok, Err, refl, sym, arith}
use Rattle.pvp_places.specs.declared.fault.PlaceWhy.{PlaceWhy}
use Rattle.pvp_places.specs.declared.fault.LineFault.{LineFault}
use Rattle.pvp_places.specs.declared.fault.LineFault.TheVariants.{Wrong, NoMemory as Refused}
use Rattle.pvp_places.specs.declared.fault.PlaceFault.{PlaceFault}
use Rattle.pvp_places.specs.declared.fault.PlaceFault.TheVariants.{Line, NoMemory}
use Rattle.pvp_places.specs.Reading.{AddsLine, fault_at, with_line, read_from}

module _ {X : Type 0} (says : X → List ℕ → List ℕ → Result X PlaceWhy) where
  -- a line more is read
  pub goes_on : (x now : X) (number : ℕ) (line : List ℕ) (more : List (List ℕ)) (whole : Result X PlaceFault) → with_line says x line ≡ Ok now
      → read_from says x number (line ∷ more) ≡ whole → read_from says now (number + 1) more ≡ whole
  unfolding read_from
  goes_on x now number line more whole said so_far = rw said at so_far

  -- a line is wrong
  pub stops : (A : Type 0) (x now : X) (number : ℕ) (line : List ℕ) (more : List (List ℕ)) (whole : Result X PlaceFault) (fault : LineFault)
      → AddsLine {A = A} (Err fault) now (with_line says x line) → read_from says x number (line ∷ more) ≡ whole
      → (fault_at number fault ≡ NoMemory) ⊎ (whole ≡ Err (fault_at number fault))
  unfolding read_from
  stops A x now number line more whole (Wrong why) said so_far = inr (sym (rw said at so_far))
  stops A x now number line more whole Refused said so_far = inl refl

  -- all are read
  pub ends : (x : X) (number : ℕ) (whole : Result X PlaceFault) → read_from says x number [] ≡ whole → whole ≡ Ok x
  unfolding read_from
  ends x number whole so_far = sym so_far
