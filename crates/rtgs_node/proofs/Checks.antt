-- A step that checks first: what it is where a check fails, and where none does.
use Rattle.std.proofs.Common.{◌≡◌, Bool, true, false, List, [], ◌∷◌, Some, None, refl}
use Rattle.std.specs.Prelude.{if◌then◌else◌}
use Rattle.std.specs.List.{AllByRecursion}
use Rattle.rtgs_node.specs.declared.fault.NodeFault.{NodeFault}
use Rattle.rtgs_node.specs.Node.{Node, NodeStep, refuses, unless}
use Rattle.rtgs_node.specs.Shown.{first_fault}

pub unless-passed : (x : Node) (checks : List (Bool × NodeFault)) (step : NodeStep) → first_fault checks ≡ None → unless x checks step ≡ step
unless-passed x [] step none = refl
unless-passed x ((fails, fault) ∷ more) step none = by fails none (unless-passed x more step)
  where
    by : (b : Bool) → (if b then Some fault else first_fault more) ≡ None → (first_fault more ≡ None → unless x more step ≡ step)
        → (if b then refuses x fault else unless x more step) ≡ step
    by true none rest = absurd (cc none)
    by false none rest = rest none

pub unless-failed : (x : Node) (checks : List (Bool × NodeFault)) (step : NodeStep) (fault : NodeFault) → first_fault checks ≡ Some fault
    → unless x checks step ≡ refuses x fault
unless-failed x [] step fault is = absurd (cc is)
unless-failed x ((fails, why) ∷ more) step fault is = by fails is (unless-failed x more step fault)
  where
    by : (b : Bool) → (if b then Some why else first_fault more) ≡ Some fault → (first_fault more ≡ Some fault → unless x more step ≡ refuses x fault)
        → (if b then refuses x why else unless x more step) ≡ refuses x fault
    by true is rest = cc is
    by false is rest = rest is

abbrev pub Passed : List (Bool × NodeFault) → Type 0
Passed checks = AllByRecursion (λ (t : Bool × NodeFault). t.0 ≡ false) checks

pub passed : (checks : List (Bool × NodeFault)) → first_fault checks ≡ None → Passed checks
passed [] none = tt
passed ((fails, fault) ∷ more) none = by fails none (passed more)
  where
    by : (b : Bool) → (if b then Some fault else first_fault more) ≡ None → (first_fault more ≡ None → Passed more) → (b ≡ false) × Passed more
    by true none rest = absurd (cc none)
    by false none rest = (refl, rest none)
