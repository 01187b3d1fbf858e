-- What a world does with a fall that is given by its step and by what the cell then holds.
use Rattle.std.specs.Prelude.{◌≡◌, ◌≢◌, ◌⊎◌, Bool, true, false, slice_get, Some, Result, Ok, Err}
use Rattle.pvp_types.specs.declared.setup.Setup.{Setup}
use Rattle.pvp_types.specs.declared.command.Cmd.{Cmd}
use Rattle.pvp_types.specs.declared.step.Step.{Step}
use Rattle.vr_types.specs.declared.cell.Boot.{Boot}
use Rattle.vr_types.specs.declared.cell.BootCell.{Ghosts as Cell}
use Rattle.vr_types.specs.declared.event.SiteFault.TheVariants.{CellFault}
use Rattle.vr_site.specs.Replica.{ShownSite}
use Rattle.headline.specs.declared.step.Move.TheVariants.{Falls}
use Rattle.headline.specs.declared.step.Turn.{Turn}
use Rattle.headline.specs.declared.step.Turn.TheVariants.{OfSite, OfNode, OfClient}
use Rattle.pvp_world.specs.World.{ShownWorld}
use Rattle.pvp_world.specs.Steps.{Moves, InTurn, IsOverSaved, IsWhy, AreReliable, is_world_fall}
use Rattle.pvp_world.specs.declared.fault.WorldFault.{WorldFault}
use Rattle.pvp_world.specs.declared.fault.WorldFault.TheVariants.{NoSuchActor, Site as OfSiteFault}
use Rattle.pvp_world.specs.declared.fault.FallFault.{FallFault}
use Rattle.pvp_world.specs.declared.fault.FallFault.TheVariants.{Step as OfStep, Elsewhere}

abbrev pub is_of_site : Turn → Bool
is_of_site (OfSite i event) = true
is_of_site (OfNode c event) = false
is_of_site (OfClient k event) = false

-- the cell of the site whose turn it is does not hold this
abbrev pub HoldsAnother : {B : Type 0} → (B → Boot) → ShownWorld B → Boot → Turn → Type 0
HoldsAnother {B} held world cell (OfSite i event) =
    (v : ShownSite Cmd Setup B) × (slice_get world.sites i ≡ Some v) × (held v.cell ≢ cell)
HoldsAnother held world cell _ = ⊥

-- the site fell in place of the step over another value than this, which was not the old value either
pub record FellElsewhere {B : Type 0} (held : B → Boot) (old new : ShownWorld B) (step : Step) (cell : Boot)
    : Type 0 where
  pub other : Boot
  pub is_other : other ≢ cell
  pub was_another : InTurn old step (HoldsAnother held old cell)
  pub moves : Moves held old new (Falls step other)

-- and that other value is what the step saves
pub record FellAsSaved {B : Type 0} (held : B → Boot) (old new : ShownWorld B) (step : Step) (cell : Boot)
    : Type 0 where
  pub fell : FellElsewhere held old new step cell
  pub saved : IsOverSaved held old new step fell.other fell.moves

-- why the step has no fall: it is not taken, or it is not one of a site
abbrev pub IsWhyNot : {B : Type 0} → (B → Boot) → ShownWorld B → Step → WorldFault → Type 0
IsWhyNot held world step fault =
    IsWhy held world step fault ⊎ ((fault ≡ NoSuchActor) × InTurn world step (λ t. is_of_site t ≡ false))

-- the world is as it was; but if the site met lack of memory or a failed save, it fell over another value
pub record IsUnfallen {B : Type 0} (held : B → Boot) (old new : ShownWorld B) (step : Step) (cell : Boot)
    (fault : WorldFault) : Type 0 where
  pub kept : is_world_fall fault ≡ false → (new ≡ old) × IsWhyNot held old step fault
  pub fell : is_world_fall fault ≡ true → FellElsewhere held old new step cell

-- the faults of a fall over another value
abbrev pub is_miss : FallFault → Bool
is_miss Elsewhere = true
is_miss (OfStep fault) = is_world_fall fault

-- THE FALL IS THE MOVE, or there is none, or another fall is the move
abbrev pub FallsTo : {B : Type 0} → (B → Boot) → ShownWorld B → ShownWorld B → Step → Boot → Result (Unit {0}) FallFault
    → Type 0
FallsTo held old new step cell (Ok _) = Moves held old new (Falls step cell)
FallsTo held old new step cell (Err Elsewhere) = FellAsSaved held old new step cell
FallsTo held old new step cell (Err (OfStep fault)) = IsUnfallen held old new step cell fault

-- where no save of a cell fails, none did
abbrev pub KeepsReliable : {B : Type 0} → Cell B → ShownWorld B → ShownWorld B → Result (Unit {0}) FallFault → Type 0
KeepsReliable c old new result = AreReliable c old → AreReliable c new × (result ≢ Err (OfStep (OfSiteFault CellFault)))
