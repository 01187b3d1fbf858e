use Rattle.std.proofs.Common.{◌≡◌, take}
use Rattle.pvp_world.specs.World.{IsProved}
use Rattle.pvp_world.specs.Steps.{AreTaken, AreReliable, failures}
use Rattle.pvp_world.proofs.world.World.run.Given as goal

-- the steps so far are taken, the headline holds, cells that do not fail did not, and no failure was counted
abbrev pub invariant-loop-step : goal.invariant-loop-step
invariant-loop-step g l =
    AreTaken l.fn.self l.self (take l.step-index l.steps) × IsProved g.C.BootCell.held l.self
    × (AreReliable g.C.BootCell l.fn.self → AreReliable g.C.BootCell l.self)
    × (failures g.C.BootCell l.self ≡ failures g.C.BootCell l.fn.self)
