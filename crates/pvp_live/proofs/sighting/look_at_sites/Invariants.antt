use Rattle.std.proofs.Common.{take}
use Rattle.pvp_live.specs.Sightings.{AreLooks}
use Rattle.pvp_live.proofs.sighting.look_at_sites.Given as goal

-- the sites so far were looked at
abbrev pub invariant-loop-cell : goal.invariant-loop-cell
invariant-loop-cell g l = AreLooks g.C.BootCell (take l.cell-index l.cells) l.looks.items
