use Rattle.std.proofs.Common.{◌≡◌, length, map, take}
use Rattle.pvp_types.specs.declared.command.Cmd.{Cmd}
use Rattle.pvp_types.specs.declared.setup.Setup.{Setup}
use Rattle.pvp_types.specs.Setup.{faults}
use Rattle.vr_types.specs.Site.{opening_site}
use Rattle.vr_site.specs.Replica.{ShownSite}
use Rattle.pvp_world.specs.World.{IsSite}
use Rattle.pvp_world.proofs.Openings.{AreSoFar}
use Rattle.pvp_world.proofs.opening.sites_over.Given as goal

-- the sites so far, over the cells so far
abbrev pub invariant-loop-me : goal.invariant-loop-me
invariant-loop-me g l = record {
  cells : map (λ (site : ShownSite Cmd Setup g.row.C.Denot). site.cell) l.sites.items ≡ take (length l.yielded) l.fn.cells.items;
  sites : AreSoFar (IsSite g.C.BootCell.held l.setup) l.sites.items (map (opening_site (faults l.setup)) (map g.C.BootCell.held l.fn.cells.items))
      (length l.yielded);
}
