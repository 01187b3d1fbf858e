use Rattle.std.proofs.Common.{List, map, ap, ◌∙◌}
use Rattle.pvp_world.proofs.Openings.{IsAt-opening}
use Rattle.pvp_world.proofs.world.World.new.Goals as goal

pub invariant_of-world : goal.invariant_of-world
invariant_of-world g c =
    IsAt-opening g.C.BootCell.held c.args.setup.now c.args.cells.items c.in_ok-copy.field-0 c.in_ok-opening.opening.items c.in_ok-sites_over.field-0.items
    c.in_ok-nodes_of.field-0.items c.in_ok-clients_of.field-0.items c.new.result.items c.new-2.result.items c.requires.valid
    c.requires.sites c.in_ok-copy.ensures
    (c.in_ok-opening.ensures ∙ ap (λ (cells : List g.row.C.Denot). map g.C.BootCell.held cells) c.as_slice.ensures.value)
    c.in_ok-sites_over.ensures.sites c.in_ok-nodes_of.ensures c.in_ok-clients_of.ensures c.new.ensures.items c.new-2.ensures
