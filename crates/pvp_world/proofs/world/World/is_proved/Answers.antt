use Rattle.std.proofs.Common.{subst}
use Rattle.pvp_world.specs.World.{IsAt}
use Rattle.pvp_world.proofs.Proved.{proved}
use Rattle.pvp_world.proofs.world.World.is_proved.Goals as goal

pub returns : goal.returns
returns g c =
    proved g.C.BootCell.held c.args.self.now (subst (λ v. IsAt g.C.BootCell.held v) c.self.view_is c.self.invariant.1) c.headline_and_replies.ensures
    c.one_bank.ensures.right_choices
