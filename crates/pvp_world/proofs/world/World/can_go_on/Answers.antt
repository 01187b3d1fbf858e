use Rattle.std.proofs.Common.{sym, subst}
use Rattle.std.specs.Prelude.{IsTrue, ◌↔◌}
use Rattle.pvp_world.specs.World.{IsAt}
use Rattle.pvp_world.specs.Progress.{CanGoOn, GoesOn}
use Rattle.pvp_world.proofs.GoingOn.{exact, goes_on}
use Rattle.pvp_world.proofs.world.World.can_go_on.Goals as goal

pub returns-clause-exact : goal.returns-clause-exact
returns-clause-exact g c =
    subst (λ b. IsTrue b ↔ CanGoOn c.args.self.now) (sym c.has_needs.ensures)
    (exact g.C.BootCell.held c.args.self.now (subst (λ v. IsAt g.C.BootCell.held v) c.self.view_is c.self.invariant.1) c.one_bank.ensures.right_choices)

pub returns-clause-goes_on : goal.returns-clause-goes_on
returns-clause-goes_on g c =
    subst (λ b. IsTrue b → GoesOn c.args.self.now) (sym c.has_needs.ensures)
    (goes_on g.C.BootCell.held c.args.self.now (subst (λ v. IsAt g.C.BootCell.held v) c.self.view_is c.self.invariant.1)
    c.one_bank.ensures.right_choices c.progress.ensures)
