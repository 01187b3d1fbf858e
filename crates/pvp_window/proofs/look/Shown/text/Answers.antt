use Rattle.std.proofs.Common.{List, ℕ, sym, subst}
use Rattle.pvp_window.specs.Readings.{IsReading}
use Rattle.pvp_window.proofs.look.Shown.text.Goals as goal

pub returns-clause-exact : goal.returns-clause-exact
returns-clause-exact c =
    subst (λ (t : List ℕ). ∥ IsReading c.args.self.now.view c.args.self.now.found t ∥₁) (sym c.as_str.ensures.value) c.args.self.now.exact
