use Rattle.std.proofs.Common.{sym, subst, arith}
use Rattle.pvp_types.specs.Setup.{IsValid}
use Rattle.pvp_types.proofs.SetupLemmas.{valid-members}
use Rattle.pvp_parties.proofs.made.Placed+Client.new.Goals as goal

pub invariant_of-result : goal.invariant_of-result
invariant_of-result c =
    let few = (valid-members c.args.setup.now c.requires.valid).1 in
    (subst IsValid (sym c.in_ok-copy.ensures) c.requires.valid, omega (arith, c.requires.known, few))
