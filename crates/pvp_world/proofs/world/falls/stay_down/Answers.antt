use Rattle.std.proofs.Common.{refl, sym, ◌∙◌}
use Rattle.headline.specs.Machine.{book}
use Rattle.vr_types.specs.declared.event.EventOf.TheVariants.{Restart}
use Rattle.pvp_world.proofs.Sites.{down-before, kept-refused}
use Rattle.pvp_world.proofs.world.falls.stay_down.Goals as goal

pub returns-in-None-clause-down : goal.returns-in-None-clause-down
returns-in-None-clause-down g c = λ setup i x choose right is.
    down-before book g.C.BootCell setup i c.args.site.now c.fall.new.self Restart x choose right is (sym c.refuses.ensures ∙ c.in-None.is) refl c.fall.ensures

pub returns-in-Some-clause-down : goal.returns-in-Some-clause-down
returns-in-Some-clause-down g c = λ setup i x choose right is.
    kept-refused book g.C.BootCell setup i c.args.site.now c.args.site.now Restart x choose right is c.in-Some.fault (sym c.refuses.ensures ∙ c.in-Some.is) refl
