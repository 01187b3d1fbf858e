use Rattle.std.proofs.Common.{sym, ◌∙◌}
use Rattle.pvp_world.proofs.Sites.{down-unserved, kept-unserved}
use Rattle.pvp_world.proofs.world.falls.go_down.Goals as goal

pub returns-then-is_fall-clause-down : goal.returns-then-is_fall-clause-down
returns-then-is_fall-clause-down g c = λ setup i x choose right is.
    down-unserved _ g.C.BootCell setup i c.args.site.now c.handle.new.self c.args.event x choose right is c.handle.result c.in-Err.fault
    c.handle.ensures.handles c.handle.ensures.crash c.in-Err.is (sym c.is_fall.ensures ∙ c.if-is_fall.true)

pub returns-clause-down : goal.returns-clause-down
returns-clause-down g c = λ setup i x choose right is.
    kept-unserved _ g.C.BootCell setup i c.args.site.now c.handle.new.self c.args.event x choose right is c.handle.result c.in-Err.fault
    c.handle.ensures.handles c.handle.ensures.crash c.in-Err.is (sym c.is_fall.ensures ∙ c.if-is_fall.false)
