use Rattle.std.proofs.Common.{refl}
use Rattle.pvp_world.proofs.Sites.{unserved, fell-after, err-not-ok}
use Rattle.pvp_world.proofs.post.serve.Goals as goal

pub returns-in-Err-clause-serves : goal.returns-in-Err-clause-serves
returns-in-Err-clause-serves g c = λ setup i x choose right is.
    unserved _ g.C.BootCell setup i c.args.site.now c.handle.new.self c.args.event x choose right is c.handle.result c.in-Err.fault
    c.args.post.now.items c.args.post.now.items c.handle.ensures.handles c.handle.ensures.crash c.in-Err.is refl

pub returns-in-Err-put-clause-serves : goal.returns-in-Err-put-clause-serves
returns-in-Err-put-clause-serves g c = λ setup i x choose right is.
    fell-after _ g.C.BootCell setup i c.args.site.now c.fall.new.self c.args.event x choose right is c.in-Ok.out c.handle.new.self c.handle.result
    c.args.post.now.items c.put.new.post.items c.handle.ensures.handles c.in-Ok.is c.fall.ensures (c.in-Err-put.ensures).err
    (λ none. err-not-ok _ _ c.in-Err-put.is (c.put.ensures.nothing none))
