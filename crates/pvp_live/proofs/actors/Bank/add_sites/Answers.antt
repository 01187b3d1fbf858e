use Rattle.std.proofs.Common.{length, arith, Global}
use Rattle.std.proofs.lemmas.Iterator.Adapters.{YieldsList-from_vec}
use Rattle.std.proofs.lemmas.Iterator.Consumers.{YieldsList-from_enumerate, YieldsList-turn}
use Rattle.pvp_types.proofs.SetupLemmas.{valid-sites}
use Rattle.pvp_world.proofs.Openings.{IsPlaced-numbered}
use Rattle.pvp_live.proofs.actors.Bank.add_sites.Goals as goal

pub overflow_cast-site : goal.overflow_cast-site
overflow_cast-site g c =
    let boots = c.args.boots.items in
    let group = valid-sites c.args.setup.now c.requires.valid in
    let each = YieldsList-from_enumerate {s = c.into_iter-site-iterator.result} (YieldsList-from_vec {Z = Global} boots (cc) (cc)) (cc) in
    let placed = IsPlaced-numbered boots (length c.loop-site.yielded) c.in-Some.site c.in-Some.boot
    (YieldsList-turn each c.loop-site.yielded c.loop-site.site-iterator c.loop-site.yielded_by c.next.result c.next.new.self
    (c.in-Some.site, c.in-Some.boot) c.in-Some.is c.next.ensures.steps) in
    omega (arith, placed.number, placed.within, c.requires.sites, group.few)

pub site_cell-requires-clause-known : goal.site_cell-requires-clause-known
site_cell-requires-clause-known g c =
    let boots = c.args.boots.items in
    let each = YieldsList-from_enumerate {s = c.into_iter-site-iterator.result} (YieldsList-from_vec {Z = Global} boots (cc) (cc)) (cc) in
    let placed = IsPlaced-numbered boots (length c.loop-site.yielded) c.in-Some.site c.in-Some.boot
    (YieldsList-turn each c.loop-site.yielded c.loop-site.site-iterator c.loop-site.yielded_by c.next.result c.next.new.self
    (c.in-Some.site, c.in-Some.boot) c.in-Some.is c.next.ensures.steps) in
    omega (arith, placed.number, placed.within, c.requires.sites)
