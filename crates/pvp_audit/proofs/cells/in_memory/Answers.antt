use Rattle.std.proofs.Common.{List, [], ◌∷◌, ◌++◌, ◌∙◌, subst, sym, Global}
use Rattle.std.proofs.lemmas.List.{map-id}
use Rattle.std.proofs.lemmas.Iterator.Adapters.{YieldsList-from_vec}
use Rattle.std.proofs.lemmas.Iterator.Consumers.{YieldsList-end}
use Rattle.pvp_audit.specs.Cells.{AreInMemory}
use Rattle.pvp_audit.proofs.InMemory.{AreInMemory-push}
use Rattle.pvp_audit.proofs.cells.in_memory.Goals as goal

pub loop-one-init : goal.loop-one-init
loop-one-init g c = subst (AreInMemory g.C.BootCell []) (sym c.in_ok-read.ensures.items) tt

pub loop-one-preserved : goal.loop-one-preserved
loop-one-preserved g c =
    subst (AreInMemory g.C.BootCell (c.loop-one.yielded ++ c.in-Some.one ∷ [])) (sym c.in_ok-push.ensures.items)
    (AreInMemory-push g.C.BootCell c.loop-one.yielded c.loop-one.read.items c.in-Some.one c.one_in_memory.result c.loop-one.invariant
    c.one_in_memory.ensures)

pub returns : goal.returns
returns g c =
    let each = YieldsList-from_vec {Z = Global} {s = c.into_iter-one-iterator.result} c.args.closed.items (cc) (cc) in
    let end =
    YieldsList-end each c.loop-one.yielded c.loop-one.one-iterator c.loop-one.yielded_by c.next.result c.next.new.self
    c.in-None.is c.next.ensures.steps in
    subst (λ l. AreInMemory g.C.BootCell l c.loop-one.read.items) (sym (map-id c.loop-one.yielded) ∙ end.0) c.loop-one.invariant
