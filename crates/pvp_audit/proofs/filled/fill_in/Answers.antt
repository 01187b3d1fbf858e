use Rattle.std.proofs.Common.{true, List, Global, refl, sym, subst, ◌∙◌, ◌++◌, ◌∷◌, []}
use Rattle.std.proofs.lemmas.List.{map-id}
use Rattle.std.proofs.lemmas.Iterator.Adapters.{YieldsList-from_vec}
use Rattle.std.proofs.lemmas.Iterator.Consumers.{YieldsList-end}
use Rattle.pvp_journal.specs.Spelling.{Entry}
use Rattle.pvp_journal.specs.Summaries.{Taken}
use Rattle.pvp_audit.proofs.Filling.{StandsSo, stands_first, stands_next}
use Rattle.pvp_audit.proofs.filled.fill_in.Goals as goal

pub loop-entry-init : goal.loop-entry-init
loop-entry-init c = stands_first c.args.actor c.in_ok-history.history.items true c.in_ok-history.ensures.items refl

pub loop-entry-preserved : goal.loop-entry-preserved
loop-entry-preserved c =
    let taken = c.in_ok-taken.taken in
    let comes = c.in_ok-taken.comes in
    let e = c.in_ok-taken.ensures in
    subst (λ (history : List Taken). StandsSo c.args.actor c.fill_one.new.actor (c.loop-entry.yielded ++ c.in-Some.entry ∷ []) history comes)
    (sym c.in_ok-push.ensures.items)
    (stands_next c.args.actor c.loop-entry.actor c.fill_one.new.actor c.loop-entry.yielded c.loop-entry.history.items c.in-Some.entry taken c.loop-entry.goes
    comes c.loop-entry.invariant e.event e.fills e.comes e.fails e.lost)

pub returns : goal.returns
returns c =
    let each = YieldsList-from_vec {Z = Global} {s = c.into_iter-entry-iterator.result} c.args.entries.items (cc) (cc) in
    let end =
    YieldsList-end each c.loop-entry.yielded c.loop-entry.entry-iterator c.loop-entry.yielded_by c.next.result c.next.new.self
    c.in-None.is c.next.ensures.steps in
    let so =
    subst (λ (entries : List Entry). StandsSo c.args.actor c.loop-entry.actor entries c.loop-entry.history.items c.loop-entry.goes)
    (sym (map-id c.loop-entry.yielded) ∙ end.0) c.loop-entry.invariant in
    record { events = so.events; filled = so.filled }
