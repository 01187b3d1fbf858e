use Rattle.std.proofs.Common.{List, [], ◌∷◌, ◌++◌, ◌∙◌, length, refl, subst, sym, Global}
use Rattle.std.proofs.lemmas.List.{map-id}
use Rattle.std.proofs.lemmas.Option.{slice_get_read}
use Rattle.std.proofs.lemmas.Iterator.Adapters.{YieldsList-from_vec}
use Rattle.std.proofs.lemmas.Iterator.Consumers.{YieldsList-end, YieldsList-turn}
use Rattle.pvp_audit.specs.Banked.{AreOfBank}
use Rattle.pvp_audit.specs.Judged.{Left}
use Rattle.pvp_audit.specs.declared.history.History.{History}
use Rattle.pvp_audit.specs.Histories.{AreLeftBy}
use Rattle.pvp_audit.proofs.Leaving.{AreLeftBy-push, AreOfBank-push}
use Rattle.pvp_audit.proofs.judged.all_closed.Goals as goal

pub loop-history-init : goal.loop-history-init
loop-history-init c = record {
  left = subst (λ (closed : List Left). AreLeftBy closed []) (sym c.in_ok-closed.ensures.items) tt;
  bank = subst (λ (closed : List Left). AreOfBank c.args.setup.now closed) (sym c.in_ok-closed.ensures.items) (λ j d is. cc);
}

-- each history is one of those that are judged
pub closed_of-requires-clause-known : goal.closed_of-requires-clause-known
closed_of-requires-clause-known c =
    let histories = c.args.histories.items in
    let each = YieldsList-from_vec {Z = Global} {s = c.into_iter-history-iterator.result} histories (cc) (cc) in
    let turn =
    YieldsList-turn each c.loop-history.yielded c.loop-history.history-iterator c.loop-history.yielded_by c.next.result c.next.new.self c.in-Some.history
    c.in-Some.is c.next.ensures.steps in
    (c.requires.bank.each (length c.loop-history.yielded) c.in-Some.history
    (slice_get_read histories (length histories) (length c.loop-history.yielded) c.in-Some.history refl turn.0 turn.1)).opening

pub loop-history-preserved : goal.loop-history-preserved
loop-history-preserved c = record {
  left = subst (λ (closed : List Left). AreLeftBy closed (c.loop-history.yielded ++ c.in-Some.history ∷ [])) (sym c.in_ok-push.ensures.items)
      (AreLeftBy-push c.loop-history.closed.items c.loop-history.yielded c.in_ok-closed_of.field-0 c.in-Some.history c.loop-history.invariant.left
      c.in_ok-closed_of.ensures.left);
  bank = subst (λ (closed : List Left). AreOfBank c.args.setup.now closed) (sym c.in_ok-push.ensures.items)
      (AreOfBank-push c.args.setup.now c.loop-history.closed.items c.in_ok-closed_of.field-0 c.loop-history.invariant.bank c.in_ok-closed_of.ensures.bank);
}

pub returns-clause-left : goal.returns-clause-left
returns-clause-left c =
    let each = YieldsList-from_vec {Z = Global} {s = c.into_iter-history-iterator.result} c.args.histories.items (cc) (cc) in
    let end =
    YieldsList-end each c.loop-history.yielded c.loop-history.history-iterator c.loop-history.yielded_by c.next.result c.next.new.self
    c.in-None.is c.next.ensures.steps in
    subst (λ (histories : List History). AreLeftBy c.loop-history.closed.items histories)
    (sym (map-id c.loop-history.yielded) ∙ end.0) c.loop-history.invariant.left
