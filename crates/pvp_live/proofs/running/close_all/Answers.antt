use Rattle.std.proofs.Common.{rules, List, [], ◌∷◌, ◌++◌, append_assoc, append-nil, sym, ap, ◌∙◌, subst}
use Rattle.std.specs.Global.{Vec}
use Rattle.std.proofs.lemmas.List.{nil_from_length}
use Rattle.std.specs.Vec.Iter.{into_iter_items}
use Rattle.pvp_live.specs.Seating.{BankSeat}
use Rattle.pvp_audit.specs.Cells.{LeftOver}
use Rattle.pvp_live.specs.Seating.{Keeps}
use Rattle.pvp_live.proofs.Seating.{keeps_more, keeps_none}
use Rattle.pvp_live.proofs.running.close_all.Goals as goal

pub loop-own-init : goal.loop-own-init
loop-own-init g c = (tt, tt, ([], search rules, keeps_none c.in_ok-closed.closed.items))

pub loop-own-preserved : goal.loop-own-preserved
loop-own-preserved g c =
    let so_far = c.loop-own.invariant.2 in
    let own = c.in-Some.own in
    let one = c.in_ok-close_one.field-0 in (
      tt,
      tt,
      (
        so_far.0 ++ own ∷ [],
        so_far.1 ∙ ap (λ (l : List (Vec BankSeat)). so_far.0 ++ l) c.in-Some.ensures.steps.0
            ∙ sym (append_assoc so_far.0 (own ∷ []) (into_iter_items c.next.new.self)),
        subst (λ (l : List (LeftOver g.row.C.Denot)). Keeps (so_far.0 ++ own ∷ []) l) (sym c.in_ok-push.ensures.items)
            (keeps_more so_far.0 c.loop-own.closed.items own one c.in_ok-close_one.ensures.kept so_far.2),
      ),
    )

pub returns-clause-kept : goal.returns-clause-kept
returns-clause-kept g c =
    let so_far = c.loop-own.invariant.2 in
    let none = nil_from_length (into_iter_items c.loop-own.own-iterator) (search (rules, c.in-None.ensures.steps.0)) in
    let all = so_far.1 ∙ ap (λ (l : List (Vec BankSeat)). so_far.0 ++ l) none ∙ append-nil so_far.0 in
    subst (λ (l : List (Vec BankSeat)). Keeps l c.loop-own.closed.items) (sym all) so_far.2
