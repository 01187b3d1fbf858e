use Rattle.std.proofs.Common.{rules, List, [], ◌∷◌, ◌++◌, append_assoc, append-nil, sym, ap, ◌∙◌, subst}
use Rattle.std.proofs.lemmas.List.{nil_from_length}
use Rattle.std.specs.Vec.Iter.{into_iter_items}
use Rattle.pvp_live.specs.Seating.{BankSeat}
use Rattle.pvp_live.specs.Seating.{TakesBack}
use Rattle.pvp_live.proofs.Seating.{taken_more, taken_none}
use Rattle.pvp_live.proofs.running.give_back.Goals as goal

pub loop-seat-init : goal.loop-seat-init
loop-seat-init g c = (tt, tt, ([], search rules, taken_none c.args.seats.now.items))

pub loop-seat-preserved : goal.loop-seat-preserved
loop-seat-preserved g c =
    let so_far = c.loop-seat.invariant.2 in
    let seat = c.in-Some.seat in (
      tt,
      tt,
      (
        so_far.0 ++ seat ∷ [],
        so_far.1 ∙ ap (λ (l : List BankSeat). so_far.0 ++ l) c.in-Some.ensures.steps.0 ∙ sym
            (append_assoc so_far.0 (seat ∷ []) (into_iter_items c.next.new.self)),
        taken_more c.args.seats.now.items c.loop-seat.seats.items c.put_back.new.seats.items so_far.0 seat so_far.2 c.in_ok-put_back.ensures.back,
      ),
    )

pub returns-clause-back : goal.returns-clause-back
returns-clause-back g c =
    let so_far = c.loop-seat.invariant.2 in
    let none = nil_from_length (into_iter_items c.loop-seat.seat-iterator) (search (rules, c.in-None.ensures.steps.0)) in
    let all = so_far.1 ∙ ap (λ (l : List BankSeat). so_far.0 ++ l) none ∙ append-nil so_far.0 in
    subst (λ (l : List BankSeat). TakesBack c.args.seats.now.items l c.loop-seat.seats.items) (sym all) so_far.2
