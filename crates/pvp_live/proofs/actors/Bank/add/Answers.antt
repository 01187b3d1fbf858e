use Rattle.std.specs.Vec.{vec_len}
use Rattle.std.proofs.Common.{◌≡◌, rules, arith, length, List, [], ◌∷◌, ◌++◌, option_to_list, sym, ap, ◌∙◌, subst}
use Rattle.pvp_live.specs.Seating.{BankSeat}
use Rattle.pvp_rooms.specs.Seats.{Place}
use Rattle.pvp_live.specs.Seating.{AreNew}
use Rattle.pvp_live.proofs.Seating.{fresh_last, fresh_long, new_more}
use Rattle.pvp_live.proofs.actors.Bank.add.Goals as goal

pub returns : goal.returns
returns g c =
    let cell = c.args.made.0 in
    let own = c.unwrap-own.result in
    let last =
    fresh_last cell.seats cell.number c.args.made.1.items c.pop.new.self.items own c.requires.fresh
    (c.pop.ensures.items ∙ ap (λ o. c.pop.new.self.items ++ option_to_list o) c.unwrap-own.ensures) in
    subst (λ (l : List Place). AreNew l c.push-2.new.self.items) (sym c.in_ok-push.ensures.items)
    (subst (λ (l : List BankSeat). AreNew (c.args.self.now.cells.items ++ cell ∷ []) l) (sym c.in_ok-push-2.ensures.items)
    (new_more c.args.self.now.cells.items c.args.self.now.own.items cell own c.requires.new last.0 last.1))

pub unwrap-own-requires : goal.unwrap-own-requires
unwrap-own-requires g c =
    let long = ap length c.requires.fresh ∙ fresh_long c.args.made.0.seats c.args.made.0.number in
    let kept : vec_len c.args.made.1 ≡ length c.args.made.1.items = search rules in
    c.pop.ensures.variant.1 (omega (arith, kept, long, c.requires.some))
