use Rattle.std.proofs.Common.{rules, length, refl}
use Rattle.std.proofs.lemmas.Option.{slice_get_read}
use Rattle.pvp_live.proofs.Answering.{answered}
use Rattle.pvp_live.proofs.player.LinePlayer.answer_to.Goals as goal

pub returns-clause-answers : goal.returns-clause-answers
returns-clause-answers g c =
    let seats = c.args.self.now.seats.items in
    answered c.args.self.now.cells.now c.args.post seats _ c.in_ok-place.place c.in_ok-seat.seat.now c.post.new.seat c.post.result
    (search rules) (slice_get_read seats (length seats) c.in_ok-place.place c.in_ok-seat.seat.now refl (search rules) (search rules))
    c.post.ensures.receipts refl
