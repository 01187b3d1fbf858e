use Rattle.std.proofs.Common.{rules, length, refl}
use Rattle.std.proofs.lemmas.Option.{slice_get_read}
use Rattle.pvp_live.proofs.Seating.{takes_one}
use Rattle.pvp_live.proofs.running.put_back.Goals as goal

pub returns-clause-back : goal.returns-clause-back
returns-clause-back g c =
    let now = c.args.seats.now.items in
    let at = c.in_ok-place.place in
    let own = c.index_mut.result.now in
    takes_one now at own c.push.new.self c.args.seat (slice_get_read now (length now) at own refl (search rules) c.index_mut.ensures.value)
    c.in_ok-push.ensures.items _ refl
