use Rattle.pvp_rooms.proofs.Growing.{answers_step}
use Rattle.pvp_rooms.proofs.cell.ActorCell.post.Goals as goal

pub returns-clause-step : goal.returns-clause-step
returns-clause-step g c =
    let stepped = c.step_with_receipt-answer in
    answers_step g.A.Actor c.args.input c.deref_mut.result.now stepped.new.self stepped.result stepped.ensures.told stepped.ensures.was stepped.ensures.sound
