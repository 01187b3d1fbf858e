use Rattle.std.proofs.Common.{refl, ap, ◌∙◌, subst}
use Rattle.pvp_rooms.specs.Gates.{Hears}
use Rattle.pvp_live.specs.Effects.{line_effect, fault_of}
use Rattle.pvp_live.specs.Refusals.{refused_after}
use Rattle.pvp_live.specs.Playing.{keeps, handed_on}
use Rattle.pvp_live.proofs.Answering.{posts}
use Rattle.pvp_live.proofs.player.LinePlayer.post.Goals as goal

pub returns-clause-posted : goal.returns-clause-posted
returns-clause-posted g c =
    let mid = c.answer_to-answer.new.self in
    let answer = c.answer_to-answer.result in
    record {
      puts = handed_on c.args.post.actor answer;
      posts = posts c.args.self.now.cells.now c.args.line.number c.args.post
          (keeps c.args.self.now.seats.items c.args.self.now.refused) (keeps c.hand_on.new.self.seats.items c.hand_on.new.self.refused)
          mid.seats.items mid.refused answer (handed_on c.args.post.actor answer)
          c.answer_to-answer.ensures.answers
          (ap (λ s. s.items) (c.hand_on.ensures.seats ∙ c.note.ensures.seats))
          c.answer_to-answer.ensures.refused
          (c.hand_on.ensures.refused ∙ c.note.ensures.refused ∙ ap (λ a. refused_after mid.refused c.args.line.number (fault_of (line_effect a)))
          c.as_ref-told.ensures.value)
          refl;
      handed =
          subst (λ a. Hears g.O.Outbox.got c.args.out.now c.hand_on.new.out (handed_on c.args.post.actor a)) c.as_ref-told.ensures.value
          c.hand_on.ensures.handed;
    }
