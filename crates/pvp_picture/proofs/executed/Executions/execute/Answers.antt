use Rattle.std.proofs.Common.{sym, subst}
use Rattle.pvp_picture.specs.Replay.{AreAnswered}
use Rattle.pvp_picture.proofs.ExecutedLemmas.{answered_more}
use Rattle.pvp_picture.proofs.executed.Executions.execute.Goals as goal

pub returns : goal.returns
returns c first before =
    subst (λ rows. AreAnswered first rows c.apply.new.self) (sym c.in_ok-push.ensures.items)
    (answered_more first c.args.self.now.book c.apply.new.self c.args.self.now.rows.items
    (record { row = c.args.row; reply = c.in_ok-reply.reply }) c.in_ok-reply.ensures.answer c.in_ok-reply.ensures.after before)
