use Rattle.std.proofs.Common.{◌≡◌, ◌++◌, map, drop}
use Rattle.vr_log.specs.Kept.{reply_mail}
use Rattle.vr_log.proofs.send.send_replies.Given as goal

-- what is told so far and what is left are all replies
abbrev pub invariant-loop-answer : goal.invariant-loop-answer
invariant-loop-answer g l =
    l.sent.items ++ map (reply_mail l.config.me l.view) (drop l.answer-index l.answers) ≡ l.initial.sent.items ++ map (reply_mail l.config.me l.view) l.answers
