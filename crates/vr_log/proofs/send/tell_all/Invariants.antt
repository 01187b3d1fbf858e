use Rattle.std.proofs.Common.{◌≡◌}
use Rattle.vr_log.specs.News.{news_msg}
use Rattle.vr_log.proofs.Others.{told}
use Rattle.vr_log.proofs.send.tell_all.Given as goal

-- the sites so far were told
abbrev pub invariant-loop-site : goal.invariant-loop-site
invariant-loop-site g l = l.sent.items ≡ told l.site l.config.me (news_msg l.news)
