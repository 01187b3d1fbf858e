-- What a site sends to all the others.
use Rattle.vr_types.specs.declared.message.MsgOf.{MsgOf}
use Rattle.vr_types.specs.declared.message.MsgOf.TheVariants as msg
use Rattle.vr_log.specs.declared.send.News.{News}
use Rattle.vr_log.specs.declared.send.News.TheVariants.{Prepare, Commit, StartViewChange, Recovery}

-- the message that carries it
abbrev pub news_msg : {C R O : Type 0} → News C → MsgOf C R O
news_msg (Prepare prepare) = msg.Prepare prepare
news_msg (Commit commit) = msg.Commit commit
news_msg (StartViewChange change) = msg.StartViewChange change
news_msg (Recovery recovery) = msg.Recovery recovery
