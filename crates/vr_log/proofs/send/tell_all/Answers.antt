use Rattle.std.proofs.Common.{◌≡◌, ◌+◌, ◌*◌, sym, ap, ◌∙◌, arith}
use Rattle.vr_log.specs.News.{news_msg}
use Rattle.vr_log.proofs.Others.{told, told-other, told-me}
use Rattle.vr_log.proofs.send.tell_all.Goals as goal
use Rattle.vr_log.proofs.send.tell_all.Goals.{then-site-config+in_ok-push, else-site-config}

pub loop-site-preserved : goal.loop-site-preserved
loop-site-preserved g c =
    elim c.if-site-config.branch [
      | then-site-config+in_ok-push w ↦
          rw (w.sent-is, w.in_ok-push.ensures.items, c.loop-site.invariant, w.mail_to.ensures, w.msg.ensures)
          (sym (told-other c.loop-site.site c.args.config.me (news_msg c.args.news) w.if-site-config.true))
      | else-site-config w ↦
          rw (w.sent-is, c.loop-site.invariant)
          (sym (told-me c.loop-site.site c.args.config.me (news_msg c.args.news) w.if-site-config.false))
    ]

pub returns : goal.returns
returns g c =
    let all : c.loop-site.site ≡ 2 * c.args.config.f + 1 = omega arith in
    c.loop-site.invariant ∙ ap (λ n. told n c.args.config.me (news_msg c.args.news)) all
