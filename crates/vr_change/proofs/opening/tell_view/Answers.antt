use Rattle.std.proofs.Common.{◌++◌, ◌∷◌, [], sym, ap, ◌∙◌, append_assoc}
use Rattle.vr_types.specs.declared.message.MsgOf.TheVariants.{StartView}
use Rattle.vr_log.proofs.Others.{told, told-other, told-me}
use Rattle.vr_change.proofs.opening.tell_view.Goals as goal
use Rattle.vr_change.proofs.opening.tell_view.Goals.{then-site-config+in_ok-view_mail+in_ok-push, else-site-config}

pub loop-site-preserved : goal.loop-site-preserved
loop-site-preserved g c =
    let r = c.args.running.now in
    let me = c.args.config.me in
    let site = c.loop-site.site in
    let before = c.args.sent.now.items in
    let msg = StartView (record { view = r.view; done = r.kept.done; rows = r.kept.log }) in
    elim c.if-site-config.branch [
      | then-site-config+in_ok-view_mail+in_ok-push w ↦
          ap (λ v. v.items) w.sent-is ∙ w.in_ok-push.ensures.items
          ∙ ap (λ l. l ++ w.in_ok-view_mail.field-0 ∷ []) c.loop-site.invariant
          ∙ append_assoc before (told site me msg) (w.in_ok-view_mail.field-0 ∷ [])
          ∙ ap (λ e. before ++ (told site me msg ++ e ∷ [])) w.in_ok-view_mail.ensures
          ∙ ap (λ l. before ++ l) (sym (told-other site me msg w.if-site-config.true))
      | else-site-config w ↦
          ap (λ v. v.items) w.sent-is ∙ c.loop-site.invariant ∙ ap (λ l. before ++ l) (sym (told-me site me msg w.if-site-config.false))
    ]
