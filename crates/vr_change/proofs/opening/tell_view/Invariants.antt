use Rattle.std.proofs.Common.{◌≡◌, ◌++◌}
use Rattle.vr_types.specs.declared.message.MsgOf.TheVariants.{StartView}
use Rattle.vr_log.proofs.Others.{told}
use Rattle.vr_change.proofs.opening.tell_view.Given as goal

-- the sites so far were told
abbrev pub invariant-loop-site : goal.invariant-loop-site
invariant-loop-site g l =
    l.sent.items ≡ l.initial.sent.items ++ told l.site l.config.me
    (StartView (record { view = l.running.view; done = l.running.kept.done; rows = l.running.kept.log }))
