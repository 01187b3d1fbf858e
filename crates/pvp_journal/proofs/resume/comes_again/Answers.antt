use Rattle.std.proofs.Common.{Bool, sym, subst}
use Rattle.std.specs.Prelude.{is_some}
use Rattle.pvp_journal.specs.declared.summary.Summary.{Summary}
use Rattle.pvp_journal.specs.declared.summary.Summary.TheVariants.{Sent}
use Rattle.pvp_journal.specs.Resumed.{ComesAgain}
use Rattle.pvp_journal.proofs.Replaying.{again_sent}
use Rattle.pvp_journal.proofs.resume.comes_again.Goals as goal

pub returns-in_ok-take_again-in-Sent-clause-so : goal.returns-in_ok-take_again-in-Sent-clause-so
returns-in_ok-take_again-in-Sent-clause-so c =
    let old = c.args.actor.now in
    let event = c.args.event.now in
    let new = c.take_again.new.actor in
    let found = c.in_ok-take_again-in-Sent.field-0 in
    let e = c.in_ok-take_again-in-Sent.ensures in
    subst (λ (b : Bool). ComesAgain old event c.args.summary.now new b) (sym c.is_some.ensures)
    (subst (λ (summary : Summary). ComesAgain old event summary new (is_some found)) (sym c.in-Sent.is)
    (again_sent old new event (Sent c.in-Sent.count c.in-Sent.dropped) found e.step e.summed))
