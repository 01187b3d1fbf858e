use Rattle.std.proofs.Common.{◌≡◌, false, Some, IfErr, sym, ap, subst, ◌∙◌, true≢false}
use Rattle.vr_types.specs.MemoryCell.{held_by}
use Rattle.headline.proofs.Basics.{some-same}
use Rattle.pvp_world.specs.Steps.{IsTaken, IsRefused, Applies}
use Rattle.pvp_world.specs.Refusals.{hinders}
use Rattle.pvp_audit.proofs.Asked.{refused_for, taken_free}
use Rattle.pvp_audit.proofs.asking.refuses_so.Goals as goal

pub returns-in-Err-clause-so : goal.returns-in-Err-clause-so
returns-in-Err-clause-so c = λ list cells moves.
    let old = c.args.world.now in
    let new = c.world_answer.new.world in
    let step = c.args.step in
    let told = c.in_ok-found.ensures in
    let refused : IsRefused held_by old new step c.in-Err.found = subst (λ r. Applies held_by old new step r) c.in-Err.is told.applies in
    let had : hinders c.in-Err.found ≡ false = subst (λ r. IfErr r (λ w. hinders w ≡ false)) c.in-Err.is told.free in
    let why = refused_for c.one_bank.ensures.right_choices old told.first.is_at list cells moves step new c.in-Err.found had refused in
    (λ can. why ∙ ap (λ w. Some w) (c.is_same_fault.ensures.0 can), λ is. c.is_same_fault.ensures.1 (some-same c.in-Err.found c.args.fault (sym why ∙ is)))

pub returns-in-Ok-clause-so : goal.returns-in-Ok-clause-so
returns-in-Ok-clause-so c = λ list cells moves.
    let old = c.args.world.now in
    let new = c.world_answer.new.world in
    let step = c.args.step in
    let told = c.in_ok-found.ensures in
    let taken : IsTaken held_by old new step c.in-Ok.field-0 = subst (λ r. Applies held_by old new step r) c.in-Ok.is told.applies in (
      λ can. absurd (true≢false (sym can)),
      λ is.
          absurd (taken_free c.one_bank.ensures.right_choices old told.first.is_at list cells moves step new c.in-Ok.field-0 taken c.args.fault is),
    )
