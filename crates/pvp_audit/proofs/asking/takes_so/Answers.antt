use Rattle.std.proofs.Common.{◌≡◌, false, IfErr, sym, subst, ◌∙◌, true≢false}
use Rattle.vr_types.specs.MemoryCell.{held_by}
use Rattle.pvp_world.specs.Steps.{IsTaken, IsRefused, Applies}
use Rattle.pvp_world.specs.Refusals.{hinders}
use Rattle.pvp_audit.proofs.Asked.{refused_never, posted, taken_so, taken_only}
use Rattle.pvp_audit.proofs.asking.takes_so.Goals as goal

pub returns-in-Err-clause-so : goal.returns-in-Err-clause-so
returns-in-Err-clause-so c = λ list cells moves.
    let old = c.args.world.now in
    let new = c.world_answer.new.world in
    let told = c.in_ok-world_answer.ensures in
    let refused : IsRefused held_by old new c.args.step c.in-Err.field-0 = subst (λ r. Applies held_by old new c.args.step r) c.in-Err.is told.applies in
    let had : hinders c.in-Err.field-0 ≡ false = subst (λ r. IfErr r (λ w. hinders w ≡ false)) c.in-Err.is told.free in (
      λ can. absurd (true≢false (sym can)),
      λ so. absurd (refused_never c.one_bank.ensures.right_choices old told.first.is_at list cells moves c.args.step new c.in-Err.field-0 had refused
          c.args.sent.now c.args.dropped so),
    )

pub returns-then-is_same_why-clause-so : goal.returns-then-is_same_why-clause-so
returns-then-is_same_why-clause-so c = λ list cells moves.
    let old = c.args.world.now in
    let new = c.world_answer.new.world in
    let step = c.args.step in
    let ob = c.one_bank.ensures.right_choices in
    let told = c.in_ok-world_answer.ensures in
    let taken : IsTaken held_by old new step c.in-Ok.report = subst (λ r. Applies held_by old new step r) c.in-Ok.is told.applies in
    let put = posted ob old told.first.is_at list cells moves step new c.in-Ok.report taken in
    let is = c.is_posted.ensures old.post put.0 put.1 (sym c.post_len-many.ensures) in (
      λ can. taken_so ob old told.first.is_at list cells moves step new c.in-Ok.report taken c.args.sent.now c.args.dropped
          (c.is_same_why.ensures.0 c.if-is_same_why.true) (is.0 can),
      λ so. is.1 (taken_only ob old told.first.is_at list cells moves step new c.in-Ok.report taken c.args.sent.now c.args.dropped so).1,
    )

pub returns-else-is_same_why-clause-so : goal.returns-else-is_same_why-clause-so
returns-else-is_same_why-clause-so c = λ list cells moves.
    let old = c.args.world.now in
    let new = c.world_answer.new.world in
    let step = c.args.step in
    let ob = c.one_bank.ensures.right_choices in
    let told = c.in_ok-world_answer.ensures in
    let taken : IsTaken held_by old new step c.in-Ok.report = subst (λ r. Applies held_by old new step r) c.in-Ok.is told.applies in (
      λ can. absurd (true≢false (sym can ∙ c.if-is_same_why.false)),
      λ so. c.is_same_why.ensures.1 (taken_only ob old told.first.is_at list cells moves step new c.in-Ok.report taken c.args.sent.now c.args.dropped so).0,
    )
