use Rattle.std.proofs.Common.{refl, sym, ◌∙◌, true≢false}
use Rattle.pvp_audit.proofs.Asked.{fallen_so, fallen_never}
use Rattle.pvp_audit.proofs.asking.falls_so.Goals as goal

pub returns-in-Ok-clause-so : goal.returns-in-Ok-clause-so
returns-in-Ok-clause-so c = λ list cells moves. (
  λ can. fallen_so c.one_bank.ensures.right_choices c.args.world.now c.is_proved.ensures.is_at list cells moves c.args.step c.fall.new.self c.args.cell
      c.in-Ok.ensures.falls,
  λ so. refl,
)

pub returns-else-is_want_in_fall-clause-so : goal.returns-else-is_want_in_fall-clause-so
returns-else-is_want_in_fall-clause-so c = λ list cells moves. (
  λ can. absurd (true≢false (sym can)),
  λ so. absurd (fallen_never c.one_bank.ensures.right_choices c.args.world.now c.is_proved.ensures.is_at list cells moves c.args.step c.fall.new.self
      c.args.cell c.requires.reliable c.in-Err.fault
      (sym c.is_want_in_fall.ensures ∙ c.if-is_want_in_fall.false) c.in-Err.ensures.falls c.in-Err.ensures.reliable so),
)
