use Rattle.std.proofs.Common.{◌-◌, refl, sym, ap, ◌∙◌, arith}
use Rattle.pvp_audit.proofs.Posted.{more_is}
use Rattle.pvp_audit.proofs.asking.is_posted.Goals as goal

pub returns : goal.returns
returns c = λ before more parts first. (
  λ can. more_is c.args.world.now.post before more c.args.sent.now c.args.many parts first
      (ap (λ n. n - c.args.many) (sym c.post_len.ensures) ∙ c.if-post_len-many.false)
      (λ j low. c.loop-i.invariant j (omega (arith, low, c.loop-i-test.false))),
  λ same. refl,
)
