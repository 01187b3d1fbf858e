use Rattle.std.proofs.Common.{refl, arith}
use Rattle.std.proofs.lemmas.List.{same_lists}
use Rattle.pvp_audit.proofs.setups.same_members.Goals as goal

pub returns : goal.returns
returns c =
    let all = same_lists c.args.a.now c.args.b.now c.if-a-b.false (λ k d h. c.loop-i.invariant k d (omega (arith, h, c.loop-i-test.false))) in
    (λ _. all, λ _. refl)
