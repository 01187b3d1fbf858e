use Rattle.std.proofs.Common.{refl, sym, ◌∙◌, arith}
use Rattle.pvp_parties.proofs.Lists.{same_by_get}
use Rattle.pvp_parties.proofs.like.have_one_log.Goals as goal

pub returns : goal.returns
returns c =
    let a = c.args.a.now.volatile.log in
    let b = c.args.b.now.volatile.log in
    let all =
    same_by_get a b (sym c.log_len.ensures ∙ c.if-log_len.false ∙ c.log_len-2.ensures)
    (λ k h. c.loop-i.invariant k (omega (arith, h, c.loop-i-test.false, c.log_len-i-end.ensures))) in
    (λ _. all, λ _. refl)
