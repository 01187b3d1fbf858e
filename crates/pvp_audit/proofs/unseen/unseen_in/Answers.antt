use Rattle.std.proofs.Common.{ℕ, Bool, ◌+◌, ◌-◌, ◌<◌, ◌++◌, List, not, length, sym, ap, ◌∙◌, arith}
use Rattle.std.specs.List.{filter, range_with_len}
use Rattle.pvp_audit.specs.Gathered.{has_actor}
use Rattle.pvp_audit.proofs.Blanks.{one_looked_at, all_looked_at}
use Rattle.pvp_audit.proofs.unseen.unseen_in.Goals as goal

pub loop-client-preserved : goal.loop-client-preserved
loop-client-preserved c =
    let absent : ℕ → Bool = λ client. not (has_actor c.args.journals.now client) in
    let at = c.loop-client.client in
    let end = length c.args.setup.now.members + 1 in
    let low : at < end = omega (arith, c.loop-client-test.true, c.member_count-client-end.ensures.count) in
    ap (λ (found : List ℕ). found ++ filter absent (range_with_len (at + 1) (end - (at + 1)))) c.in_ok-note_unseen.ensures
    ∙ one_looked_at absent c.loop-client.unseen.items at end low ∙ c.loop-client.invariant

pub returns : goal.returns
returns c =
    let absent : ℕ → Bool = λ client. not (has_actor c.args.journals.now client) in
    sym (all_looked_at absent c.loop-client.unseen.items c.loop-client.client (length c.args.setup.now.members + 1)
    (λ low. omega (arith, low, c.loop-client-test.false, c.member_count-client-end.ensures.count))) ∙ c.loop-client.invariant
