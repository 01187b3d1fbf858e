use Rattle.std.proofs.Common.{sym, ◌∙◌, true≢false}
use Rattle.pvp_live.proofs.Begun.{began, began_back}
use Rattle.pvp_live.proofs.running.judge_left.Goals as goal

pub returns-then-not-began_new-clause-stranger : goal.returns-then-not-began_new-clause-stranger
returns-then-not-began_new-clause-stranger c = λ bank new.
    true≢false (sym (c.began_new.ensures ∙ began_back c.args.setup.now c.args.closed.now new) ∙ c.if-not-began_new.true)

pub returns-in-Ok-clause-judged : goal.returns-in-Ok-clause-judged
returns-in-Ok-clause-judged c =
    let bank = c.in-Ok.ensures.bank in
    record {
      bank = bank;
      began = began c.args.setup.now c.args.closed.now (sym c.began_new.ensures ∙ c.if-not-began_new.false) bank;
      judged = c.in-Ok.ensures.verdict;
    }
