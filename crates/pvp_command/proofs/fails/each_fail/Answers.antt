use Rattle.std.proofs.Common.{ℕ, List, Bor, sym, ap, ◌∙◌}
use Rattle.pvp_command.specs.Fails.{fail_at}
use Rattle.pvp_command.proofs.FailsLemmas.{goes_on}
use Rattle.pvp_command.proofs.fails.each_fail.Goals as goal

pub loop-word-preserved : goal.loop-word-preserved
loop-word-preserved c =
    let text = λ (word : Bor (List ℕ)). word.now in
    rw c.in_ok-push-in-Some.ensures.items
    (goes_on text c.args.words.now c.loop-word.word-index _ c.loop-word.fails.items c.in-Some.fail c.loop-word-test.true
    (ap fail_at (sym c.as_bytes.ensures.value) ∙ sym c.in-Some.ensures) c.loop-word.invariant)
