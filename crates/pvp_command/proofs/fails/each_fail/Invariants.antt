use Rattle.std.proofs.Common.{◌≡◌, drop}
use Rattle.std.specs.Prelude.{map}
use Rattle.pvp_command.specs.Fails.{each_fail}
use Rattle.pvp_command.proofs.FailsLemmas.{with_front}
use Rattle.pvp_command.proofs.fails.each_fail.Given as goal

abbrev pub invariant-loop-word : goal.invariant-loop-word
invariant-loop-word l = with_front l.fails.items (each_fail (map (λ word. word.now) (drop l.word-index l.words))) ≡ each_fail (map (λ word. word.now) l.words)
