use Rattle.std.proofs.Common.{◌≡◌, length, map, take}
use Rattle.pvp_command.proofs.audits.counts_of.Given as goal

-- the counts so far
abbrev pub invariant-loop-history : goal.invariant-loop-history
invariant-loop-history l = l.counts.items ≡ map (λ history. length history.entries.items) (take l.history-index l.histories)
