use Rattle.std.proofs.Common.{◌≡◌, ◌+◌, ◌-◌, ◌≤◌, drop, length}
use Rattle.pvp_codes.specs.Near.{common_length}
use Rattle.pvp_codes.proofs.near.common_length.Given as goal

abbrev pub invariant-loop-at : goal.invariant-loop-at
invariant-loop-at l = record {
  in_word : l.at ≤ length l.word;
  in_known : l.at ≤ length l.known;
  so_far : common_length l.word l.known ≡ l.at + common_length (drop l.at l.word) (drop l.at l.known);
}

abbrev pub decreases-loop-at : goal.decreases-loop-at
decreases-loop-at l = length l.word - l.at
