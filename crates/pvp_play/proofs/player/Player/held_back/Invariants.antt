use Rattle.std.proofs.Common.{◌≡◌, ◌<◌, ◌≤◌}
use Rattle.pvp_play.specs.Passing.{is_held}
use Rattle.pvp_play.proofs.PassingLemmas.{held_up_to}
use Rattle.pvp_play.proofs.player.Player.held_back.Given as goal

-- those so far are taken; where there are none, the loop has not moved
abbrev pub invariant-loop-place : goal.invariant-loop-place
invariant-loop-place g l = record {
  held : l.numbers.items ≡ held_up_to (is_held l.self.cut l.self.world.post) l.fn.from l.place;
  low : l.self.cursor < l.fn.from → l.place ≤ l.fn.from;
}
