use Rattle.std.proofs.Common.{◌≡◌, ◌+◌, drop}
use Rattle.std.specs.List.{position_from}
use Rattle.pvp_play.specs.Player.{is_open}
use Rattle.pvp_play.specs.Turns.{next_open}
use Rattle.pvp_play.proofs.player.Player.next_open.Given as goal

-- none of the envelopes so far is open
abbrev pub invariant-loop-place : goal.invariant-loop-place
invariant-loop-place g l = position_from (is_open l.self.cut) (l.place + 1) (drop l.place l.self.world.post) ≡ next_open l.self
