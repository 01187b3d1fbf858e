use Rattle.pvp_play.proofs.Draining.{AreDrained}
use Rattle.pvp_play.proofs.player.Player.drain.Given as goal

-- each turn so far delivered an envelope
abbrev pub invariant-loop-turn : goal.invariant-loop-turn
invariant-loop-turn g l = AreDrained g.C.BootCell l.turn l.fn.self l.self
