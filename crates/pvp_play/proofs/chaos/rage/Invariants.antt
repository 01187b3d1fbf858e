use Rattle.pvp_play.specs.Chaos.{TakesTurn, words_of}
use Rattle.pvp_play.specs.Turns.{Turns}
use Rattle.pvp_play.proofs.chaos.rage.Given as goal

-- the turns so far were taken
abbrev pub invariant-loop-turn : goal.invariant-loop-turn
invariant-loop-turn g l = Turns (TakesTurn g.C.BootCell) l.turn (words_of l.seed, l.fn.player) (l.words, l.player)
