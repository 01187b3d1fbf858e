use Rattle.std.proofs.Common.{◌≡◌, take}
use Rattle.pvp_live.specs.Playing.{IsPlaying, keeps}
use Rattle.pvp_live.proofs.player.LinePlayerPlayer.play.Given as goal

-- the lines so far were played
abbrev pub invariant-loop-line : goal.invariant-loop-line
invariant-loop-line g l =
    (l.self.cells ≡ l.fn.self.cells) × (l.self.lines ≡ l.fn.self.lines)
    × IsPlaying l.fn.self.cells.now (take l.line-index l.line-items) (keeps l.fn.self.seats.items l.fn.self.refused)
    (keeps l.self.seats.items l.self.refused) g.O.Outbox.got l.fn.out l.out
