use Rattle.std.proofs.Common.{◌≡◌, take}
use Rattle.pvp_live.specs.Counts.{frames_taken}
use Rattle.pvp_live.proofs.counts.frames_taken.Given as goal

-- those so far are counted
abbrev pub invariant-loop-peer : goal.invariant-loop-peer
invariant-loop-peer g l = l.frames ≡ frames_taken (take l.peer-index l.peers)
