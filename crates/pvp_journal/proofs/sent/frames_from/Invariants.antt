use Rattle.std.proofs.Common.{◌≡◌, ◌-◌}
use Rattle.pvp_journal.specs.Reading.{frames_from}
use Rattle.pvp_wire.proofs.Loop.{with_front}
use Rattle.pvp_journal.proofs.sent.frames_from.Given as goal

abbrev pub invariant-loop-place : goal.invariant-loop-place
invariant-loop-place l =
    with_front l.sent.items (frames_from l.me l.clock (l.count - l.place) l.place l.rest) ≡ frames_from l.me l.clock l.count 0 l.bytes
