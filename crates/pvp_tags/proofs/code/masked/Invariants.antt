use Rattle.std.proofs.Common.{◌≡◌, length, take}
use Rattle.pvp_tags.specs.Hmac.{filled, masked}
use Rattle.pvp_tags.proofs.code.masked.Given as goal

-- the bytes so far are masked
abbrev pub invariant-loop-at : goal.invariant-loop-at
invariant-loop-at l = (length l.block ≡ 64) × (take l.at l.block ≡ masked l.mask (take l.at (filled l.key)))
