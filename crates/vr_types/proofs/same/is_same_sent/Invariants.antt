use Rattle.std.proofs.Common.{◌≡◌, take}
use Rattle.vr_types.proofs.same.is_same_sent.Given as goal

-- the items so far are the same
abbrev pub invariant-loop-i : goal.invariant-loop-i
invariant-loop-i g l = take l.i l.a ≡ take l.i l.b
