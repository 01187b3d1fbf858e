use Rattle.std.proofs.Common.{◌≡◌, take}
use Rattle.vr_types.proofs.same.is_same_rows.Given as goal

-- the rows so far are the same
abbrev pub invariant-loop-at : goal.invariant-loop-at
invariant-loop-at g l = take l.at l.a ≡ take l.at l.b
