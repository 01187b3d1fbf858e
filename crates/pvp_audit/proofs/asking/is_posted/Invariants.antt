use Rattle.std.proofs.Common.{◌≡◌, ℕ, ◌+◌, ◌<◌, slice_get}
use Rattle.pvp_audit.proofs.asking.is_posted.Given as goal

-- the envelopes so far are there
abbrev pub invariant-loop-i : goal.invariant-loop-i
invariant-loop-i l = (j : ℕ) → j < l.i → slice_get l.world.post (l.many + j) ≡ slice_get l.sent j
