use Rattle.std.proofs.Common.{◌≡◌, ℕ, ◌<◌}
use Rattle.vr_types.specs.Site.{boot_of}
use Rattle.pvp_parties.proofs.like.know_the_same.Given as goal

-- the boots so far are the same
abbrev pub invariant-loop-i : goal.invariant-loop-i
invariant-loop-i l = (k : ℕ) → k < l.i → boot_of l.a.volatile.known k ≡ boot_of l.b.volatile.known k
