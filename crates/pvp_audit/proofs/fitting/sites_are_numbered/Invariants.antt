use Rattle.std.proofs.Common.{◌≡◌, ◌≤◌, length, take}
use Rattle.pvp_audit.specs.Judged.{openings}
use Rattle.pvp_audit.proofs.Furthers.{AreCounted}
use Rattle.pvp_audit.proofs.fitting.sites_are_numbered.Given as goal

abbrev pub invariant-loop-k : goal.invariant-loop-k
invariant-loop-k l = record {
  counted : l.sites ≡ length (openings (take l.k l.closed));
  few : l.sites ≤ l.k;
  far : AreCounted l.closed l.k;
}
