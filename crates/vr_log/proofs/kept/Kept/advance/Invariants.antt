use Rattle.std.proofs.Common.{◌≡◌, ◌-◌, ◌≤◌, length, max, min}
use Rattle.vr_log.specs.Kept.{IsKept, IsReady}
use Rattle.vr_log.proofs.kept.Kept.advance.Given as goal

-- so far
abbrev pub invariant-loop-self : goal.invariant-loop-self
invariant-loop-self g l =
    let m = g.M.Machine in
    let first = l.fn.self in
    record {
      log : l.self.log ≡ first.log;
      later : first.done ≤ l.self.done;
      within : l.self.done ≤ max first.done (min l.upto (length first.log));
      ready : IsReady m l.self;
      kept : (start : g.row.M.Denot) → IsKept m start first → IsKept m start l.self;
    }

abbrev pub decreases-loop-self : goal.decreases-loop-self
decreases-loop-self g l = l.last - l.self.done
