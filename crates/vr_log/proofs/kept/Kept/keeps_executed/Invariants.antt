use Rattle.std.proofs.Common.{◌≡◌, ◌++◌, take}
use Rattle.vr_log.proofs.kept.Kept.keeps_executed.Given as goal

-- the logs are one so far
abbrev pub invariant-loop-at : goal.invariant-loop-at
invariant-loop-at g l = take l.at (take l.base l.self.log ++ l.rows) ≡ take l.at l.self.log
