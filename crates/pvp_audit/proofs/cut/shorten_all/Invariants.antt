use Rattle.pvp_audit.proofs.Cutting.{AreShortenedSoFar}
use Rattle.pvp_audit.proofs.cut.shorten_all.Given as goal

-- the histories so far are shortened
abbrev pub invariant-loop-history : goal.invariant-loop-history
invariant-loop-history l = AreShortenedSoFar l.reaches l.fn.histories l.history-items l.history-index l.is_cut
