use Rattle.vr_normal.proofs.Supports.{IsBest}
use Rattle.vr_normal.proofs.quorum.commit_place.Given as goal

-- of the numbers so far
abbrev pub invariant-loop-candidate : goal.invariant-loop-candidate
invariant-loop-candidate l = IsBest l.config.f l.config.me l.acked l.candidate-index l.place
