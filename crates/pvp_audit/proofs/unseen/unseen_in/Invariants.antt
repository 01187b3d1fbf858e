use Rattle.std.proofs.Common.{◌≡◌, ◌+◌, ◌-◌, ◌++◌, not, length}
use Rattle.std.specs.List.{filter, range_with_len}
use Rattle.pvp_audit.specs.Gathered.{has_actor}
use Rattle.pvp_audit.specs.Unseen.{unseen_in}
use Rattle.pvp_audit.proofs.unseen.unseen_in.Given as goal

-- those so far, and those of the others
abbrev pub invariant-loop-client : goal.invariant-loop-client
invariant-loop-client l =
    l.unseen.items ++ filter (λ client. not (has_actor l.journals client)) (range_with_len l.client ((length l.setup.members + 1) - l.client))
    ≡ unseen_in l.setup l.journals
