use Rattle.std.proofs.Common.{◌≡◌, length, take}
use Rattle.std.specs.List.{sum_by}
use Rattle.pvp_parties.specs.Parties.{sent_envelopes}
use Rattle.pvp_live.specs.Counts.{counter_value}
use Rattle.pvp_live.proofs.counts.sent_by.Given as goal

-- what the events so far sent is counted
abbrev pub invariant-loop-recorded : goal.invariant-loop-recorded
invariant-loop-recorded l = l.sent ≡ counter_value (sum_by (λ recorded. length (sent_envelopes recorded.outcome)) (take l.recorded-index l.recorded-items))
