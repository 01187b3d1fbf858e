use Rattle.std.proofs.Common.{◌≡◌, ◌+◌, ◌-◌, ◌<◌, ◌≤◌, ◌++◌, string_bytes}
use Rattle.pvp_trace.specs.Attempts.{sent_line}
use Rattle.pvp_trace.proofs.TextLemmas.{with_numbers}
use Rattle.pvp_trace.proofs.attempt.push_sent.Given as goal

-- the envelopes so far are written; where there are none, the loop has not moved
abbrev pub invariant-loop-place : goal.invariant-loop-place
invariant-loop-place g l =
    (string_bytes l.text ≡ string_bytes l.fn.text ++ with_numbers (sent_line l.world.setup l.world.post) (l.fn.attempt.before + 1)
    (l.place - l.fn.attempt.before))
    × (l.fn.attempt.after < l.fn.attempt.before → l.place ≤ l.fn.attempt.before)
