use Rattle.std.proofs.Common.{◌≡◌, take}
use Rattle.vr_types.proofs.sent.SentOf.copy.Given as goal

abbrev pub invariant-loop-envelope : goal.invariant-loop-envelope
invariant-loop-envelope g l = l.envelopes.items ≡ take l.envelope-index l.envelope-items
