use Rattle.std.proofs.Common.{◌≡◌, ◌++◌, [], string_bytes}
use Rattle.pvp_places.specs.Keys.{byte_text}
use Rattle.pvp_trace.proofs.TextLemmas.{so_far}
use Rattle.pvp_places.proofs.keys.push_key.Given as goal

-- the bytes so far are written
abbrev pub invariant-loop-byte : goal.invariant-loop-byte
invariant-loop-byte l = string_bytes l.out ≡ string_bytes l.fn.out ++ so_far byte_text [] l.key l.byte-index
