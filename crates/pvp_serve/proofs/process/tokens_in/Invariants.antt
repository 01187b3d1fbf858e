use Rattle.std.proofs.Common.{◌≡◌, map, take}
use Rattle.pvp_serve.specs.Doors.{token_in}
use Rattle.pvp_serve.proofs.process.tokens_in.Given as goal

-- the keys so far are tokens
abbrev pub invariant-loop-key : goal.invariant-loop-key
invariant-loop-key l = l.tokens.items ≡ map token_in (take l.key-index l.keys)
