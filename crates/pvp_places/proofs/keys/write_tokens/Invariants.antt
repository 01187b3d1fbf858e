use Rattle.std.proofs.Common.{◌≡◌, ◌++◌, [], string_bytes}
use Rattle.pvp_places.specs.Keys.{token_line}
use Rattle.pvp_trace.proofs.TextLemmas.{so_far}
use Rattle.pvp_places.proofs.keys.write_tokens.Given as goal

-- the lines so far are written
abbrev pub invariant-loop-actor : goal.invariant-loop-actor
invariant-loop-actor l =
    string_bytes l.out ≡ string_bytes l.fn.out ++ so_far (token_line l.setup l.secret) [] l.actors l.actor-index
