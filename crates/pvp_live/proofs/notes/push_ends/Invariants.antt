use Rattle.std.proofs.Common.{◌≡◌, ◌++◌, true, drop, string_bytes}
use Rattle.pvp_live.specs.Counts.{sightings, stands_text}
use Rattle.pvp_live.proofs.notes.push_ends.Given as goal

-- what is written and what is left to write are all of it
abbrev pub invariant-loop-one : goal.invariant-loop-one
invariant-loop-one l =
    string_bytes l.text ++ stands_text l.setup l.is_first (sightings (drop l.one-index l.closed))
    ≡ string_bytes l.fn.text ++ stands_text l.setup true (sightings l.closed)
